-- One checkpoint is live at the end, and each move is counted back.
use Rattle.std.proofs.Common.{◌≡◌, ◌+◌, ◌-◌, sym, ap, ◌∙◌, arith}
use Rattle.std.specs.Result.{result_ok}
use Rattle.sizing.specs.Rows.{live_of, counted_on}
use Rattle.sizing.proofs.Counting.{live_end, live_few, Made, made_from_move_at, some_after, counts_back}
use Rattle.sizing.proofs.table.live_before.Goals as goal
use Rattle.sizing.proofs.table.live_before.Goals.{After-unwrap-made}

made : (c : After-unwrap-made) → Made c.args.plan.now (c.loop-t.t - 1) c.unwrap-made.result
made c =
    made_from_move_at c.args.plan.now (c.loop-t.t - 1) c.unwrap-made.result c.move_at.result c.move_at.ensures.entry c.move_at.ensures.refused
    (ap result_ok c.unwrap-made.ensures)

-- the count so far is that behind the move
behind : (c : After-unwrap-made) → c.loop-t.live ≡ live_of c.args.plan.now (c.loop-t.t - 1 + 1)
behind c =
    let one : c.loop-t.t ≡ c.loop-t.t - 1 + 1 = omega arith in
    c.loop-t.invariant.counted ∙ ap (live_of c.args.plan.now) one

pub loop-t-init : goal.loop-t-init
loop-t-init c =
    record {
      counted = sym (ap (live_of c.args.plan.now) c.moves-t.ensures.value ∙ live_end c.args.plan.now);
      within = omega (arith, c.moves-t.ensures.value);
    }

pub counted-live-requires : goal.counted-live-requires
counted-live-requires c =
    let here = (goal.at-counted-live-requires c).After-unwrap-made in
    record {
      room = omega (arith, live_few c.args.plan.now c.loop-t.t, c.loop-t.invariant.counted);
      some = λ e. omega (arith, some_after (made here) (sym c.opposite.ensures.value ∙ e), behind here);
    }

pub loop-t-preserved : goal.loop-t-preserved
loop-t-preserved c =
    let here = (goal.at-loop-t-preserved c).After-unwrap-made in
    record {
      counted = counts_back (made here) (behind here) (c.counted-live.ensures.value ∙ ap (λ d. counted_on d c.loop-t.live) c.opposite.ensures.value);
      within = omega arith;
    }
