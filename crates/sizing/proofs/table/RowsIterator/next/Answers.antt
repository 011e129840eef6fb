-- The move's segment is in range, and the live count goes on by its change.
use Rattle.std.proofs.Common.{is_some, sym, ap, ◌∙◌, arith}
use Rattle.sizing.proofs.Counting.{Made, made_from_move_at, segment_within, segments_few, slot_there, live_few, some_before, counts_on, rows_left_from}
use Rattle.sizing.proofs.table.RowsIterator.next.Goals as goal
use Rattle.sizing.proofs.table.RowsIterator.next.Goals.{In_ok-made}

made : (c : In_ok-made) → Made c.args.self.now.plan.now c.args.self.now.next c.in_ok-made.made
made c =
    made_from_move_at c.args.self.now.plan.now c.args.self.now.next c.in_ok-made.made c.move_at.result c.move_at.ensures.entry
    c.move_at.ensures.refused (sym c.ok.ensures.value ∙ c.in_ok-made.was)

pub overflow_add-made : goal.overflow_add-made
overflow_add-made c =
    omega (arith, segment_within (made (goal.at-overflow_add-made c).In_ok-made), segments_few c.args.self.now.plan.now)

pub unwrap-slot-requires : goal.unwrap-slot-requires
unwrap-slot-requires c = ap is_some (slot_there (made (goal.at-unwrap-slot-requires c).In_ok-made) c.slot.ensures.value)

pub counted-self-requires : goal.counted-self-requires
counted-self-requires c =
    let rows = c.args.self.now in
    record {
      room = omega (arith, live_few rows.plan.now rows.next, rows.live_is);
      some = λ e. omega (arith, some_before (made (goal.at-counted-self-requires c).In_ok-made) e, rows.live_is);
    }

pub invariant_of-self : goal.invariant_of-self
invariant_of-self c =
    record {
      live_is = counts_on (made (goal.at-invariant_of-self c).In_ok-made) c.args.self.now.live_is c.counted-self.ensures.value;
    }

pub returns-clause-steps : goal.returns-clause-steps
returns-clause-steps c =
    let here = made (goal.at-returns-clause-steps c).In_ok-made in
    rows_left_from here (sym c.unwrap-slot.ensures ∙ slot_there here c.slot.ensures.value)
    (counts_on here c.args.self.now.live_is c.counted-self.ensures.value)
