-- The rows from the first of the last moves on are those of the last moves.
use Rattle.std.proofs.Common.{◌≡◌, ◌-◌, min, vec_items, ◌∙◌, arith}
use Rattle.std.proofs.lemmas.Result.{IfOk-weaker}
use Rattle.std.proofs.lemmas.Iterator.{items_from_collect}
use Rattle.std.proofs.lemmas.Iterator.Consumers.{YieldsList-from_first}
use Rattle.schedule.specs.Answers.{moves_of}
use Rattle.sizing.specs.Rows.{rows, rows_left}
use Rattle.sizing.proofs.Counting.{rows_back}
use Rattle.sizing.proofs.table.back.Goals as goal

pub returns : goal.returns
returns c =
    let plan = c.args.plan.now in
    let from = c.saturating_sub.result in
    let count = min c.args.count (moves_of c.args.plan.now) in
    record {
      items =
          IfOk-weaker c.collect.result (λ v. vec_items v ≡ rows_left plan from) (λ v. vec_items v ≡ rows plan (moves_of plan - count) count)
          (λ v e. e ∙ rows_back plan c.args.count from (omega (arith, c.moves.ensures.value)))
          (items_from_collect c.collect.result c.collect.ensures.ran
          (YieldsList-from_first (λ r. r) (λ s. rows_left s.plan.now s.next) (rows_left plan from) c.from_move.ensures.rest));
    }
