-- The rows taken are those of the first moves.
use Rattle.std.proofs.Common.{◌≡◌, min, take, vec_items, ap, ◌∙◌}
use Rattle.std.proofs.lemmas.Result.{IfOk-weaker}
use Rattle.std.proofs.lemmas.Iterator.{YieldsList-from_take, items_from_collect}
use Rattle.std.proofs.lemmas.Iterator.Consumers.{YieldsList-from_first}
use Rattle.schedule.specs.Answers.{moves_of}
use Rattle.sizing.specs.Rows.{rows, rows_left}
use Rattle.sizing.proofs.Counting.{rows_front}
use Rattle.sizing.proofs.table.front.Goals as goal

pub returns : goal.returns
returns c =
    let plan = c.args.plan.now in
    let left = ap (λ s. rows_left s.plan.now s.next) c.take.ensures.source ∙ c.from_start.ensures.rest in
    record {
      items =
          IfOk-weaker c.collect.result (λ v. vec_items v ≡ take c.args.count (rows_left plan 0)) (λ v. vec_items v ≡ rows plan 0 (min c.args.count (moves_of plan)))
          (λ v e. e ∙ rows_front plan c.args.count)
          (items_from_collect c.collect.result c.collect.ensures.ran
          (YieldsList-from_take c.args.count (YieldsList-from_first (λ r. r) (λ s. rows_left s.plan.now s.next) (rows_left plan 0) left) c.take.ensures.count));
    }
