-- The value was read before the step, so the record is the trace, and undoing it leads back.
use Rattle.std.proofs.Common.{◌≡◌, ap, ◌∙◌, arith, rules}
use Rattle.register.specs.Step.{at, written, old_value}
use Rattle.register.specs.Laws.Places.{same_record}
use Rattle.register.proofs.Stepping.{step_undone}
use Rattle.register.proofs.steps.step.Goals as goal

pub returns-clause-undone : goal.returns-clause-undone
returns-clause-undone c =
    let t = c.args.work.now in
    let old : c.value_before-value.result ≡ old_value t (written (at c.args.program.now t.pc)) =
    c.value_before-value.ensures ∙ ap (λ i. old_value t (written i)) c.instruction_at-instruction.ensures in
    step_undone c.args.program.now t _ _ (search rules) (same_record _ _ (omega arith) (rw (← old) (omega arith)))
