-- The rule is one of the first 32; the step and its record are those of the specs, of which the one undoes the other.
use Rattle.std.proofs.Common.{◌≡◌, length, ap, ◌∙◌, arith}
use Rattle.std.proofs.lemmas.Grind.{common_steps}
use Rattle.rewriting.specs.Step.{after, trace, back}
use Rattle.rewriting.specs.Laws.Undoing.{length_program, back_after}
use Rattle.rewriting.proofs.steps.step.Goals as goal

pub apply-requires-clause-numbered : goal.apply-requires-clause-numbered
apply-requires-clause-numbered c =
    let few = ap length c.program-used.ensures in
    omega (arith, length_program c.args.rules.now, c.in-Some.ensures.used.chosen.within)

pub returns-clause-undone : goal.returns-clause-undone
returns-clause-undone c =
    let rules = c.args.rules.now in
    let made : c.apply.new.work ≡ after rules c.args.work.now = grind (arith, common_steps) in
    let noted : c.apply.result ≡ trace rules c.args.work.now = grind (arith, common_steps) in
    ap (λ t. back rules t c.apply.result) made ∙ ap (back rules (after rules c.args.work.now)) noted ∙ back_after rules c.args.work.now
