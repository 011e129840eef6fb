-- Each place is made as its sum.
use Rattle.std.proofs.Common.{rules, sym, ◌∙◌}
use Rattle.register.specs.Laws.Places.{same_tableau, pc_tableau, held_tableau}
use Rattle.register.proofs.sums.RegisterTableauTableau.plus.Goals as goal

pub returns : goal.returns
returns c =
    let at = c.combined.ensures in
    same_tableau _ _ (search rules ∙ sym (pc_tableau _ _)) (λ k h. (let here = at.registers k h in search rules) ∙ sym (held_tableau _ _ k h))
