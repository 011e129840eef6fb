-- Each byte is made as its difference.
use Rattle.std.proofs.Common.{rules, sym, ◌∙◌}
use Rattle.rewriting.specs.Laws.Bytewise.{same_tableau, mark_tableau, length_tableau, held_tableau}
use Rattle.rewriting.proofs.sums.RewritingTableauTableau.minus.Goals as goal

pub returns : goal.returns
returns c =
    let at = c.combined.ensures in
    same_tableau _ _ (search rules ∙ sym (mark_tableau _ _ _)) (search rules ∙ sym (length_tableau _ _ _))
    (λ k h. (let here = at.bytes k h in search rules) ∙ sym (held_tableau _ _ _ k h))
