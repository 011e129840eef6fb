-- A tableau that holds a text, and zeros past it, spells that text.
-- Assumes nothing.
use Rattle.std.proofs.Common.{◌≡◌, ℕ, List, length, get_or, ap, ◌∙◌, arith}
use Rattle.std.proofs.lemmas.Grind.{common_steps}
use Rattle.rewriting.specs.declared.tableau.RewritingTableau.{RewritingTableau}
use Rattle.rewriting.specs.Tableau.{spelt}
use Rattle.rewriting.specs.Splice.{padded}
use Rattle.rewriting.specs.Laws.Bytewise.{same_tableau, mark_spelt, length_spelt, held_spelt}

pub get_or_padded : (n : ℕ) (xs : List ℕ) (k : ℕ) → get_or (padded n xs) k 0 ≡ get_or xs k 0
get_or_padded n xs k = grind (arith, common_steps)

pub spelt_is : (u : RewritingTableau) (m n : ℕ) (xs : List ℕ) → u.mark ≡ m → u.length ≡ length xs → u.text ≡ padded n xs → u ≡ spelt m xs
spelt_is u m n xs mark size text =
    same_tableau u (spelt m xs) (omega (arith, mark_spelt m xs)) (omega (arith, length_spelt m xs))
    (λ k h.
    let same = ap (λ l. get_or l k 0) text ∙ get_or_padded n xs k in
    let small = u.ranged.3 k h in
    omega (arith, held_spelt m xs k h))
