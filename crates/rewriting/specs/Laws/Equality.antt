-- equal_is_same   `==`, which compares the marks, the lengths and the bytes, decides whether two tableaux are the same
-- Assumes nothing.
use Rattle.std.specs.Prelude.{◌≡◌, ◌&&◌, Decides, ◌==◌, nat_eq, refl}
use Rattle.std.proofs.Common.{ap}
use Rattle.std.specs.Cmp.Lexicographic.{pointwise}
use Rattle.std.proofs.lemmas.Slice.Eq.{slice_eq-Decides}
use Rattle.std.proofs.lemmas.Bool.{eqb-true, eq-eqb, and_parts, and_from}
use Rattle.std.proofs.lemmas.Bool.Decides.{Decides-eqb}
use Rattle.rewriting.specs.declared.tableau.RewritingTableau.{RewritingTableau}
use Rattle.rewriting.specs.Laws.Bytewise.{same_data}

pub equal_is_same : (a b : RewritingTableau) → Decides (a.mark == b.mark && (a.length == b.length && pointwise nat_eq a.text b.text)) (a ≡ b)
equal_is_same a b =
    let bytes = pointwise nat_eq a.text b.text in
    let decides = slice_eq-Decides Decides-eqb a.text b.text bytes refl in (
      λ equal.
          let both = and_parts (a.mark == b.mark) (a.length == b.length && bytes) equal in
          let rest = and_parts (a.length == b.length) bytes both.1 in
          same_data a b (eqb-true a.mark b.mark both.0) (eqb-true a.length b.length rest.0) (decides.0 rest.1),
      λ same.
          let marks = eq-eqb a.mark b.mark (ap (λ (t : RewritingTableau). t.mark) same) in
          let lengths = eq-eqb a.length b.length (ap (λ (t : RewritingTableau). t.length) same) in
          let texts = decides.1 (ap (λ (t : RewritingTableau). t.text) same) in
          and_from (a.mark == b.mark) (a.length == b.length && bytes) marks (and_from (a.length == b.length) bytes lengths texts),
    )
