-- equal_is_same   `==`, which compares the program counters and the registers, decides whether two tableaux are the same
-- Assumes nothing.
use Rattle.std.specs.Prelude.{◌≡◌, ◌&&◌, Decides, ◌==◌, nat_eq, refl}
use Rattle.std.proofs.Common.{ap}
use Rattle.std.specs.Cmp.Lexicographic.{pointwise}
use Rattle.std.proofs.lemmas.Slice.Eq.{slice_eq-Decides}
use Rattle.std.proofs.lemmas.Bool.{eqb-true, eq-eqb, and_parts, and_from}
use Rattle.std.proofs.lemmas.Bool.Decides.{Decides-eqb}
use Rattle.register.specs.declared.tableau.RegisterTableau.{RegisterTableau}
use Rattle.register.specs.Laws.Places.{same_data}

pub equal_is_same : (a b : RegisterTableau) → Decides (a.pc == b.pc && pointwise nat_eq a.registers b.registers) (a ≡ b)
equal_is_same a b =
    let rows = pointwise nat_eq a.registers b.registers in
    let decides = slice_eq-Decides Decides-eqb a.registers b.registers rows refl in (
      λ equal.
          let both = and_parts (a.pc == b.pc) rows equal in
          same_data a b (eqb-true a.pc b.pc both.0) (decides.0 both.1),
      λ same. and_from (a.pc == b.pc) rows
          (eq-eqb a.pc b.pc (ap (λ (t : RegisterTableau). t.pc) same))
          (decides.1 (ap (λ (t : RegisterTableau). t.registers) same)),
    )
