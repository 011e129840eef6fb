-- register_sum    the sum of register tableaux, with its laws
-- plus_commutes   it may be taken either way round
-- Assumes nothing.
use Rattle.std.specs.Prelude.{◌≡◌}
use Rattle.std.proofs.Common.{arith}
use Rattle.machine.specs.Sum.{Sum}
use Rattle.register.specs.declared.tableau.RegisterTableau.{RegisterTableau}
use Rattle.register.specs.Tableau.{zero, plus, minus}
use Rattle.register.specs.Laws.Places.{same_tableau, pc_tableau, held_tableau}

pub plus_assoc : (a b c : RegisterTableau) → plus (plus a b) c ≡ plus a (plus b c)
plus_assoc a b c = same_tableau _ _ (simp pc_tableau (omega arith)) (λ k h. simp held_tableau (omega arith))

pub zero_plus : (a : RegisterTableau) → plus zero a ≡ a
zero_plus a = same_tableau _ _ (simp pc_tableau (omega arith)) (λ k h. let r = a.ranged.2 k h in simp held_tableau (omega arith))

pub plus_minus : (a b : RegisterTableau) → minus (plus a b) b ≡ a
plus_minus a b =
    same_tableau _ _ (simp pc_tableau (omega arith))
    (λ k h. let r = a.ranged.2 k h in let s = b.ranged.2 k h in simp held_tableau (omega arith))

pub minus_plus : (a b : RegisterTableau) → plus (minus a b) b ≡ a
minus_plus a b =
    same_tableau _ _ (simp pc_tableau (omega arith))
    (λ k h. let r = a.ranged.2 k h in let s = b.ranged.2 k h in simp held_tableau (omega arith))

pub plus_commutes : (a b : RegisterTableau) → plus a b ≡ plus b a
plus_commutes a b = same_tableau _ _ (simp pc_tableau (omega arith)) (λ k h. simp held_tableau (omega arith))

abbrev pub register_sum : Sum RegisterTableau
register_sum = record {
  zero = zero;
  plus = plus;
  minus = minus;
  plus_assoc = plus_assoc;
  zero_plus = zero_plus;
  plus_minus = plus_minus;
  minus_plus = minus_plus;
}
