-- rewriting_sum   the sum of rewriting tableaux, with its laws
-- plus_commutes   it may be taken either way round
-- Assumes nothing.
use Rattle.std.specs.Prelude.{◌≡◌}
use Rattle.std.proofs.Common.{arith}
use Rattle.machine.specs.Sum.{Sum}
use Rattle.rewriting.specs.declared.tableau.RewritingTableau.{RewritingTableau}
use Rattle.rewriting.specs.Tableau.{zero, plus, minus}
use Rattle.rewriting.specs.Laws.Bytewise.{same_tableau, mark_tableau, length_tableau, held_tableau}

pub plus_assoc : (a b c : RewritingTableau) → plus (plus a b) c ≡ plus a (plus b c)
plus_assoc a b c =
    same_tableau _ _ (simp mark_tableau (omega arith)) (simp length_tableau (omega arith))
    (λ k h. simp held_tableau (omega arith))

pub zero_plus : (a : RewritingTableau) → plus zero a ≡ a
zero_plus a =
    same_tableau _ _ (simp mark_tableau (omega arith)) (simp length_tableau (omega arith))
    (λ k h. let r = a.ranged.3 k h in simp held_tableau (omega arith))

pub plus_minus : (a b : RewritingTableau) → minus (plus a b) b ≡ a
plus_minus a b =
    same_tableau _ _ (simp mark_tableau (omega arith)) (simp length_tableau (omega arith))
    (λ k h. let r = a.ranged.3 k h in let s = b.ranged.3 k h in simp held_tableau (omega arith))

pub minus_plus : (a b : RewritingTableau) → plus (minus a b) b ≡ a
minus_plus a b =
    same_tableau _ _ (simp mark_tableau (omega arith)) (simp length_tableau (omega arith))
    (λ k h. let r = a.ranged.3 k h in let s = b.ranged.3 k h in simp held_tableau (omega arith))

pub plus_commutes : (a b : RewritingTableau) → plus a b ≡ plus b a
plus_commutes a b =
    same_tableau _ _ (simp mark_tableau (omega arith)) (simp length_tableau (omega arith))
    (λ k h. simp held_tableau (omega arith))

abbrev pub rewriting_sum : Sum RewritingTableau
rewriting_sum = record {
  zero = zero;
  plus = plus;
  minus = minus;
  plus_assoc = plus_assoc;
  zero_plus = zero_plus;
  plus_minus = plus_minus;
  minus_plus = minus_plus;
}
