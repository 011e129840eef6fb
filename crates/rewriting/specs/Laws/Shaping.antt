-- well_shaped_is     well_shaped answers whether a tableau is WellShaped
-- Assumes nothing.
use Rattle.std.specs.Prelude.{◌≡◌, ℕ, zero, suc, ◌+◌, ◌-◌, true, List, [], ◌∷◌, drop, Decides, ◌==◌, nat_le, slice_index, refl}
use Rattle.std.proofs.Common.{sym, ◌∙◌, arith}
use Rattle.std.proofs.lemmas.List.{get_or-drop}
use Rattle.std.proofs.lemmas.Bool.{eqb-true, eq-eqb, leb-true, le-leb, and_parts, and_from}
use Rattle.rewriting.specs.declared.tableau.RewritingTableau.{RewritingTableau}
use Rattle.rewriting.specs.Shape.{WellShaped, all_zero, well_shaped}

zero_each : (xs : List ℕ) → all_zero xs ≡ true → (k : ℕ) → slice_index xs k ≡ 0
zero_each [] e k = refl
zero_each (x ∷ xs) e zero = eqb-true x 0 (and_parts (x == 0) (all_zero xs) e).0
zero_each (x ∷ xs) e (suc k) = zero_each xs (and_parts (x == 0) (all_zero xs) e).1 k

each_zero : (xs : List ℕ) → ((k : ℕ) → slice_index xs k ≡ 0) → all_zero xs ≡ true
each_zero [] f = refl
each_zero (x ∷ xs) f = and_from (x == 0) (all_zero xs) (eq-eqb x 0 (f 0)) (each_zero xs (λ k. f (suc k)))

pub all_zero_is : (xs : List ℕ) → Decides (all_zero xs) ((k : ℕ) → slice_index xs k ≡ 0)
all_zero_is xs = (zero_each xs, each_zero xs)

pub well_shaped_is : (t : RewritingTableau) → Decides (well_shaped t) (WellShaped t)
unfolding well_shaped
well_shaped_is t =
    let n = t.length in
    let past = all_zero (drop n t.text) in (
      λ e.
          let p = and_parts (nat_le t.mark 2) _ e in
          let q = and_parts (nat_le n 48) past p.1 in (
            leb-true t.mark 2 p.0,
            leb-true n 48 q.0,
            λ k h.
                let same : n + (k - n) ≡ k = omega arith in
                rw same at (sym (get_or-drop n t.text (k - n) 0) ∙ zero_each (drop n t.text) q.1 (k - n)),
          ),
      λ w. and_from (nat_le t.mark 2) _ (le-leb t.mark 2 w.0)
          (and_from (nat_le n 48) past (le-leb n 48 w.1)
          (each_zero (drop n t.text) (λ k. get_or-drop n t.text k 0 ∙ w.2 (n + k) (omega arith)))),
    )
