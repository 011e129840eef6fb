-- An array made by calls at its indices, where the calls leave the closure as it is.
-- Assumes nothing.
use Rattle.std.proofs.Common.{◌≡◌, ℕ, zero, suc, ◌+◌, ◌<◌, List, get_or, subst, sym, refl, arith}
use denote.Param.Members.{Mut}
use Rattle.std.specs.Fn.{Called}
use Rattle.std.specs.Array.{IsFromFnResultFrom, IsFromFnResult}

module _ {F B : Type 0} (g : Mut F (ℕ × Unit {0}) B) (R : ℕ → B → Type 0) (f : F) (calls : (i : ℕ) (y : B) (q : F) → Called g f (i, tt) y q → R i y × (q ≡ f)) where
  each_from : (ys : List B) (i n : ℕ) (p : F) → p ≡ f → IsFromFnResultFrom g p ys i n → (k j : ℕ) (d : B) → k < n → i + k ≡ j → R j (get_or ys j d)
  each_from ys i zero p same made k j d h e = absurd (omega arith)
  each_from ys i (suc n) p same made zero j d h e =
      let at = calls i made.1 made.0 (subst (λ (u : F). Called g u (i, tt) made.1 made.0) same made.3) in
      let here : i ≡ j = omega arith in
      subst (λ m. R m (get_or ys m d)) here (subst (R i) (sym (made.2.1 d)) at.0)
  each_from ys i (suc n) p same made (suc k) j d h e =
      let at = calls i made.1 made.0 (subst (λ (u : F). Called g u (i, tt) made.1 made.0) same made.3) in
      each_from ys (i + 1) n made.0 at.1 made.4 k j d (omega arith) (omega arith)

  pub each_made : (ys : List B) (n : ℕ) → IsFromFnResult g f ys n → (k : ℕ) (d : B) → k < n → R k (get_or ys k d)
  each_made ys n made k d h = each_from ys 0 n f refl made.each k k d h (omega arith)
