-- Undoing the records of a walk, the newest first, leads back to its start.
use Rattle.std.proofs.Common.{◌≡◌, List, [], ◌∷◌, ◌++◌, reverse, fold, refl, ap, ◌∙◌}
use Rattle.std.proofs.lemmas.List.{reverse-append}

-- t with the records undone, the last of them first
unfoldable pub unwound : {T R : Type 0} → (T → R → T) → T → List R → T
unwound back t rs = fold back t (reverse rs)

module _ {T R : Type 0} (back : T → R → T) where
  pub unwound_none : (t : T) → unwound back t [] ≡ t
  unfolding unwound
  unwound_none t = refl

  pub unwound_last : (t : T) (rs : List R) (r : R) → unwound back t (rs ++ r ∷ []) ≡ unwound back (back t r) rs
  unfolding unwound
  unwound_last t rs r = ap (fold back t) (reverse-append rs (r ∷ []))

  -- one step from t to u, with its record
  pub unwound_step : (t u : T) (rs : List R) (r : R) → back u r ≡ t → unwound back u (rs ++ r ∷ []) ≡ unwound back t rs
  unwound_step t u rs r e = unwound_last u rs r ∙ ap (λ x. unwound back x rs) e
