-- The first number of a range that has a property.
-- Assumes nothing.
use Rattle.std.proofs.Common.{◌≡◌, ℕ, ◌<◌, length, get_or, Some, None, Option, MatchOption, sym, subst, ◌∙◌, arith}
use Rattle.std.specs.List.{range_with_len, AllWithin, HoldsAt}
use Rattle.std.proofs.lemmas.List.FromFn.{length-range_with_len, get_or-range_with_len}

module _ (Yes No : ℕ → Type 0) (n : ℕ) where
  at : (k : ℕ) → k < n → (d : ℕ) → get_or (range_with_len 0 n) k d ≡ k
  at k h d = get_or-range_with_len 0 n k d h ∙ omega arith

  below : (m k : ℕ) → AllWithin No (range_with_len 0 n) 0 m → k < m → k < n → No k
  below m k none lt h = subst No (at k h 0) (none k 0 (omega arith) lt)

  -- where `find` answers at the items of a range, it answers at its numbers
  pub first_number : (r : Option ℕ) → MatchOption r (AllWithin No (range_with_len 0 n) 0 (length (range_with_len 0 n))) (λ x. Yes x × (i : ℕ) × (i < length (range_with_len 0 n)) × HoldsAt (λ y. y ≡ x) (range_with_len 0 n) i × AllWithin No (range_with_len 0 n) 0 i) → MatchOption r ((k : ℕ) → k < n → No k) (λ i. (i < n) × Yes i × ((k : ℕ) → k < i → No k))
  first_number None none =
      λ k h. below (length (range_with_len 0 n)) k none (omega (arith, length-range_with_len 0 n)) h
  first_number (Some x) found =
      let within : found.1 < n = omega (arith, found.2, length-range_with_len 0 n) in
      let same : found.1 ≡ x = sym (at found.1 within 0) ∙ found.3 0 in
      (omega arith, found.0, λ k lt. below found.1 k found.4 (omega arith) (omega arith))
