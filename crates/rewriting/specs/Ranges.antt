-- Bytes xs          each element of xs is below 256
-- Ranged m n xs     m and n are bytes, and xs are 48 bytes
-- TwoBytes a b      a and b are bytes
-- ShortText xs n    xs are 8 bytes, of which at most all are used
-- The structs cite these, so no struct is named here.
-- Assumes nothing.
use Rattle.std.specs.Prelude.{◌≡◌, ℕ, ◌<◌, ◌≤◌, List, length, replicate, slice_index, refl}
use Rattle.std.proofs.Common.{lit<, lit≤}
use Rattle.std.proofs.lemmas.List.{get_or-replicate}

abbrev pub Bytes : List ℕ → Type 0
Bytes xs = (k : ℕ) → k < length xs → slice_index xs k < 256

abbrev pub Ranged : ℕ → ℕ → List ℕ → Type 0
Ranged m n xs = (m < 256) × (n < 256) × (length xs ≡ 48) × ((k : ℕ) → k < 48 → slice_index xs k < 256)

abbrev pub TwoBytes : ℕ → ℕ → Type 0
TwoBytes a b = (a < 256) × (b < 256)

abbrev pub ShortText : List ℕ → ℕ → Type 0
ShortText xs n = (n ≤ 8) × (length xs ≡ 8) × ((k : ℕ) → k < 8 → slice_index xs k < 256)

-- eight zeros, of which none is used
zero_below : (n k : ℕ) → k < n → slice_index (replicate n 0) k < 256
zero_below n k h = rw (get_or-replicate {A = ℕ} n k 0 0 h) (lit< tt)

pub zeros_short : ShortText (replicate 8 0) 0
zeros_short = (lit≤ tt, refl, λ k h. zero_below 8 k h)
