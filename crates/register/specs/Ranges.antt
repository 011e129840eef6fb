-- Ranged pc rs   pc has 32 bits, and rs are eight registers of 32 bits
-- Words a b      a and b have 32 bits
-- The structs cite these, so no struct is named here.
-- Assumes nothing.
use Rattle.std.specs.Prelude.{◌≡◌, ℕ, ◌^◌, ◌<◌, List, length, slice_index}

abbrev pub Ranged : ℕ → List ℕ → Type 0
Ranged pc rs = (pc < 2 ^ 32) × (length rs ≡ 8) × ((k : ℕ) → k < 8 → slice_index rs k < 2 ^ 32)

abbrev pub Words : ℕ → ℕ → Type 0
Words a b = (a < 2 ^ 32) × (b < 2 ^ 32)
