-- Where a checkpoint lies on the shelf.
--   slot k n j   the slot of checkpoint j, 1 .. k ^ n, at fan-out k and depth n
--   Shelving     the rule of slots: slot 0 for the last checkpoint, and a row of k - 1 slots for each level below it
-- Assumes nothing.
use Rattle.std.specs.Prelude.{◌≡◌, ℕ, zero, suc, pred, ◌+◌, ◌*◌, ◌/◌, ◌%◌, ◌^◌, ◌<◌, cond, ◌==◌}

-- the slot by the lowest digit of j in base k that is not 0: digit d at position v gives v (k - 1) + d
unfoldable pub digit_slot : ℕ → ℕ → ℕ → ℕ
digit_slot k zero j = 0
digit_slot k (suc v) j = cond (j % k == 0) (pred k + digit_slot k v (j / k)) (j % k)

-- the last checkpoint lies in slot 0
abbrev pub slot : ℕ → ℕ → ℕ → ℕ
slot k n j = cond (j == k ^ n) 0 (digit_slot k n j)

-- j has the digit d, and it is the lowest that is not 0, at position v in base k
abbrev pub LowestDigit : ℕ → ℕ → ℕ → ℕ → Type 0
LowestDigit k v d j = (0 < d) × (d < k) × ((c : ℕ) × (j ≡ c * k ^ suc v + d * k ^ v))

pub record Shelving (k n : ℕ) : Type 0 where
  pub last : slot k n (k ^ n) ≡ 0
  pub row : (v d j : ℕ) → v < n → LowestDigit k v d j → slot k n j ≡ v * pred k + d
  pub every : (j : ℕ) → 0 < j → j < k ^ n → (v : ℕ) × (v < n) × ((d : ℕ) × LowestDigit k v d j)
