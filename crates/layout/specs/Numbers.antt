-- Numbers as bytes, the high byte first.
--   number xs     the number that the bytes xs spell
--   spelling w n  the w bytes that spell the number n; a number too large for them shows in the first
-- Assumes nothing.
use Rattle.std.specs.Prelude.{ℕ, zero, suc, ◌+◌, ◌*◌, ◌/◌, ◌%◌, ◌^◌, List, [], ◌∷◌, length}

unfoldable pub number : List ℕ → ℕ
number [] = 0
number (x ∷ xs) = x * 256 ^ length xs + number xs

unfoldable pub spelling : ℕ → ℕ → List ℕ
spelling zero n = []
spelling (suc w) n = n / 256 ^ w ∷ spelling w (n % 256 ^ w)
