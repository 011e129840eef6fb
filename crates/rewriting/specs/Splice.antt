-- spliced xs p n new      xs with new in place of the n elements from p on
-- padded n xs             xs, and 0 up to n elements
-- replaced xs n p o new   the bytes xs, whose first n are a text, with new in place of the o bytes of the text from p on:
--                         the front and the tail of the text around it, and zeros up to the last byte
-- fits xs                 whether a text has room in a tableau
-- Assumes nothing.
use Rattle.std.specs.Prelude.{ℕ, ◌+◌, ◌-◌, Bool, List, ◌++◌, length, take, drop, replicate, nat_le}

abbrev pub spliced : List ℕ → ℕ → ℕ → List ℕ → List ℕ
spliced xs p n new = take p xs ++ (new ++ drop (p + n) xs)

abbrev pub padded : ℕ → List ℕ → List ℕ
padded n xs = xs ++ replicate (n - length xs) 0

abbrev pub replaced : List ℕ → ℕ → ℕ → ℕ → List ℕ → List ℕ
replaced xs n p o new = padded (length xs) (spliced (take n xs) p o new)

abbrev pub fits : List ℕ → Bool
fits xs = nat_le (length xs) 48
