-- Writing into a list.
--   written xs at ms   the list xs with ms written over it from place `at` on
-- Assumes nothing.
use Rattle.std.specs.Prelude.{ℕ, ◌+◌, List, ◌++◌, length, take, drop}

abbrev pub written : {A : Type 0} → List A → ℕ → List A → List A
written xs at ms = take at xs ++ (ms ++ drop (at + length ms) xs)
