-- The faults as numbers, and a refusal as a line of text. Assumes nothing.
-- Row: what the table holds of a fault.
-- row: the table, one line to a fault.
-- number, layer: the number of a fault, and the layer that raises it.
-- line: the bytes of `refused NUMBER layer LAYER place PLACE`, each number in decimal, with no line end.
use Rattle.std.specs.Prelude.{ℕ, List, ◌++◌, codes, decimal}
use Rattle.refusal.specs.declared.kinds.Fault.{Fault}
use Rattle.refusal.specs.declared.kinds.Fault.TheVariants as kind
use Rattle.refusal.specs.declared.kinds.Refusal.{Refusal}

pub record Row : Type 0 where
  pub number : ℕ
  pub layer : ℕ

abbrev pub row : Fault → Row
row kind.Cut = record { number = 1; layer = 1 }
row kind.Tag = record { number = 2; layer = 1 }
row kind.Length = record { number = 3; layer = 1 }
row kind.Value = record { number = 4; layer = 2 }
row kind.Count = record { number = 5; layer = 2 }
row kind.Tail = record { number = 6; layer = 1 }
row kind.Sizes = record { number = 7; layer = 3 }
row kind.Shelf = record { number = 8; layer = 4 }
row kind.Trail = record { number = 9; layer = 4 }
row kind.End = record { number = 10; layer = 4 }
row kind.Allowance = record { number = 11; layer = 4 }
row kind.Room = record { number = 12; layer = 0 }

abbrev pub number : Fault → ℕ
number f = (row f).number

abbrev pub layer : Fault → ℕ
layer f = (row f).layer

abbrev pub line : Refusal → List ℕ
line r =
    codes "refused " ++ (decimal (number r.fault) ++ (codes " layer " ++ (decimal (layer r.fault) ++ (codes " place " ++ decimal r.place))))
