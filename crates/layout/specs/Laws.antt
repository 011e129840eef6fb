-- What holds of layout and judging.
--   WrittenReads    a well formed job, written, reads as that job
--   ReadWrites      accepted bytes are what their job is written as, and the job is well formed
--   RefusalPlaced   a refusal is one of the seven faults of a job, and its place lies within the bytes; only where a
--                    field is due and nothing is left does it lie at their end
-- Assumes nothing.
use Rattle.std.specs.Prelude.{◌≡◌, ℕ, ◌<◌, ◌≤◌, List, length, Ok, Err}
use Rattle.refusal.specs.declared.kinds.Refusal.{Refusal}
use Rattle.refusal.specs.declared.kinds.Fault.{Fault}
use Rattle.refusal.specs.declared.kinds.Fault.TheVariants.{Cut, Tag, Length, Value, Count, Tail, Sizes, Shelf, Trail, End, Allowance, Room}
use Rattle.layout.specs.Jobs.{Job, encode, WellFormed}
use Rattle.layout.specs.Judging.{judge, Bytes}

abbrev pub WrittenReads : Type 0
WrittenReads = (d : Job) → WellFormed d → judge (encode d) ≡ Ok d

abbrev pub ReadWrites : Type 0
ReadWrites = (xs : List ℕ) (d : Job) → Bytes xs → judge xs ≡ Ok d → WellFormed d × (encode d ≡ xs)

-- a place that is possible for a fault in n bytes
abbrev pub Possible : ℕ → ℕ → Fault → Type 0
Possible n place Cut = place ≤ n
Possible n place Tag = place < n
Possible n place Length = place < n
Possible n place Value = place < n
Possible n place Count = place < n
Possible n place Tail = place < n
Possible n place Sizes = place < n
Possible n place Shelf = ⊥
Possible n place Trail = ⊥
Possible n place End = ⊥
Possible n place Allowance = ⊥
Possible n place Room = ⊥

abbrev pub RefusalPlaced : Type 0
RefusalPlaced = (xs : List ℕ) (r : Refusal) → judge xs ≡ Err r → Possible (length xs) r.place r.fault
