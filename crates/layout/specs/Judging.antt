-- judge   what bytes are, as a job: the job, or the refusal of the first fault from left to right
-- Bytes   numbers below 256
-- Assumes nothing.
use Rattle.std.specs.Prelude.{ℕ, ◌+◌, ◌<◌, cond, List, length, take, drop, None, Ok, Result, ◌==◌, nat_le, slice_index}
use Rattle.std.specs.List.{AllByRecursion}
use Rattle.refusal.specs.declared.kinds.Refusal.{Refusal}
use Rattle.refusal.specs.declared.kinds.Fault.TheVariants.{Value, Tail, Sizes}
use Rattle.schedule.specs.Sizes.{first_wrong}
use Rattle.layout.specs.declared.kinds.Kind.{Kind}
use Rattle.layout.specs.declared.kinds.Kind.TheVariants.{Register, Rewriting}
use Rattle.layout.specs.Numbers.{number}
use Rattle.layout.specs.Fields.{between, refuse, then, unless, body_at}
use Rattle.layout.specs.Programs.{inner, entries, far_jump}
use Rattle.layout.specs.Jobs.{Job, start_lengths, start_wrong}

abbrev pub Bytes : List ℕ → Type 0
Bytes xs = AllByRecursion (λ x. x < 256) xs

-- the number in the n bytes from place i on
abbrev pub number_at : ℕ → ℕ → List ℕ → ℕ
number_at i n xs = number (take n (drop i xs))

abbrev pub kind_of : ℕ → Result Kind Refusal
kind_of x = cond (x == 1) (Ok Register) (cond (x == 2) (Ok Rewriting) (refuse Value 3))

abbrev pub judge : List ℕ → Result Job Refusal
judge xs =
    then (body_at 1 (between 1 1) 0 xs) (λ kinds.
    then (kind_of (slice_index kinds 0)) (λ kind.
    then (body_at 2 (between 12 12) 4 (drop 4 xs)) (λ sizes.
    unless (first_wrong (number_at 0 1 sizes) (number_at 1 1 sizes) (number_at 2 2 sizes) (number_at 4 8 sizes)) Sizes 7 (
    then (body_at 3 None 19 (drop 19 xs)) (λ program.
    then (entries (inner kind) (inner kind).most 22 program) (λ bodies.
    unless (far_jump kind bodies) Value 22 (
    then (body_at 4 (start_lengths kind) (22 + length program) (drop (22 + length program) xs)) (λ start.
    unless (start_wrong kind start) Value (25 + length program) (
    cond (nat_le (length xs) (25 + length program + length start))
    (Ok (record {
      kind = kind;
      fan_out = number_at 0 1 sizes;
      depth = number_at 1 1 sizes;
      steps = number_at 2 2 sizes;
      allowance = number_at 4 8 sizes;
      program = bodies;
      start = start;
    }))
    (refuse Tail (25 + length program + length start)))))))))))
