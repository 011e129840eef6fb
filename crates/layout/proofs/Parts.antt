-- A judge of bytes as a job, in parts: each goes on where the one before it accepted, from the last part to the whole.
--   FourSizes, sizes_of   the four sizes of a job
--   made      the job of a kind, with its sizes, program and start
--   judged    what bytes are as a job, if `read` reads the sizes out of their twelve bytes
--   laid      the bytes of a job, if `sizes` are the twelve bytes of its sizes
use Rattle.std.proofs.Common.{ℕ, ◌+◌, cond, leb, List, [], ◌∷◌, ◌++◌, length, get_or, drop, None, Ok, Option, Result}
use Rattle.refusal.specs.declared.kinds.Refusal.{Refusal}
use Rattle.refusal.specs.declared.kinds.Fault.TheVariants.{Value, Tail, Sizes}
use Rattle.schedule.specs.Sizes.{first_wrong}
use Rattle.layout.specs.declared.kinds.Kind.{Kind}
use Rattle.layout.specs.Fields.{field, between, refuse, then, unless, body_at}
use Rattle.layout.specs.Programs.{inner, entries, far_jump}
use Rattle.layout.specs.Jobs.{Job, kind_number, fields, start_lengths, start_wrong}
use Rattle.layout.specs.Judging.{kind_of}

pub record FourSizes : Type 0 where
  pub fan_out : ℕ
  pub depth : ℕ
  pub steps : ℕ
  pub allowance : ℕ

abbrev pub sizes_of : Job → FourSizes
sizes_of d = record { fan_out = d.fan_out; depth = d.depth; steps = d.steps; allowance = d.allowance }

abbrev pub made : Kind → FourSizes → List (List ℕ) → List ℕ → Job
made kind s bodies start =
    record {
      kind = kind;
      fan_out = s.fan_out;
      depth = s.depth;
      steps = s.steps;
      allowance = s.allowance;
      program = bodies;
      start = start;
    }

abbrev pub wrong_size : FourSizes → Option ℕ
wrong_size s = first_wrong s.fan_out s.depth s.steps s.allowance

module _ (xs : List ℕ) (kind : Kind) (s : FourSizes) where
  abbrev pub at_end : List ℕ → List (List ℕ) → List ℕ → Result Job Refusal
  at_end program bodies start =
      cond (leb (length xs) (25 + length program + length start)) (Ok (made kind s bodies start)) (refuse Tail (25 + length program + length start))

  abbrev pub past_start : List ℕ → List (List ℕ) → List ℕ → Result Job Refusal
  past_start program bodies start = unless (start_wrong kind start) Value (25 + length program) (at_end program bodies start)

  abbrev pub past_jumps : List ℕ → List (List ℕ) → Result Job Refusal
  past_jumps program bodies =
      then (body_at 4 (start_lengths kind) (22 + length program) (drop (22 + length program) xs)) (past_start program bodies)

  abbrev pub past_bodies : List ℕ → List (List ℕ) → Result Job Refusal
  past_bodies program bodies = unless (far_jump kind bodies) Value 22 (past_jumps program bodies)

  abbrev pub past_program : List ℕ → Result Job Refusal
  past_program program = then (entries (inner kind) (inner kind).most 22 program) (past_bodies program)

  abbrev pub past_limits : Result Job Refusal
  past_limits = then (body_at 3 None 19 (drop 19 xs)) past_program

  abbrev pub past_sizes : Result Job Refusal
  past_sizes = unless (wrong_size s) Sizes 7 past_limits

module _ (read : List ℕ → FourSizes) (xs : List ℕ) where
  abbrev pub past_kind : Kind → Result Job Refusal
  past_kind kind = then (body_at 2 (between 12 12) 4 (drop 4 xs)) (λ sizes. past_sizes xs kind (read sizes))

  abbrev pub past_head : List ℕ → Result Job Refusal
  past_head kinds = then (kind_of (get_or kinds 0 0)) past_kind

  abbrev pub judged : Result Job Refusal
  judged = then (body_at 1 (between 1 1) 0 xs) past_head

-- the bytes of a job's program
abbrev pub rows_of : Job → List ℕ
rows_of d = fields (inner d.kind).tag d.program

abbrev pub laid : List ℕ → Job → List ℕ
laid sizes d = field 1 (kind_number d.kind ∷ []) ++ (field 2 sizes ++ (field 3 (rows_of d) ++ field 4 d.start))
