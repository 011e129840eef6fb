-- A job by its parts, and its bytes.
--   Job               the kind, the four sizes, the bodies of the program's inner fields and the body of the start
--   kind_number       the number of a kind in a job
--   NamesKind n r     r is the kind with the number n, or the error that there is none
--   unknown_text e    the bytes of `no kind of job has the number NUMBER`, the number in decimal
--   sizes_body        the sizes as twelve bytes: one each for fan-out and depth, two for steps, eight for allowance
--   fields tag bs     the fields with the bodies bs, one behind the other
--   encode            the bytes of a job: four fields
--   start_lengths, start_wrong   how long the body of a start may be, and its first wrong byte: a register machine
--                     starts at any program counter and registers, a rewriting machine at a text with no 0 in it
--   WellFormed        every part of a job is as it should be
-- Assumes nothing.
use Rattle.std.specs.Prelude.{◌≡◌, ℕ, ◌≤◌, true, List, [], ◌∷◌, ◌++◌, length, None, Option, Result, MatchResult, codes, decimal}
use Rattle.std.specs.List.{AllByRecursion}
use Rattle.schedule.specs.Sizes.{first_wrong}
use Rattle.layout.specs.declared.kinds.Kind.{Kind}
use Rattle.layout.specs.declared.kinds.UnknownKind.{UnknownKind}
use Rattle.layout.specs.declared.kinds.Kind.TheVariants.{Register, Rewriting}
use Rattle.layout.specs.declared.kinds.Lengths.{Lengths}
use Rattle.layout.specs.Numbers.{spelling}
use Rattle.layout.specs.Fields.{field, between, legal}
use Rattle.layout.specs.Programs.{inner, first_zero, far_jump}

pub record Job : Type 0 where
  pub kind : Kind
  pub fan_out : ℕ
  pub depth : ℕ
  pub steps : ℕ
  pub allowance : ℕ
  pub program : List (List ℕ)
  pub start : List ℕ

abbrev pub kind_number : Kind → ℕ
kind_number Register = 1
kind_number Rewriting = 2

abbrev pub NamesKind : ℕ → Result Kind UnknownKind → Type 0
NamesKind n r = MatchResult r (λ kind. kind_number kind ≡ n) (λ e. (e.0 ≡ n) × ((kind : Kind) → kind_number kind ≡ n → ⊥))

abbrev pub unknown_text : UnknownKind → List ℕ
unknown_text e = codes "no kind of job has the number " ++ decimal e.0

abbrev pub sizes_body : Job → List ℕ
sizes_body d = spelling 1 d.fan_out ++ (spelling 1 d.depth ++ (spelling 2 d.steps ++ spelling 8 d.allowance))

unfoldable pub fields : ℕ → List (List ℕ) → List ℕ
fields tag [] = []
fields tag (b ∷ bs) = field tag b ++ fields tag bs

abbrev pub encode : Job → List ℕ
encode d =
    field 1 (kind_number d.kind ∷ []) ++
    (field 2 (sizes_body d) ++
    (field 3 (fields (inner d.kind).tag d.program) ++
    field 4 d.start))

abbrev pub start_lengths : Kind → Option Lengths
start_lengths Register = between 36 36
start_lengths Rewriting = between 0 48

abbrev pub start_wrong : Kind → List ℕ → Option ℕ
start_wrong Register start = None
start_wrong Rewriting start = first_zero start

pub record WellFormed (d : Job) : Type 0 where
  pub sizes_right : first_wrong d.fan_out d.depth d.steps d.allowance ≡ None
  pub few : length d.program ≤ (inner d.kind).most
  pub bodies_right : AllByRecursion (λ b. (legal (inner d.kind).lengths (length b) ≡ true) × ((inner d.kind).wrong b ≡ None)) d.program
  pub jumps_right : far_jump d.kind d.program ≡ None
  pub start_fits : legal (start_lengths d.kind) (length d.start) ≡ true
  pub start_right : start_wrong d.kind d.start ≡ None
