-- A job that is written reads as that job.
use Rattle.std.proofs.Common.{◌≡◌, ℕ, ◌+◌, ◌≤◌, leb, List, [], ◌∷◌, ◌++◌, length, drop, None, Ok, sym, refl, ap, ◌∙◌, append-nil, arith, length-append}
use Rattle.std.proofs.lemmas.Bool.{le-leb, cond-true}
use Rattle.refusal.specs.declared.kinds.Fault.TheVariants.{Value, Sizes}
use Rattle.layout.specs.declared.kinds.Kind.{Kind}
use Rattle.layout.specs.declared.kinds.Kind.TheVariants.{Register, Rewriting}
use Rattle.layout.specs.Fields.{field, between, legal, body_at}
use Rattle.layout.specs.Programs.{inner, entries, far_jump}
use Rattle.layout.specs.Jobs.{Job, kind_number, start_lengths, start_wrong, WellFormed}
use Rattle.layout.specs.Judging.{kind_of}
use Rattle.layout.proofs.Chains.{then_at, unless_at}
use Rattle.layout.proofs.Fields.{length_field}
use Rattle.layout.proofs.Due.{due_read, due_rest}
use Rattle.layout.proofs.Programs.{entries_read}
use Rattle.layout.proofs.Parts.{FourSizes, sizes_of, wrong_size, at_end, past_start, past_jumps, past_bodies, past_program, past_limits, past_sizes, past_kind, past_head, judged, rows_of, laid}

-- a kind is the one of its number
kind_read : (kind : Kind) → kind_of (kind_number kind) ≡ Ok kind
kind_read Register = refl
kind_read Rewriting = refl

-- each part from the last to the one that begins at the sizes, where program and start are written and nothing follows
module _ (xs : List ℕ) (d : Job) (w : WellFormed d) (e : drop 19 xs ≡ field 3 (rows_of d) ++ field 4 d.start) (short : length xs ≤ 25 + length (rows_of d) + length d.start) where
  -- nothing follows the start
  end_read : at_end xs d.kind (sizes_of d) (rows_of d) d.program d.start ≡ Ok d
  end_read =
      let n = 25 + length (rows_of d) + length d.start in
      cond-true (leb (length xs) n) (Ok d) _ (le-leb (length xs) n short)

  -- no byte of the start is wrong
  start_read : past_start xs d.kind (sizes_of d) (rows_of d) d.program d.start ≡ Ok d
  start_read =
      unless_at (start_wrong d.kind d.start) Value (25 + length (rows_of d)) (at_end xs d.kind (sizes_of d) (rows_of d) d.program d.start) w.start_right
      ∙ end_read

  -- the start stands behind the program
  behind_program : drop (22 + length (rows_of d)) xs ≡ field 4 d.start ++ []
  behind_program =
      due_rest 3 None 19 xs (rows_of d) (field 4 d.start) e (22 + length (rows_of d)) (omega arith) ∙ sym (append-nil (field 4 d.start))

  -- the field of the start is read
  jumps_read : past_jumps xs d.kind (sizes_of d) (rows_of d) d.program ≡ Ok d
  jumps_read =
      let place = 22 + length (rows_of d) in
      then_at (body_at 4 (start_lengths d.kind) place (drop place xs)) (past_start xs d.kind (sizes_of d) (rows_of d) d.program) d.start
      (due_read 4 (start_lengths d.kind) place xs d.start [] behind_program w.start_fits)
      ∙ start_read

  -- no target is too far
  bodies_read : past_bodies xs d.kind (sizes_of d) (rows_of d) d.program ≡ Ok d
  bodies_read =
      unless_at (far_jump d.kind d.program) Value 22 (past_jumps xs d.kind (sizes_of d) (rows_of d) d.program) w.jumps_right
      ∙ jumps_read

  -- the rows are read
  program_read : past_program xs d.kind (sizes_of d) (rows_of d) ≡ Ok d
  program_read =
      let i = inner d.kind in
      then_at (entries i i.most 22 (rows_of d)) (past_bodies xs d.kind (sizes_of d) (rows_of d)) d.program
      (entries_read i i.most 22 d.program w.few w.bodies_right)
      ∙ bodies_read

  -- no size is out of its limits, and the field of the program is read
  sizes_read : past_sizes xs d.kind (sizes_of d) ≡ Ok d
  sizes_read =
      unless_at (wrong_size (sizes_of d)) Sizes 7 (past_limits xs d.kind (sizes_of d)) w.sizes_right
      ∙ then_at (body_at 3 None 19 (drop 19 xs)) (past_program xs d.kind (sizes_of d)) (rows_of d)
      (due_read 3 None 19 xs (rows_of d) (field 4 d.start) e refl)
      ∙ program_read

-- how long a job is, written with twelve bytes of sizes
length_laid : (sizes : List ℕ) (d : Job) → length sizes ≡ 12 → length (laid sizes d) ≡ 25 + length (rows_of d) + length d.start
length_laid sizes d twelve =
    let kinds = kind_number d.kind ∷ [] in
    let ends = field 3 (rows_of d) ++ field 4 d.start in
    let one = length-append (field 1 kinds) (field 2 sizes ++ ends) in
    let two = length-append (field 2 sizes) ends in
    let three = length-append (field 3 (rows_of d)) (field 4 d.start) in
    omega (arith, length_field 1 kinds, length_field 2 sizes, length_field 3 (rows_of d), length_field 4 d.start)

-- the whole, with any way to write the sizes in twelve bytes and to read them back
pub laid_read : (read : List ℕ → FourSizes) (sizes : List ℕ) (d : Job) → WellFormed d → length sizes ≡ 12 → read sizes ≡ sizes_of d → judged read (laid sizes d) ≡ Ok d
laid_read read sizes d w twelve same =
    let xs = laid sizes d in
    let kinds = kind_number d.kind ∷ [] in
    let ends = field 3 (rows_of d) ++ field 4 d.start in
    let at_4 = due_rest 1 (between 1 1) 0 xs kinds (field 2 sizes ++ ends) refl 4 refl in
    let at_19 = due_rest 2 (between 12 12) 4 xs sizes ends at_4 19 (omega arith) in
    then_at (body_at 1 (between 1 1) 0 xs) (past_head read xs) kinds (due_read 1 (between 1 1) 0 xs kinds (field 2 sizes ++ ends) refl refl)
    ∙ then_at (kind_of (kind_number d.kind)) (past_kind read xs) d.kind (kind_read d.kind)
    ∙ then_at (body_at 2 (between 12 12) 4 (drop 4 xs)) (λ sizes. past_sizes xs d.kind (read sizes)) sizes
    (due_read 2 (between 12 12) 4 xs sizes ends at_4 (ap (legal (between 12 12)) twelve))
    ∙ ap (past_sizes xs d.kind) same
    ∙ sizes_read xs d w at_19 (omega (arith, length_laid sizes d twelve))
