-- A refusal of bytes as a job lies within the bytes.
use Rattle.std.proofs.Common.{ℕ, ◌+◌, ◌≤◌, cond, eqb, leb, List, length, get_or, drop, None, Ok, IfErr, refl, arith}
use Rattle.std.proofs.lemmas.Bool.{leb-false, cond_both}
use Rattle.std.proofs.lemmas.Option.{IfSome_then}
use Rattle.std.proofs.lemmas.Result.{IfOk-at_ok}
use Rattle.refusal.specs.declared.kinds.Fault.TheVariants.{Value, Tail, Sizes}
use Rattle.layout.specs.declared.kinds.Kind.{Kind}
use Rattle.layout.specs.declared.kinds.Kind.TheVariants.{Register, Rewriting}
use Rattle.layout.specs.Fields.{between, refuse, body_at}
use Rattle.layout.specs.Programs.{inner, entries, far_jump}
use Rattle.layout.specs.Jobs.{start_lengths, start_wrong}
use Rattle.layout.specs.Judging.{kind_of}
use Rattle.layout.proofs.Chains.{then_err, unless_err, cond_err}
use Rattle.layout.proofs.Fields.{exact_read, Placed, placed_more}
use Rattle.layout.proofs.Due.{due_placed, due_within}
use Rattle.layout.proofs.Programs.{Rows, rows, rows_placed}
use Rattle.layout.proofs.Offsets.{wrong_within, far_within, start_within, sizes_within}
use Rattle.layout.proofs.Parts.{FourSizes, made, wrong_size, at_end, past_start, past_jumps, past_bodies, past_program, past_limits, past_sizes, past_kind, past_head, judged}

-- each part from the last to the one that begins at the sizes, which end at byte 19
module _ (xs : List ℕ) (kind : Kind) (s : FourSizes) where
  -- a byte behind the last field lies in the bytes
  end_placed : (program : List ℕ) (bodies : List (List ℕ)) (start : List ℕ) → IfErr (at_end xs kind s program bodies start) (Placed (length xs))
  end_placed program bodies start =
      let n = 25 + length program + length start in
      cond_err (Placed (length xs)) (leb (length xs) n) (Ok (made kind s bodies start)) Tail n (leb-false (length xs) n) (λ no_more. tt)

  -- a wrong byte of the start does
  start_placed : (program : List ℕ) (bodies : List (List ℕ)) (start : List ℕ) → 25 + length program + length start ≤ length xs → IfErr (past_start xs kind s program bodies start) (Placed (length xs))
  start_placed program bodies start within =
      unless_err (Placed (length xs)) (start_wrong kind start) Value (25 + length program) (at_end xs kind s program bodies start)
      (IfSome_then (start_wrong kind start) (start_within kind start) (λ k low. omega arith))
      (λ right. end_placed program bodies start)

  -- the field of the start is refused in them
  jumps_placed : (program : List ℕ) (bodies : List (List ℕ)) → 22 + length program ≤ length xs → IfErr (past_jumps xs kind s program bodies) (Placed (length xs))
  jumps_placed program bodies within =
      let place = 22 + length program in
      then_err (Placed (length xs)) (body_at 4 (start_lengths kind) place (drop place xs)) (past_start xs kind s program bodies)
      (due_placed 4 (start_lengths kind) place xs within)
      (λ start e. start_placed program bodies start (omega (arith, due_within 4 (start_lengths kind) place xs start e)))

  -- a target that is too far lies in them
  bodies_placed : (program : List ℕ) (bodies : List (List ℕ)) → Rows (inner kind) (inner kind).most program bodies → 22 + length program ≤ length xs → IfErr (past_bodies xs kind s program bodies) (Placed (length xs))
  bodies_placed program bodies rs within =
      unless_err (Placed (length xs)) (far_jump kind bodies) Value 22 (past_jumps xs kind s program bodies)
      (IfSome_then (far_jump kind bodies) (far_within kind bodies rs.right) (λ k low. omega (arith, rs.spans)))
      (λ near. jumps_placed program bodies within)

  -- the rows are refused in them
  program_placed : (program : List ℕ) → 22 + length program ≤ length xs → IfErr (past_program xs kind s program) (Placed (length xs))
  program_placed program within =
      let i = inner kind in
      let place = 22 + length program in
      then_err (Placed (length xs)) (entries i i.most 22 program) (past_bodies xs kind s program)
      (placed_more place (length xs) (entries i i.most 22 program) within (rows_placed i (wrong_within kind) i.most 22 place program refl))
      (λ bodies e. bodies_placed program bodies (IfOk-at_ok (Rows i i.most program) e (rows i i.most 22 program)) within)

  -- the field of the program is refused in them
  limits_placed : 19 ≤ length xs → IfErr (past_limits xs kind s) (Placed (length xs))
  limits_placed within =
      then_err (Placed (length xs)) (body_at 3 None 19 (drop 19 xs)) (past_program xs kind s) (due_placed 3 None 19 xs within)
      (λ program e. program_placed program (omega (arith, due_within 3 None 19 xs program e)))

  -- a size out of its limits stands in them
  sizes_placed : 19 ≤ length xs → IfErr (past_sizes xs kind s) (Placed (length xs))
  sizes_placed within =
      unless_err (Placed (length xs)) (wrong_size s) Sizes 7 (past_limits xs kind s)
      (IfSome_then (wrong_size s) (sizes_within s.fan_out s.depth s.steps s.allowance) (λ k low. omega arith))
      (λ right. limits_placed within)

-- the number of a kind stands at byte 3
kind_placed : (n x : ℕ) → 4 ≤ n → IfErr (kind_of x) (Placed n)
kind_placed n x h =
    cond_both (eqb x 1) (Ok Register) (cond (eqb x 2) (Ok Rewriting) (refuse Value 3)) (λ r. IfErr r (Placed n)) (λ one. tt)
    (λ other. cond_err (Placed n) (eqb x 2) (Ok Rewriting) Value 3 (λ neither. omega arith) (λ two. tt))

-- the whole, with any way to read the sizes
module _ (read : List ℕ → FourSizes) (xs : List ℕ) where
  -- the field of the sizes is refused in the bytes
  past_kind_placed : (kind : Kind) → 4 ≤ length xs → IfErr (past_kind read xs kind) (Placed (length xs))
  past_kind_placed kind within =
      then_err (Placed (length xs)) (body_at 2 (between 12 12) 4 (drop 4 xs)) (λ sizes. past_sizes xs kind (read sizes))
      (due_placed 2 (between 12 12) 4 xs within)
      (λ sizes e. sizes_placed xs kind (read sizes) (omega (arith, due_within 2 (between 12 12) 4 xs sizes e, exact_read 2 12 4 (drop 4 xs) sizes e)))

  -- the number of the kind stands in them
  head_placed : (kinds : List ℕ) → 4 ≤ length xs → IfErr (past_head read xs kinds) (Placed (length xs))
  head_placed kinds within =
      then_err (Placed (length xs)) (kind_of (get_or kinds 0 0)) (past_kind read xs) (kind_placed (length xs) (get_or kinds 0 0) within)
      (λ kind e. past_kind_placed kind within)

  pub judged_placed : IfErr (judged read xs) (Placed (length xs))
  judged_placed =
      then_err (Placed (length xs)) (body_at 1 (between 1 1) 0 xs) (past_head read xs) (due_placed 1 (between 1 1) 0 xs (omega arith))
      (λ kinds e. head_placed kinds (omega (arith, due_within 1 (between 1 1) 0 xs kinds e, exact_read 1 1 0 xs kinds e)))
