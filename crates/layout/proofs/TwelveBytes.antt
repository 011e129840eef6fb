-- The sizes of a job in twelve bytes: one each for fan-out and depth, two for the steps, eight for the allowance.
--   spell_sizes, read_sizes   the sizes as bytes, and read back
--   written_reads, read_writes, refusal_placed   the laws of layout and judging
use Rattle.std.proofs.Common.{◌≡◌, ℕ, ◌+◌, ◌≤◌, List, ◌++◌, length, take, drop, sym, refl, ap, ◌∙◌, ap₂, arith, length-drop}
use Rattle.std.proofs.lemmas.List.{drop-drop, take_all, take-append-drop, length-take-le}
use Rattle.std.proofs.lemmas.Result.{IfOk-at_ok, IfErr-at_err}
use Rattle.layout.specs.Numbers.{number, spelling}
use Rattle.layout.specs.Judging.{Bytes, number_at}
use Rattle.layout.specs.Laws.{WrittenReads, ReadWrites, RefusalPlaced}
use Rattle.layout.proofs.Numbers.{number_spelling, spelling_number, bytes_take, bytes_drop}
use Rattle.layout.proofs.Fields.{Placed}
use Rattle.layout.proofs.Parts.{FourSizes, sizes_of, laid}
use Rattle.layout.proofs.Placing.{judged_placed}
use Rattle.layout.proofs.Writing.{laid_read}
use Rattle.layout.proofs.Accepting.{Accepted, judged_accepted}

abbrev pub spell_sizes : FourSizes → List ℕ
spell_sizes s = spelling 1 s.fan_out ++ (spelling 1 s.depth ++ (spelling 2 s.steps ++ spelling 8 s.allowance))

abbrev pub read_sizes : List ℕ → FourSizes
read_sizes xs =
    record {
      fan_out = number_at 0 1 xs;
      depth = number_at 1 1 xs;
      steps = number_at 2 2 xs;
      allowance = number_at 4 8 xs;
    }

-- sizes that were written read as these sizes
read_spelt : (s : FourSizes) → read_sizes (spell_sizes s) ≡ s
unfolding spelling
read_spelt s =
    λ i. record {
      fan_out = number_spelling 0 s.fan_out i;
      depth = number_spelling 0 s.depth i;
      steps = number_spelling 1 s.steps i;
      allowance = number_spelling 7 s.allowance i;
    }

-- they take twelve bytes
length_spelt : (s : FourSizes) → length (spell_sizes s) ≡ 12
unfolding spelling
length_spelt s = refl

-- the number in w bytes, spelt in w bytes, is these bytes
part_is : (i w : ℕ) (xs : List ℕ) → Bytes xs → i + w ≤ length xs → spelling w (number_at i w xs) ≡ take w (drop i xs)
part_is i w xs b h =
    let part = take w (drop i xs) in
    let n : length part ≡ w = length-take-le w (drop i xs) (omega (arith, length-drop i xs)) in
    ap (λ v. spelling v (number part)) (sym n) ∙ spelling_number part (bytes_take w (drop i xs) (bytes_drop i xs b))

-- twelve bytes in four parts
four_parts : (xs : List ℕ) → length xs ≡ 12 → take 1 xs ++ (take 1 (drop 1 xs) ++ (take 2 (drop 2 xs) ++ take 8 (drop 4 xs))) ≡ xs
four_parts xs h =
    ap (λ ys. take 1 xs ++ (take 1 (drop 1 xs) ++ (take 2 (drop 2 xs) ++ ys)))
    (take_all 8 (drop 4 xs) (omega (arith, length-drop 4 xs)) ∙ sym (drop-drop 2 2 xs))
    ∙ ap (λ ys. take 1 xs ++ (take 1 (drop 1 xs) ++ ys)) (take-append-drop 2 (drop 2 xs) ∙ sym (drop-drop 1 1 xs))
    ∙ ap (λ ys. take 1 xs ++ ys) (take-append-drop 1 (drop 1 xs))
    ∙ take-append-drop 1 xs

-- twelve bytes are what the sizes that were read of them are written as
spelt_read : (xs : List ℕ) → Bytes xs → length xs ≡ 12 → spell_sizes (read_sizes xs) ≡ xs
spelt_read xs b h =
    ap₂ (λ x y. x ++ y) (part_is 0 1 xs b (omega arith))
    (ap₂ (λ x y. x ++ y) (part_is 1 1 xs b (omega arith)) (ap₂ (λ x y. x ++ y) (part_is 2 2 xs b (omega arith)) (part_is 4 8 xs b (omega arith))))
    ∙ four_parts xs h

pub written_reads : WrittenReads
written_reads d w =
    let s = sizes_of d in
    laid_read read_sizes (spell_sizes s) d w (length_spelt s) (read_spelt s)

pub read_writes : ReadWrites
read_writes xs d b e =
    let q = IfOk-at_ok (Accepted read_sizes xs) e (judged_accepted read_sizes xs b) in
    (q.formed, ap (λ sizes. laid sizes d) (ap spell_sizes q.sizes_are ∙ spelt_read q.sizes q.bytes q.twelve) ∙ q.written)

pub refusal_placed : RefusalPlaced
refusal_placed xs r e = IfErr-at_err (Placed (length xs)) e (judged_placed read_sizes xs)
