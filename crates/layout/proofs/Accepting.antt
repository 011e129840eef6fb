-- Accepted bytes are what their job is written as, and the job is well formed.
use Rattle.std.proofs.Common.{◌≡◌, ℕ, ◌+◌, ◌≤◌, cond, eqb, leb, List, [], ◌∷◌, ◌++◌, length, get_or, drop, None, Ok, IfOk, sym, refl, ap, ◌∙◌, ap₂, append-nil, arith}
use Rattle.std.proofs.lemmas.List.{drop_all}
use Rattle.std.proofs.lemmas.Bool.{leb-true, eqb-true, cond_both}
use Rattle.std.proofs.lemmas.Result.{IfOk-at_ok, IfOk-weaker}
use Rattle.refusal.specs.declared.kinds.Fault.TheVariants.{Value, Tail, Sizes}
use Rattle.layout.specs.declared.kinds.Kind.{Kind}
use Rattle.layout.specs.declared.kinds.Kind.TheVariants.{Register, Rewriting}
use Rattle.layout.specs.Fields.{field, between, refuse, body_at}
use Rattle.layout.specs.Programs.{inner, entries, far_jump}
use Rattle.layout.specs.Jobs.{Job, kind_number, fields, start_lengths, start_wrong, WellFormed}
use Rattle.layout.specs.Judging.{Bytes, kind_of}
use Rattle.layout.proofs.Numbers.{bytes_drop}
use Rattle.layout.proofs.Chains.{then_ok, unless_ok, cond_ok}
use Rattle.layout.proofs.Fields.{legal_read, bytes_read, exact_read}
use Rattle.layout.proofs.Due.{due_written}
use Rattle.layout.proofs.Programs.{Rows, rows, rows_written}
use Rattle.layout.proofs.Parts.{FourSizes, sizes_of, made, wrong_size, at_end, past_start, past_jumps, past_bodies, past_program, past_limits, past_sizes, past_kind, past_head, judged, rows_of, laid}

-- what is accepted from the sizes on
record Ends (xs : List ℕ) (kind : Kind) (s : FourSizes) (d : Job) : Type 0 where
  formed : WellFormed d
  kind_is : d.kind ≡ kind
  sizes_are : sizes_of d ≡ s
  ends_are : field 3 (rows_of d) ++ field 4 d.start ≡ drop 19 xs

module _ (xs : List ℕ) (b : Bytes xs) (kind : Kind) where
  module _ (program : List ℕ) (third : body_at 3 None 19 (drop 19 xs) ≡ Ok program) (bodies : List (List ℕ)) where
    -- the bodies of an accepted program, written, are the program
    program_written : entries (inner kind) (inner kind).most 22 program ≡ Ok bodies → fields (inner kind).tag bodies ≡ program
    program_written e =
        IfOk-at_ok (λ bodies. fields (inner kind).tag bodies ≡ program) e
        (rows_written (inner kind) (inner kind).most 22 program (bytes_read 3 None 19 (drop 19 xs) program third (bytes_drop 19 xs b)))

    -- program and start, written, are what is left behind the sizes
    ends_written : (start : List ℕ) → fields (inner kind).tag bodies ≡ program → body_at 4 (start_lengths kind) (22 + length program) (drop (22 + length program) xs) ≡ Ok start → length xs ≤ 25 + length program + length start → field 3 (fields (inner kind).tag bodies) ++ field 4 start ≡ drop 19 xs
    ends_written start same fourth short =
        let place = 22 + length program in
        let next = 25 + length program + length start in
        ap₂ (λ x y. field 3 x ++ y) same
        (sym (append-nil (field 4 start))
        ∙ ap (λ ys. field 4 start ++ ys) (sym (drop_all next xs short))
        ∙ sym (due_written 4 (start_lengths kind) place xs start fourth next (omega arith) b))
        ∙ sym (due_written 3 None 19 xs program third place (omega arith) b)

  -- from the sizes on, line by line
  sizes_accepted : (s : FourSizes) → IfOk (past_sizes xs kind s) (Ends xs kind s)
  sizes_accepted s =
      let P = Ends xs kind s in
      let i = inner kind in
      unless_ok P (wrong_size s) Sizes 7 (past_limits xs kind s) (λ legal_sizes.
      then_ok P (body_at 3 None 19 (drop 19 xs)) (past_program xs kind s) (λ program third.
      let place = 22 + length program in
      then_ok P (entries i i.most 22 program) (past_bodies xs kind s program) (λ bodies are.
      let rs = IfOk-at_ok (Rows i i.most program) are (rows i i.most 22 program) in
      unless_ok P (far_jump kind bodies) Value 22 (past_jumps xs kind s program bodies) (λ near.
      then_ok P (body_at 4 (start_lengths kind) place (drop place xs)) (past_start xs kind s program bodies) (λ start fourth.
      let next = 25 + length program + length start in
      unless_ok P (start_wrong kind start) Value (25 + length program) (at_end xs kind s program bodies start) (λ legal_start.
      cond_ok P (leb (length xs) next) (Ok (made kind s bodies start)) Tail next (λ short. record {
        formed = record {
          sizes_right = legal_sizes;
          few = rs.few;
          bodies_right = rs.right;
          jumps_right = near;
          start_fits = legal_read 4 (start_lengths kind) place (drop place xs) start fourth;
          start_right = legal_start;
        };
        kind_is = refl;
        sizes_are = refl;
        ends_are = ends_written program third bodies start (program_written program third bodies are) fourth (leb-true (length xs) next short);
      })))))))

-- a number that tells a kind is the number of that kind
kind_told : (x : ℕ) → IfOk (kind_of x) (λ kind. kind_number kind ≡ x)
kind_told x =
    cond_both (eqb x 1) (Ok Register) (cond (eqb x 2) (Ok Rewriting) (refuse Value 3)) (λ r. IfOk r (λ kind. kind_number kind ≡ x))
    (λ one. sym (eqb-true x 1 one))
    (λ other. cond_ok (λ kind. kind_number kind ≡ x) (eqb x 2) (Ok Rewriting) Value 3 (λ two. sym (eqb-true x 2 two)))

-- one byte alone
alone : (ys : List ℕ) → length ys ≡ 1 → ys ≡ get_or ys 0 0 ∷ []
alone [] h = absurd (omega arith)
alone (y ∷ []) h = refl
alone (y ∷ z ∷ zs) h = absurd (omega arith)

-- the body of the first field, written
kinds_are : (kinds : List ℕ) (kind : Kind) → length kinds ≡ 1 → kind_of (get_or kinds 0 0) ≡ Ok kind → kinds ≡ kind_number kind ∷ []
kinds_are kinds kind one e =
    alone kinds one ∙ ap (λ x. x ∷ []) (sym (IfOk-at_ok (λ kind. kind_number kind ≡ get_or kinds 0 0) e (kind_told (get_or kinds 0 0))))

-- what is accepted, with any way to read the sizes: a well formed job, and the twelve bytes of its sizes
pub record Accepted (read : List ℕ → FourSizes) (xs : List ℕ) (d : Job) : Type 0 where
  pub formed : WellFormed d
  pub sizes : List ℕ
  pub twelve : length sizes ≡ 12
  pub bytes : Bytes sizes
  pub sizes_are : sizes_of d ≡ read sizes
  pub written : laid sizes d ≡ xs

module _ (read : List ℕ → FourSizes) (xs : List ℕ) (b : Bytes xs) where
  -- the bytes up to the sizes, written
  front_written : (kinds sizes : List ℕ) (kind : Kind) → body_at 1 (between 1 1) 0 xs ≡ Ok kinds → kind_of (get_or kinds 0 0) ≡ Ok kind → body_at 2 (between 12 12) 4 (drop 4 xs) ≡ Ok sizes → xs ≡ field 1 (kind_number kind ∷ []) ++ (field 2 sizes ++ drop 19 xs)
  front_written kinds sizes kind first told second =
      let one = exact_read 1 1 0 xs kinds first in
      let twelve = exact_read 2 12 4 (drop 4 xs) sizes second in
      due_written 1 (between 1 1) 0 xs kinds first 4 (omega (arith, one)) b
      ∙ ap₂ (λ x y. field 1 x ++ y) (kinds_are kinds kind one told) (due_written 2 (between 12 12) 4 xs sizes second 19 (omega (arith, twelve)) b)

  -- the whole, line by line
  pub judged_accepted : IfOk (judged read xs) (Accepted read xs)
  judged_accepted =
      let P = Accepted read xs in
      then_ok P (body_at 1 (between 1 1) 0 xs) (past_head read xs) (λ kinds first.
      then_ok P (kind_of (get_or kinds 0 0)) (past_kind read xs) (λ kind told.
      then_ok P (body_at 2 (between 12 12) 4 (drop 4 xs)) (λ sizes. past_sizes xs kind (read sizes)) (λ sizes second.
      IfOk-weaker (past_sizes xs kind (read sizes)) (Ends xs kind (read sizes)) P
      (λ d ends. record {
        formed = ends.formed;
        sizes = sizes;
        twelve = exact_read 2 12 4 (drop 4 xs) sizes second;
        bytes = bytes_read 2 (between 12 12) 4 (drop 4 xs) sizes second (bytes_drop 4 xs b);
        sizes_are = ends.sizes_are;
        written = ap₂ (λ x y. field 1 (kind_number x ∷ []) ++ (field 2 sizes ++ y)) ends.kind_is ends.ends_are
            ∙ sym (front_written kinds sizes kind first told second);
      })
      (sizes_accepted xs b kind (read sizes)))))
