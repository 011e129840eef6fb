-- The rows of a program read from bytes, written, and where they are refused.
use Rattle.std.proofs.Common.{◌≡◌, ℕ, zero, suc, ◌+◌, ◌<◌, ◌≤◌, true, List, [], ◌∷◌, ◌++◌, length, drop, None, Ok, IfSome, IfOk, IfErr, sym, refl, ap, ◌∙◌, arith, length-append, length-drop}
use Rattle.std.specs.List.{AllByRecursion}
use Rattle.std.proofs.lemmas.Option.{IfSome_then}
use Rattle.std.proofs.lemmas.Result.{IfOk-at_ok}
use Rattle.refusal.specs.declared.kinds.Fault.TheVariants.{Value}
use Rattle.layout.specs.Fields.{field, legal, body_at}
use Rattle.layout.specs.Programs.{Inner, entries}
use Rattle.layout.specs.Jobs.{fields}
use Rattle.layout.specs.Judging.{Bytes}
use Rattle.layout.proofs.Numbers.{bytes_drop}
use Rattle.layout.proofs.Chains.{then_at, unless_at, then_ok, unless_ok, then_err, unless_err}
use Rattle.layout.proofs.Fields.{field_read, after_field, length_field, legal_read, within_read, field_written, field_placed, Placed}

-- a body that an inner field may have
abbrev pub Right : Inner → List ℕ → Type 0
Right i b = (legal i.lengths (length b) ≡ true) × (i.wrong b ≡ None)

-- bodies that were written read as these bodies
pub entries_read : (i : Inner) (left place : ℕ) (bodies : List (List ℕ)) → length bodies ≤ left → AllByRecursion (Right i) bodies → entries i left place (fields i.tag bodies) ≡ Ok bodies
unfolding entries fields
entries_read i left place [] few right = refl
entries_read i zero place (b ∷ bs) few right = absurd (omega arith)
entries_read i (suc left) place (b ∷ bs) few right =
    let rest = fields i.tag bs in
    let next = 3 + length b + place in
    then_at (body_at i.tag i.lengths place (field i.tag b ++ rest)) _ b (field_read i.tag i.lengths place b rest right.0.0)
    ∙ unless_at (i.wrong b) Value (3 + place) _ right.0.1
    ∙ then_at (entries i left next (drop (3 + length b) (field i.tag b ++ rest))) (λ bodies. Ok (b ∷ bodies)) bs
    (ap (entries i left next) (after_field i.tag (3 + length b) b rest refl) ∙ entries_read i left next bs (omega arith) right.1)

-- what accepted bodies are: few enough, each of them right, and as long in all as the bytes
pub record Rows (i : Inner) (left : ℕ) (xs : List ℕ) (bodies : List (List ℕ)) : Type 0 where
  pub few : length bodies ≤ left
  pub spans : length (fields i.tag bodies) ≡ length xs
  pub right : AllByRecursion (Right i) bodies

-- accepted bodies are that
pub rows : (i : Inner) (left place : ℕ) (xs : List ℕ) → IfOk (entries i left place xs) (Rows i left xs)
unfolding entries fields
rows i left place [] = record { few = omega arith; spans = refl; right = tt }
rows i zero place (x ∷ xs) = tt
rows i (suc left) place (x ∷ xs) =
    let P = Rows i (suc left) (x ∷ xs) in
    then_ok P (body_at i.tag i.lengths place (x ∷ xs)) _ (λ body e.
    unless_ok P (i.wrong body) Value (3 + place) _ (λ fine.
    let rest = drop (3 + length body) (x ∷ xs) in
    let next = 3 + length body + place in
    then_ok P (entries i left next rest) (λ bodies. Ok (body ∷ bodies)) (λ bodies e'.
    let rs = IfOk-at_ok (Rows i left rest) e' (rows i left next rest) in
    record {
      few = omega (arith, rs.few);
      spans = omega (arith, rs.spans, within_read i.tag i.lengths place (x ∷ xs) body e, length-append (field i.tag body) (fields i.tag bodies), length_field i.tag body, length-drop (3 + length body) (x ∷ xs));
      right = ((legal_read i.tag i.lengths place (x ∷ xs) body e, fine), rs.right);
    })))

-- bytes are what the bodies that were read of them are written as
pub rows_written : (i : Inner) (left place : ℕ) (xs : List ℕ) → Bytes xs → IfOk (entries i left place xs) (λ bodies. fields i.tag bodies ≡ xs)
unfolding entries fields
rows_written i left place [] b = refl
rows_written i zero place (x ∷ xs) b = tt
rows_written i (suc left) place (x ∷ xs) b =
    let P = λ (bodies : List (List ℕ)). fields i.tag bodies ≡ x ∷ xs in
    then_ok P (body_at i.tag i.lengths place (x ∷ xs)) _ (λ body e.
    unless_ok P (i.wrong body) Value (3 + place) _ (λ fine.
    let rest = drop (3 + length body) (x ∷ xs) in
    let next = 3 + length body + place in
    then_ok P (entries i left next rest) (λ bodies. Ok (body ∷ bodies)) (λ bodies e'.
    let same = IfOk-at_ok (λ bodies. fields i.tag bodies ≡ rest) e' (rows_written i left next rest (bytes_drop (3 + length body) (x ∷ xs) b)) in
    ap (λ ys. field i.tag body ++ ys) same ∙ sym (field_written i.tag i.lengths place (x ∷ xs) body e b))))

-- rows are refused within their own bytes, if a wrong byte of a body lies in the body
pub rows_placed : (i : Inner) → ((b : List ℕ) → legal i.lengths (length b) ≡ true → IfSome (i.wrong b) (λ k. k < length b)) → (left place n : ℕ) (xs : List ℕ) → place + length xs ≡ n → IfErr (entries i left place xs) (Placed n)
unfolding entries
rows_placed i lies left place n [] e = tt
rows_placed i lies zero place n (x ∷ xs) e = omega arith
rows_placed i lies (suc left) place n (x ∷ xs) e =
    let P = Placed n in
    then_err P (body_at i.tag i.lengths place (x ∷ xs)) _ (field_placed i.tag i.lengths place n (x ∷ xs) e) (λ body was.
    let whole = within_read i.tag i.lengths place (x ∷ xs) body was in
    let rest = drop (3 + length body) (x ∷ xs) in
    let next = 3 + length body + place in
    unless_err P (i.wrong body) Value (3 + place) _
    (IfSome_then (i.wrong body) (lies body (legal_read i.tag i.lengths place (x ∷ xs) body was)) (λ k low. omega arith))
    (λ right. then_err P (entries i left next rest) (λ bodies. Ok (body ∷ bodies))
    (rows_placed i lies left next n rest (omega (arith, length-drop (3 + length body) (x ∷ xs)))) (λ bodies e'. tt)))
