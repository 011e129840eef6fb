-- A field read from bytes: what a field that was written reads as, what an accepted field says of the bytes, and where a refusal lies.
use Rattle.std.proofs.Common.{◌≡◌, ℕ, ◌+◌, ◌≤◌, true, eqb, leb, List, [], ◌∷◌, ◌++◌, length, get_or, take, drop, Ok, Err, Option, Result, IfErr, sym, refl, ap, ◌∙◌, ap₂, subst, append_assoc, arith, length-append, length-drop}
use Rattle.std.proofs.lemmas.List.{take_at, drop_at, drop-drop, length-take-le, take-append-drop}
use Rattle.std.proofs.lemmas.Bool.{leb-true, le-leb, eqb-true, eq-eqb, cond-true, and_parts}
use Rattle.std.proofs.lemmas.Result.{IfOk-at_ok}
use Rattle.refusal.specs.declared.kinds.Refusal.{Refusal}
use Rattle.refusal.specs.declared.kinds.Fault.{Fault}
use Rattle.refusal.specs.declared.kinds.Fault.TheVariants.{Cut, Tag, Length, Value, Count, Tail, Sizes, Shelf, Trail, End, Allowance, Room}
use Rattle.layout.specs.declared.kinds.Lengths.{Lengths}
use Rattle.layout.specs.Numbers.{number, spelling}
use Rattle.layout.specs.Fields.{field, between, size, legal, body_at}
use Rattle.layout.specs.Judging.{Bytes}
use Rattle.layout.specs.Laws.{Possible}
use Rattle.layout.proofs.Numbers.{length_spelling, number_spelling, spelling_number, bytes_take, bytes_drop}
use Rattle.layout.proofs.Chains.{cond_ok, cond_err}

-- a field is three bytes longer than its body
pub length_field : (tag : ℕ) (body : List ℕ) → length (field tag body) ≡ 3 + length body
length_field tag body = omega (arith, length-append (spelling 2 (length body)) body, length_spelling 2 (length body))

-- the length that the head of a written field gives
pub size_field : (tag : ℕ) (body rest : List ℕ) → size (field tag body ++ rest) ≡ length body
size_field tag body rest =
    ap number (ap (take 2) (append_assoc (spelling 2 (length body)) body rest) ∙ take_at (spelling 2 (length body)) (body ++ rest) 2 (length_spelling 2 (length body)))
    ∙ number_spelling 1 (length body)

-- what is behind the head of a written field
pub after_head : (tag : ℕ) (body rest : List ℕ) → drop 3 (field tag body ++ rest) ≡ body ++ rest
after_head tag body rest =
    ap (drop 2) (append_assoc (spelling 2 (length body)) body rest) ∙ drop_at (spelling 2 (length body)) (body ++ rest) 2 (length_spelling 2 (length body))

-- what is behind a written field
pub after_field : (tag n : ℕ) (body rest : List ℕ) → n ≡ 3 + length body → drop n (field tag body ++ rest) ≡ rest
after_field tag n body rest e = drop_at (field tag body) rest n (length_field tag body ∙ sym e)

-- a field that was written reads as its body
pub field_read : (tag : ℕ) (lengths : Option Lengths) (place : ℕ) (body rest : List ℕ) → legal lengths (length body) ≡ true → body_at tag lengths place (field tag body ++ rest) ≡ Ok body
field_read tag lengths place body rest e =
    let xs = field tag body ++ rest in
    let n : size xs ≡ length body = size_field tag body rest in
    let long : length xs ≡ 3 + length body + length rest = omega (arith, length-append (field tag body) rest, length_field tag body) in
    cond-true (leb 3 (length xs)) _ _ (le-leb 3 (length xs) (omega arith))
    ∙ cond-true (eqb tag tag) _ _ (eq-eqb tag tag refl)
    ∙ cond-true (legal lengths (size xs)) _ _ (ap (legal lengths) n ∙ e)
    ∙ cond-true (leb (3 + size xs) (length xs)) _ _ (le-leb (3 + size xs) (length xs) (omega arith))
    ∙ ap Ok (ap₂ (λ s ys. take s ys) n (after_head tag body rest) ∙ take_at body rest (length body) refl)

-- a length between two numbers
pub between_parts : (least most n : ℕ) → legal (between least most) n ≡ true → (least ≤ n) × (n ≤ most)
between_parts least most n e =
    let parts = and_parts (leb least n) (leb n most) e in
    (leb-true least n parts.0, leb-true n most parts.1)

-- the head of bytes is the tag and the length that it gives
head_is : (xs : List ℕ) → Bytes xs → 3 ≤ length xs → xs ≡ get_or xs 0 0 ∷ (spelling 2 (size xs) ++ drop 3 xs)
head_is [] b h = absurd (omega arith)
head_is (x ∷ []) b h = absurd (omega arith)
head_is (x ∷ y ∷ []) b h = absurd (omega arith)
head_is (x ∷ y ∷ z ∷ rest) b h =
    ap (λ ys. x ∷ (ys ++ rest)) (sym (spelling_number (y ∷ z ∷ []) (b.1.0, (b.1.1.0, tt))))

-- what an accepted field says, line by line
record Reads (tag : ℕ) (lengths : Option Lengths) (xs body : List ℕ) : Type 0 where
  head : 3 ≤ length xs
  tagged : get_or xs 0 0 ≡ tag
  fits : legal lengths (size xs) ≡ true
  whole : 3 + size xs ≤ length xs
  is : take (size xs) (drop 3 xs) ≡ body

module _ (tag : ℕ) (lengths : Option Lengths) (place : ℕ) (xs body : List ℕ) (e : body_at tag lengths place xs ≡ Ok body) where
  -- an accepted field says that
  read : Reads tag lengths xs body
  read =
      let P = Reads tag lengths xs in
      IfOk-at_ok P e
      (cond_ok P (leb 3 (length xs)) _ Cut place (λ h.
      cond_ok P (eqb (get_or xs 0 0) tag) _ Tag place (λ t.
      cond_ok P (legal lengths (size xs)) _ Length place (λ l.
      cond_ok P (leb (3 + size xs) (length xs)) (Ok (take (size xs) (drop 3 xs))) Cut place (λ w.
      record { head = leb-true 3 (length xs) h; tagged = eqb-true (get_or xs 0 0) tag t; fits = l; whole = leb-true (3 + size xs) (length xs) w; is = refl })))))

  -- an accepted body has the length that its head gives
  length_read : length body ≡ size xs
  length_read = sym (ap length read.is) ∙ length-take-le (size xs) (drop 3 xs) (omega (arith, read.whole, length-drop 3 xs))

  -- it is a legal one
  pub legal_read : legal lengths (length body) ≡ true
  legal_read = ap (legal lengths) length_read ∙ read.fits

  -- the field lies within the bytes
  pub within_read : 3 + length body ≤ length xs
  within_read = omega (arith, read.whole, length_read)

  -- a body of bytes is bytes
  pub bytes_read : Bytes xs → Bytes body
  bytes_read b = subst Bytes read.is (bytes_take (size xs) (drop 3 xs) (bytes_drop 3 xs b))

  -- behind the head there is the body, and then what is behind the field
  behind_head : drop 3 xs ≡ body ++ drop (3 + length body) xs
  behind_head =
      sym (take-append-drop (size xs) (drop 3 xs))
      ∙ ap₂ (λ x y. x ++ y) read.is (drop-drop (size xs) 3 xs ∙ ap (λ s. drop (3 + s) xs) (sym length_read))

  -- bytes are the field that was read of them, as it is written, and what is behind it
  pub field_written : Bytes xs → xs ≡ field tag body ++ drop (3 + length body) xs
  field_written b =
      head_is xs b read.head
      ∙ ap₂ (λ t s. t ∷ (spelling 2 s ++ drop 3 xs)) read.tagged (sym length_read)
      ∙ ap (λ ys. tag ∷ (spelling 2 (length body) ++ ys)) behind_head
      ∙ ap (λ ys. tag ∷ ys) (sym (append_assoc (spelling 2 (length body)) body (drop (3 + length body) xs)))

-- the length of a body that may have one length only
pub exact_read : (tag n place : ℕ) (xs body : List ℕ) → body_at tag (between n n) place xs ≡ Ok body → length body ≡ n
exact_read tag n place xs body e =
    let parts = between_parts n n (length body) (legal_read tag (between n n) place xs body e) in
    omega arith

-- a place that is possible stays so in more bytes
pub possible_more : (m n place : ℕ) (fault : Fault) → m ≤ n → Possible m place fault → Possible n place fault
possible_more m n place Cut h p = omega arith
possible_more m n place Tag h p = omega arith
possible_more m n place Length h p = omega arith
possible_more m n place Value h p = omega arith
possible_more m n place Count h p = omega arith
possible_more m n place Tail h p = omega arith
possible_more m n place Sizes h p = omega arith
possible_more m n place Shelf h p = p
possible_more m n place Trail h p = p
possible_more m n place End h p = p
possible_more m n place Allowance h p = p
possible_more m n place Room h p = p

-- a refusal that lies within n bytes
abbrev pub Placed : ℕ → Refusal → Type 0
Placed n r = Possible n r.place r.fault

-- a refusal that lies within m bytes lies within more
pub placed_more : {A : Type 0} (m n : ℕ) (r : Result A Refusal) → m ≤ n → IfErr r (Placed m) → IfErr r (Placed n)
placed_more m n (Ok x) h p = tt
placed_more m n (Err z) h p = possible_more m n z.place z.fault h p

-- a field is refused at its own place, which is the end of the bytes at most
pub field_placed : (tag : ℕ) (lengths : Option Lengths) (place n : ℕ) (xs : List ℕ) → place + length xs ≡ n → IfErr (body_at tag lengths place xs) (Placed n)
field_placed tag lengths place n xs e =
    let P = Placed n in
    cond_err P (leb 3 (length xs)) _ Cut place (λ short. omega arith) (λ h.
    let long : 3 ≤ length xs = leb-true 3 (length xs) h in
    cond_err P (eqb (get_or xs 0 0) tag) _ Tag place (λ other. omega arith) (λ t.
    cond_err P (legal lengths (size xs)) _ Length place (λ off. omega arith) (λ l.
    cond_err P (leb (3 + size xs) (length xs)) (Ok (take (size xs) (drop 3 xs))) Cut place (λ short. omega arith) (λ w. tt))))
