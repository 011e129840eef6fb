-- A field that is due at a place of the bytes xs, which is judged on what is left of them there.
use Rattle.std.proofs.Common.{◌≡◌, ℕ, ◌+◌, ◌≤◌, true, List, ◌++◌, length, drop, Ok, Option, IfErr, sym, refl, ap, ◌∙◌, arith, length-drop}
use Rattle.std.proofs.lemmas.List.{drop-drop}
use Rattle.layout.specs.declared.kinds.Lengths.{Lengths}
use Rattle.layout.specs.Fields.{field, legal, body_at}
use Rattle.layout.specs.Judging.{Bytes}
use Rattle.layout.proofs.Numbers.{bytes_drop}
use Rattle.layout.proofs.Fields.{field_read, after_field, within_read, field_written, field_placed, Placed}

module _ (tag : ℕ) (lengths : Option Lengths) (place : ℕ) (xs : List ℕ) where
  -- it is refused within xs
  pub due_placed : place ≤ length xs → IfErr (body_at tag lengths place (drop place xs)) (Placed (length xs))
  due_placed h = field_placed tag lengths place (length xs) (drop place xs) (omega (arith, length-drop place xs))

  module _ (body : List ℕ) (e : body_at tag lengths place (drop place xs) ≡ Ok body) where
    -- an accepted one lies within xs
    pub due_within : place + (3 + length body) ≤ length xs
    due_within = omega (arith, length-drop place xs, within_read tag lengths place (drop place xs) body e)

    -- what is left of xs there is the field as it is written, and what is left behind it
    pub due_written : (next : ℕ) → next ≡ place + (3 + length body) → Bytes xs → drop place xs ≡ field tag body ++ drop next xs
    due_written next is b =
        field_written tag lengths place (drop place xs) body e (bytes_drop place xs b)
        ∙ ap (λ ys. field tag body ++ ys) (drop-drop (3 + length body) place xs ∙ ap (λ i. drop i xs) (sym is))

  module _ (body rest : List ℕ) (e : drop place xs ≡ field tag body ++ rest) where
    -- one that is written there is read
    pub due_read : legal lengths (length body) ≡ true → body_at tag lengths place (drop place xs) ≡ Ok body
    due_read h = ap (body_at tag lengths place) e ∙ field_read tag lengths place body rest h

    -- what is behind it
    pub due_rest : (next : ℕ) → next ≡ place + (3 + length body) → drop next xs ≡ rest
    due_rest next is =
        ap (λ i. drop i xs) is ∙ sym (drop-drop (3 + length body) place xs) ∙ ap (drop (3 + length body)) e
        ∙ after_field tag (3 + length body) body rest refl
