-- A field of a job: a tag, the length of its body in two bytes, and the body. The first three bytes are its head.
--   field tag body               the bytes of a field
--   refuse fault place           the answer that refuses
--   then                         goes on with what was accepted; a refusal stays
--   unless wrong fault place     refuses at an offset from place if there is a wrong byte, and else goes on
--   size xs                      the length that the head at the front of xs gives
--   between least most           lengths from least to most
--   legal lengths n              a body may have the length n; where no lengths are given it may have any
--   body_at tag lengths place xs   the body of the field due at the front of xs, which begins at place:
--                                  its head, its tag, its length and its body are judged in this order
-- Assumes nothing.
use Rattle.std.specs.Prelude.{ℕ, ◌+◌, Bool, true, cond, ◌&&◌, List, ◌∷◌, ◌++◌, length, take, drop, Some, None, Ok, Err, Option, Result, ◌==◌, nat_le, slice_index}
use Rattle.refusal.specs.declared.kinds.Refusal.{Refusal}
use Rattle.refusal.specs.declared.kinds.Fault.{Fault}
use Rattle.refusal.specs.declared.kinds.Fault.TheVariants.{Cut, Tag, Length}
use Rattle.layout.specs.declared.kinds.Lengths.{Lengths}
use Rattle.layout.specs.Numbers.{number, spelling}

abbrev pub field : ℕ → List ℕ → List ℕ
field tag body = tag ∷ (spelling 2 (length body) ++ body)

abbrev pub refuse : {A : Type 0} → Fault → ℕ → Result A Refusal
refuse fault place = Err (record { fault = fault; place = place })

abbrev pub then : {A B : Type 0} → Result A Refusal → (A → Result B Refusal) → Result B Refusal
then (Ok x) go_on = go_on x
then (Err r) go_on = Err r

abbrev pub unless : {A : Type 0} → Option ℕ → Fault → ℕ → Result A Refusal → Result A Refusal
unless None fault place go_on = go_on
unless (Some offset) fault place go_on = refuse fault (place + offset)

abbrev pub size : List ℕ → ℕ
size xs = number (take 2 (drop 1 xs))

abbrev pub between : ℕ → ℕ → Option Lengths
between least most = Some (record { least = least; most = most })

abbrev pub legal : Option Lengths → ℕ → Bool
legal None n = true
legal (Some lengths) n = nat_le lengths.least n && nat_le n lengths.most

abbrev pub body_at : ℕ → Option Lengths → ℕ → List ℕ → Result (List ℕ) Refusal
body_at tag lengths place xs =
    cond (nat_le 3 (length xs))
    (cond (slice_index xs 0 == tag)
    (cond (legal lengths (size xs))
    (cond (nat_le (3 + size xs) (length xs)) (Ok (take (size xs) (drop 3 xs))) (refuse Cut place))
    (refuse Length place))
    (refuse Tag place))
    (refuse Cut place)
