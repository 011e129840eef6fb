-- A field's head, taken apart as its tag and the two bytes of its length.
use Rattle.std.proofs.Common.{◌≡◌, ℕ, ◌+◌, ◌*◌, ◌<◌, ◌≤◌, true, false, List, [], ◌∷◌, length, get_or, take, drop, Ok, Option, refl, arith}
use Rattle.std.proofs.lemmas.Bool.{le-leb, lt-leb, eq-eqb}
use Rattle.refusal.specs.declared.kinds.Fault.TheVariants.{Cut, Length}
use Rattle.layout.specs.declared.kinds.Lengths.{Lengths}
use Rattle.layout.specs.Numbers.{number}
use Rattle.layout.specs.Fields.{refuse, size, legal, body_at}

-- the length that a head gives
pub size_read : (xs : List ℕ) (n : ℕ) → 3 ≤ length xs → n ≡ get_or xs 1 0 * 256 + get_or xs 2 0 → size xs ≡ n
unfolding number
size_read [] n h e = absurd (omega arith)
size_read (a ∷ []) n h e = absurd (omega arith)
size_read (a ∷ b ∷ []) n h e = absurd (omega arith)
size_read (a ∷ b ∷ c ∷ xs) n h e = omega arith

module _ (tag : ℕ) (lengths : Option Lengths) (place : ℕ) (xs : List ℕ) (n : ℕ) (whole : 3 ≤ length xs) (due : get_or xs 0 0 ≡ tag) (long : size xs ≡ n) where
  pub length_refused : legal lengths n ≡ false → body_at tag lengths place xs ≡ refuse Length place
  length_refused bad = rw (le-leb 3 (length xs) whole) (rw (eq-eqb (get_or xs 0 0) tag due) (rw long (rw bad refl)))

  pub body_cut : legal lengths n ≡ true → length xs < 3 + n → body_at tag lengths place xs ≡ refuse Cut place
  body_cut good short =
      rw (le-leb 3 (length xs) whole) (rw (eq-eqb (get_or xs 0 0) tag due) (rw long (rw good (rw (lt-leb (3 + n) (length xs) short) refl))))

  pub body_there : legal lengths n ≡ true → 3 + n ≤ length xs → body_at tag lengths place xs ≡ Ok (take n (drop 3 xs))
  body_there good fits =
      rw (le-leb 3 (length xs) whole) (rw (eq-eqb (get_or xs 0 0) tag due) (rw long (rw good (rw (le-leb (3 + n) (length xs) fits) refl))))
