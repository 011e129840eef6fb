-- The values in the body of an instruction or a rule, as the code takes them.
use Rattle.std.proofs.Common.{◌≡◌, ℕ, suc, ◌+◌, ◌*◌, ◌<◌, ◌≤◌, take, drop, Bool, true, false, cond, not, ltb, List, [], ◌∷◌, length, get_or, Some, None, sym, refl, ap, ◌∙◌, ap₂, ◌^◌, length-drop, arith}
use Rattle.std.specs.Prelude.{◌==◌}
use Rattle.std.specs.List.{position, position_or_len}
use Rattle.std.specs.Option.{option_map}
use Rattle.std.proofs.lemmas.Bool.{lt-ltb}
use Rattle.std.proofs.lemmas.List.{drop-drop, get_or-drop, length-take-le}
use Rattle.std.proofs.lemmas.Grind.{common_steps}
use Rattle.layout.specs.Judging.{number_at}
use Rattle.layout.specs.Numbers.{number}
use Rattle.layout.specs.Programs.{second, first_zero}

-- the second operand is spelt by the last two of four bytes
pub second_read : (xs : List ℕ) → length xs ≡ 4 → second xs ≡ get_or xs 2 0 * 256 + get_or xs 3 0
unfolding number
second_read [] h = absurd (omega arith)
second_read (a ∷ []) h = absurd (omega arith)
second_read (a ∷ b ∷ []) h = absurd (omega arith)
second_read (a ∷ b ∷ c ∷ []) h = absurd (omega arith)
second_read (a ∷ b ∷ c ∷ d ∷ []) h = omega arith
second_read (a ∷ b ∷ c ∷ d ∷ e ∷ xs) h = absurd (omega arith)

-- behind an element that is not 0, one place on
zero_on : (n m : ℕ) → option_map suc (cond (ltb n m) (Some n) None) ≡ cond (ltb (1 + n) (suc m)) (Some (1 + n)) None
zero_on n m = grind (arith, common_steps)

-- the first 0 is the first place where an element is 0
pub zero_at : (xs : List ℕ) → position (λ x. x == 0) xs ≡ first_zero xs
unfolding first_zero
zero_at [] = refl
zero_at (x ∷ xs) = by (x == 0) (zero_at xs)
  where
    by : (b : Bool) → position (λ x. x == 0) xs ≡ first_zero xs → cond (ltb (cond (not b) (1 + position_or_len (λ x. x == 0) xs) 0) (suc (length xs))) (Some (cond (not b) (1 + position_or_len (λ x. x == 0) xs) 0)) None ≡ cond b (Some 0) (option_map suc (first_zero xs))
    by true so = rw (lt-ltb 0 (suc (length xs)) (omega arith)) refl
    by false so = sym (zero_on (position_or_len (λ x. x == 0) xs) (length xs)) ∙ ap (option_map suc) so

-- a number's first byte counts most
number_front : (n : ℕ) (xs : List ℕ) → suc n ≤ length xs → number (take (suc n) xs) ≡ get_or xs 0 0 * 256 ^ n + number (take n (drop 1 xs))
unfolding number
number_front n [] h = absurd (omega arith)
number_front n (x ∷ xs) h = ap (λ k. x * 256 ^ k + number (take n xs)) (length-take-le n xs (omega arith))

number_step : (i n : ℕ) (xs : List ℕ) → i + suc n ≤ length xs → number_at i (suc n) xs ≡ get_or xs i 0 * 256 ^ n + number_at (i + 1) n xs
number_step i n xs h =
    number_front n (drop i xs) (omega (arith, length-drop i xs))
    ∙ ap₂ (λ a ys. a * 256 ^ n + number (take n ys)) (get_or-drop i xs 0 0 ∙ ap (λ k. get_or xs k 0) (omega arith)) (drop-drop 1 i xs ∙ ap (λ k. drop k xs) (omega arith))

number_none : (i : ℕ) (xs : List ℕ) → number_at i 0 xs ≡ 0
unfolding number
number_none i xs = refl

-- the four numbers in twelve bytes
module _ (xs : List ℕ) (twelve : length xs ≡ 12) where
  pub one_at : (i : ℕ) → i < 12 → number_at i 1 xs ≡ get_or xs i 0
  one_at i h = omega (arith, number_step i 0 xs (omega arith), number_none (i + 1) xs)

  pub two_at : number_at 2 2 xs ≡ get_or xs 2 0 * 256 + get_or xs 3 0
  two_at = omega (arith, number_step 2 1 xs (omega arith), one_at 3 (omega arith))

  pub eight_at : number_at 4 8 xs ≡ ((((((get_or xs 4 0 * 256 + get_or xs 5 0) * 256 + get_or xs 6 0) * 256 + get_or xs 7 0) * 256 + get_or xs 8 0) * 256 + get_or xs 9 0) * 256 + get_or xs 10 0) * 256 + get_or xs 11 0
  eight_at =
      omega (
        arith,
        number_step 4 7 xs (omega arith),
        number_step 5 6 xs (omega arith),
        number_step 6 5 xs (omega arith),
        number_step 7 4 xs (omega arith),
        number_step 8 3 xs (omega arith),
        number_step 9 2 xs (omega arith),
        number_step 10 1 xs (omega arith),
        one_at 11 (omega arith),
      )
