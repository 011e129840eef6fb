-- The digit rule gives every entry of the list of moves.
use Rattle.std.proofs.Common.{◌≡◌, ℕ, zero, suc, ◌+◌, ◌-◌, ◌*◌, ◌/◌, ◌%◌, ◌^◌, ◌<◌, ◌≤◌, min, [], ◌∷◌, ◌++◌, length, get_or, Some, None, Option, unwrap_or, sym, refl, ap, ◌∙◌, subst, ap₂, ⊎_elim, add-zero, add_assoc, mul-le-mul_right, mod-eq_of_lt, suc-mul, add-mul, pow-suc, mul-zero, zero-add, mul-add, mul_left_comm, arith}
use native.Mathlib.Nat.{pow-zero, pow-succ', one-le-pow, mul-add-mod_self_left, mul-add-div}
use Rattle.std.proofs.lemmas.List.{get_or_append_left, get_or-append_right}
use Rattle.std.proofs.lemmas.Nat.{div-add-mod', div_below, mod_below}
use Rattle.std.proofs.lemmas.Bool.{cases_order}
use Rattle.std.proofs.lemmas.Bool.Decides.{nat_tests}
use Rattle.std.specs.Option.{option_or}
use Rattle.schedule.specs.declared.moves.Move.{Move}
use Rattle.schedule.specs.declared.moves.Change.{Change}
use Rattle.schedule.specs.declared.moves.Change.TheVariants.{Place, Remove}
use Rattle.schedule.specs.Moves.{rising, falling, moves}
use Rattle.schedule.specs.Sizes.{base, moves_count}
use Rattle.schedule.specs.Schedule.{build}
use Rattle.schedule.specs.Digits.{digit_says, digits_say, digit_segment, digit_move}
use Rattle.schedule.proofs.Joined.{length_rising, get_or_rising, get_or_falling}
use Rattle.schedule.proofs.Blocks.{block, moves_suc, length_moves}

-- a leading digit e above l + 1 others leaves the lowest digit, and stays the leading one of the quotient
lowest : (b e l t : ℕ) → (e * b ^ suc l + t) % b ≡ t % b
lowest b e l t = ap (λ x. (x + t) % b) (ap (λ x. e * x) (pow-succ' b l) ∙ mul_left_comm e b (b ^ l)) ∙ mul-add-mod_self_left b (e * b ^ l) t

others : (b e l t : ℕ) → 0 < b → (e * b ^ suc l + t) / b ≡ e * b ^ l + t / b
others b e l t p = ap (λ x. (x + t) / b) (ap (λ x. e * x) (pow-succ' b l) ∙ mul_left_comm e b (b ^ l)) ∙ mul-add-div p (e * b ^ l) t

fewer : (b l t : ℕ) → 0 < b → t < b ^ suc l → t / b < b ^ l
fewer b l t p h = div_below t b (b ^ l) p (subst (λ x. t < x) (pow-suc b l) h)

-- with no other digits the number is its leading digit
alone : (b e t : ℕ) → t < b ^ 0 → e * b ^ 0 + t ≡ e
alone b e t h = omega (arith, ap (λ x. e * x) (pow-zero b), pow-zero b)

abbrev pub made : Change → ℕ → Move
made c s = record { change = c; segment = s }

first : (m d : Move) (t : ℕ) → t ≡ 0 → get_or (m ∷ []) t d ≡ m
first m d t e = ap (λ x. get_or (m ∷ []) x d) e

or_none : {A : Type 0} (o : Option A) → option_or o None ≡ o
or_none None = refl
or_none (Some x) = refl

or_assoc : {A : Type 0} (o p q : Option A) → option_or o (option_or p q) ≡ option_or (option_or o p) q
or_assoc None p q = refl
or_assoc (Some x) p q = refl

or_value : {A : Type 0} (o p : Option A) (d : A) → unwrap_or (option_or o p) d ≡ unwrap_or o (unwrap_or p d)
or_value None p d = refl
or_value (Some x) p d = refl

module _ (w : ℕ) where
  leading_segment : (e l t : ℕ) → e < base (suc w) → t < base (suc w) ^ l → digit_segment (suc w) (suc l) (e * base (suc w) ^ l + t) ≡ min e (2 * w - e) * suc w ^ l + digit_segment (suc w) l t
  unfolding digit_segment
  leading_segment e zero t d h =
      ap (λ x. digit_segment (suc w) 1 x) (alone (base (suc w)) e t h)
      ∙ ap (λ x. min x (2 * w - x) + suc w * 0) (mod-eq_of_lt d)
      ∙ omega (arith, mul-zero (suc w), ap (λ x. min e (2 * w - e) * x) (pow-zero (suc w)))
  leading_segment e (suc l) t d h =
      let p : 0 < base (suc w) = omega arith in
      let lead : ℕ = min e (2 * w - e) in
      let low : ℕ = min (t % base (suc w)) (2 * w - t % base (suc w)) in
      let rest : ℕ = digit_segment (suc w) l (t / base (suc w)) in
      ap₂ (λ x y. min x (2 * w - x) + suc w * digit_segment (suc w) (suc l) y) (lowest (base (suc w)) e l t) (others (base (suc w)) e l t p)
      ∙ ap (λ x. low + suc w * x) (leading_segment e l (t / base (suc w)) d (fewer (base (suc w)) l t p h))
      ∙ regroup low lead (suc w) (suc w ^ l) (suc w ^ suc l) rest (pow-succ' (suc w) l)
    where
      regroup : (low lead k p q r : ℕ) → q ≡ k * p → low + k * (lead * p + r) ≡ lead * q + (low + k * r)
      regroup low lead k p q r e =
          omega (arith, mul-add k (lead * p) r, mul_left_comm k lead p, ap (λ x. lead * x) e)

  leading_says : (e l t : ℕ) → e < base (suc w) → t < base (suc w) ^ l → digits_say (suc w) (suc l) (e * base (suc w) ^ l + t) ≡ option_or (digits_say (suc w) l t) (digit_says w e)
  unfolding digits_say
  leading_says e zero t d h =
      ap (λ x. digits_say (suc w) 1 x) (alone (base (suc w)) e t h)
      ∙ ap (λ x. option_or (digit_says w x) None) (mod-eq_of_lt d)
      ∙ or_none (digit_says w e)
  leading_says e (suc l) t d h =
      let p : 0 < base (suc w) = omega arith in
      ap₂ (λ x y. option_or (digit_says w x) (digits_say (suc w) (suc l) y)) (lowest (base (suc w)) e l t) (others (base (suc w)) e l t p)
      ∙ ap (λ x. option_or (digit_says w (t % base (suc w))) x) (leading_says e l (t / base (suc w)) d (fewer (base (suc w)) l t p h))
      ∙ or_assoc (digit_says w (t % base (suc w))) (digits_say (suc w) l (t / base (suc w))) (digit_says w e)

  -- the change of a move in the block that the digit e names, in a list of change c
  abbrev by_digit : ℕ → Change → Change
  by_digit e c = unwrap_or (digit_says w e) c

  digit_below : (e : ℕ) (c : Change) → e < w → by_digit e c ≡ Place
  digit_below e c h = grind (arith, nat_tests)

  digit_middle : (e : ℕ) (c : Change) → e ≡ w → by_digit e c ≡ c
  digit_middle e c h = grind (arith, nat_tests)

  digit_above : (e : ℕ) (c : Change) → w < e → by_digit e c ≡ Remove
  digit_above e c h = grind (arith, nat_tests)

  -- entry t of the block that the leading digit e names
  Entry : Change → ℕ → ℕ → ℕ → ℕ → Move → Type 0
  Entry c l a e t d =
      get_or (moves (suc w) c (suc l) a) (e * base (suc w) ^ l + t) d
      ≡ get_or (block w (by_digit e c) l a (min e (2 * w - e))) t d

  module _ (c : Change) (l a e t : ℕ) (d : Move) (inside : t < base (suc w) ^ l) where
    up_length : length (rising (block w Place l a) w) ≡ w * base (suc w) ^ l
    up_length = length_rising (block w Place l a) (base (suc w) ^ l) (λ i. length_moves w Place l (a + i * suc w ^ l)) w

    named : (c' : Change) (i : ℕ) → by_digit e c ≡ c' → min e (2 * w - e) ≡ i → get_or (block w c' l a i) t d ≡ get_or (block w (by_digit e c) l a (min e (2 * w - e))) t d
    named c' i p q = ap₂ (λ x y. get_or (block w x l a y) t d) (sym p) (sym q)

    entry_up : e < w → Entry c l a e t d
    unfolding Entry
    entry_up h =
        let size : ℕ = base (suc w) ^ l in
        ap (λ ms. get_or ms (e * base (suc w) ^ l + t) d) (moves_suc w c l a)
        ∙ get_or_append_left (rising (block w Place l a) w) (block w c l a w ++ falling (block w Remove l a) w) d
        (e * base (suc w) ^ l + t) (omega (arith, up_length, mul-le-mul_right {m = suc e} {n = w} (base (suc w) ^ l) h, suc-mul e (base (suc w) ^ l)))
        ∙ get_or_rising (block w Place l a) (base (suc w) ^ l) (λ i. length_moves w Place l (a + i * suc w ^ l)) w e t d h inside
        ∙ named Place e (digit_below e c h) (omega arith)

    entry_middle : e ≡ w → Entry c l a e t d
    unfolding Entry
    entry_middle h =
        let same : e * base (suc w) ^ l ≡ w * base (suc w) ^ l = ap (λ x. x * base (suc w) ^ l) h in
        ap (λ ms. get_or ms (e * base (suc w) ^ l + t) d) (moves_suc w c l a)
        ∙ get_or-append_right (rising (block w Place l a) w) (block w c l a w ++ falling (block w Remove l a) w)
        (w * base (suc w) ^ l) (e * base (suc w) ^ l + t) d up_length (omega arith)
        ∙ ap (λ x. get_or (block w c l a w ++ falling (block w Remove l a) w) x d) (omega arith)
        ∙ get_or_append_left (block w c l a w) (falling (block w Remove l a) w) d t (omega (arith, length_moves w c l (a + w * suc w ^ l)))
        ∙ named c w (digit_middle e c h) (omega arith)

    -- the digit w + 1 + i names the block w - 1 - i
    entry_down : (i j : ℕ) → e ≡ suc (w + i) → suc (i + j) ≡ w → Entry c l a e t d
    unfolding Entry
    entry_down i j h g =
        let size : ℕ = base (suc w) ^ l in
        let place : e * base (suc w) ^ l ≡ w * base (suc w) ^ l + (i * base (suc w) ^ l + base (suc w) ^ l) =
        ap (λ x. x * base (suc w) ^ l) h ∙ suc-mul (w + i) (base (suc w) ^ l)
        ∙ ap (λ x. x + base (suc w) ^ l) (add-mul w i (base (suc w) ^ l)) ∙ add_assoc (w * base (suc w) ^ l) (i * base (suc w) ^ l) (base (suc w) ^ l) in
        ap (λ ms. get_or ms (e * base (suc w) ^ l + t) d) (moves_suc w c l a)
        ∙ get_or-append_right (rising (block w Place l a) w) (block w c l a w ++ falling (block w Remove l a) w)
        (w * base (suc w) ^ l) (e * base (suc w) ^ l + t) d up_length (omega arith)
        ∙ get_or-append_right (block w c l a w) (falling (block w Remove l a) w) (base (suc w) ^ l) (e * base (suc w) ^ l + t - w * base (suc w) ^ l) d
        (length_moves w c l (a + w * suc w ^ l)) (omega arith)
        ∙ ap (λ x. get_or (falling (block w Remove l a) w) x d) (omega arith)
        ∙ get_or_falling (block w Remove l a) (base (suc w) ^ l) (λ i. length_moves w Remove l (a + i * suc w ^ l)) w i j t d g inside
        ∙ named Remove j (digit_above e c (omega arith)) (omega arith)

    entry : e < base (suc w) → Entry c l a e t d
    entry h =
        ⊎_elim entry_middle
        (⊎_elim entry_up (λ (above : w < e). entry_down (e - suc w) (2 * w - e) (omega arith) (omega arith)))
        (cases_order e w)

  -- the entry is what the digits of its place say
  Agrees : Change → ℕ → ℕ → ℕ → Move → Type 0
  Agrees c l a t d = get_or (moves (suc w) c l a) t d ≡ made (unwrap_or (digits_say (suc w) l t) c) (a + digit_segment (suc w) l t)

  agrees_above : (c : Change) (l a t : ℕ) (d : Move) → ((c : Change) (a t : ℕ) → t < base (suc w) ^ l → Agrees c l a t d) → t < base (suc w) ^ suc l → Agrees c (suc l) a t d
  unfolding Agrees Entry
  agrees_above c l a t d below h =
      let b : ℕ = base (suc w) in
      let pos : 0 < base (suc w) ^ l = one-le-pow l (base (suc w)) (omega arith) in
      let e : ℕ = t / base (suc w) ^ l in
      let r : ℕ = t % base (suc w) ^ l in
      let whole : e * base (suc w) ^ l + r ≡ t = div-add-mod' t (base (suc w) ^ l) in
      let small : r < base (suc w) ^ l = mod_below t (base (suc w) ^ l) pos in
      let digit : e < base (suc w) = div_below t (base (suc w) ^ l) (base (suc w)) pos (subst (λ x. t < x) (pow-succ' (base (suc w)) l) h) in
      ap (λ x. get_or (moves (suc w) c (suc l) a) x d) (sym whole)
      ∙ entry c l a e r d small digit
      ∙ below (by_digit e c) (a + min e (2 * w - e) * suc w ^ l) r small
      ∙ ap₂ made
      (sym (or_value (digits_say (suc w) l r) (digit_says w e) c) ∙ ap (λ o. unwrap_or o c) (sym (leading_says e l r digit small) ∙ ap (digits_say (suc w) (suc l)) whole))
      (add_assoc a (min e (2 * w - e) * suc w ^ l) (digit_segment (suc w) l r)
      ∙ ap (λ x. a + x) (sym (leading_segment e l r digit small) ∙ ap (digit_segment (suc w) (suc l)) whole))

  pub entries : (c : Change) (l a t : ℕ) (d : Move) → t < base (suc w) ^ l → get_or (moves (suc w) c l a) t d ≡ made (unwrap_or (digits_say (suc w) l t) c) (a + digit_segment (suc w) l t)
  unfolding moves digits_say digit_segment Agrees
  entries Place zero a t d h = first _ d t (omega (arith, pow-zero (base (suc w)))) ∙ ap (made Place) (sym (add-zero a))
  entries Remove zero a t d h = first _ d t (omega (arith, pow-zero (base (suc w)))) ∙ ap (made Remove) (sym (add-zero a))
  entries c (suc l) a t d h = agrees_above c l a t d (λ c a t. entries c l a t d) h

-- the build itself, at every fan-out
pub entry_at : (k n t : ℕ) (d : Move) → 2 ≤ k → t < moves_count k n → get_or (build k n) t d ≡ digit_move k n t
entry_at zero n t d h g = absurd (omega arith)
entry_at (suc w) n t d h g = entries w Place n 0 t d g ∙ ap (made (unwrap_or (digits_say (suc w) n t) Place)) (zero-add (digit_segment (suc w) n t))
