-- In which slot a multiple of a power of the fan-out lies.
use Rattle.std.proofs.Common.{◌≡◌, ℕ, zero, suc, ◌+◌, ◌-◌, ◌*◌, ◌/◌, ◌%◌, ◌^◌, ◌<◌, ◌≤◌, eqb, ◌⊎◌, sym, ap, ◌∙◌, subst, ap₂, inl, inr, ⊎_elim, mod-lt, mod-eq_of_lt, mul_assoc, suc-mul, mul_comm, add-mul, lt_of_mul-lt-mul_right, suc-add, mul-zero, zero-add, mul-one, mul-add, mul_left_comm, arith, pow-add}
use native.Mathlib.Nat.{pow-zero, pow-succ', one-le-pow, mul-add-mod_self_left, mul-mod_right, mul-div_right, eq_of_mul-eq-mul_right, div-add-mod, lt_of_mul-lt-mul_left}
use Rattle.std.proofs.lemmas.Bool.{cases_eq, eq-eqb, ne_eqb, eqb-false, cond-true, cond-false, cond_both}
use Rattle.std.proofs.lemmas.Bool.Decides.{nat_tests}
use Rattle.schedule.specs.Slots.{digit_slot, slot, LowestDigit, Shelving}

module _ (w : ℕ) (pos : 0 < w) where
  -- a multiple of the fan-out takes the row above that of its quotient
  up_one_row : (r q : ℕ) → digit_slot (suc w) (suc r) (suc w * q) ≡ w + digit_slot (suc w) r q
  unfolding digit_slot
  up_one_row r q =
      cond-true (eqb (suc w * q % suc w) 0) (w + digit_slot (suc w) r (suc w * q / suc w)) (suc w * q % suc w) (eq-eqb (suc w * q % suc w) 0 (mul-mod_right (suc w) q))
      ∙ ap (λ x. w + digit_slot (suc w) r x) (mul-div_right q (omega arith))

  lowest_row : (r q d : ℕ) → 0 < d → d < suc w → digit_slot (suc w) (suc r) (suc w * q + d) ≡ d
  unfolding digit_slot
  lowest_row r q d h g =
      let m : (suc w * q + d) % suc w ≡ d = mul-add-mod_self_left (suc w) q d ∙ mod-eq_of_lt g in
      cond-false (eqb ((suc w * q + d) % suc w) 0) (w + digit_slot (suc w) r ((suc w * q + d) / suc w)) ((suc w * q + d) % suc w)
      (ne_eqb ((suc w * q + d) % suc w) 0 (λ e. omega arith))
      ∙ m

  digit_slot_pos : (r j : ℕ) → 0 < j → j < suc w ^ r → 0 < digit_slot (suc w) r j
  unfolding digit_slot
  digit_slot_pos zero j h g = absurd (omega (arith, pow-zero (suc w)))
  digit_slot_pos (suc r) j h g =
      cond_both (eqb (j % suc w) 0) (w + digit_slot (suc w) r (j / suc w)) (j % suc w) (λ x. 0 < x)
      (λ e. omega arith) (λ e. omega (arith, eqb-false (j % suc w) 0 e))

  pub digit_slot_le : (r j : ℕ) → digit_slot (suc w) r j ≤ r * w
  unfolding digit_slot
  digit_slot_le zero j = omega arith
  digit_slot_le (suc r) j =
      cond_both (eqb (j % suc w) 0) (w + digit_slot (suc w) r (j / suc w)) (j % suc w) (λ x. x ≤ suc r * w)
      (λ e. omega (arith, digit_slot_le r (j / suc w), suc-mul r w))
      (λ e. omega (arith, suc-mul r w, mod-lt j {m = suc w} (omega arith)))

  factor : (l c : ℕ) → c * suc w ^ suc l ≡ suc w * (c * suc w ^ l)
  factor l c = ap (λ x. c * x) (pow-succ' (suc w) l) ∙ mul_left_comm c (suc w) (suc w ^ l)

  rows_up : (l r c : ℕ) → digit_slot (suc w) (l + r) (c * suc w ^ l) ≡ l * w + digit_slot (suc w) r c
  rows_up zero r c =
      ap₂ (λ x y. digit_slot (suc w) x y) (zero-add r) (ap (λ x. c * x) (pow-zero (suc w)) ∙ mul-one c)
      ∙ omega arith
  rows_up (suc l) r c =
      ap₂ (λ x y. digit_slot (suc w) x y) (suc-add l r) (factor l c)
      ∙ up_one_row (l + r) (c * suc w ^ l)
      ∙ omega (arith, rows_up l r c, suc-mul l w)

  joined : (l c d : ℕ) → c * suc w ^ suc l + d * suc w ^ l ≡ (suc w * c + d) * suc w ^ l
  joined l c d = omega (arith, factor l c, sym (mul_assoc (suc w) c (suc w ^ l)), add-mul (suc w * c) d (suc w ^ l))

  -- what has a digit d at place l is no higher power
  not_last : (l r c d : ℕ) → 0 < d → d < suc w → c * suc w ^ suc l + d * suc w ^ l ≡ suc w ^ (l + suc r) → ⊥
  not_last l r c d h g e =
      let q : suc w * c + d ≡ suc w * suc w ^ r =
      eq_of_mul-eq-mul_right (suc w ^ l) (one-le-pow l (suc w) (omega arith)) (suc w * c + d) (suc w * suc w ^ r)
      (sym (joined l c d) ∙ e ∙ pow-add (suc w) l (suc r) ∙ mul_comm (suc w ^ l) (suc w ^ suc r) ∙ ap (λ x. x * suc w ^ l) (pow-succ' (suc w) r)) in
      let m : d ≡ 0 = sym (mod-eq_of_lt g) ∙ sym (mul-add-mod_self_left (suc w) c d) ∙ ap (λ x. x % suc w) q ∙ mul-mod_right (suc w) (suc w ^ r) in
      omega arith

  pub slot_last : (n : ℕ) → slot (suc w) n (suc w ^ n) ≡ 0
  slot_last n = grind (arith, nat_tests)

  slot_else : (n j : ℕ) → (j ≡ suc w ^ n → ⊥) → slot (suc w) n j ≡ digit_slot (suc w) n j
  slot_else n j h = grind (arith, nat_tests)

  pub slot_le : (n j : ℕ) → slot (suc w) n j ≤ n * w
  slot_le n j = grind (arith, nat_tests, digit_slot_le)

  -- the checkpoints of one level lie in the row of that level
  pub slot_row : (n l c d : ℕ) → l < n → 0 < d → d < suc w → slot (suc w) n (c * suc w ^ suc l + d * suc w ^ l) ≡ l * w + d
  slot_row n l c d below h g =
      let r : ℕ = n - suc l in
      let e : l + suc (n - suc l) ≡ n = omega arith in
      subst (λ x. slot (suc w) x (c * suc w ^ suc l + d * suc w ^ l) ≡ l * w + d) e
      (slot_else (l + suc (n - suc l)) (c * suc w ^ suc l + d * suc w ^ l) (not_last l (n - suc l) c d h g)
      ∙ ap (digit_slot (suc w) (l + suc (n - suc l))) (joined l c d)
      ∙ rows_up l (suc (n - suc l)) (suc w * c + d)
      ∙ ap (λ x. l * w + x) (lowest_row (n - suc l) c d h g))

  -- a multiple of a level's width lies in slot 0 or above the rows below that level
  pub slot_high : (n l c : ℕ) → l ≤ n → 0 < c → c * suc w ^ l ≤ suc w ^ n → (slot (suc w) n (c * suc w ^ l) ≡ 0) ⊎ (l * w < slot (suc w) n (c * suc w ^ l))
  slot_high n l c below h g =
      let e : l + (n - l) ≡ n = omega arith in
      subst (λ x. (slot (suc w) x (c * suc w ^ l) ≡ 0) ⊎ (l * w < slot (suc w) x (c * suc w ^ l))) e
      (⊎_elim
      (λ (last : c * suc w ^ l ≡ suc w ^ (l + (n - l))).
      inl (ap (slot (suc w) (l + (n - l))) last ∙ slot_last (l + (n - l))))
      (λ (other : c * suc w ^ l ≡ suc w ^ (l + (n - l)) → ⊥).
      let under : c * suc w ^ l < suc w ^ (n - l) * suc w ^ l =
      omega (arith, other, ap (λ x. suc w ^ x) e, pow-add (suc w) l (n - l), mul_comm (suc w ^ l) (suc w ^ (n - l))) in
      inr (omega (
        arith,
        slot_else (l + (n - l)) (c * suc w ^ l) other,
        rows_up l (n - l) c,
        digit_slot_pos (n - l) c h (lt_of_mul-lt-mul_right (suc w ^ l) under),
      )))
      (cases_eq (c * suc w ^ l) (suc w ^ (l + (n - l)))))

  -- every checkpoint but the last has a lowest digit that is not 0
  every_digit : (n j : ℕ) → 0 < j → j < suc w ^ n → (v : ℕ) × (v < n) × ((d : ℕ) × LowestDigit (suc w) v d j)
  every_digit zero j h g = absurd (omega (arith, pow-zero (suc w)))
  every_digit (suc n) j h g =
      ⊎_elim
      (λ (z : j % suc w ≡ 0).
      let q : ℕ = j / suc w in
      let whole : j ≡ suc w * (j / suc w) = omega (arith, div-add-mod j (suc w)) in
      let below = every_digit n q (quotient_pos q whole) (lt_of_mul-lt-mul_left (suc w) (omega (arith, pow-succ' (suc w) n))) in (
        suc below.0,
        omega (arith, below.1),
        (
          below.2.0,
          (
            below.2.1.0,
            below.2.1.1,
            (below.2.1.2.0, whole ∙ ap (λ x. suc w * x) below.2.1.2.1 ∙ row_up below.0 below.2.1.2.0 below.2.0),
          ),
        ),
      ))
      (λ (z : j % suc w ≡ 0 → ⊥).
      (0, omega arith, (j % suc w, (omega (arith, z), mod-lt j (omega arith), (j / suc w, lowest j)))))
      (cases_eq (j % suc w) 0)
    where
      quotient_pos : (q : ℕ) → j ≡ suc w * q → 0 < q
      quotient_pos zero e = absurd (omega (arith, mul-zero (suc w)))
      quotient_pos (suc q) e = omega arith

      row_up : (v c d : ℕ) → suc w * (c * suc w ^ suc v + d * suc w ^ v) ≡ c * suc w ^ suc (suc v) + d * suc w ^ suc v
      row_up v c d = mul-add (suc w) (c * suc w ^ suc v) (d * suc w ^ v) ∙ ap₂ ◌+◌ (sym (factor (suc v) c)) (sym (factor v d))

      lowest : (j : ℕ) → j ≡ j / suc w * suc w ^ 1 + j % suc w * suc w ^ 0
      lowest j =
          omega (arith, div-add-mod j (suc w), factor 0 (j / suc w), ap (λ x. j / suc w * x) (pow-zero (suc w)), ap (λ x. j % suc w * x) (pow-zero (suc w)), mul-one (j / suc w), mul_comm (suc w) (j / suc w), ap (λ x. suc w * x) (ap (λ x. j / suc w * x) (pow-zero (suc w)) ∙ mul-one (j / suc w)))

  shelving_suc : (n : ℕ) → Shelving (suc w) n
  shelving_suc n =
      record {
        last = slot_last n;
        row = λ v d j h g. ap (slot (suc w) n) g.2.1 ∙ slot_row n v g.2.0 d h g.0 g.1;
        every = every_digit n;
      }

pub shelving : (k n : ℕ) → 2 ≤ k → Shelving k n
shelving zero n h = absurd (omega arith)
shelving (suc w) n h = shelving_suc w (omega arith) n
