-- On a shelf whose lower rows are empty, the moves of a level change one slot, and every one of them fits.
use Rattle.std.proofs.Common.{◌≡◌, ℕ, zero, suc, ◌+◌, ◌*◌, ◌^◌, ◌<◌, ◌≤◌, ◌⊎◌, ◌++◌, sym, refl, ap, ◌∙◌, subst, ap₂, inl, inr, ⊎_elim, mul-le-mul_right, mul_assoc, suc-mul, add-mul, zero-mul, arith}
use native.Mathlib.Nat.{pow-zero, pow-succ', one-le-pow}
use Rattle.std.proofs.lemmas.Bool.{cases_eq}
use Rattle.schedule.specs.declared.moves.Change.{Change}
use Rattle.schedule.specs.declared.moves.Change.TheVariants.{Place, Remove}
use Rattle.schedule.specs.Moves.{rising, falling, moves}
use Rattle.schedule.proofs.Blocks.{block, moves_suc}
use Rattle.schedule.proofs.Shelf.{put, put_same, put_other, put_put, put_back, put_swap, before, after, Runs, runs_append}

-- the first i slots of the row above r hold the checkpoints a + p, a + 2 p, ..
unfoldable filled : ℕ → ℕ → ℕ → ℕ → (ℕ → ℕ) → ℕ → ℕ
filled a p r zero τ = τ
filled a p r (suc i) τ = put (filled a p r i τ) (r + suc i) (a + suc i * p)

module _ (a p r : ℕ) where
  filled_apart : (i x : ℕ) (τ : ℕ → ℕ) → (x ≤ r) ⊎ (r + i < x) → filled a p r i τ x ≡ τ x
  unfolding filled
  filled_apart zero x τ h = refl
  filled_apart (suc i) x τ h =
      put_other (filled a p r i τ) (r + suc i) (a + suc i * p) x (λ e. omega arith)
      ∙ filled_apart i x τ (⊎_elim (λ (l : x ≤ r). inl l) (λ (g : r + suc i < x). inr (omega arith)) h)

  filled_at : (i d : ℕ) (τ : ℕ → ℕ) → 0 < d → d ≤ i → filled a p r i τ (r + d) ≡ a + d * p
  unfolding filled
  filled_at zero d τ h g = absurd (omega arith)
  filled_at (suc i) d τ h g =
      ⊎_elim
      (λ (e : d ≡ suc i). rw e (put_same (filled a p r i τ) (r + suc i) (a + suc i * p)))
      (λ (n : d ≡ suc i → ⊥).
      put_other (filled a p r i τ) (r + suc i) (a + suc i * p) (r + d) (λ e. n (omega arith))
      ∙ filled_at i d τ h (omega (arith, n)))
      (cases_eq d (suc i))

  filled_put : (i s v : ℕ) (τ : ℕ → ℕ) → (s ≤ r) ⊎ (r + i < s) → put (filled a p r i τ) s v ≡ filled a p r i (put τ s v)
  unfolding filled
  filled_put zero s v τ h = refl
  filled_put (suc i) s v τ h =
      put_swap (filled a p r i τ) (r + suc i) s (a + suc i * p) v (λ e. omega arith)
      ∙ ap (λ σ. put σ (r + suc i) (a + suc i * p))
      (filled_put i s v τ (⊎_elim (λ (l : s ≤ r). inl l) (λ (g : r + suc i < s). inr (omega arith)) h))

  filled_empty : (i : ℕ) (τ : ℕ → ℕ) → τ (r + suc i) ≡ 0 → put (filled a p r (suc i) τ) (r + suc i) 0 ≡ filled a p r i τ
  unfolding filled
  filled_empty i τ e =
      put_put (filled a p r i τ) (r + suc i) (a + suc i * p) 0
      ∙ put_back (filled a p r i τ) (r + suc i) 0 (filled_apart i (r + suc i) τ (inr (omega arith)) ∙ e)

module _ (w : ℕ) (pos : 0 < w) (n : ℕ) (at : ℕ → ℕ)
    (row : (l c d : ℕ) → l < n → 0 < d → d < suc w → at (c * suc w ^ suc l + d * suc w ^ l) ≡ l * w + d)
    (high : (l c : ℕ) → l ≤ n → 0 < c → c * suc w ^ l ≤ suc w ^ n → (at (c * suc w ^ l) ≡ 0) ⊎ (l * w < at (c * suc w ^ l))) where
  -- the rows below level l are empty
  abbrev Empty : ℕ → (ℕ → ℕ) → Type 0
  Empty l σ = (x : ℕ) → 0 < x → x ≤ l * w → σ x ≡ 0

  -- checkpoint a is the input, or held
  abbrev Source : ℕ → (ℕ → ℕ) → Type 0
  Source a σ = 0 < a → σ (at a) ≡ a

  abbrev Level : ℕ → Type 0
  Level l = (c : Change) (q a : ℕ) (σ : ℕ → ℕ) → a ≡ q * suc w ^ l → a + suc w ^ l ≤ suc w ^ n → Empty l σ → Source a σ → σ (at (a + suc w ^ l)) ≡ before c (a + suc w ^ l) → Runs at σ (moves (suc w) c l a) (put σ (at (a + suc w ^ l)) (after c (a + suc w ^ l)))

  lowest : Level 0
  unfolding moves
  lowest Place q a σ e f empty source target =
      let one : a + suc w ^ 0 ≡ suc a = omega (arith, pow-zero (suc w)) in
      rw one (((source, rw one at target), tt), refl)
  lowest Remove q a σ e f empty source target =
      let one : a + suc w ^ 0 ≡ suc a = omega (arith, pow-zero (suc w)) in
      rw one (((source, rw one at target), tt), refl)

  module _ (l q a : ℕ) (low : l < n) (e : a ≡ q * suc w ^ suc l) (room : a + suc w ^ suc l ≤ suc w ^ n) (below : Level l) where
    at_row : (d : ℕ) → 0 < d → d < suc w → at (a + d * suc w ^ l) ≡ l * w + d
    at_row d h g = ap (λ x. at (x + d * suc w ^ l)) e ∙ row l q d low h g

    source_outside : 0 < a → (at a ≤ l * w) ⊎ (l * w + w < at a)
    source_outside h =
        let qpos : 0 < q = ⊎_elim (λ (z : q ≡ 0). absurd (omega (arith, ap (λ x. x * suc w ^ suc l) z))) (λ (z : q ≡ 0 → ⊥). omega (arith, z)) (cases_eq q 0) in
        ⊎_elim (λ (z : at (q * suc w ^ suc l) ≡ 0). inl (omega (arith, ap at e)))
        (λ (z : suc l * w < at (q * suc w ^ suc l)). inr (omega (arith, ap at e, suc-mul l w)))
        (high (suc l) q (omega arith) qpos (omega arith))

    target_outside : (at (a + suc w ^ suc l) ≡ 0) ⊎ (l * w + w < at (a + suc w ^ suc l))
    target_outside =
        let t : a + suc w ^ suc l ≡ suc q * suc w ^ suc l = omega (arith, suc-mul q (suc w ^ suc l)) in
        ⊎_elim (λ (z : at (suc q * suc w ^ suc l) ≡ 0). inl (ap at t ∙ z))
        (λ (z : suc l * w < at (suc q * suc w ^ suc l)). inr (omega (arith, ap at t, suc-mul l w)))
        (high (suc l) (suc q) (omega arith) (omega arith) (omega arith))

    whole : suc w ^ suc l ≡ w * suc w ^ l + suc w ^ l
    whole = pow-succ' (suc w) l ∙ suc-mul w (suc w ^ l)

    block_room : (i : ℕ) → i ≤ w → a + i * suc w ^ l + suc w ^ l ≤ suc w ^ n
    block_room i h = omega (arith, whole, mul-le-mul_right {m = i} {n = w} (suc w ^ l) h)

    block_start : (i : ℕ) → a + i * suc w ^ l ≡ (q * suc w + i) * suc w ^ l
    block_start i = omega (arith, add-mul (q * suc w) i (suc w ^ l), mul_assoc q (suc w) (suc w ^ l), ap (λ x. q * x) (pow-succ' (suc w) l))

    source_held : (i j : ℕ) (τ : ℕ → ℕ) → Source a τ → i ≤ j → j ≤ w → Source (a + i * suc w ^ l) (filled a (suc w ^ l) (l * w) j τ)
    source_held zero j τ s h g =
        let z : a + 0 * suc w ^ l ≡ a = omega (arith, zero-mul (suc w ^ l)) in
        rw z (λ p. filled_apart a (suc w ^ l) (l * w) j (at a) τ
        (⊎_elim (λ (x : at a ≤ l * w). inl x) (λ (x : l * w + w < at a). inr (omega arith)) (source_outside p)) ∙ s p)
    source_held (suc i) j τ s h g =
        λ p. ap (filled a (suc w ^ l) (l * w) j τ) (at_row (suc i) (omega arith) (omega arith))
        ∙ filled_at a (suc w ^ l) (l * w) j (suc i) τ (omega arith) h

    one_block : (c : Change) (i j : ℕ) (τ : ℕ → ℕ) → Empty (suc l) τ → Source a τ → i ≤ j → j ≤ w → filled a (suc w ^ l) (l * w) j τ (at (a + i * suc w ^ l + suc w ^ l)) ≡ before c (a + i * suc w ^ l + suc w ^ l) → Runs at (filled a (suc w ^ l) (l * w) j τ) (block w c l a i) (put (filled a (suc w ^ l) (l * w) j τ) (at (a + i * suc w ^ l + suc w ^ l)) (after c (a + i * suc w ^ l + suc w ^ l)))
    one_block c i j τ empty s h g target =
        below c (q * suc w + i) (a + i * suc w ^ l) (filled a (suc w ^ l) (l * w) j τ) (block_start i) (block_room i (omega arith))
        (λ x p b. filled_apart a (suc w ^ l) (l * w) j x τ (inl b) ∙ empty x p (omega (arith, suc-mul l w)))
        (source_held i j τ s h g) target

    -- checkpoint i + 1 of the row
    next_start : (i : ℕ) → a + i * suc w ^ l + suc w ^ l ≡ a + suc i * suc w ^ l
    next_start i = omega (arith, suc-mul i (suc w ^ l))

    next_slot : (i : ℕ) → i < w → at (a + i * suc w ^ l + suc w ^ l) ≡ l * w + suc i
    next_slot i h = ap at (next_start i) ∙ at_row (suc i) (omega arith) (omega arith)

    row_empty : (i : ℕ) (τ : ℕ → ℕ) → Empty (suc l) τ → i < w → τ (l * w + suc i) ≡ 0
    row_empty i τ empty h = empty (l * w + suc i) (omega arith) (omega (arith, suc-mul l w))

    up : (i : ℕ) (τ : ℕ → ℕ) → i ≤ w → Empty (suc l) τ → Source a τ → Runs at τ (rising (block w Place l a) i) (filled a (suc w ^ l) (l * w) i τ)
    unfolding filled
    up zero τ h empty s = (tt, refl)
    up (suc i) τ h empty s =
        runs_append at (rising (block w Place l a) i) (block w Place l a i) τ (filled a (suc w ^ l) (l * w) i τ) (filled a (suc w ^ l) (l * w) (suc i) τ)
        (up i τ (omega arith) empty s)
        (subst (Runs at (filled a (suc w ^ l) (l * w) i τ) (block w Place l a i))
        (ap₂ (put (filled a (suc w ^ l) (l * w) i τ)) (next_slot i h) (next_start i))
        (one_block Place i i τ empty s (omega arith) (omega arith)
        (ap (filled a (suc w ^ l) (l * w) i τ) (next_slot i h)
        ∙ filled_apart a (suc w ^ l) (l * w) i (l * w + suc i) τ (inr (omega arith)) ∙ row_empty i τ empty h)))

    down : (i : ℕ) (τ : ℕ → ℕ) → i ≤ w → Empty (suc l) τ → Source a τ → Runs at (filled a (suc w ^ l) (l * w) i τ) (falling (block w Remove l a) i) τ
    unfolding filled
    down zero τ h empty s = (tt, refl)
    down (suc i) τ h empty s =
        runs_append at (block w Remove l a i) (falling (block w Remove l a) i) (filled a (suc w ^ l) (l * w) (suc i) τ) (filled a (suc w ^ l) (l * w) i τ) τ
        (subst (Runs at (filled a (suc w ^ l) (l * w) (suc i) τ) (block w Remove l a i))
        (ap (λ x. put (filled a (suc w ^ l) (l * w) (suc i) τ) x 0) (next_slot i h) ∙ filled_empty a (suc w ^ l) (l * w) i τ (row_empty i τ empty h))
        (one_block Remove i (suc i) τ empty s (omega arith) h
        (ap (filled a (suc w ^ l) (l * w) (suc i) τ) (next_slot i h)
        ∙ filled_at a (suc w ^ l) (l * w) (suc i) (suc i) τ (omega arith) (omega arith) ∙ sym (next_start i))))
        (down i τ (omega arith) empty s)

    -- neither the rows nor the source are touched where the target changes
    empty_kept : (v : ℕ) (σ : ℕ → ℕ) → Empty (suc l) σ → Empty (suc l) (put σ (at (a + suc w ^ suc l)) v)
    empty_kept v σ empty x p b =
        put_other σ (at (a + suc w ^ suc l)) v x (λ z. omega (arith, target_outside, suc-mul l w)) ∙ empty x p b

    source_kept : (c : Change) (v : ℕ) (σ : ℕ → ℕ) → Source a σ → σ (at (a + suc w ^ suc l)) ≡ before c (a + suc w ^ suc l) → Source a (put σ (at (a + suc w ^ suc l)) v)
    source_kept c v σ s target p =
        put_other σ (at (a + suc w ^ suc l)) v (at a) (λ z. clash c (sym (s p) ∙ ap σ z ∙ target)) ∙ s p
      where
        clash : (c : Change) → a ≡ before c (a + suc w ^ suc l) → ⊥
        clash Place z = omega arith
        clash Remove z = omega (arith, one-le-pow (suc l) (suc w) (omega arith))

    middle_target : a + w * suc w ^ l + suc w ^ l ≡ a + suc w ^ suc l
    middle_target = omega (arith, whole)

    level_above : (c : Change) (σ : ℕ → ℕ) → Empty (suc l) σ → Source a σ → σ (at (a + suc w ^ suc l)) ≡ before c (a + suc w ^ suc l) → Runs at σ (moves (suc w) c (suc l) a) (put σ (at (a + suc w ^ suc l)) (after c (a + suc w ^ suc l)))
    level_above c σ empty s target =
        let T : ℕ = at (a + suc w ^ suc l) in
        let v : ℕ = after c (a + suc w ^ suc l) in
        let apart : (T ≤ l * w) ⊎ (l * w + w < T) =
        ⊎_elim (λ (z : T ≡ 0). inl (omega arith)) (λ (z : l * w + w < T). inr z) target_outside in
        let middle =
        subst (λ x. Runs at (filled a (suc w ^ l) (l * w) w σ) (block w c l a w) (put (filled a (suc w ^ l) (l * w) w σ) (at x) (after c x))) middle_target
        (one_block c w w σ empty s (omega arith) (omega arith)
        (subst (λ x. filled a (suc w ^ l) (l * w) w σ (at x) ≡ before c x) (sym middle_target)
        (filled_apart a (suc w ^ l) (l * w) w T σ apart ∙ target))) in
        subst (λ ms. Runs at σ ms (put σ T v)) (sym (moves_suc w c l a))
        (runs_append at (rising (block w Place l a) w) (block w c l a w ++ falling (block w Remove l a) w)
        σ (filled a (suc w ^ l) (l * w) w σ) (put σ T v)
        (up w σ (omega arith) empty s)
        (runs_append at (block w c l a w) (falling (block w Remove l a) w)
        (filled a (suc w ^ l) (l * w) w σ) (filled a (suc w ^ l) (l * w) w (put σ T v)) (put σ T v)
        (subst (Runs at (filled a (suc w ^ l) (l * w) w σ) (block w c l a w)) (filled_put a (suc w ^ l) (l * w) w T v σ apart) middle)
        (down w (put σ T v) (omega arith) (empty_kept v σ empty) (source_kept c v σ s target))))

  pub levels : (l : ℕ) → l ≤ n → (c : Change) (q a : ℕ) (σ : ℕ → ℕ) → a ≡ q * suc w ^ l → a + suc w ^ l ≤ suc w ^ n → ((x : ℕ) → 0 < x → x ≤ l * w → σ x ≡ 0) → (0 < a → σ (at a) ≡ a) → σ (at (a + suc w ^ l)) ≡ before c (a + suc w ^ l) → Runs at σ (moves (suc w) c l a) (put σ (at (a + suc w ^ l)) (after c (a + suc w ^ l)))
  levels zero h = lowest
  levels (suc l) h = λ c q a σ e room. level_above l q a h e room (levels l (omega arith)) c σ
