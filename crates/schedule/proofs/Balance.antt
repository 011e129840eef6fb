-- Placings less removals: a build has one more, and on the way to its middle n (k - 1) + 1 more.
use Rattle.std.proofs.Common.{◌≡◌, ℕ, zero, suc, ◌+◌, ◌*◌, ◌^◌, List, [], ◌∷◌, ◌++◌, sym, refl, ap, ◌∙◌, subst, append_assoc, suc-mul, arith}
use Rattle.schedule.specs.declared.moves.Move.{Move}
use Rattle.schedule.specs.declared.moves.Change.{Change}
use Rattle.schedule.specs.declared.moves.Change.TheVariants.{Place, Remove}
use Rattle.schedule.specs.Moves.{rising, falling, moves}
use Rattle.schedule.proofs.Blocks.{block, moves_suc}
use Rattle.schedule.proofs.Counts.{up_by, down_by, placings, removals}

push_up : (c : Change) (a b : ℕ) → up_by c (a + b) ≡ up_by c a + b
push_up Place a b = omega arith
push_up Remove a b = refl

push_down : (c : Change) (a b : ℕ) → down_by c (a + b) ≡ down_by c a + b
push_down Place a b = refl
push_down Remove a b = omega arith

placings_append : (xs ys : List Move) → placings (xs ++ ys) ≡ placings xs + placings ys
placings_append [] ys = omega arith
placings_append (x ∷ xs) ys = ap (up_by x.change) (placings_append xs ys) ∙ push_up x.change (placings xs) (placings ys)

removals_append : (xs ys : List Move) → removals (xs ++ ys) ≡ removals xs + removals ys
removals_append [] ys = omega arith
removals_append (x ∷ xs) ys = ap (down_by x.change) (removals_append xs ys) ∙ push_down x.change (removals xs) (removals ys)

pub placings_push : (ms : List Move) (m : Move) → placings (ms ++ m ∷ []) ≡ placings ms + up_by m.change 0
placings_push ms m = placings_append ms (m ∷ [])

pub removals_push : (ms : List Move) (m : Move) → removals (ms ++ m ∷ []) ≡ removals ms + down_by m.change 0
removals_push ms m = removals_append ms (m ∷ [])

-- p more placings than removals, or p fewer
abbrev More : ℕ → List Move → Type 0
More p ms = placings ms ≡ removals ms + p

abbrev Fewer : ℕ → List Move → Type 0
Fewer p ms = placings ms + p ≡ removals ms

more_append : (p q : ℕ) (xs ys : List Move) → More p xs → More q ys → More (p + q) (xs ++ ys)
more_append p q xs ys h g = omega (arith, placings_append xs ys, removals_append xs ys)

fewer_append : (p q : ℕ) (xs ys : List Move) → Fewer p xs → Fewer q ys → Fewer (p + q) (xs ++ ys)
fewer_append p q xs ys h g = omega (arith, placings_append xs ys, removals_append xs ys)

more_rising : (f : ℕ → List Move) → ((i : ℕ) → More 1 (f i)) → (n : ℕ) → More n (rising f n)
more_rising f h zero = refl
more_rising f h (suc n) = omega (arith, more_append n 1 (rising f n) (f n) (more_rising f h n) (h n))

fewer_falling : (f : ℕ → List Move) → ((i : ℕ) → Fewer 1 (f i)) → (n : ℕ) → Fewer n (falling f n)
fewer_falling f h zero = refl
fewer_falling f h (suc n) = omega (arith, fewer_append 1 n (f n) (falling f n) (h n) (fewer_falling f h n))

-- a build has one placing more than removals, its undoing one less
abbrev OneChange : Change → List Move → Type 0
OneChange Place ms = More 1 ms
OneChange Remove ms = Fewer 1 ms

one_level : (w : ℕ) (c : Change) (xs ys zs : List Move) → More w xs → OneChange c ys → Fewer w zs → OneChange c (xs ++ (ys ++ zs))
one_level w Place xs ys zs h g f =
    omega (arith, placings_append xs (ys ++ zs), placings_append ys zs, removals_append xs (ys ++ zs), removals_append ys zs)
one_level w Remove xs ys zs h g f =
    omega (arith, placings_append xs (ys ++ zs), placings_append ys zs, removals_append xs (ys ++ zs), removals_append ys zs)

module _ (w : ℕ) where
  one_change : (c : Change) (l a : ℕ) → OneChange c (moves (suc w) c l a)
  unfolding moves
  one_change Place zero a = refl
  one_change Remove zero a = refl
  one_change c (suc l) a =
      subst (OneChange c) (sym (moves_suc w c l a))
      (one_level w c (rising (block w Place l a) w) (block w c l a w) (falling (block w Remove l a) w)
      (more_rising (block w Place l a) (λ i. one_change Place l (a + i * suc w ^ l)) w)
      (one_change c l (a + w * suc w ^ l))
      (fewer_falling (block w Remove l a) (λ i. one_change Remove l (a + i * suc w ^ l)) w))

  -- the way to the middle of a build: all placings of each level, and then the last move
  pub climb : ℕ → ℕ → List Move
  climb zero a = record { change = Place; segment = a } ∷ []
  climb (suc l) a = rising (block w Place l a) w ++ climb l (a + w * suc w ^ l)

  pub climb_front : (l a : ℕ) → (rest : List Move) × (moves (suc w) Place l a ≡ climb l a ++ rest)
  unfolding moves climb
  climb_front zero a = ([], refl)
  climb_front (suc l) a =
      let more = climb_front l (a + w * suc w ^ l) in
      let up = rising (block w Place l a) w in
      let down = falling (block w Remove l a) w in (
        more.0 ++ down,
        moves_suc w Place l a ∙ ap (λ ms. up ++ ms) (ap (λ ms. ms ++ down) more.1 ∙ append_assoc (climb l (a + w * suc w ^ l)) more.0 down)
            ∙ sym (append_assoc up (climb l (a + w * suc w ^ l)) (more.0 ++ down)),
      )

  pub climb_more : (l a : ℕ) → More (suc (l * w)) (climb l a)
  unfolding climb
  climb_more zero a = omega arith
  climb_more (suc l) a =
      omega (
        arith,
        more_append w (suc (l * w)) (rising (block w Place l a) w) (climb l (a + w * suc w ^ l))
            (more_rising (block w Place l a) (λ i. one_change Place l (a + i * suc w ^ l)) w) (climb_more l (a + w * suc w ^ l)),
        suc-mul l w,
      )
