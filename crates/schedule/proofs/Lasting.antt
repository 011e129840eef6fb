-- Something is live after every move of a build; what no move names stays as it was.
use Rattle.std.proofs.Common.{◌≡◌, ℕ, zero, suc, ◌+◌, ◌*◌, ◌^◌, ◌<◌, ◌≤◌, Bool, true, eqb, List, [], ◌∷◌, ◌++◌, length, take, sym, refl, ap, ◌∙◌, subst, mul-le-mul_right, suc-mul, arith}
use native.Mathlib.Nat.{pow-zero, pow-succ', one-le-pow}
use Rattle.std.specs.List.{AllByRecursion}
use Rattle.std.proofs.ByRecursion.{All-weaker}
use Rattle.std.proofs.lemmas.Bool.{eq-eqb, cond-true}
use Rattle.std.proofs.lemmas.Bool.Decides.{nat_tests}
use Rattle.schedule.specs.declared.moves.Move.{Move}
use Rattle.schedule.specs.declared.moves.Change.TheVariants.{Place, Remove}
use Rattle.schedule.specs.Moves.{rising, falling, moves}
use Rattle.schedule.specs.Live.{moved, live_from}
use Rattle.schedule.proofs.Joined.{all_falling}
use Rattle.schedule.proofs.Blocks.{block, moves_suc, segments_within}

abbrev pub Alive : (ℕ → Bool) → Type 0
Alive on = (j : ℕ) × (on j ≡ true)

-- no move of the list is one of checkpoint j
abbrev pub Unnamed : ℕ → List Move → Type 0
Unnamed j ms = AllByRecursion (λ m. j ≡ suc m.segment → ⊥) ms

pub live_append : (xs ys : List Move) (on : ℕ → Bool) → live_from on (xs ++ ys) ≡ live_from (live_from on xs) ys
live_append [] ys on = refl
live_append (x ∷ xs) ys on = live_append xs ys (moved on x)

pub untouched : (j : ℕ) (ms : List Move) (on : ℕ → Bool) → Unnamed j ms → live_from on ms j ≡ on j
untouched j [] on h = refl
untouched j (m ∷ ms) on h =
    untouched j ms (moved on m) h.1
    ∙ grind (arith, nat_tests, h.0)

-- something is live after each move of the list
abbrev Lasting : (ℕ → Bool) → List Move → Type 0
Lasting on [] = Unit {0}
Lasting on (m ∷ ms) = Alive (moved on m) × Lasting (moved on m) ms

lasting_append : (xs ys : List Move) (on : ℕ → Bool) → Lasting on xs → Lasting (live_from on xs) ys → Lasting on (xs ++ ys)
lasting_append [] ys on h g = g
lasting_append (x ∷ xs) ys on h g = (h.0, lasting_append xs ys (moved on x) h.1 g)

lasting_rising : (f : ℕ → List Move) → ((i : ℕ) (on : ℕ → Bool) → Lasting on (f i)) → (n : ℕ) (on : ℕ → Bool) → Lasting on (rising f n)
lasting_rising f h zero on = tt
lasting_rising f h (suc n) on = lasting_append (rising f n) (f n) on (lasting_rising f h n on) (h n (live_from on (rising f n)))

lasting_untouched : (j : ℕ) (ms : List Move) (on : ℕ → Bool) → on j ≡ true → Unnamed j ms → Lasting on ms
lasting_untouched j [] on e h = tt
lasting_untouched j (m ∷ ms) on e h =
    let kept : moved on m j ≡ true = untouched j (m ∷ []) on (h.0, tt) ∙ e in
    ((j, kept), lasting_untouched j ms (moved on m) kept h.1)

lasting_take : (t : ℕ) (ms : List Move) (on : ℕ → Bool) → 0 < length ms → Lasting on ms → Alive (live_from on (take (suc t) ms))
lasting_take t [] on l h = absurd (omega arith)
lasting_take zero (m ∷ ms) on l h = h.0
lasting_take (suc t) (m ∷ []) on l h = h.0
lasting_take (suc t) (m ∷ (x ∷ ms)) on l h = lasting_take t (x ∷ ms) (moved on m) (omega arith) h.1

module _ (w : ℕ) where
  whole : (l : ℕ) → suc w ^ suc l ≡ w * suc w ^ l + suc w ^ l
  whole l = pow-succ' (suc w) l ∙ suc-mul w (suc w ^ l)

  -- the removals of a level leave its last checkpoint alone
  last_unnamed : (l a : ℕ) → Unnamed (a + suc w ^ suc l) (falling (block w Remove l a) w)
  last_unnamed l a =
      all_falling (λ m. a + suc w ^ suc l ≡ suc m.segment → ⊥) (block w Remove l a) w
      (λ i h. All-weaker (λ m. (a + i * suc w ^ l ≤ m.segment) × (m.segment < a + i * suc w ^ l + suc w ^ l))
      (λ m. a + suc w ^ suc l ≡ suc m.segment → ⊥)
      (λ m r e. omega (arith, whole l, mul-le-mul_right {m = suc i} {n = w} (suc w ^ l) h, suc-mul i (suc w ^ l), one-le-pow l (suc w) (omega arith), r.1))
      (block w Remove l a i) (segments_within w Remove l (a + i * suc w ^ l)))

  pub last_live : (l a : ℕ) (on : ℕ → Bool) → live_from on (moves (suc w) Place l a) (a + suc w ^ l) ≡ true
  unfolding moves
  last_live zero a on = cond-true (eqb (a + suc w ^ 0) (suc a)) true (on (a + suc w ^ 0)) (eq-eqb (a + suc w ^ 0) (suc a) (omega (arith, pow-zero (suc w))))
  last_live (suc l) a on =
      let up = rising (block w Place l a) w in
      let middle = block w Place l a w in
      let down = falling (block w Remove l a) w in
      ap (λ ms. live_from on ms (a + suc w ^ suc l)) (moves_suc w Place l a)
      ∙ ap (λ f. f (a + suc w ^ suc l)) (live_append up (middle ++ down) on ∙ live_append middle down (live_from on up))
      ∙ untouched (a + suc w ^ suc l) down (live_from (live_from on up) middle) (last_unnamed l a)
      ∙ ap (live_from (live_from on up) middle) (omega (arith, whole l))
      ∙ last_live l (a + w * suc w ^ l) (live_from on up)

  lasting_moves : (l a : ℕ) (on : ℕ → Bool) → Lasting on (moves (suc w) Place l a)
  unfolding moves
  lasting_moves zero a on = ((suc a, cond-true (eqb (suc a) (suc a)) true (on (suc a)) (eq-eqb (suc a) (suc a) refl)), tt)
  lasting_moves (suc l) a on =
      let up = rising (block w Place l a) w in
      let middle = block w Place l a w in
      let down = falling (block w Remove l a) w in
      let held : live_from (live_from on up) middle (a + suc w ^ suc l) ≡ true =
      ap (live_from (live_from on up) middle) (omega (arith, whole l)) ∙ last_live l (a + w * suc w ^ l) (live_from on up) in
      subst (Lasting on) (sym (moves_suc w Place l a))
      (lasting_append up (middle ++ down) on
      (lasting_rising (block w Place l a) (λ i. lasting_moves l (a + i * suc w ^ l)) w on)
      (lasting_append middle down (live_from on up) (lasting_moves l (a + w * suc w ^ l) (live_from on up))
      (lasting_untouched (a + suc w ^ suc l) down (live_from (live_from on up) middle) held (last_unnamed l a))))

  pub never_empty : (l a : ℕ) (on : ℕ → Bool) → 0 < length (moves (suc w) Place l a) → (t : ℕ) → 0 < t → Alive (live_from on (take t (moves (suc w) Place l a)))
  never_empty l a on h zero p = absurd (omega arith)
  never_empty l a on h (suc t) p = lasting_take t (moves (suc w) Place l a) on h (lasting_moves l a on)
