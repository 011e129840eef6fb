-- How many are live, and how many slots are busy, after each move.
use Rattle.std.proofs.Common.{◌≡◌, ℕ, zero, suc, ◌+◌, ◌<◌, ◌≤◌, Bool, true, false, cond, not, eqb, List, [], ◌∷◌, count_by, sym, refl, ap, ◌∙◌, ap₂, ⊎_elim, arith}
use Rattle.std.specs.List.{range_with_len, AllByRecursion}
use Rattle.std.proofs.lemmas.List.Sums.{sum_by-cons}
use Rattle.std.proofs.lemmas.Bool.{cases_eq}
use Rattle.std.proofs.lemmas.Bool.Decides.{nat_tests}
use Rattle.schedule.specs.declared.moves.Move.{Move}
use Rattle.schedule.specs.declared.moves.Change.{Change}
use Rattle.schedule.specs.declared.moves.Change.TheVariants.{Place, Remove}
use Rattle.schedule.specs.Live.{places, moved, live_from}
use Rattle.schedule.proofs.Entries.{made}
use Rattle.schedule.proofs.Shelf.{put_same, put_other, before, after, Fits, next, held_from, Fitting}
use Rattle.schedule.proofs.LiveHeld.{Tied, allowed, tied_next}

-- 1 where the test holds
abbrev as_one : Bool → ℕ
as_one b = cond b 1 0

abbrev one_if : (ℕ → Bool) → ℕ → ℕ
one_if p x = as_one (p x)

count_cons : (p : ℕ → Bool) (a n : ℕ) → count_by p (range_with_len a (suc n)) ≡ one_if p a + count_by p (range_with_len (a + 1) n)
count_cons p a n = sum_by-cons (one_if p) a (range_with_len (a + 1) n)

pub count_same : (p q : ℕ → Bool) (n a : ℕ) → ((y : ℕ) → a ≤ y → q y ≡ p y) → count_by q (range_with_len a n) ≡ count_by p (range_with_len a n)
count_same p q zero a h = refl
count_same p q (suc n) a h =
    count_cons q a n
    ∙ ap₂ ◌+◌ (ap as_one (h a (omega arith))) (count_same p q n (a + 1) (λ y l. h y (omega arith)))
    ∙ sym (count_cons p a n)

pub count_none : (n a : ℕ) → count_by (λ (_ : ℕ). false) (range_with_len a n) ≡ 0
count_none zero a = refl
count_none (suc n) a = omega (arith, count_cons (λ _. false) a n, count_none n (a + 1))

-- one number of the range passes the one test and not the other, which agree on all others
pub count_flip : (p q : ℕ → Bool) (x n a : ℕ) → a ≤ x → x < a + n → p x ≡ false → q x ≡ true → ((y : ℕ) → (y ≡ x → ⊥) → q y ≡ p y) → count_by q (range_with_len a n) ≡ suc (count_by p (range_with_len a n))
count_flip p q x zero a low high off on same = absurd (omega arith)
count_flip p q x (suc n) a low high off on same =
    ⊎_elim
    (λ (e : a ≡ x).
    omega (
      arith,
      count_cons q a n,
      count_cons p a n,
      ap as_one (ap q e ∙ on),
      ap as_one (ap p e ∙ off),
      count_same p q n (a + 1) (λ y l. same y (λ z. omega arith)),
    ))
    (λ (d : a ≡ x → ⊥).
    omega (
      arith,
      count_cons q a n,
      count_cons p a n,
      ap as_one (same a d),
      count_flip p q x n (a + 1) (omega (arith, d)) (omega arith) off on same,
    ))
    (cases_eq a x)

-- the placings and the removals of a list
abbrev pub up_by : Change → ℕ → ℕ
up_by Place n = suc n
up_by Remove n = n

abbrev pub down_by : Change → ℕ → ℕ
down_by Place n = n
down_by Remove n = suc n

abbrev pub placings : List Move → ℕ
placings [] = 0
placings (m ∷ ms) = up_by m.change (placings ms)

abbrev pub removals : List Move → ℕ
removals [] = 0
removals (m ∷ ms) = down_by m.change (removals ms)

-- one move, of two tests that differ at one number of the range, from the one to the other
one_move : (p q : ℕ → Bool) (c : Change) (x a n : ℕ) → a ≤ x → x < a + n → p x ≡ not (places c) → q x ≡ places c → ((y : ℕ) → (y ≡ x → ⊥) → q y ≡ p y) → down_by c (count_by q (range_with_len a n)) ≡ up_by c (count_by p (range_with_len a n))
one_move p q Place x a n low high was is same = count_flip p q x n a low high was is same
one_move p q Remove x a n low high was is same = sym (count_flip q p x n a low high is was (λ y d. sym (same y d)))

module _ (at : ℕ → ℕ) (N S : ℕ) where
  abbrev pub busy : (ℕ → ℕ) → ℕ → Bool
  busy σ x = not (eqb (σ x) 0)

  abbrev pub InRange : Move → Type 0
  InRange m = (m.segment < N) × (at (suc m.segment) < S)

  live_one : (on : ℕ → Bool) (σ : ℕ → ℕ) (c : Change) (s : ℕ) → Tied at on σ → Fits at σ (made c s) → s < N → down_by c (count_by (moved on (made c s)) (range_with_len 1 N)) ≡ up_by c (count_by on (range_with_len 1 N))
  live_one on σ c s tied fits h =
      one_move on (moved on (made c s)) c (suc s) 1 N (omega arith) (omega arith)
      (allowed at on σ c s tied fits).1
      (grind (arith, nat_tests))
      (λ y d. grind (arith, nat_tests))

  busy_before : (c : Change) (s : ℕ) → not (eqb (before c (suc s)) 0) ≡ not (places c)
  busy_before Place s = refl
  busy_before Remove s = grind (arith, nat_tests)

  busy_after : (c : Change) (s : ℕ) → not (eqb (after c (suc s)) 0) ≡ places c
  busy_after Place s = grind (arith, nat_tests)
  busy_after Remove s = refl

  busy_one : (σ : ℕ → ℕ) (c : Change) (s : ℕ) → Fits at σ (made c s) → at (suc s) < S → down_by c (count_by (busy (next at σ (made c s))) (range_with_len 0 S)) ≡ up_by c (count_by (busy σ) (range_with_len 0 S))
  busy_one σ c s fits h =
      one_move (busy σ) (busy (next at σ (made c s))) c (at (suc s)) 0 S (omega arith) (omega arith)
      (ap (λ x. not (eqb x 0)) fits.1 ∙ busy_before c s)
      (ap (λ x. not (eqb x 0)) (put_same σ (at (suc s)) (after c (suc s))) ∙ busy_after c s)
      (λ y d. ap (λ x. not (eqb x 0)) (put_other σ (at (suc s)) (after c (suc s)) y d))

  -- from down_by and up_by of one move to sums over the list
  carry : (c : Change) (one two out ups downs : ℕ) → down_by c two ≡ up_by c one → out + downs ≡ two + ups → out + down_by c downs ≡ one + up_by c ups
  carry Place one two out ups downs e h = omega arith
  carry Remove one two out ups downs e h = omega arith

  pub counts : (ms : List Move) (on : ℕ → Bool) (σ : ℕ → ℕ) → Tied at on σ → Fitting at σ ms → AllByRecursion InRange ms → (count_by (live_from on ms) (range_with_len 1 N) + removals ms ≡ count_by on (range_with_len 1 N) + placings ms) × (count_by (busy (held_from at σ ms)) (range_with_len 0 S) + removals ms ≡ count_by (busy σ) (range_with_len 0 S) + placings ms)
  counts [] on σ tied fit range = (refl, refl)
  counts (m ∷ ms) on σ tied fit range =
      let rest = counts ms (moved on m) (next at σ m) (tied_next at on σ m.change m.segment tied fit.0) fit.1 range.1 in (
        carry m.change (count_by on (range_with_len 1 N)) (count_by (moved on m) (range_with_len 1 N)) (count_by (live_from on (m ∷ ms)) (range_with_len 1 N)) (placings ms) (removals ms)
            (live_one on σ m.change m.segment tied fit.0 range.0.0) rest.0,
        carry m.change (count_by (busy σ) (range_with_len 0 S)) (count_by (busy (next at σ m)) (range_with_len 0 S)) (count_by (busy (held_from at σ (m ∷ ms))) (range_with_len 0 S)) (placings ms) (removals ms)
            (busy_one σ m.change m.segment fit.0 range.0.1) rest.1,
      )
