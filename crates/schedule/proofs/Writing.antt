-- Writing the blocks of a level one behind the other writes the level.
use Rattle.std.proofs.Common.{◌≡◌, ℕ, zero, suc, ◌+◌, ◌-◌, ◌*◌, ◌^◌, ◌<◌, ◌≤◌, List, [], ◌∷◌, ◌++◌, length, take, drop, set, sym, ap, ◌∙◌, ap₂, append_assoc, mul-le-mul_right, suc-mul, add-mul, one-mul, add-one, sub-one, arith, length-append}
use native.Mathlib.Nat.{pow-zero}
use Rattle.std.proofs.lemmas.List.{take_at, drop_at, drop-drop, length-take-le, set_split}
use Rattle.schedule.specs.declared.moves.Move.{Move}
use Rattle.schedule.specs.declared.moves.Change.{Change}
use Rattle.schedule.specs.declared.moves.Change.TheVariants.{Place, Remove}
use Rattle.schedule.specs.Sizes.{base, moves_count}
use Rattle.schedule.specs.Schedule.{build}
use Rattle.schedule.specs.Moves.{rising, falling, moves}
use Rattle.schedule.specs.Written.{written}
use Rattle.schedule.proofs.Joined.{length_rising}
use Rattle.schedule.proofs.Blocks.{length_moves}
use Rattle.schedule.proofs.Entries.{made}
use Rattle.schedule.proofs.Bounds.{level_suc, whole_level}

module _ {A : Type 0} (xs : List A) (at : ℕ) where
  pub written_append : (ms ns : List A) (next : ℕ) → next ≡ at + length ms → next ≤ length xs → written (written xs at ms) next ns ≡ written xs at (ms ++ ns)
  written_append ms ns next e h =
      let front = take at xs ++ ms in
      let rest = drop (at + length ms) xs in
      let split : written xs at ms ≡ front ++ rest = sym (append_assoc (take at xs) ms rest) in
      let size : length front ≡ next = omega (arith, length-append (take at xs) ms, length-take-le at xs (omega arith)) in
      ap₂ (λ x y. x ++ (ns ++ y))
      (ap (take next) split ∙ take_at front rest next size)
      (sym (drop-drop (length ns) next (written xs at ms))
      ∙ ap (drop (length ns)) (ap (drop next) split ∙ drop_at front rest next size)
      ∙ drop-drop (length ns) (at + length ms) xs
      ∙ ap (λ x. drop x xs) (omega (arith, length-append ms ns)))
      ∙ append_assoc (take at xs) ms (ns ++ drop (at + length (ms ++ ns)) xs)
      ∙ ap (λ ys. take at xs ++ ys) (sym (append_assoc ms ns (drop (at + length (ms ++ ns)) xs)))

  pub written_one : (m : A) → at < length xs → set xs at m ≡ written xs at (m ∷ [])
  written_one m h = set_split xs at m h ∙ ap (λ x. take at xs ++ m ∷ drop x xs) (sym (add-one at))

-- the blocks of a level: block i placed, block i removed
abbrev pub ups : ℕ → ℕ → ℕ → ℕ → List Move
ups k level first i = moves k Place (level - 1) (first + i * k ^ (level - 1))

abbrev pub downs : ℕ → ℕ → ℕ → ℕ → List Move
downs k level first i = moves k Remove (level - 1) (first + i * k ^ (level - 1))

length_at : (k : ℕ) (c : Change) (l a : ℕ) → 2 ≤ k → length (moves k c l a) ≡ base k ^ l
length_at zero c l a h = absurd (omega arith)
length_at (suc w) c l a h = length_moves w c l a

level_pred : (l : ℕ) → suc l - 1 ≡ l
level_pred l = omega arith

pub count_more : (i size : ℕ) → (i + 1) * size ≡ i * size + size
count_more i size = omega (arith, add-mul i 1 size, one-mul size)

pub count_less : (left size : ℕ) → 0 < left → left * size ≡ (left - 1) * size + size
count_less zero size h = absurd (omega arith)
count_less (suc i) size h = suc-mul i size ∙ ap (λ x. x * size + size) (sym (level_pred i))

-- at level 0 a list of one move is written
pub one_move : (k level first : ℕ) (c : Change) → level ≡ 0 → moves k c level first ≡ made c first ∷ []
unfolding moves
one_move k level first Place e = ap (λ l. moves k Place l first) e
one_move k level first Remove e = ap (λ l. moves k Remove l first) e

pub one_place : (k level : ℕ) → level ≡ 0 → base k ^ level ≡ 1
one_place k level e = ap (λ l. base k ^ l) e ∙ pow-zero (base k)

pub one_written : (k level first at : ℕ) (c : Change) (xs : List Move) → level ≡ 0 → at + base k ^ level ≤ length xs → written xs at (moves k c level first) ≡ set xs at (made c first)
one_written k level first at c xs e room =
    ap (written xs at) (one_move k level first c e) ∙ sym (written_one xs at (made c first) (omega (arith, one_place k level e)))

-- a block, and all before it, lies within the level
pub block_inside : (b level i : ℕ) → (level ≡ 0 → ⊥) → i < b → i * b ^ (level - 1) + b ^ (level - 1) ≤ b ^ level
block_inside b level i pos h =
    omega (arith, whole_level b level pos, suc-mul i (b ^ (level - 1)), mul-le-mul_right {m = suc i} {n = b} (b ^ (level - 1)) h)

pub block_fits : (b level : ℕ) → (level ≡ 0 → ⊥) → 0 < b → b ^ (level - 1) ≤ b ^ level
block_fits b level pos h = omega (arith, block_inside b level 0 pos h)

pub ruleset blocks = (one_written, block_inside, block_fits, count_less)

-- the blocks below i are placed: `xs` was there before the level, `ys` is now, and `next` is the place behind them
pub record Placed (k level first at i next : ℕ) (xs ys : List Move) : Type 0 where
  pub place : next ≡ at + i * base k ^ (level - 1)
  pub items : ys ≡ written xs at (rising (ups k level first) i)

-- the blocks below i are left to remove, and that would make the level whole
pub record Left (c : Change) (k level first at i next : ℕ) (xs ys : List Move) : Type 0 where
  pub place : next + i * base k ^ (level - 1) ≡ at + base k ^ level
  pub items : written ys next (falling (downs k level first) i) ≡ written xs at (moves k c level first)

length_up : (k level first n : ℕ) → 2 ≤ k → length (rising (ups k level first) n) ≡ n * base k ^ (level - 1)
length_up k level first n two =
    length_rising (ups k level first) (base k ^ (level - 1)) (λ j. length_at k Place (level - 1) (first + j * k ^ (level - 1)) two) n

module _ {k level first at : ℕ} {xs : List Move} (two : 2 ≤ k) (pos : level ≡ 0 → ⊥) (room : at + base k ^ level ≤ length xs) where
  pub placed_more : {i next width further : ℕ} {ys zs : List Move} → Placed k level first at i next xs ys → i < k → width ≡ k ^ (level - 1) → further ≡ next + base k ^ (level - 1) → zs ≡ written ys next (moves k Place (level - 1) (first + i * width)) → Placed k level first at (i + 1) further xs zs
  placed_more {i} {next} now h wide e more =
      record {
        place = omega (arith, now.place, count_more i (base k ^ (level - 1)));
        items =
            more
            ∙ ap₂ (λ x y. written x next (moves k Place (level - 1) (first + i * y))) now.items wide
            ∙ written_append xs at (rising (ups k level first) i) (ups k level first i) next
            (omega (arith, now.place, length_up k level first i two)) (omega (arith, now.place, block_inside (base k) level i pos (omega arith)))
            ∙ ap (λ x. written xs at (rising (ups k level first) x)) (sym (add-one i));
      }

  -- all m placed, and n to remove
  turned : {c : Change} {m n next : ℕ} {ys : List Move} → Placed k level first at m next xs ys → m + n ≡ base k → moves k c level first ≡ rising (ups k level first) m ++ falling (downs k level first) n → Left c k level first at n next xs ys
  turned {c} {m} {n} {next} now all blocks =
      let place : next + n * base k ^ (level - 1) ≡ at + base k ^ level =
      omega (arith, now.place, add-mul m n (base k ^ (level - 1)), ap (λ x. x * base k ^ (level - 1)) all, whole_level (base k) level pos) in
      record {
        place = place;
        items =
            ap (λ x. written x next (falling (downs k level first) n)) now.items
            ∙ written_append xs at (rising (ups k level first) m) (falling (downs k level first) n) next (omega (arith, now.place, length_up k level first m two)) (omega arith)
            ∙ ap (written xs at) (sym blocks);
      }

  pub build_turned : {m n next : ℕ} {ys : List Move} → Placed k level first at m next xs ys → m ≡ k → n ≡ k - 1 → Left Place k level first at n next xs ys
  unfolding moves
  build_turned now up down =
      turned now (omega arith)
      (ap (λ l. moves k Place l first) (level_suc level pos)
      ∙ ap₂ (λ x y. rising (ups k level first) x ++ falling (downs k level first) y) (sym up) (sym (down ∙ sub-one k)))

  pub unbuild_turned : {m n next : ℕ} {ys : List Move} → Placed k level first at m next xs ys → m ≡ k - 1 → n ≡ k → Left Remove k level first at n next xs ys
  unfolding moves
  unbuild_turned now up down =
      turned now (omega arith)
      (ap (λ l. moves k Remove l first) (level_suc level pos)
      ∙ ap₂ (λ x y. rising (ups k level first) x ++ falling (downs k level first) y) (sym (up ∙ sub-one k)) (sym down))

  pub left_less : {c : Change} {left next width further : ℕ} {ys zs : List Move} → Left c k level first at left next xs ys → 0 < left → length ys ≡ length xs → width ≡ k ^ (level - 1) → further ≡ next + base k ^ (level - 1) → zs ≡ written ys next (moves k Remove (level - 1) (first + (left - 1) * width)) → Left c k level first at (left - 1) further xs zs
  left_less {left = zero} now h same wide e more = absurd (omega arith)
  left_less {left = suc i} {next = next} {further = further} {ys = ys} now h same wide e more =
      rw (level_pred i) (record {
        place = omega (arith, now.place, suc-mul i (base k ^ (level - 1)));
        items =
            ap (λ x. written x further (falling (downs k level first) i))
            (more ∙ ap₂ (λ x y. written ys next (moves k Remove (level - 1) (first + x * y))) (level_pred i) wide)
            ∙ written_append ys next (downs k level first i) (falling (downs k level first) i) further
            (omega (arith, length_at k Remove (level - 1) (first + i * k ^ (level - 1)) two))
            (omega (arith, now.place, suc-mul i (base k ^ (level - 1))))
            ∙ now.items;
      })

-- the whole list at the front
pub written_front : (k n : ℕ) (xs : List Move) → 2 ≤ k → written xs 0 (build k n) ≡ build k n ++ drop (moves_count k n) xs
written_front k n xs two = ap (λ x. build k n ++ drop x xs) (omega (arith, length_at k Place n 0 two))
