-- The moves of one level as blocks of the level below.
use Rattle.std.proofs.Common.{◌≡◌, ℕ, zero, suc, ◌+◌, ◌*◌, ◌^◌, ◌<◌, ◌≤◌, List, ◌++◌, map, reverse, length, sym, refl, ap, ◌∙◌, subst, ap₂, append_assoc, mul-le-mul_right, suc-mul, add-mul, two-mul, arith, length-append}
use native.Mathlib.Nat.{pow-zero, pow-succ'}
use Rattle.std.proofs.lemmas.List.{map-append, reverse-append}
use Rattle.std.proofs.ByRecursion.{All-append, All-weaker}
use Rattle.std.specs.List.{AllByRecursion}
use Rattle.schedule.specs.declared.moves.Move.{Move}
use Rattle.schedule.specs.declared.moves.Change.{Change}
use Rattle.schedule.specs.declared.moves.Change.TheVariants.{Place, Remove}
use Rattle.schedule.specs.Moves.{rising, falling, moves, turned, opposite}
use Rattle.schedule.specs.Sizes.{base}
use Rattle.schedule.specs.Schedule.{undone}
use Rattle.schedule.proofs.Joined.{rising_same, falling_same, map_rising, map_falling, reverse_rising, reverse_falling, all_rising, all_falling, length_rising, length_falling}

-- block i of the level above l, at fan-out suc w
abbrev pub block : ℕ → Change → ℕ → ℕ → ℕ → List Move
block w c l a i = moves (suc w) c l (a + i * suc w ^ l)

-- one level: w placings, the middle block with the change asked for, w removals
pub moves_suc : (w : ℕ) (c : Change) (l a : ℕ) → moves (suc w) c (suc l) a ≡ rising (block w Place l a) w ++ (block w c l a w ++ falling (block w Remove l a) w)
unfolding moves
moves_suc w Place l a = append_assoc (rising (block w Place l a) w) (block w Place l a w) (falling (block w Remove l a) w)
moves_suc w Remove l a = refl

-- an offset inside block i is an offset inside the level
inside : (a i w size s whole : ℕ) → i ≤ w → whole ≡ suc w * size → a + i * size ≤ s → s < a + i * size + size → (a ≤ s) × (s < a + whole)
inside a i w size s whole h e low high =
    (omega arith, omega (arith, mul-le-mul_right {m = suc i} {n = suc w} size (omega arith), suc-mul i size))

level_length : (b w size x y z : ℕ) → b ≡ suc (2 * w) → x ≡ w * size → y ≡ size → z ≡ w * size → x + (y + z) ≡ b * size
level_length b w size x y z e p q r =
    let f : b * size ≡ w * size + w * size + size = ap (λ n. n * size) e ∙ suc-mul (2 * w) size ∙ ap (λ n. n + size) (ap (λ n. n * size) (two-mul w) ∙ add-mul w w size) in
    omega arith

pub length_moves : (w : ℕ) (c : Change) (l a : ℕ) → length (moves (suc w) c l a) ≡ base (suc w) ^ l
unfolding moves
length_moves w Place zero a = sym (pow-zero (base (suc w)))
length_moves w Remove zero a = sym (pow-zero (base (suc w)))
length_moves w c (suc l) a =
    let size : ℕ = base (suc w) ^ l in
    let up = length_rising (block w Place l a) size (λ i. length_moves w Place l (a + i * suc w ^ l)) w in
    let down = length_falling (block w Remove l a) size (λ i. length_moves w Remove l (a + i * suc w ^ l)) w in
    let mid = length_moves w c l (a + w * suc w ^ l) in
    ap length (moves_suc w c l a)
    ∙ length-append (rising (block w Place l a) w) (block w c l a w ++ falling (block w Remove l a) w)
    ∙ ap (λ n. length (rising (block w Place l a) w) + n) (length-append (block w c l a w) (falling (block w Remove l a) w))
    ∙ level_length (base (suc w)) w size _ _ _ (omega arith) up mid down
    ∙ sym (pow-succ' (base (suc w)) l)

-- every segment that a block names lies inside it
pub segments_within : (w : ℕ) (c : Change) (l a : ℕ) → AllByRecursion (λ m. (a ≤ m.segment) × (m.segment < a + suc w ^ l)) (moves (suc w) c l a)
unfolding moves
segments_within w Place zero a = (omega (arith, pow-zero (suc w)), tt)
segments_within w Remove zero a = (omega (arith, pow-zero (suc w)), tt)
segments_within w c (suc l) a =
    let size : ℕ = suc w ^ l in
    let In : Move → Type 0 = λ m. (a ≤ m.segment) × (m.segment < a + suc w ^ suc l) in
    let wider : (c : Change) (i : ℕ) → i ≤ w → AllByRecursion In (block w c l a i) =
    λ c i h. All-weaker (λ m. (a + i * size ≤ m.segment) × (m.segment < a + i * size + size)) In
    (λ m r. inside a i w size m.segment (suc w ^ suc l) h (pow-succ' (suc w) l) r.0 r.1)
    (block w c l a i) (segments_within w c l (a + i * size)) in
    subst (AllByRecursion In) (sym (moves_suc w c l a))
    (All-append In (rising (block w Place l a) w) (block w c l a w ++ falling (block w Remove l a) w)
    (all_rising In (block w Place l a) w (λ i h. wider Place i (omega arith)))
    (All-append In (block w c l a w) (falling (block w Remove l a) w) (wider c w (omega arith))
    (all_falling In (block w Remove l a) w (λ i h. wider Remove i (omega arith)))))

pub undone_append : (xs ys : List Move) → undone (xs ++ ys) ≡ undone ys ++ undone xs
undone_append xs ys = ap reverse (map-append turned xs ys) ∙ reverse-append (map turned xs) (map turned ys)

pub undone_moves : (w : ℕ) (c : Change) (l a : ℕ) → undone (moves (suc w) c l a) ≡ moves (suc w) (opposite c) l a
unfolding moves
undone_moves w Place zero a = refl
undone_moves w Remove zero a = refl
undone_moves w c (suc l) a =
    let up = block w Place l a in
    let down = block w Remove l a in
    let ups : undone (rising up w) ≡ falling down w =
    ap reverse (map_rising turned up w) ∙ reverse_rising (λ i. map turned (up i)) w
    ∙ falling_same (λ i. undone (up i)) down (λ i. undone_moves w Place l (a + i * suc w ^ l)) w in
    let downs : undone (falling down w) ≡ rising up w =
    ap reverse (map_falling turned down w) ∙ reverse_falling (λ i. map turned (down i)) w
    ∙ rising_same (λ i. undone (down i)) up (λ i. undone_moves w Remove l (a + i * suc w ^ l)) w in
    ap undone (moves_suc w c l a)
    ∙ undone_append (rising up w) (block w c l a w ++ falling down w)
    ∙ ap₂ ◌++◌ (undone_append (block w c l a w) (falling down w)
    ∙ ap₂ ◌++◌ downs (undone_moves w c l (a + w * suc w ^ l))) ups
    ∙ append_assoc (rising up w) (block w (opposite c) l a w) (falling down w)
    ∙ sym (moves_suc w (opposite c) l a)
