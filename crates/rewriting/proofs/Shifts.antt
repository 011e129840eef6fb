-- A tail shifted, a side written over the gap and zeros past the new text: the bytes are then those that `replaced` says.
-- Assumes nothing.
use Rattle.std.proofs.Common.{◌≡◌, ℕ, ◌+◌, ◌-◌, ◌≤◌, List, ◌++◌, length, take, drop, replicate, sym, ap, ◌∙◌, arith}
use Rattle.std.proofs.lemmas.Grind.{common_steps}
use lib.Seq.{paste}
use borrow.Rule.Slice.PartMut.{put_mid}
use Rattle.std.proofs.lemmas.List.{length-append, length-take, length-drop, take-take, drop-take}
use Rattle.rewriting.specs.Splice.{spliced, padded, replaced}

-- after the shift and the copy
copied_over : (xs ys new vs : List ℕ) (n p o : ℕ) → p + o ≤ n → n ≤ length xs → n - o + length new ≤ length xs → ys ≡ paste xs (p + length new) (drop (p + o) xs) (n - (p + o)) → vs ≡ new → put_mid p (p + length new - p) ys vs ≡ (take p xs ++ (new ++ take (n - (p + o)) (drop (p + o) xs))) ++ drop (p + length new + (n - (p + o))) xs
copied_over xs ys new vs n p o inside within room shifted same = grind (arith, common_steps)

-- the text as the definition has it
spliced_front : (xs new : List ℕ) (n p o : ℕ) → p + o ≤ n → spliced (take n xs) p o new ≡ take p xs ++ (new ++ take (n - (p + o)) (drop (p + o) xs))
spliced_front xs new n p o inside =
    let below : p ≤ n = omega arith in
    let whole : n ≡ p + o + (n - (p + o)) = omega arith in
    let tail : drop (p + o) (take n xs) ≡ take (n - (p + o)) (drop (p + o) xs) =
    ap (λ i. drop (p + o) (take i xs)) whole ∙ drop-take (p + o) (n - (p + o)) xs in
    ap (λ l. l ++ (new ++ drop (p + o) (take n xs))) (take-take p n xs below) ∙ ap (λ l. take p xs ++ (new ++ l)) tail

-- zeros past a text of e bytes
zeros_past : (front past vs zs : List ℕ) (e : ℕ) → vs ≡ front ++ past → length front ≡ e → zs ≡ replicate (length (take (length vs - e) (drop e vs))) 0 → put_mid e (length vs - e) vs zs ≡ padded (length vs) front
zeros_past front past vs zs e joined size zeros = grind (arith, common_steps)

pub replaced_is : (xs ys new vs zs : List ℕ) (n p o : ℕ) → p + o ≤ n → n ≤ length xs → n - o + length new ≤ length xs → ys ≡ paste xs (p + length new) (drop (p + o) xs) (n - (p + o)) → vs ≡ new → zs ≡ replicate (length (take (length (put_mid p (p + length new - p) ys vs) - (n - o + length new)) (drop (n - o + length new) (put_mid p (p + length new - p) ys vs)))) 0 → put_mid (n - o + length new) (length (put_mid p (p + length new - p) ys vs) - (n - o + length new)) (put_mid p (p + length new - p) ys vs) zs ≡ replaced xs n p o new
replaced_is xs ys new vs zs n p o inside within room shifted same zeros =
    let us = put_mid p (p + length new - p) ys vs in
    let front = take p xs ++ (new ++ take (n - (p + o)) (drop (p + o) xs)) in
    let past = drop (p + length new + (n - (p + o))) xs in
    let joined : us ≡ front ++ past = copied_over xs ys new vs n p o inside within room shifted same in
    let size : length front ≡ n - o + length new = simp (length-append, length-take, length-drop) (omega arith) in
    let rest : length past ≡ length xs - (p + length new + (n - (p + o))) = length-drop (p + length new + (n - (p + o))) xs in
    let all : length us ≡ length xs = ap length joined ∙ length-append front past ∙ omega arith in
    zeros_past front past us zs (n - o + length new) joined size zeros
    ∙ ap (λ i. padded i front) all ∙ ap (padded (length xs)) (sym (spliced_front xs new n p o inside))
