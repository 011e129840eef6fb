-- length_spliced    how long a text is after a replacement
-- bytes_spliced     bytes with bytes put in are bytes
-- spliced_back      what was replaced put back gives the text as it was
-- Assumes nothing.
use Rattle.std.specs.Prelude.{◌≡◌, ℕ, ◌+◌, ◌-◌, ◌<◌, ◌≤◌, List, ◌++◌, length, take, drop, refl}
use Rattle.std.proofs.Common.{sym, ap, ◌∙◌, ⊎_elim, append_assoc, arith}
use Rattle.std.proofs.lemmas.List.{length-append, length-take, length-drop, length-take-le, get_or_append_left, get_or-append_right, get_or-take, get_or-drop, take_at, drop_at, drop-drop, take-append-drop}
use Rattle.std.proofs.lemmas.Bool.{cases_lt}
use Rattle.rewriting.specs.Ranges.{Bytes}
use Rattle.rewriting.specs.Occurs.{Occurs}
use Rattle.rewriting.specs.Splice.{spliced}

pub length_spliced : (xs : List ℕ) (p n : ℕ) (new : List ℕ) → p + n ≤ length xs → length (spliced xs p n new) ≡ length xs - n + length new
length_spliced xs p n new h = simp (length-append, length-take, length-drop) (omega arith)

pub bytes_take : (n : ℕ) (xs : List ℕ) → Bytes xs → Bytes (take n xs)
bytes_take n xs b k h =
    let cut = length-take n xs in
    let small : k < n = omega arith in
    rw (get_or-take n xs k 0 small) (b k (omega arith))

pub bytes_drop : (n : ℕ) (xs : List ℕ) → Bytes xs → Bytes (drop n xs)
bytes_drop n xs b k h = let cut = length-drop n xs in rw (get_or-drop n xs k 0) (b (n + k) (omega arith))

pub bytes_append : (xs ys : List ℕ) → Bytes xs → Bytes ys → Bytes (xs ++ ys)
bytes_append xs ys b c k h =
    let both = length-append xs ys in
    ⊎_elim (λ lt. rw (get_or_append_left xs ys 0 k lt) (b k lt))
    (λ le. rw (get_or-append_right xs ys (length xs) k 0 refl le) (c (k - length xs) (omega arith))) (cases_lt k (length xs))

pub bytes_spliced : (xs : List ℕ) (p n : ℕ) (new : List ℕ) → Bytes xs → Bytes new → Bytes (spliced xs p n new)
bytes_spliced xs p n new b c =
    bytes_append (take p xs) _ (bytes_take p xs b) (bytes_append new _ c (bytes_drop (p + n) xs b))

pub spliced_back : (part xs : List ℕ) (p : ℕ) (new : List ℕ) → Occurs part xs p → spliced (spliced xs p (length part) new) p (length new) part ≡ xs
spliced_back part xs p new o =
    let front = take p xs in
    let tail = drop (p + length part) xs in
    let le : p ≤ length xs = omega arith in
    let cut : length front ≡ p = length-take-le p xs le in
    let same_front : take p (front ++ (new ++ tail)) ≡ front = take_at front (new ++ tail) p cut in
    let both : length (front ++ new) ≡ p + length new = length-append front new ∙ ap (λ n. n + length new) cut in
    let same_tail : drop (p + length new) (front ++ (new ++ tail)) ≡ tail =
    ap (drop (p + length new)) (sym (append_assoc front new tail)) ∙ drop_at (front ++ new) tail (p + length new) both in
    let whole : part ++ tail ≡ drop p xs =
    ap (λ l. l ++ tail) (sym o.1) ∙ ap (λ l. take (length part) (drop p xs) ++ l) (sym (drop-drop (length part) p xs))
    ∙ take-append-drop (length part) (drop p xs) in
    ap (λ l. l ++ (part ++ drop (p + length new) (front ++ (new ++ tail)))) same_front
    ∙ ap (λ l. front ++ (part ++ l)) same_tail ∙ ap (λ l. front ++ l) whole ∙ take-append-drop p xs
