-- A part occurs at a place where as many bytes as it has are the part, so the first such place is the leftmost.
-- Assumes nothing.
use Rattle.std.proofs.Common.{◌≡◌, ℕ, ◌+◌, ◌-◌, ◌<◌, ◌≤◌, min, Bool, true, false, List, length, take, drop, Some, None, Option, MatchOption, Decides, nat_eq, sym, refl, ap, ◌∙◌, arith}
use Rattle.std.specs.List.{starts_with}
use Rattle.std.proofs.lemmas.List.{length-take, length-drop, take-take}
use Rattle.std.proofs.lemmas.Slice.Eq.{slice_eq-Decides}
use Rattle.std.proofs.lemmas.Bool.{both_ways}
use Rattle.std.proofs.lemmas.Bool.Decides.{Decides-eqb}
use Rattle.rewriting.specs.Occurs.{Occurs, Found}
use Rattle.rewriting.specs.Search.{find}
use Rattle.rewriting.specs.Laws.Searching.{find_found, found_once}

-- whether the bytes of the text from p on, as many as the part has, are the part
abbrev pub starts : List ℕ → List ℕ → ℕ → Bool
starts part text p = starts_with nat_eq (take (p + length part - p) (drop p text)) part

starts_is : (part text : List ℕ) (p : ℕ) → p ≤ length text → Decides (starts part text p) (Occurs part text p)
starts_is part text p within =
    let few = take (p + length part - p) (drop p text) in
    let d = slice_eq-Decides Decides-eqb part (take (length part) few) (starts part text p) refl in
    let bytes : take (length part) few ≡ take (length part) (drop p text) = take-take (length part) (p + length part - p) (drop p text) (omega arith) in
    let cut : length (take (length part) (drop p text)) ≡ min (length part) (length text - p) =
    length-take (length part) (drop p text) ∙ ap (min (length part)) (length-drop p text) in (
      λ e.
          let same : part ≡ take (length part) (drop p text) = d.0 e ∙ bytes in
          let size = ap length same in
          (omega arith, sym same),
      λ o. d.1 (sym o.1 ∙ sym bytes),
    )

-- the places from 0 on that are tried: all where the part may fit, and none past the end of the text
module _ (part text : List ℕ) (places : ℕ) (enough : length text + 1 ≤ places + length part) (most : places ≤ length text + 1) where
  found_first : (r : Option ℕ) → MatchOption r ((k : ℕ) → k < places → starts part text k ≡ false) (λ i. (i < places) × (starts part text i ≡ true) × ((k : ℕ) → k < i → starts part text k ≡ false)) → Found part text r
  found_first None none =
      λ p o. let within : p ≤ length text = omega (arith, o.0) in both_ways (starts part text p) (none p (omega (arith, o.0))) ((starts_is part text p within).1 o)
  found_first (Some i) first = (
    (starts_is part text i (omega (arith, first.0))).0 first.1,
    λ p lt o. both_ways (starts part text p) (first.2 p lt) ((starts_is part text p (omega (arith, first.0))).1 o),
  )

  -- both clauses of `find`
  pub found_so : (r : Option ℕ) → MatchOption r ((k : ℕ) → k < places → starts part text k ≡ false) (λ i. (i < places) × (starts part text i ≡ true) × ((k : ℕ) → k < i → starts part text k ≡ false)) → record { leftmost : Found part text r; value : r ≡ find part text }
  found_so r first =
      let found = found_first r first in
      record { leftmost = found; value = found_once part text r (find part text) found (find_found part text) }
