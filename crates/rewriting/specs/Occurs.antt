-- side s                  the text of the side s: its first `length` bytes
-- program rules           the rules that a machine uses: the first 32 of its table
-- no_rule                 what is read past the end of a table
-- left_of rules i         the left side of rule i, counted from 0
-- Occurs part text p      part stands in text from place p on
-- Nowhere part text       part occurs at no place
-- Leftmost part text p    part occurs at p and at no smaller place
-- Found part text o       o is the leftmost place of part in text, and none where there is none
-- Chosen rules text m     m is the first rule whose left side occurs, at its leftmost place
-- Applies rules text o    o is the chosen one, and none where no left side occurs
-- Assumes nothing.
use Rattle.std.specs.Prelude.{◌≡◌, ℕ, ◌+◌, ◌<◌, ◌≤◌, false, List, length, take, drop, replicate, Option, MatchOption, slice_index_or}
use Rattle.rewriting.specs.declared.matching.Match.{Match}
use Rattle.rewriting.specs.declared.rule.Side.{Side}
use Rattle.rewriting.specs.declared.rule.Rule.{Rule}
use Rattle.rewriting.specs.Ranges.{zeros_short}

abbrev pub side : Side → List ℕ
side s = take s.length s.bytes

abbrev pub program : List Rule → List Rule
program rules = take 32 rules

unfoldable pub no_rule : Rule
no_rule =
    let empty : Side = record { bytes = replicate 8 0; length = 0; short = zeros_short } in
    record { last = false; left = empty; right = empty }

abbrev pub left_of : List Rule → ℕ → List ℕ
left_of rules i = side (slice_index_or rules i no_rule).left

abbrev pub Occurs : List ℕ → List ℕ → ℕ → Type 0
Occurs part text p = (p + length part ≤ length text) × (take (length part) (drop p text) ≡ part)

abbrev pub Nowhere : List ℕ → List ℕ → Type 0
Nowhere part text = (p : ℕ) → Occurs part text p → ⊥

abbrev pub Leftmost : List ℕ → List ℕ → ℕ → Type 0
Leftmost part text p = Occurs part text p × ((q : ℕ) → q < p → Occurs part text q → ⊥)

abbrev pub Found : List ℕ → List ℕ → Option ℕ → Type 0
Found part text o = MatchOption o (Nowhere part text) (Leftmost part text)

pub record Chosen (rules : List Rule) (text : List ℕ) (m : Match) : Type 0 where
  pub within : m.rule < length rules
  pub leftmost : Leftmost (left_of rules m.rule) text m.place
  pub first : (j : ℕ) → j < m.rule → Nowhere (left_of rules j) text

abbrev pub Applies : List Rule → List ℕ → Option Match → Type 0
Applies rules text o = MatchOption o ((i : ℕ) → i < length rules → Nowhere (left_of rules i) text) (Chosen rules text)
