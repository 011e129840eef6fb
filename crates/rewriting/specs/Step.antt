-- next rules t          the rule that a step from t uses, and where; none where the machine stands still
-- changed t p old new   the text of t with the side new in place of as many bytes as the side old has, at p
-- mark_after r          the mark after a step by r: 1 if it is final, else 0
-- can_substitute t p old new   whether the bytes to be replaced lie within the text, and the new text has room
-- substituted t p old new m    t with mark m and the new text, or t itself where that cannot be done
-- halted, after, trace, back   the rewriting machine with a table of rules
-- Assumes nothing.
use Rattle.std.specs.Prelude.{ℕ, suc, pred, ◌+◌, Bool, cond, not, ◌&&◌, List, length, is_some, Some, None, Option, ◌==◌, nat_le, nat_lt, slice_index_or}
use Rattle.rewriting.specs.declared.matching.Match.{Match}
use Rattle.rewriting.specs.declared.rule.Side.{Side}
use Rattle.rewriting.specs.declared.rule.Rule.{Rule}
use Rattle.rewriting.specs.declared.record.RewritingRecord.{RewritingRecord}
use Rattle.rewriting.specs.declared.tableau.RewritingTableau.{RewritingTableau}
use Rattle.rewriting.specs.Tableau.{marked, spelt, written, note}
use Rattle.rewriting.specs.Shape.{well_shaped}
use Rattle.rewriting.specs.Occurs.{side, program, no_rule}
use Rattle.rewriting.specs.Search.{choose}
use Rattle.rewriting.specs.Splice.{spliced, fits}

abbrev pub next : List Rule → RewritingTableau → Option Match
next rules t = cond (well_shaped t && t.mark == 0) (choose rules (written t)) None

unfoldable pub changed : RewritingTableau → ℕ → Side → Side → List ℕ
changed t p old new = spliced (written t) p (length (side old)) (side new)

abbrev pub mark_after : Rule → ℕ
mark_after r = cond r.last 1 0

-- the step by a rule at a place, and its record
abbrev pub applied : Rule → ℕ → RewritingTableau → RewritingTableau
applied r p t =
    cond (fits (changed t p r.left r.right)) (spelt (mark_after r) (changed t p r.left r.right)) (marked t 2)

abbrev pub noted : Rule → Match → RewritingTableau → RewritingRecord
noted r m t = cond (fits (changed t m.place r.left r.right)) (note (suc m.rule) m.place) (note 33 0)

abbrev pub after_by : List Rule → RewritingTableau → Option Match → RewritingTableau
after_by rules t None = t
after_by rules t (Some m) = applied (slice_index_or rules m.rule no_rule) m.place t

abbrev pub trace_by : List Rule → RewritingTableau → Option Match → RewritingRecord
trace_by rules t None = note 0 0
trace_by rules t (Some m) = noted (slice_index_or rules m.rule no_rule) m t

abbrev pub can_substitute : RewritingTableau → ℕ → Side → Side → Bool
can_substitute t p old new = nat_le (p + length (side old)) (length (written t)) && fits (changed t p old new)

abbrev pub substituted : RewritingTableau → ℕ → Side → Side → ℕ → RewritingTableau
substituted t p old new m = cond (can_substitute t p old new) (spelt m (changed t p old new)) t

-- the code of a record undone
abbrev pub undone : List Rule → RewritingTableau → ℕ → ℕ → RewritingTableau
undone rules t i p =
    let r = slice_index_or rules (pred i) no_rule in
    cond (i == 33) (marked t 0) (cond (nat_lt 0 i && nat_le i (length rules)) (substituted t p r.right r.left 0) t)

abbrev pub back_by : List Rule → RewritingTableau → RewritingRecord → RewritingTableau
back_by rules t r = cond (well_shaped t) (undone rules t r.code r.place) t

abbrev pub halted : List Rule → RewritingTableau → Bool
halted rules t = not (is_some (next (program rules) t))

abbrev pub after : List Rule → RewritingTableau → RewritingTableau
after rules t = after_by (program rules) t (next (program rules) t)

abbrev pub trace : List Rule → RewritingTableau → RewritingRecord
trace rules t = trace_by (program rules) t (next (program rules) t)

abbrev pub back : List Rule → RewritingTableau → RewritingRecord → RewritingTableau
back rules = back_by (program rules)
