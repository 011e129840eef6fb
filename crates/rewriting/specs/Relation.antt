-- Still rules t          a machine with these rules stands still at t: if t is well shaped with mark 0, no left side occurs
-- Used rules t m         t is well shaped with mark 0, and m is the chosen rule and place for its text
-- Next rules t o         o is the rule that a step from t uses, and where; none where the machine stands still
-- Stepped table t u x    a step with this table leads from t to u and notes x
-- These say what a step is without a search; the functions next, after and trace compute the same.
-- Assumes nothing.
use Rattle.std.specs.Prelude.{◌≡◌, ℕ, ◌<◌, List, length, Option, MatchOption}
use Rattle.rewriting.specs.declared.matching.Match.{Match}
use Rattle.rewriting.specs.declared.rule.Rule.{Rule}
use Rattle.rewriting.specs.declared.record.RewritingRecord.{RewritingRecord}
use Rattle.rewriting.specs.declared.tableau.RewritingTableau.{RewritingTableau}
use Rattle.rewriting.specs.Tableau.{written}
use Rattle.rewriting.specs.Shape.{WellShaped}
use Rattle.rewriting.specs.Occurs.{program, left_of, Nowhere, Chosen}
use Rattle.rewriting.specs.Step.{after_by, trace_by}

abbrev pub Still : List Rule → RewritingTableau → Type 0
Still rules t = WellShaped t → t.mark ≡ 0 → (i : ℕ) → i < length rules → Nowhere (left_of rules i) (written t)

pub record Used (rules : List Rule) (t : RewritingTableau) (m : Match) : Type 0 where
  pub shaped : WellShaped t
  pub unmarked : t.mark ≡ 0
  pub chosen : Chosen rules (written t) m

abbrev pub Next : List Rule → RewritingTableau → Option Match → Type 0
Next rules t o = MatchOption o (Still rules t) (Used rules t)

pub record Stepped (table : List Rule) (t u : RewritingTableau) (x : RewritingRecord) : Type 0 where
  pub by : Option Match
  pub choice : Next (program table) t by
  pub leads : u ≡ after_by (program table) t by
  pub notes : x ≡ trace_by (program table) t by
