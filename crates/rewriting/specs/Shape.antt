-- WellShaped t    the mark of t is 0 to 2, its length at most 48, and past the length are only 0
-- all_zero xs     whether xs has only 0
-- well_shaped t   whether t is WellShaped
-- Assumes nothing.
use Rattle.std.specs.Prelude.{◌≡◌, ℕ, ◌≤◌, Bool, ◌&&◌, List, drop, ◌==◌, nat_le}
use Rattle.std.specs.List.{list_all}
use Rattle.rewriting.specs.declared.tableau.RewritingTableau.{RewritingTableau}
use Rattle.rewriting.specs.Tableau.{held}

abbrev pub WellShaped : RewritingTableau → Type 0
WellShaped t = (t.mark ≤ 2) × (t.length ≤ 48) × ((k : ℕ) → t.length ≤ k → held t k ≡ 0)

abbrev pub all_zero : List ℕ → Bool
all_zero xs = list_all (λ x. x == 0) xs

unfoldable pub well_shaped : RewritingTableau → Bool
well_shaped t = nat_le t.mark 2 && (nat_le t.length 48 && all_zero (drop t.length t.text))
