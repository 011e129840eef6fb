-- MakesSide xs r      r is a side with the text xs, which has at most 8 bytes, or an error where xs has more
-- MakesTableau xs r   r is the tableau with mark 0 and the text xs, which has at most 48 bytes, or an error where xs has more
-- Assumes nothing.
use Rattle.std.specs.Prelude.{◌≡◌, ℕ, ◌<◌, ◌≤◌, List, length, Result, MatchResult}
use Rattle.rewriting.specs.declared.rule.Side.{Side}
use Rattle.rewriting.specs.declared.tableau.RewritingTableau.{RewritingTableau}
use Rattle.rewriting.specs.declared.too_long.TooLong.{TooLong}
use Rattle.rewriting.specs.Tableau.{spelt}
use Rattle.rewriting.specs.Occurs.{side}

abbrev pub MakesSide : List ℕ → Result Side TooLong → Type 0
MakesSide xs r = MatchResult r (λ s. (length xs ≤ 8) × (side s ≡ xs)) (λ _. 8 < length xs)

abbrev pub MakesTableau : List ℕ → Result RewritingTableau TooLong → Type 0
MakesTableau xs r = MatchResult r (λ t. (length xs ≤ 48) × (t ≡ spelt 0 xs)) (λ _. 48 < length xs)
