-- 48 zeros are the bytes of the zero tableau.
use Rattle.std.proofs.Common.{ℕ, refl, lit<}
use Rattle.std.proofs.lemmas.List.{get_or-replicate}
use Rattle.rewriting.specs.Tableau.{tableau}
use Rattle.rewriting.specs.Laws.Bytewise.{same_data}
use Rattle.rewriting.proofs.sums.RewritingTableauTableau.zero.Goals as goal

pub invariant_of-result : goal.invariant_of-result
invariant_of-result c =
    record { ranged = (lit< tt, lit< tt, refl, λ k h. rw (get_or-replicate {A = ℕ} 48 k 0 0 h) (lit< tt)) }

pub returns : goal.returns
unfolding tableau
returns c = same_data _ _ refl refl refl
