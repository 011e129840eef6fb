-- Eight zeros are the registers of the zero tableau.
use Rattle.std.proofs.Common.{refl}
use Rattle.register.specs.Tableau.{tableau}
use Rattle.register.specs.Laws.Places.{same_data}
use Rattle.register.proofs.sums.RegisterTableauTableau.zero.Goals as goal

pub returns : goal.returns
unfolding tableau
returns c = same_data _ _ refl refl
