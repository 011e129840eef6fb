-- What is answered is `well_shaped` of the specs, which decides the shape.
use Rattle.std.proofs.Common.{◌≡◌, Decides, sym, subst, arith}
use Rattle.std.proofs.lemmas.Grind.{common_steps}
use Rattle.rewriting.specs.Shape.{WellShaped, well_shaped}
use Rattle.rewriting.specs.Laws.Shaping.{well_shaped_is}
use Rattle.rewriting.proofs.tableau.RewritingTableau.is_well_shaped.Goals as goal

pub returns-then-length-le-MOST_BYTES-clause-shaped :
    goal.returns-then-length-le-MOST_BYTES-clause-shaped
unfolding well_shaped
returns-then-length-le-MOST_BYTES-clause-shaped c =
    let t = c.args.self.now in
    let same : c.is_zero.result ≡ well_shaped t = grind (arith, common_steps) in
    subst (λ b. Decides b (WellShaped t)) (sym same) (well_shaped_is t)
