-- A register is written in place: the tableau stays in range, and is the one that `put` of the specs makes.
use Rattle.std.proofs.Common.{ap, ◌∙◌, arith}
use Rattle.register.specs.Tableau.{put}
use Rattle.register.proofs.Writes.{put_set}
use Rattle.register.proofs.tableau.RegisterTableau.put.Goals as goal

pub returns : goal.returns
returns c =
    let t = c.args.self.now in
    put_set t _ _ _ (omega arith) (omega arith) ∙ ap (λ i. put t i c.args.value) (omega arith)
