-- The tableau with another program counter is the one that `go_to` of the specs makes.
use Rattle.std.proofs.Common.{sym, arith}
use Rattle.register.specs.Laws.Places.{same_tableau, pc_go_to, held_go_to}
use Rattle.register.proofs.tableau.RegisterTableau.go_to.Goals as goal

pub returns : goal.returns
returns c =
    same_tableau _ _ (rw pc_go_to (omega arith)) (λ k h. sym (held_go_to c.args.self.now c.args.place k h))
