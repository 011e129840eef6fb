-- The tableau with another mark is the one that `marked` of the specs makes.
use Rattle.std.proofs.Common.{sym, arith}
use Rattle.rewriting.specs.Laws.Bytewise.{same_tableau, mark_marked, length_marked, held_marked}
use Rattle.rewriting.proofs.tableau.RewritingTableau.set_mark.Goals as goal

pub returns : goal.returns
returns c =
    let t = c.args.self.now in
    same_tableau _ _ (rw mark_marked (omega arith)) (sym (length_marked t c.args.mark))
    (λ k h. sym (held_marked t c.args.mark k h))
