-- Each byte is made by a call of the operation at what the two tableaux have there.
use Rattle.std.proofs.Common.{rules}
use Rattle.machine.proofs.Made.{each_made}
use Rattle.rewriting.specs.Tableau.{held}
use Rattle.rewriting.proofs.sums.combined.Goals as goal

pub returns-clause-bytes : goal.returns-clause-bytes
returns-clause-bytes g c k h =
    each_made _ (λ i y. goal.F-post g c.args.op (held c.args.a.now i) (held c.args.b.now i) y) _
    (λ i y q call. search rules) _ _ c.from_fn.ensures.items k 0 h
