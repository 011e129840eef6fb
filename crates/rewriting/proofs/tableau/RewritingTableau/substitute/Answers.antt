-- The new side is put in where it fits, and else nothing changes.
use Rattle.std.proofs.Common.{refl, arith}
use Rattle.rewriting.proofs.Substituting.{too_large, bytes_put, put_is}
use Rattle.rewriting.proofs.tableau.RewritingTableau.substitute.Goals as goal

pub returns-then-too_large : goal.returns-then-too_large
returns-then-too_large c =
    too_large c.args.self.now c.args.place c.args.old.now c.args.new.now _ _ _ c.written-used.ensures c.text-gone.ensures c.text-added.ensures (omega arith)
    c.args.mark (omega arith)

pub invariant_of-self : goal.invariant_of-self
invariant_of-self c =
    let bytes = bytes_put c.args.self.now c.args.place c.args.old.now c.args.new.now _ _ _ c.written-used.ensures c.text-gone.ensures c.text-added.ensures (omega arith)
    _ c.replace.ensures in
    record { ranged = (omega arith, omega arith, omega arith, λ k h. bytes k) }

pub returns : goal.returns
returns c =
    put_is c.args.self.now c.args.place c.args.old.now c.args.new.now _ _ _ c.written-used.ensures c.text-gone.ensures c.text-added.ensures (omega arith)
    _ c.args.mark (omega arith) refl (omega arith) c.replace.ensures
