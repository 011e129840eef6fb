-- The tail is shifted, the new side copied over the gap, and the rest filled with 0.
use Rattle.rewriting.proofs.Shifts.{replaced_is}
use Rattle.rewriting.proofs.replacing.replace.Goals as goal

pub returns : goal.returns
returns c =
    replaced_is c.args.bytes.now c.copy_within.new.self c.args.new.now c.copy_from_slice.new.self
    c.fill.new.self c.args.used c.args.place c.args.old c.requires.inside c.requires.held c.requires.room
    c.copy_within.ensures.after c.copy_from_slice.ensures.after (c.fill.ensures.after (λ y e. e))
