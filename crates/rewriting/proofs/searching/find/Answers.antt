-- The first place that `find` gives is the leftmost, and there is only one.
use Rattle.std.proofs.Common.{◌≡◌, ◌+◌, ◌-◌, true, false, length, refl, tests, arith}
use Rattle.std.proofs.lemmas.Iterator.{first_from_find, YieldsList-from_range}
use Rattle.std.proofs.lemmas.Grind.{common_steps}
use Rattle.rewriting.proofs.Ranges.{first_number}
use Rattle.rewriting.proofs.Starts.{starts, found_so}
use Rattle.rewriting.proofs.searching.find.Goals as goal

pub returns : goal.returns
returns c =
    let part = c.args.part.now in
    let text = c.args.text.now in
    let places = length text + 1 - length part in
    found_so part text places (omega arith) (omega arith) _
    (first_number _ _ places _
    (first_from_find _ _ _ (λ p. starts part text p ≡ true) (λ p. starts part text p ≡ false) c.find.ensures.ran
    (YieldsList-from_range 0 _ places refl (omega arith)) (λ p q k. grind (arith, common_steps, tests)) (λ p q k. grind (arith, common_steps, tests))))
