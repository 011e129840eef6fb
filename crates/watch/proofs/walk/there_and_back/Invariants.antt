use Rattle.std.proofs.Common.{◌≡◌, vec_items, vec_len}
use Rattle.watch.proofs.Unwinding.{unwound}
use Rattle.watch.proofs.walk.there_and_back.Given as goal

-- what is noted leads back to the start
abbrev pub invariant-forward : goal.invariant-forward
invariant-forward g l = unwound (g.M.Machine.model l.machine).back l.work (vec_items l.noted) ≡ l.fn.work

abbrev pub invariant-back : goal.invariant-back
invariant-back g l = unwound (g.M.Machine.model l.machine).back l.work (vec_items l.noted) ≡ l.fn.work

abbrev pub decreases-back : goal.decreases-back
decreases-back g l = vec_len l.noted
