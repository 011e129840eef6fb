use Rattle.schedule.specs.declared.moves.Change.TheVariants.{Place, Remove}
use Rattle.schedule.proofs.Writing.{Placed, Left}
use Rattle.schedule.proofs.sizes.Plan.+build_unbuild.Given as goal

abbrev pub decreases-build : goal.decreases-build
decreases-build l = l.level

abbrev pub decreases-unbuild : goal.decreases-unbuild
decreases-unbuild l = l.level

-- so far the blocks below i are placed
abbrev pub invariant-build-up : goal.invariant-build-up
invariant-build-up l = Placed l.self.sizes.fan_out l.level l.first l.at l.i l.next l.fn.out l.out

abbrev pub invariant-unbuild-up : goal.invariant-unbuild-up
invariant-unbuild-up l = Placed l.self.sizes.fan_out l.level l.first l.at l.i l.next l.fn.out l.out

-- the blocks below i are left to remove, which would make the level whole
abbrev pub invariant-build-down : goal.invariant-build-down
invariant-build-down l = Left Place l.self.sizes.fan_out l.level l.first l.at l.i l.next l.fn.out l.out

abbrev pub invariant-unbuild-down : goal.invariant-unbuild-down
invariant-unbuild-down l = Left Remove l.self.sizes.fan_out l.level l.first l.at l.i l.next l.fn.out l.out
