use Rattle.std.proofs.Common.{arith}
use Rattle.schedule.proofs.Writing.{placed_more, build_turned, unbuild_turned, left_less}
use Rattle.schedule.proofs.sizes.Plan.+build_unbuild.Goals as goal

pub build-up-preserved : goal.build-up-preserved
build-up-preserved t c =
    placed_more c.args.self.now.fan_out_range.0 c.if-level-eq0.false c.requires.room c.up.invariant (omega arith) (cc) c.build-next.ensures.value c.build-next.ensures.items

pub build-down-init : goal.build-down-init
build-down-init t c =
    build_turned c.args.self.now.fan_out_range.0 c.if-level-eq0.false c.requires.room c.up.invariant (omega arith) (omega arith)

pub build-down-preserved : goal.build-down-preserved
build-down-preserved t c =
    left_less c.args.self.now.fan_out_range.0 c.if-level-eq0.false c.requires.room c.down.invariant (omega arith) (omega arith) (cc) c.unbuild-next.ensures.value c.unbuild-next.ensures.items

pub unbuild-up-preserved : goal.unbuild-up-preserved
unbuild-up-preserved t c =
    placed_more c.args.self.now.fan_out_range.0 c.if-level-eq0.false c.requires.room c.up.invariant (omega arith) (cc) c.build-next.ensures.value c.build-next.ensures.items

pub unbuild-down-init : goal.unbuild-down-init
unbuild-down-init t c =
    unbuild_turned c.args.self.now.fan_out_range.0 c.if-level-eq0.false c.requires.room c.up.invariant (omega arith) (omega arith)

pub unbuild-down-preserved : goal.unbuild-down-preserved
unbuild-down-preserved t c =
    left_less c.args.self.now.fan_out_range.0 c.if-level-eq0.false c.requires.room c.down.invariant (omega arith) (omega arith) (cc) c.unbuild-next.ensures.value c.unbuild-next.ensures.items
