use Rattle.std.proofs.Common.{arith}
use native.Mathlib.Nat.{pow-le-pow_right}
use Rattle.schedule.proofs.DigitSteps.{segment_fits}
use Rattle.schedule.proofs.sizes.Plan.+by_digits.Goals as goal

pub overflow_mul-result : goal.overflow_mul-result
overflow_mul-result t c = grind (arith, segment_fits, pow-le-pow_right {n = c.args.self.now.sizes.fan_out})

pub overflow_add-result : goal.overflow_add-result
overflow_add-result t c = grind (arith, segment_fits, pow-le-pow_right {n = c.args.self.now.sizes.fan_out})
