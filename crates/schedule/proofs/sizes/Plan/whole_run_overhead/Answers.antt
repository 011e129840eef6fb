use Rattle.std.proofs.Common.{mul-pos, arith}
use native.Mathlib.Nat.{one-le-pow}
use Rattle.schedule.proofs.sizes.Plan.whole_run_overhead.Goals as goal

pub nonzero_div-result : goal.nonzero_div-result
nonzero_div-result c = mul-pos (omega arith) (grind (arith, one-le-pow))
