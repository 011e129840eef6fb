use Rattle.std.proofs.Common.{refl, arith}
use Rattle.std.proofs.lemmas.Bool.Decides.{nat_tests}
use Rattle.schedule.proofs.Soundness.{sound}
use Rattle.schedule.proofs.sizes.Plan.new.Goals as goal

pub invariant_of-result-clause-segments_is : goal.invariant_of-result-clause-segments_is
invariant_of-result-clause-segments_is c = c.pow-segments.ensures

pub returns : goal.returns
returns c =
    record {
      planned = (grind (arith, nat_tests), refl, sound c.args.sizes.fan_out c.args.sizes.depth (grind (arith, nat_tests)));
    }
