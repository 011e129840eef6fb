-- Each size is the number that its bytes spell.
use Rattle.std.proofs.Common.{arith}
use Rattle.layout.proofs.Values.{one_at, two_at, eight_at}
use Rattle.layout.proofs.spelt.sizes_in.Goals as goal

pub returns-clause-fan_out : goal.returns-clause-fan_out
returns-clause-fan_out c = omega (arith, c.from.ensures, one_at c.args.body (omega arith) 0 (omega arith))

pub returns-clause-depth : goal.returns-clause-depth
returns-clause-depth c = omega (arith, c.from-2.ensures, one_at c.args.body (omega arith) 1 (omega arith))

pub returns-clause-steps : goal.returns-clause-steps
returns-clause-steps c = omega (arith, c.from-3.ensures, c.from_be_bytes.ensures, two_at c.args.body (omega arith))

pub returns-clause-allowance : goal.returns-clause-allowance
returns-clause-allowance c = omega (arith, c.from_be_bytes-2.ensures, eight_at c.args.body (omega arith))
