use Rattle.terms.specs.Rounding.{carry}
use Rattle.std.proofs.Common.{arith}
use Rattle.terms.proofs.rounding.half_up.Goals as goal

pub returns-then-remainder-divisor : goal.returns-then-remainder-divisor
unfolding carry
returns-then-remainder-divisor c = grind arith

pub returns-else-remainder-divisor : goal.returns-else-remainder-divisor
unfolding carry
returns-else-remainder-divisor c = grind arith
