-- The wrapped difference, taken modulo 16,384. Assumes nothing.
use Rattle.std.proofs.Common.{arith}
use Rattle.service_clock.specs.Clock.{clock_steps}
use Rattle.service_clock.proofs.steps.clock_steps.Goals as goal

pub returns : goal.returns
unfolding clock_steps
returns c = omega arith
