-- The sum in the code's own terms. Assumes nothing.
use Rattle.std.proofs.Common.{rules}
use Rattle.program_streams.specs.Sums.{with_byte}
use Rattle.program_streams.proofs.sums.with_byte.Goals as goal

pub returns : goal.returns
unfolding with_byte
returns c = search rules
