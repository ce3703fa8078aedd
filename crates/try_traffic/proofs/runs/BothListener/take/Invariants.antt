-- The measure is what is left of the bytes. Assumes nothing.
use Rattle.std.proofs.Common.{length}
use Rattle.try_traffic.proofs.runs.BothListener.take.Given as goal

abbrev pub decreases-loop-self : goal.decreases-loop-self
decreases-loop-self g l = length l.rest
