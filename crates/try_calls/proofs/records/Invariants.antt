-- The measure is what is left of the input. Assumes nothing.
use Rattle.std.proofs.Common.{length}
use Rattle.try_calls.proofs.records.Given as goal

abbrev pub decreases-loop-rest : goal.decreases-loop-rest
decreases-loop-rest g l = length l.rest
