-- The measure is what is left of the bytes. Assumes nothing.
use Rattle.std.proofs.Common.{length}
use Rattle.try_calls.proofs.runs.Shown.give.Given as goal

abbrev pub decreases-loop-rest : goal.decreases-loop-rest
decreases-loop-rest g l = length l.rest
