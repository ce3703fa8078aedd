-- Each turn takes a byte at least. Assumes nothing.
use Rattle.std.proofs.Common.{length}
use Rattle.resend.proofs.Relay.take.Given as goal

abbrev pub decreases-loop-rest : goal.decreases-loop-rest
decreases-loop-rest g l = length l.rest
