-- Each call takes a byte at least, and state, grid and last answer are those of the bytes so far. Assumes nothing.
use lib.ListN.{length}
use Rattle.receiver_state.specs.Meaning.{number_of}
use Rattle.service_stored_part.proofs.Feeding.{FedUpTo}
use Rattle.service_stored_part.proofs.whole.feed_all.Given as goal

abbrev pub invariant-loop-rest : goal.invariant-loop-rest
invariant-loop-rest l = FedUpTo l.fn.bytes l.fed.state l.grid (number_of l.fed.answer) l.rest

abbrev pub decreases-loop-rest : goal.decreases-loop-rest
decreases-loop-rest l = length l.rest
