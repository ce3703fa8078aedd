-- The bytes so far, in stretches and one by one, are all answered 0. Assumes nothing.
use lib.ListN.{length}
use Rattle.receiver_stretches.proofs.Laws.{RunsTo}
use Rattle.receiver_slice_call.proofs.calls.take_bytes.Given as goal

abbrev pub invariant-loop-b : goal.invariant-loop-b
invariant-loop-b l = RunsTo l.fn.state l.fn.grid l.fn.bytes l.s l.grid l.rest

abbrev pub decreases-loop-b : goal.decreases-loop-b
decreases-loop-b l = length l.rest
