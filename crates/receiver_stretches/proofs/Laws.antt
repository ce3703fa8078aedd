-- What other crates may rest on. Everything else in proofs/ is this crate's own affair.

-- Bytes that are all answered 0: how many, and one stretch behind another
pub use Rattle.receiver_stretches.proofs.Runs.{passed_count, passed_on, passed_after, RunsTo, runs_to_none, stretch_inside, runs_to_stretch, runs_to_byte, runs_to_stop, runs_to_all, sliced}
-- A slice, stretch by stretch and byte by byte, up to where its run ends; and the run of a slice is 01's slice call

-- Bytes that 01's receiver answers 0 are such a stretch; the code's state for what it then is
pub use Rattle.receiver_stretches.proofs.QuietRuns.{state_of_machine, quiet_passed}
