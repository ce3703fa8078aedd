-- Those among the bytes so far are counted. Assumes nothing.
use Rattle.std.proofs.Common.{◌≡◌, ◌≤◌, take}
use Rattle.decode.specs.Count.{count_of}
use Rattle.decode.proofs.counts.bytes_at.Given as goal

abbrev pub invariant-loop-b : goal.invariant-loop-b
invariant-loop-b l = (l.count ≤ l.b-index) × (l.count ≡ count_of (take l.b-index l.bytes) l.value)
