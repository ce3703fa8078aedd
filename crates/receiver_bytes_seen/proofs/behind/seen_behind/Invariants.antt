-- The bytes that are left come to what all come to. Assumes nothing.
use mathlib.Core.Path.{◌≡◌}
use lib.ListN.{drop}
use Rattle.receiver_bytes_seen.specs.Behind.{seen_after}
use Rattle.receiver_bytes_seen.proofs.behind.seen_behind.Given as goal

abbrev pub invariant-loop-b : goal.invariant-loop-b
invariant-loop-b l = seen_after l.running (drop l.b-index l.last) ≡ seen_after l.fn.seen l.fn.bytes
