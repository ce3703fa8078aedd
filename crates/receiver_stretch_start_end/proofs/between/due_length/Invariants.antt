-- The bytes so far were due. Assumes nothing.
use mathlib.Core.Path.{◌≡◌}
use Prim.Native.Nat.{◌+◌}
use lib.ListN.{drop}
use Rattle.receiver_stretch_start_end.specs.Ahead.{due_length}
use Rattle.receiver_stretch_start_end.proofs.between.due_length.Given as goal

abbrev pub invariant-loop-i : goal.invariant-loop-i
invariant-loop-i l =
    due_length l.initial.seen l.initial.count l.bytes ≡ l.i + due_length l.seen l.count (drop l.i l.bytes)
