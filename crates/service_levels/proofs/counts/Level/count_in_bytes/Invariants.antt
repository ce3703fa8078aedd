-- The meshes of the bytes so far are counted. Assumes nothing.
use mathlib.Core.Path.{◌≡◌}
use Prim.Native.Nat.{◌+◌, ◌*◌, ◌≤◌}
use Rattle.service_levels.specs.Meshes.{count_to}
use Rattle.service_levels.proofs.counts.Level.count_in_bytes.Given as goal

abbrev pub invariant-loop-b : goal.invariant-loop-b
invariant-loop-b l =
    (l.odd ≤ l.b-index) × (l.even ≤ l.b-index) × (l.odd + l.even ≡ count_to l.bytes l.self.number (2 * l.b-index))
