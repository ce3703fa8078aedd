-- The meshes of the stretches so far are counted. Assumes nothing.
use mathlib.Core.Path.{◌≡◌}
use Prim.Native.Nat.{◌*◌}
use Rattle.service_levels.specs.Meshes.{count_to}
use Rattle.service_levels.proofs.counts.Level.count_from.Given as goal

abbrev pub invariant-loop-stretch : goal.invariant-loop-stretch
invariant-loop-stretch l = l.count ≡ count_to l.grid l.self.number (2 * (160 * l.stretch-index))
