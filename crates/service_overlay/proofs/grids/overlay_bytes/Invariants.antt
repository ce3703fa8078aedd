-- The bytes so far are the higher ones, the others as they were. Assumes nothing.
use mathlib.Core.Path.{◌≡◌}
use lib.ListN.{take}
use lib.Seq.{sets}
use Rattle.service_overlay_spec.specs.Overlay.{higher}
use Rattle.service_overlay.proofs.grids.overlay_bytes.Given as goal

abbrev pub invariant-loop-i : goal.invariant-loop-i
invariant-loop-i l = l.third ≡ sets l.initial.third 0 (take l.i (higher l.first l.second))
