-- The highest byte and the highest even level so far say whether the bytes so far have no level 15. Assumes nothing.
use mathlib.Core.Path.{◌≡◌}
use mathlib.Core.Bool.{◌&&◌}
use lib.Dec.{leb}
use lib.ListN.{take}
use Rattle.service_levels.specs.Meshes.{has_no_level_15}
use Rattle.service_levels.proofs.counts.has_no_level_15.Given as goal

abbrev pub invariant-loop-b : goal.invariant-loop-b
invariant-loop-b l = leb l.highest 0xEF && leb l.highest_even 14 ≡ has_no_level_15 (take l.b-index l.grid)
