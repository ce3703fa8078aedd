-- The higher of two levels, in each half. Assumes nothing.
use native.Mathlib.Omega.{arith}
use Rattle.text.specs.DataBlock.{odd_level, even_level}
use Rattle.service_overlay_spec.specs.Overlay.{higher_byte}
use Rattle.service_overlay.proofs.grids.higher_byte.Goals as goal

pub returns : goal.returns
unfolding higher_byte odd_level even_level
returns c = omega arith
