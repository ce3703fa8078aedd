-- The halves of a dry byte, and of any other. Assumes nothing.
use native.Mathlib.Omega.{arith}
use Rattle.text.specs.DataBlock.{odd_level, even_level}
use Rattle.service_levels.proofs.counts.split.Goals as goal

pub returns-then-b-eq0 : goal.returns-then-b-eq0
unfolding odd_level even_level
returns-then-b-eq0 c = record {
  odd_value = omega arith;
  even_value = omega arith;
}

pub returns : goal.returns
unfolding odd_level even_level
returns c = record {
  odd_value = omega arith;
  even_value = omega arith;
}
