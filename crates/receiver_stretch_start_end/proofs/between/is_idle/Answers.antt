-- The tests of the definition. Assumes nothing.
use mathlib.Core.Path.{refl}
use Rattle.receiver_stretch_start_end.specs.Ahead.{is_idle}
use Rattle.receiver_stretch_start_end.proofs.between.is_idle.Goals as goal

pub returns : goal.returns
unfolding is_idle
returns c = refl
