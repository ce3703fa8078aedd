-- The record of the definition. Assumes nothing.
use mathlib.Core.Path.{refl}
use Rattle.receiver_spec.specs.Receiver.{◌⊕◌}
use Rattle.receiver_step.specs.Decide.{onward}
use Rattle.receiver_step.proofs.head.onward.Goals as goal

pub returns : goal.returns
unfolding onward ◌⊕◌
returns c = refl
