-- The contract of fresh, at all twenty marks. Assumes nothing.
use mathlib.Core.Path.{ap, ◌∙◌}
use Rattle.receiver_spec.specs.State as Spec
use Rattle.service_stored_part.proofs.whole.fresh_for_all.Goals as goal

pub returns : goal.returns
returns c = c.fresh.ensures.result_value ∙ ap Spec.fresh c.all_marks.ensures
