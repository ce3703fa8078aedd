-- A byte that enters, as the definition has it. Assumes nothing.
use Rattle.std.proofs.Common.{ap, ◌∙◌}
use Rattle.receiver_spec.specs.Receiver.{◌⊕◌}
use Rattle.receiver_rest_of_text.specs.RestOfText.{by_entered, block_decided}
use Rattle.receiver_rest_of_text.proofs.by_place.block_decided.Goals as goal

pub returns : goal.returns
unfolding block_decided ◌⊕◌
returns c = c.goes_on.ensures ∙ ap (by_entered c.args.s c.args.b) c.in-Some.ensures
