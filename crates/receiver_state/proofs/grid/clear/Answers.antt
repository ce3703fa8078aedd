-- The library fills every place. Assumes nothing.
use Rattle.text.specs.Part.{zeros}
use Rattle.receiver_state.proofs.grid.clear.Goals as goal

pub returns : goal.returns
unfolding zeros
returns c = c.fill.ensures.after (λ y e. e)
