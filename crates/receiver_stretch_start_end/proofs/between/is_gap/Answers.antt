-- The tests of the definition. Assumes nothing.
use borrow.Author.Rules.{rules}
use Rattle.receiver_stretch_start_end.specs.Ahead.{is_gap}
use Rattle.receiver_stretch_start_end.proofs.between.is_gap.Goals as goal

pub returns : goal.returns
unfolding is_gap
returns c = search rules
