-- By what was read. Assumes nothing.
use mathlib.Core.Path.{sym, ◌∙◌}
use borrow.Author.Rules.{rules}
use Rattle.receiver_stretch_start_end.specs.Ahead.{start_entered}
use Rattle.receiver_stretch_start_end.proofs.whole.start_entered.Goals as goal

pub returns-in_err-header : goal.returns-in_err-header
unfolding start_entered
returns-in_err-header c = rw (sym c.read_start.ensures ∙ c.in_err-header.was) (search rules)

pub returns : goal.returns
unfolding start_entered
returns c = rw (sym c.read_start.ensures ∙ c.in_ok-header.was)
