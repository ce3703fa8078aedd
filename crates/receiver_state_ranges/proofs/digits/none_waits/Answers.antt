-- Twelve zeros are a list of which each byte is 0. Assumes nothing.
use Rattle.std.proofs.Common.{rules, ◌∙◌}
use Rattle.receiver_state_ranges.proofs.Zeros.{all_zero}
use Rattle.receiver_state_ranges.proofs.digits.none_waits.Goals as goal

pub returns : goal.returns
returns c = c.eq.ensures ∙ all_zero 12 c.args.digits (search rules)
