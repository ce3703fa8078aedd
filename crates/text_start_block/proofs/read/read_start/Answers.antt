-- 32 bytes are read; other blocks break the rule of their length. Assumes nothing.
use mathlib.Core.Path.{ap, ◌∙◌}
use borrow.Author.Tests.{ne_eqb}
use Rattle.general_laws.specs.Bytes.{all_of}
use Rattle.text.specs.StartBlock.{is_start_block}
use Rattle.text_start_block.specs.Read.{start_read}
use Rattle.text_start_block.proofs.read.read_start.Goals as goal

pub returns-in-Ok : goal.returns-in-Ok
returns-in-Ok c = c.read_whole.ensures ∙ ap start_read c.in-Ok.ensures.1.same

pub returns-in-Err : goal.returns-in-Err
unfolding start_read is_start_block all_of
returns-in-Err c = simp (ne_eqb _ _ c.in-Err.ensures.1)
