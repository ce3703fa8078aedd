-- 32 bytes are read; other blocks break the rule of their length. Assumes nothing.
use mathlib.Core.Path.{ap, ◌∙◌}
use borrow.Author.Tests.{ne_eqb}
use Rattle.general_laws.specs.Bytes.{all_of}
use Rattle.text.specs.EndBlock.{is_end_block}
use Rattle.text_end_block.specs.Read.{end_read}
use Rattle.text_end_block.proofs.read.read_end.Goals as goal

pub returns-in-Ok : goal.returns-in-Ok
returns-in-Ok c = c.read_whole.ensures ∙ ap (end_read c.args.radars) c.in-Ok.ensures.1.same

pub returns-in-Err : goal.returns-in-Err
unfolding end_read is_end_block all_of
returns-in-Err c = simp (ne_eqb _ _ c.in-Err.ensures.1)
