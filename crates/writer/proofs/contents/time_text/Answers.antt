-- The characters of the definition, by place. Assumes nothing.
use mathlib.Core.Path.{refl}
use Rattle.writer_spec.specs.Written.{time_text}
use Rattle.writer.proofs.contents.time_text.Goals as goal

pub returns : goal.returns
unfolding time_text
returns c = refl
