-- The modes that are left, put from place i on, give the definition. Assumes nothing.
use mathlib.Core.Path.{◌≡◌}
use mathlib.Core.List.{map}
use lib.ListN.{drop}
use lib.Seq.{sets}
use Rattle.text.specs.StartBlock.{mode_byte}
use Rattle.writer_spec.specs.Written.{end_contents}
use Rattle.writer.proofs.contents.end_contents.Given as goal

abbrev pub invariant-loop-i : goal.invariant-loop-i
invariant-loop-i l = sets l.contents l.i (map mode_byte (drop l.i l.fn.modes)) ≡ end_contents l.fn.modes
