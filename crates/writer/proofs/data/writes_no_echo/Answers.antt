-- The part is not quality, and all bytes are 0. Assumes nothing.
use mathlib.Core.Path.{ap}
use mathlib.Core.Bool.{◌&&◌, not}
use lib.Dec.{eqb}
use Rattle.writer_spec.specs.Written.{writes_no_echo}
use Rattle.writer.proofs.data.writes_no_echo.Goals as goal

pub returns : goal.returns
unfolding writes_no_echo
returns c = ap (λ zero. not (eqb c.args.part 3) && zero) c.are_zero-zero.ensures
