-- The bytes are passed. Assumes nothing.
use mathlib.Core.Path.{sym}
use native.Mathlib.Omega.{arith}
use lib.Seq.{length-take-le}
use Rattle.receiver_stretch_start_end.proofs.BetweenTexts.{wait_most, waited}
use Rattle.receiver_stretch_start_end.proofs.between.wait_run.Goals as goal

pub slice_bounds-state_behind-end : goal.slice_bounds-state_behind-end
slice_bounds-state_behind-end c =
    sym (length-take-le c.wait_length-at.result c.args.bytes.now (omega (arith, c.wait_length-at.ensures, wait_most c.args.s c.args.bytes.now)))

pub returns : goal.returns
returns c = waited c.args.s c.args.bytes.now c.wait_length-at.ensures c.state_behind.ensures
