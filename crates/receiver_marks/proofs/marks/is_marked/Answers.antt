-- The bit at the code's place. Assumes nothing.
use native.Mathlib.Omega.{arith}
use Rattle.receiver_marks.proofs.PlaceLaws.{place_small, marked_here}
use Rattle.receiver_marks.proofs.marks.is_marked.Goals as goal

pub overflow_shr-result : goal.overflow_shr-result
overflow_shr-result c = omega (arith, c.place_of.ensures, place_small c.args.code (omega arith))

pub returns : goal.returns
returns c =
    let a = c.args in
    simp (c.place_of.ensures, c.is_picture_code.ensures, marked_here a.marks a.code (omega arith))
