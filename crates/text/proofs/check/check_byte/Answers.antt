-- The block's exclusive or and `FE`. Assumes nothing.
use mathlib.Core.Path.{ap}
use lib.Bits.{bit_xor}
use Rattle.text.specs.Text.{EOR, check_byte}
use Rattle.text.proofs.check.check_byte.Goals as goal

pub returns : goal.returns
unfolding check_byte
returns c = ap (λ x. bit_xor x EOR) c.xor_all.ensures
