-- One byte more. Assumes nothing.
use Rattle.std.proofs.Common.{eqb, refl, ap, ◌∙◌, ◌&&◌, slice_index_or}
use Rattle.general_laws.specs.Bytes.{every}
use Rattle.general_laws.proofs.Lists.{every_on}
use Rattle.text.proofs.bytes.are_zero.Goals as goal

pub loop-b-init : goal.loop-b-init
unfolding every
loop-b-init c = refl

pub loop-b-preserved : goal.loop-b-preserved
loop-b-preserved c =
    ap (λ t. t && eqb (slice_index_or c.args.bytes.now c.loop-b.b-index 0) 0) c.loop-b.invariant
    ∙ every_on c.args.bytes.now c.loop-b.b-index c.loop-b-test.true (λ b. eqb b 0)
