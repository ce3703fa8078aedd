-- One byte more. Assumes nothing.
use Rattle.std.proofs.Common.{refl, ap₂, ◌∙◌, ◌&&◌}
use Rattle.general_laws.specs.Bytes.{every}
use Rattle.text.specs.DataBlock.{is_payload_byte}
use Rattle.general_laws.proofs.Lists.{every_on}
use Rattle.text.proofs.payload.are_payload_bytes.Goals as goal

pub loop-b-init : goal.loop-b-init
unfolding every
loop-b-init c = refl

pub loop-b-preserved : goal.loop-b-preserved
loop-b-preserved c =
    ap₂ ◌&&◌ c.loop-b.invariant c.is_payload_byte-kept.ensures
    ∙ every_on c.args.bytes.now c.loop-b.b-index c.loop-b-test.true (is_payload_byte c.args.part)
