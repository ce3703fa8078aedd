-- The byte behind the block, which joins the running check byte. Assumes nothing.
use Rattle.std.proofs.Common.{sym}
use borrow.Author.Tests.{eq-eqb, le-ltb}
use Rattle.receiver_spec.specs.Receiver.{◌⊕◌}
use Rattle.receiver_rest_of_text.specs.RestOfText.{eor_decided, text_decided}
use Rattle.receiver_rest_of_text.proofs.by_place.text_decided.Goals as goal

pub returns-then-f-block-2 : goal.returns-then-f-block-2
unfolding text_decided eor_decided ◌⊕◌
returns-then-f-block-2 c =
    simp (
      c.expected_decided.ensures,
      sym c.block_length-block.ensures,
      le-ltb _ _ c.if-f-block.false,
      eq-eqb _ _ c.if-f-block-2.true,
    )
