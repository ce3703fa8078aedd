-- The four tests of the definition, three of them from calls. Assumes nothing.
use Rattle.receiver_stretch_payload.specs.Ahead.{is_in_payload}
use Rattle.receiver_stretch_payload.proofs.ahead.is_in_payload.Goals as goal

pub returns : goal.returns
unfolding is_in_payload
returns c =
    simp (c.is_end_kind.ensures, c.is_start_kind.ensures, c.block_length.ensures)
