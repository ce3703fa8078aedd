-- The bytes so far keep the rule, or some byte does not. Assumes nothing.
use Rattle.std.proofs.Common.{◌≡◌, take}
use Rattle.general_laws.specs.Bytes.{every}
use Rattle.text.specs.DataBlock.{is_payload_byte}
use Rattle.text.proofs.payload.are_payload_bytes.Given as goal

abbrev pub invariant-loop-b : goal.invariant-loop-b
invariant-loop-b l = l.kept ≡ every (is_payload_byte l.part) (take l.b-index l.bytes)
