-- The bytes so far are 0, or some byte is not. Assumes nothing.
use Rattle.std.proofs.Common.{◌≡◌, eqb, take}
use Rattle.general_laws.specs.Bytes.{every}
use Rattle.text.proofs.bytes.are_zero.Given as goal

abbrev pub invariant-loop-b : goal.invariant-loop-b
invariant-loop-b l = l.zero ≡ every (λ b. eqb b 0) (take l.b-index l.bytes)
