-- The bytes so far are in the running check byte. Assumes nothing.
use mathlib.Core.Path.{◌≡◌}
use lib.ListN.{take}
use Rattle.text.specs.Text.{xor_all}
use Rattle.receiver_spec.specs.Receiver.{◌⊕◌}
use Rattle.receiver_bytes_seen.proofs.behind.check_behind.Given as goal

abbrev pub invariant-loop-b : goal.invariant-loop-b
invariant-loop-b l = l.running ≡ l.fn.check ⊕ xor_all (take l.b-index l.bytes)
