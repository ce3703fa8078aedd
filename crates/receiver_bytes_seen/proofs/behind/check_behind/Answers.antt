-- The bytes so far are in the running check byte. Assumes nothing.
use mathlib.Core.Path.{sym, ap, ◌∙◌}
use native.Mathlib.Omega.{arith}
use lib.ListN.{get_or}
use lib.Seq.{take_all}
use Rattle.text.specs.Text.{xor_all}
use Rattle.receiver_spec.specs.Receiver.{◌⊕◌}
use Rattle.receiver_spec.proofs.Laws.{xor_nil}
use Rattle.receiver_bytes_seen.proofs.ManyBytes.{check_on}
use Rattle.receiver_bytes_seen.proofs.behind.check_behind.Goals as goal

pub loop-b-init : goal.loop-b-init
loop-b-init c = sym (xor_nil c.args.check)

pub loop-b-preserved : goal.loop-b-preserved
unfolding ◌⊕◌
loop-b-preserved c =
    let a = c.args in
    ap (λ x. x ⊕ get_or a.bytes.now c.loop-b.b-index 0) c.loop-b.invariant ∙ check_on a.bytes.now c.loop-b.b-index a.check (omega arith)

pub returns : goal.returns
returns c =
    let a = c.args in
    c.loop-b.invariant ∙ ap (λ t. a.check ⊕ xor_all t) (take_all c.loop-b.b-index a.bytes.now (omega arith))
