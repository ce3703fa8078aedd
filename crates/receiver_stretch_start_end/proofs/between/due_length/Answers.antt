-- The bytes so far were due. Assumes nothing.
use mathlib.Core.Path.{◌≡◌, sym, ap, ◌∙◌}
use mathlib.Core.Bool.{Bool, not, ◌||◌}
use Prim.Native.Nat.{ℕ}
use native.Mathlib.Omega.{arith}
use lib.Dec.{eqb}
use lib.ListN.{get_or, drop_of_length-le}
use Rattle.text.specs.Text.{FD}
use Rattle.receiver_stretch_start_end.proofs.BetweenTexts.{due_on, due_stop, due_end}
use Rattle.receiver_stretch_start_end.proofs.between.due_length.Goals as goal

-- the test of the code, under the name of the definition
tested : (b : ℕ) {d e : ℕ} {v : Bool} → d ≡ e → (eqb b FD || not (eqb b d)) ≡ v → (eqb b FD || not (eqb b e)) ≡ v
tested b q h = ap (λ x. eqb b FD || not (eqb b x)) (sym q) ∙ h

pub returns-then-b-due_byte : goal.returns-then-b-due_byte
returns-then-b-due_byte c =
    let bytes = c.args.bytes.now in
    sym
    (due_stop bytes c.loop-i.i _ _ c.loop-i.seen c.loop-i.count c.loop-i.invariant c.loop-i-test.true
    (tested (get_or bytes c.loop-i.i 0) c.due_byte.ensures c.if-b-due_byte.true))

pub loop-i-preserved : goal.loop-i-preserved
loop-i-preserved c =
    let bytes = c.args.bytes.now in
    due_on bytes c.loop-i.i _ _ c.loop-i.seen c.loop-i.count c.loop-i.invariant c.loop-i-test.true
    (tested (get_or bytes c.loop-i.i 0) c.due_byte.ensures c.if-b-due_byte.false) c.pushed-seen.ensures c.counted-count.ensures

pub returns : goal.returns
returns c =
    let bytes = c.args.bytes.now in
    let end = due_end bytes c.loop-i.i _ _ c.loop-i.seen c.loop-i.count c.loop-i.invariant (drop_of_length-le bytes c.loop-i-test.false) in
    omega (arith, end)
