-- `FE` and the check byte are there, or not. Assumes nothing.
use mathlib.Core.Path.{◌≡◌, refl, sym, ap, ◌∙◌}
use mathlib.Core.Bool.{Bool, true, false, not, ◌&&◌, ◌||◌}
use mathlib.Core.List.{List}
use Prim.Native.Nat.{ℕ}
use lib.Dec.{eqb}
use borrow.Author.Tests.{not-true, not-false}
use Rattle.general_laws.specs.Bytes.{◌!◌}
use Rattle.text.specs.Text.{EOR, check_byte}
use Rattle.receiver_byte_call.specs.InPayload.{advanced_state}
use Rattle.receiver_stretch_start_end.specs.Ahead.{block_ahead, is_framed, framed}
use Rattle.receiver_stretch_start_end.proofs.whole.framed.Goals as goal

not_both : (a b : Bool) → (not a || not b) ≡ not (a && b)
not_both true b = refl
not_both false b = refl

-- the test of the code, under the name of the definition
tested : (text : List ℕ) {check : ℕ} {v : Bool} → check ≡ check_byte (block_ahead text) → (not (eqb (text ! 32) EOR) || not (eqb (text ! 33) check)) ≡ v
    → not (is_framed text) ≡ v
tested text c h =
    sym (not_both (eqb (text ! 32) EOR) (eqb (text ! 33) (check_byte (block_ahead text))))
    ∙ sym (ap (λ n. not (eqb (text ! 32) EOR) || not (eqb (text ! 33) n)) c) ∙ h

pub returns-then-text-check : goal.returns-then-text-check
unfolding framed
returns-then-text-check c = rw (not-true _ (tested c.args.text.now c.check_byte-check.ensures c.if-text-check.true))

pub returns : goal.returns
unfolding framed advanced_state
returns c =
    rw (not-false _ (tested c.args.text.now c.check_byte-check.ensures c.if-text-check.false), c.state_behind-behind.ensures, c.check_byte-check.ensures)
