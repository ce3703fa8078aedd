-- By the tests, and by what was read. Assumes nothing.
use mathlib.Core.Path.{◌≡◌, refl, sym, ap₂, ◌∙◌}
use mathlib.Core.Bool.{Bool, true, false, not, ◌&&◌, ◌||◌}
use mathlib.Core.List.{List}
use Prim.Native.Nat.{ℕ}
use lib.Dec.{eqb}
use borrow.Author.Rules.{rules}
use borrow.Author.Tests.{not-true, not-false}
use Rattle.general_laws.specs.Bytes.{◌!◌}
use Rattle.text.specs.Kinds.{kind_of}
use Rattle.receiver_state.specs.declared.state.State.{State}
use Rattle.receiver_stretch_start_end.specs.Ahead.{is_gap, is_due_end, end_entered}
use Rattle.receiver_stretch_start_end.proofs.whole.end_entered.Goals as goal

-- three tests that all hold, or not all
not_all : (a b c : Bool) → (not a || not b || not c) ≡ not (a && b && c)
not_all true true c = refl
not_all true false c = refl
not_all false b c = refl

-- the test of the code, under the name of the definition
tested : (s : State) (text : List ℕ) {gap v : Bool} {kind : ℕ} → gap ≡ is_gap s.frame → kind ≡ kind_of s.frame.part s.frame.due
    → (not gap || not (eqb (text ! 1) s.header.picture) || not (eqb (text ! 2) kind)) ≡ v → not (is_due_end s text) ≡ v
tested s text g k h =
    sym (not_all (is_gap s.frame) (eqb (text ! 1) s.header.picture) (eqb (text ! 2) (kind_of s.frame.part s.frame.due)))
    ∙ sym (ap₂ (λ a n. not a || not (eqb (text ! 1) s.header.picture) || not (eqb (text ! 2) n)) g k) ∙ h

pub returns-then-is_gap-picture : goal.returns-then-is_gap-picture
unfolding end_entered
returns-then-is_gap-picture c =
    rw (not-true _ (tested c.args.s c.args.text.now c.is_gap.ensures c.kind_of.ensures c.if-is_gap-picture.true))

pub returns-in_err-modes : goal.returns-in_err-modes
unfolding end_entered
returns-in_err-modes c =
    rw (
      not-false _ (tested c.args.s c.args.text.now c.is_gap.ensures c.kind_of.ensures c.if-is_gap-picture.false),
      sym c.read_end.ensures ∙ c.in_err-modes.was,
    ) (search rules)

pub returns : goal.returns
unfolding end_entered
returns c =
    rw (
      not-false _ (tested c.args.s c.args.text.now c.is_gap.ensures c.kind_of.ensures c.if-is_gap-picture.false),
      sym c.read_end.ensures ∙ c.in_ok-modes.was,
    )
