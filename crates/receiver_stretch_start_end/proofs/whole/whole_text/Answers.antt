-- A whole text where one stands behind the opening, else none. Assumes nothing.
use mathlib.Core.Path.{◌≡◌, sym, ap, ◌∙◌, subst}
use mathlib.Core.Bool.{true, false}
use mathlib.Core.List.{List}
use Prim.Native.Nat.{ℕ}
use native.Mathlib.Omega.{arith}
use lib.ListN.{length}
use lib.Seq.{length-take-le}
use borrow.Author.Rules.{rules}
use Rattle.std.specs.Prelude.{Option, Some, None}
use Rattle.std.specs.Array.{IsFirstChunk}
use Rattle.general_laws.specs.Bytes.{◌!◌}
use Rattle.general_laws.proofs.Lists.{Bytes, bytes_front}
use Rattle.text.specs.Text.{FD}
use Rattle.receiver_spec.specs.Seen.{ends_opening}
use Rattle.receiver_spec.specs.Marks.{is_marked}
use Rattle.receiver_bytes_seen.specs.AsNumber.{seen_of}
use Rattle.receiver_state.specs.declared.state.State.{State}
use Rattle.receiver_stretch_start_end.specs.Ahead.{is_idle, start_entered, end_entered, framed, WholeOrNone}
use Rattle.receiver_stretch_start_end.proofs.WholeTexts.{Found, found, no_room, no_opening, no_mark, start_found, end_found}
use Rattle.receiver_stretch_start_end.proofs.whole.whole_text.Goals as goal

module _ (s : State) (bytes text : List ℕ) (first : IsFirstChunk bytes text 34) where
  -- what was found, by what the block gives
  module _ (small : Bytes bytes) (opened : ends_opening (seen_of s.seen s.frame.count) FD ≡ true) (marked : is_marked s.marks (text ! 1) ≡ true) where
    size : length text ≡ 34
    size = ap length first.same ∙ length-take-le 34 bytes first.enough

    text_small : Bytes text
    text_small = subst Bytes (sym first.same) (bytes_front 34 bytes small)

    start_none : {r : Option State} → is_idle s.frame ≡ true → start_entered s text ≡ None → r ≡ None → WholeOrNone s bytes r
    start_none i e f =
        subst (WholeOrNone s bytes) (sym f) (found s bytes text first.same first.enough None (rw e at (start_found s text size text_small opened marked i)))

    start_some : {t : State} {r : Option State} → is_idle s.frame ≡ true → start_entered s text ≡ Some t → r ≡ framed t text → WholeOrNone s bytes r
    start_some {r = r} i e f =
        found s bytes text first.same first.enough r (subst (Found s text) (sym f) (rw e at (start_found s text size text_small opened marked i)))

    end_none : {r : Option State} → length s.modes ≡ 8 → is_idle s.frame ≡ false → end_entered s text ≡ None → r ≡ None → WholeOrNone s bytes r
    end_none eight i e f =
        subst (WholeOrNone s bytes) (sym f) (found s bytes text first.same first.enough None (rw e at (end_found s text size text_small opened marked eight i)))

    end_some : {t : State} {r : Option State} → length s.modes ≡ 8 → is_idle s.frame ≡ false → end_entered s text ≡ Some t → r ≡ framed t text
        → WholeOrNone s bytes r
    end_some {r = r} eight i e f =
        found s bytes text first.same first.enough r (subst (Found s text) (sym f) (rw e at (end_found s text size text_small opened marked eight i)))

pub returns-in_err-text : goal.returns-in_err-text
returns-in_err-text c =
    subst (WholeOrNone c.args.s c.args.bytes.now) (sym c.from_residual.ensures) (no_room c.args.s c.args.bytes.now c.in_err-text.ensures.cases)

pub returns-then-not-ends_opening : goal.returns-then-not-ends_opening
returns-then-not-ends_opening c =
    no_opening c.args.s c.args.bytes.now (sym c.ends_opening.ensures ∙ c.if-not-ends_opening.true)

pub returns-then-not-is_marked : goal.returns-then-not-is_marked
returns-then-not-is_marked c =
    let first = c.in_ok-text.ensures.cases in
    found c.args.s c.args.bytes.now c.in_ok-text.text.now first.same first.enough None
    (no_mark c.args.s c.in_ok-text.text.now (sym c.is_marked.ensures ∙ c.if-not-is_marked.true))

pub returns-in_err-start_entered : goal.returns-in_err-start_entered
returns-in_err-start_entered c =
    start_none c.args.s c.args.bytes.now c.in_ok-text.text.now c.in_ok-text.ensures.cases (λ j. omega (arith, c.type_inv.bytes j))
    (sym c.ends_opening.ensures ∙ c.if-not-ends_opening.false) (sym c.is_marked.ensures ∙ c.if-not-is_marked.false)
    (sym c.is_idle.ensures ∙ c.if-is_idle.true) (sym c.start_entered.ensures ∙ c.in_err-start_entered.was)
    c.from_residual-in_err-start_entered.ensures

pub returns-then-is_idle : goal.returns-then-is_idle
returns-then-is_idle c =
    start_some c.args.s c.args.bytes.now c.in_ok-text.text.now c.in_ok-text.ensures.cases (λ j. omega (arith, c.type_inv.bytes j))
    (sym c.ends_opening.ensures ∙ c.if-not-ends_opening.false) (sym c.is_marked.ensures ∙ c.if-not-is_marked.false)
    (sym c.is_idle.ensures ∙ c.if-is_idle.true) (sym c.start_entered.ensures ∙ c.in_ok-start_entered.was) c.framed.ensures

pub returns-in_err-end_entered : goal.returns-in_err-end_entered
returns-in_err-end_entered c =
    end_none c.args.s c.args.bytes.now c.in_ok-text.text.now c.in_ok-text.ensures.cases (λ j. omega (arith, c.type_inv.bytes j))
    (sym c.ends_opening.ensures ∙ c.if-not-ends_opening.false) (sym c.is_marked.ensures ∙ c.if-not-is_marked.false) (search rules)
    (sym c.is_idle.ensures ∙ c.if-is_idle.false) (sym c.end_entered.ensures ∙ c.in_err-end_entered.was)
    c.from_residual-in_err-end_entered.ensures

pub returns : goal.returns
returns c =
    end_some c.args.s c.args.bytes.now c.in_ok-text.text.now c.in_ok-text.ensures.cases (λ j. omega (arith, c.type_inv.bytes j))
    (sym c.ends_opening.ensures ∙ c.if-not-ends_opening.false) (sym c.is_marked.ensures ∙ c.if-not-is_marked.false) (search rules)
    (sym c.is_idle.ensures ∙ c.if-is_idle.false) (sym c.end_entered.ensures ∙ c.in_ok-end_entered.was) c.framed-2.ensures
