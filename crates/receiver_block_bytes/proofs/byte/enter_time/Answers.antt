-- No digit; a time, whose minute enters; no time. Assumes nothing.
use mathlib.Core.Path.{◌≡◌, refl, sym, ap, ◌∙◌}
use mathlib.Core.Bool.{Bool, true, false, ◌&&◌}
use mathlib.Core.List.{List}
use Prim.Native.Nat.{ℕ, ◌≤◌}
use lib.Dec.{leb}
use native.Mathlib.Omega.{arith}
use lib.IntN.{ℤ}
use mir.Syntax.{w64}
use mir.Val.{SFits}
use mir.Facts.{to_z-of_z}
use borrow.Author.Rules.{rules}
use borrow.Author.Tests.{leb-true}
use Rattle.std.specs.Prelude.{Some, None}
use Rattle.general_laws.specs.Bytes.{is_in}
use Rattle.text_calendar_spec.specs.TimeDigits.{time_check}
use Rattle.text.specs.StartBlock.{is_digit}
use Rattle.text.specs.declared.header.Header.{Header}
use Rattle.general_laws.proofs.Tests.{and_split}
use Rattle.receiver_spec.specs.State.{no_digits}
use Rattle.receiver_spec.specs.Contents.{with_digit, with_minute}
use Rattle.receiver_state.specs.declared.grid.Effect.TheVariants.{Keep}
use Rattle.receiver_block_bytes.specs.Time.{is_stop}
use Rattle.receiver_block_bytes.specs.BlockByte.{leaves, time_entered}
use Rattle.text_calendar_spec.proofs.Laws.{checked_minute, checked_invalid}
use Rattle.receiver_block_bytes.proofs.byte.enter_time.Goals as goal

-- a digit is `0` or more
digit_least : (b : ℕ) → is_digit b ≡ true → 48 ≤ b
unfolding is_digit
digit_least b d = leb-true 48 b (and_split (leb 48 b) (leb b 57) d).0

-- the library's test is the definition's
tested : {r t : Bool} (b : ℕ) → r ≡ (leb 48 b && leb b 57) → r ≡ t → is_digit b ≡ t
unfolding is_digit
tested b e f = sym e ∙ f

last_no_stop : is_stop 15 ≡ false
unfolding is_stop is_in
last_no_stop = refl

module _ (h : Header) (m ds : List ℕ) (b : ℕ) where
  at_none : is_digit b ≡ false → None ≡ time_entered h m ds b
  unfolding time_entered
  at_none n = rw n

  at_time : {t : List ℕ} {z : ℤ} → is_digit b ≡ true → t ≡ with_digit ds 15 b → time_check t ≡ Some z → Some (leaves (with_minute h z) m no_digits Keep) ≡ time_entered h m ds b
  unfolding time_entered
  at_time {t} {z} d e c =
      let (time, minute) = checked_minute (with_digit ds 15 b) z (ap time_check (sym e) ∙ c) in
      rw (d, time, minute)

  at_invalid : {t : List ℕ} → is_digit b ≡ true → t ≡ with_digit ds 15 b → time_check t ≡ None → None ≡ time_entered h m ds b
  unfolding time_entered
  at_invalid d e c = rw (d, checked_invalid (with_digit ds 15 b) (ap time_check (sym e) ∙ c))

pub returns-then-not-is_ascii_digit : goal.returns-then-not-is_ascii_digit
returns-then-not-is_ascii_digit c =
    at_none _ _ _ _ (tested _ c.is_ascii_digit.ensures.value c.if-not-is_ascii_digit.true)

pub with_digit-requires : goal.with_digit-requires
with_digit-requires c = record {
  i_bound = omega arith;
  i_value = last_no_stop;
  le_b = digit_least c.args.b (tested c.args.b c.is_ascii_digit.ensures.value c.if-not-is_ascii_digit.false);
}

pub returns-in_err-minute : goal.returns-in_err-minute
returns-in_err-minute c =
    c.from_residual.ensures
    ∙ at_invalid _ _ _ _ (tested _ c.is_ascii_digit.ensures.value c.if-not-is_ascii_digit.false) c.with_digit.ensures
    (sym c.time_check-time.ensures ∙ c.in_err-minute.was)

pub returns : goal.returns
returns c =
    let f : SFits w64 c.in_ok-minute.minute = search rules in
    rw (to_z-of_z f)
    (at_time _ _ _ _ (tested _ c.is_ascii_digit.ensures.value c.if-not-is_ascii_digit.false) c.with_digit.ensures
    (sym c.time_check-time.ensures ∙ c.in_ok-minute.was))
