-- Each way out is a case of the definition. A digit that the time takes is 48 or more. Assumes nothing.
use mathlib.Core.Path.{◌≡◌, sym, ◌∙◌}
use mathlib.Core.Bool.{true, false, not, ◌||◌}
use mathlib.Core.List.{List}
use Prim.Native.Nat.{ℕ, ◌-◌, ◌≤◌, ◌<◌}
use native.Mathlib.Omega.{arith}
use lib.Dec.{eqb, leb}
use borrow.Author.Tests.{le-leb, lt-leb, leb-true}
use Rattle.text_calendar_spec.specs.TimeDigits.{is_time}
use Rattle.text.specs.StartBlock.{is_digit}
use Rattle.general_laws.proofs.Tests.{and_split}
use Rattle.receiver_spec.specs.State.{no_digits}
use Rattle.receiver_spec.specs.Contents.{time_takes, with_digit, enter_digits}
use Rattle.receiver_block_bytes.specs.Time.{is_stop}
use Rattle.receiver_block_bytes.proofs.time.enter_digits.Goals as goal

digit_least : (i b : ℕ) → is_stop i ≡ false → time_takes no_digits i b ≡ true → 48 ≤ b
unfolding time_takes is_stop is_digit
digit_least i b s h =
    let (d, _) = and_split (is_digit b) (not (eqb i 15) || is_time (with_digit no_digits i b)) (rw s at h) in
    leb-true 48 b (and_split (leb 48 b) (leb b 57) d).0

module _ (digits : List ℕ) (i b : ℕ) where
  before_time : i ≤ 7 → digits ≡ enter_digits digits i b
  unfolding enter_digits
  before_time l = rw (le-leb i 7 l)

  behind_time : 22 < i → no_digits ≡ enter_digits digits i b
  unfolding enter_digits
  behind_time l = rw (lt-leb i 7 (omega (arith, l)), lt-leb i 22 l)

  at_stop : 7 < i → i ≤ 22 → is_stop (i - 8) ≡ true → digits ≡ enter_digits digits i b
  unfolding enter_digits is_stop
  at_stop l m s = rw (lt-leb i 7 l, le-leb i 22 m, s)

  at_digit : {t : List ℕ} → 7 < i → i ≤ 22 → is_stop (i - 8) ≡ false → t ≡ with_digit digits (i - 8) b → t ≡ enter_digits digits i b
  unfolding enter_digits is_stop
  at_digit l m s q = q ∙ rw (lt-leb i 7 l, le-leb i 22 m, s)

pub with_digit-requires : goal.with_digit-requires
with_digit-requires c =
    let a = c.args in
    let digit : is_stop (a.i - 8) ≡ false = sym c.is_stop.ensures ∙ c.if-is_stop.false in
    let low : 8 ≤ a.i = c.if-i-le7.false in
    record {
      i_bound = omega (arith, c.if-i-gt22.false);
      i_value = digit;
      le_b = digit_least (a.i - 8) a.b digit (c.requires low c.if-i-gt22.false);
    }

pub returns-then-i-le7 : goal.returns-then-i-le7
returns-then-i-le7 c = before_time _ _ _ c.if-i-le7.true

pub returns-then-i-gt22 : goal.returns-then-i-gt22
returns-then-i-gt22 c = behind_time _ _ _ c.if-i-gt22.true

pub returns-then-is_stop : goal.returns-then-is_stop
returns-then-is_stop c = at_stop _ _ _ c.if-i-le7.false c.if-i-gt22.false (sym c.is_stop.ensures ∙ c.if-is_stop.true)

pub returns : goal.returns
returns c = at_digit _ _ _ c.if-i-le7.false c.if-i-gt22.false (sym c.is_stop.ensures ∙ c.if-is_stop.false) c.with_digit.ensures
