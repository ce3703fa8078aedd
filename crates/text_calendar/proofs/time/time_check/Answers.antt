-- The rules of the definition, with the year from its four digits. Assumes nothing.
use mathlib.Core.Path.{◌≡◌, sym, ◌∙◌}
use mathlib.Core.Bool.{◌&&◌}
use Prim.Native.Nat.{ℕ, ◌+◌, ◌*◌}
use native.Mathlib.Omega.{arith}
use borrow.Author.Rules.{rules}
use mir.Syntax.{w64}
use mir.Val.{SFits}
use mir.Facts.{to_z-of_z}
use Rattle.text_calendar_spec.specs.TimeDigits.{year_of, is_time, minute_in, time_check}
use Rattle.text_calendar.proofs.time.time_check.Goals as goal

year : (a b c d : ℕ) → (a * 10 + b) * 100 + (c * 10 + d) ≡ a * 1000 + b * 100 + c * 10 + d
year a b c d = omega arith

-- the test of the code is that of the definition, and the minute that it works out is too
pub returns-then-small-is_in_calendar : goal.returns-then-small-is_in_calendar
unfolding time_check is_time minute_in year_of
returns-then-small-is_in_calendar c =
    let ds = c.args.digits in
    let f : SFits w64 c.minute_of.result = search rules in
    let timed : (c.are_digits-small.result && c.is_in_calendar.result) ≡ is_time ds =
    simp (
      c.are_digits-small.ensures,
      c.is_in_calendar.ensures,
      c.two_digits.ensures,
      c.two_digits-2.ensures,
      c.two_digits-3.ensures,
      c.two_digits-4.ensures,
      c.two_digits-5.ensures,
      c.two_digits-6.ensures,
      year,
    ) in
    let read : c.minute_of.result ≡ minute_in ds =
    c.minute_of.ensures
    ∙ simp (
      c.two_digits.ensures,
      c.two_digits-2.ensures,
      c.two_digits-3.ensures,
      c.two_digits-4.ensures,
      c.two_digits-5.ensures,
      c.two_digits-6.ensures,
      year,
    ) in
    rw (to_z-of_z f, read, sym timed ∙ c.if-small-is_in_calendar.true)

pub returns : goal.returns
unfolding time_check is_time year_of
returns c =
    let timed : (c.are_digits-small.result && c.is_in_calendar.result) ≡ is_time c.args.digits =
    simp (
      c.are_digits-small.ensures,
      c.is_in_calendar.ensures,
      c.two_digits.ensures,
      c.two_digits-2.ensures,
      c.two_digits-3.ensures,
      c.two_digits-4.ensures,
      c.two_digits-5.ensures,
      c.two_digits-6.ensures,
      year,
    ) in
    rw (sym timed ∙ c.if-small-is_in_calendar.false)
