-- The digits of the definition; those of a date and time fit, and so do twelve 0. Assumes nothing.
use native.Mathlib.Omega.{arith}
use mathlib.Core.Path.{◌≡◌}
use mathlib.Core.Bool.{true, false}
use Prim.Native.Nat.{◌≤◌}
use lib.IntN.{ℤ}
use mir.Facts.{to_z-of_z}
use Rattle.general_laws.proofs.Tests.{by_test}
use Rattle.text_calendar_spec.specs.Minutes.{is_minute, moment_of}
use Rattle.text_calendar_spec.specs.TimeDigits.{digits_for, digits_at}
use Rattle.text_calendar_spec.specs.declared.time.Moment.{Moment}
use Rattle.text_calendar_spec.proofs.Laws.{month_most, in_calendar, moment_forth}
use Rattle.text_calendar.proofs.time.digits_of.Goals as goal

-- each number is below 100, and the year below 10,000
pub record Small (t : Moment) : Type 0 where
  pub year : t.year ≤ 9999
  pub month : t.month ≤ 99
  pub day : t.day ≤ 99
  pub hour : t.hour ≤ 99
  pub minute : t.minute ≤ 99

small : (z : ℤ) → Small (moment_of z)
unfolding moment_of
small z = by_test (is_minute z) inside outside
  where
    inside : is_minute z ≡ true → Small (moment_of z)
    inside h =
        let t : Moment = moment_of z in
        let r = in_calendar t.year t.month t.day t.hour t.minute (moment_forth z h).0 in
        record {
          year = r.year;
          month = omega (arith, r.month_most);
          day = omega (arith, r.day_most, month_most t.year t.month);
          hour = omega (arith, r.hour);
          minute = omega (arith, r.minute);
        }

    outside : is_minute z ≡ false → Small (moment_of z)
    outside h = rw h (record { year = omega arith; month = omega arith; day = omega arith; hour = omega arith; minute = omega arith })

is_small : (z : ℤ) (t : Moment) → t ≡ moment_of z → Small t
is_small z t e = rw e (small z)

pub returns : goal.returns
unfolding digits_at digits_for
returns c = rw (c.moment_of-t.ensures, to_z-of_z c.ranges.minute)

pub overflow_cast-result : goal.overflow_cast-result
overflow_cast-result c = omega (arith, (is_small _ _ c.moment_of-t.ensures).year)

pub overflow_cast-result-5 : goal.overflow_cast-result-5
overflow_cast-result-5 c = omega (arith, (is_small _ _ c.moment_of-t.ensures).month)

pub overflow_cast-result-7 : goal.overflow_cast-result-7
overflow_cast-result-7 c = omega (arith, (is_small _ _ c.moment_of-t.ensures).day)

pub overflow_cast-result-9 : goal.overflow_cast-result-9
overflow_cast-result-9 c = omega (arith, (is_small _ _ c.moment_of-t.ensures).hour)

pub overflow_cast-result-11 : goal.overflow_cast-result-11
overflow_cast-result-11 c = omega (arith, (is_small _ _ c.moment_of-t.ensures).minute)
