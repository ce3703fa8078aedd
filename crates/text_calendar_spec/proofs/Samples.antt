-- Worked examples of minutes, as one theorem about the definitions, computed by the checker; dates at their limits. Assumes
-- nothing.
use mathlib.Core.Path.{◌≡◌, refl}
use mathlib.Core.Bool.{true, false}
use mathlib.Core.List.{[], ◌∷◌}
use lib.IntN.{pos, neg_ℤ}
use Rattle.general_laws.specs.Bytes.{is_in, every, all_of}
use Rattle.text_calendar_spec.specs.Calendar.{is_leap_year, days_in, is_moment, moment}
use Rattle.text_calendar_spec.specs.Minutes.{together, days_of_year, days_before_year, days_of_months, day_of, minutes_before, epoch, minute_of, is_minute, span_from, year_at, month_in, moment_in, moment_at, moment_of}
use Rattle.text_calendar_spec.specs.TimeDigits.{year_of, is_time, minute_in, time_check, digits_for, digits_at}
use Rattle.std.specs.Prelude.{Some, None}

-- Request 111
pub record MinuteRows : Type 0 where
  pub before_epoch : minute_of (moment 1999 12 31 23 59) ≡ neg_ℤ (pos 1)
  pub at_epoch : minute_of (moment 2000 1 1 0 0) ≡ pos 0
  pub leap_day_2000 : minute_of (moment 2000 2 29 0 0) ≡ pos 84960
  pub march_2000 : minute_of (moment 2000 3 1 0 0) ≡ pos 86400
  pub time_1987 : minute_of (moment 1987 8 15 12 15) ≡ neg_ℤ (pos 6510945)
  pub time_1999 : minute_of (moment 1999 6 7 12 10) ≡ neg_ℤ (pos 298790)
  pub february_1900 : minute_of (moment 1900 2 28 23 59) ≡ neg_ℤ (pos 52509601)
  pub march_1900 : minute_of (moment 1900 3 1 0 0) ≡ neg_ℤ (pos 52509600)
  pub february_2100 : minute_of (moment 2100 2 28 23 59) ≡ pos 52680959
  pub march_2100 : minute_of (moment 2100 3 1 0 0) ≡ pos 52680960
  pub leap_day_0000 : minute_of (moment 0 2 29 0 0) ≡ neg_ℤ (pos 1051813440)
  pub least : minute_of (moment 0 1 1 0 0) ≡ neg_ℤ (pos 1051898400)
  pub greatest : minute_of (moment 9999 12 31 23 59) ≡ pos 4207593599
  pub no_leap_day : (is_moment 1999 2 29 0 0 ≡ false) × (is_moment 1900 2 29 0 0 ≡ false)
  -- the limits from both sides
  pub years : (is_minute (neg_ℤ (pos 1051898400)) ≡ true) × (is_minute (neg_ℤ (pos 1051898401)) ≡ false) × (is_minute (pos 4207593599) ≡ true) × (is_minute (pos 4207593600) ≡ false)
  -- the way back
  pub back : (moment_of (neg_ℤ (pos 298790)) ≡ moment 1999 6 7 12 10) × (moment_of (pos 84960) ≡ moment 2000 2 29 0 0) × (moment_of (neg_ℤ (pos 1051898400)) ≡ moment 0 1 1 0 0) × (moment_of (pos 4207593600) ≡ moment 0 0 0 0 0)
  -- the time check, and the digits of a minute
  pub checked : time_check (1 ∷ 9 ∷ 9 ∷ 9 ∷ 1 ∷ 2 ∷ 3 ∷ 1 ∷ 2 ∷ 3 ∷ 5 ∷ 9 ∷ []) ≡ Some (neg_ℤ (pos 1))
  pub invalid : time_check (1 ∷ 9 ∷ 9 ∷ 9 ∷ 0 ∷ 2 ∷ 2 ∷ 9 ∷ 0 ∷ 0 ∷ 0 ∷ 0 ∷ []) ≡ None
  pub digits : digits_at (neg_ℤ (pos 1)) ≡ 1 ∷ 9 ∷ 9 ∷ 9 ∷ 1 ∷ 2 ∷ 3 ∷ 1 ∷ 2 ∷ 3 ∷ 5 ∷ 9 ∷ []

pub minute_rows : MinuteRows
unfolding is_in every all_of is_leap_year days_in is_moment together days_of_year days_before_year days_of_months day_of minutes_before epoch minute_of is_minute span_from year_at month_in moment_in moment_at moment_of year_of is_time minute_in time_check digits_for digits_at
minute_rows =
    record {
      before_epoch = refl;
      at_epoch = refl;
      leap_day_2000 = refl;
      march_2000 = refl;
      time_1987 = refl;
      time_1999 = refl;
      february_1900 = refl;
      march_1900 = refl;
      february_2100 = refl;
      march_2100 = refl;
      leap_day_0000 = refl;
      least = refl;
      greatest = refl;
      no_leap_day = (refl, refl);
      years = (refl, refl, refl, refl);
      back = (refl, refl, refl, refl);
      checked = refl;
      invalid = refl;
      digits = refl;
    }

-- Dates and hours at their limits: "a Gregorian date of years 0000 to 9999, hour 00 to 23, minute 00 to 59"
pub record CalendarRows : Type 0 where
  pub leap_day_1900 : is_moment 1900 2 29 0 0 ≡ false
  pub leap_day_2004 : is_moment 2004 2 29 0 0 ≡ true
  pub leap_day_0000 : is_moment 0 2 29 0 0 ≡ true
  pub day_0 : is_moment 1999 6 0 0 0 ≡ false
  pub month_0 : is_moment 1999 0 1 0 0 ≡ false
  pub month_13 : is_moment 1999 13 1 0 0 ≡ false
  pub january_31 : (is_moment 1999 1 31 0 0 ≡ true) × (is_moment 1999 1 32 0 0 ≡ false)
  pub february_28 : (is_moment 1999 2 28 0 0 ≡ true) × (is_moment 2000 2 30 0 0 ≡ false)
  pub march_31 : (is_moment 1999 3 31 0 0 ≡ true) × (is_moment 1999 3 32 0 0 ≡ false)
  pub april_30 : (is_moment 1999 4 30 0 0 ≡ true) × (is_moment 1999 4 31 0 0 ≡ false)
  pub may_31 : (is_moment 1999 5 31 0 0 ≡ true) × (is_moment 1999 5 32 0 0 ≡ false)
  pub june_30 : (is_moment 1999 6 30 0 0 ≡ true) × (is_moment 1999 6 31 0 0 ≡ false)
  pub july_31 : (is_moment 1999 7 31 0 0 ≡ true) × (is_moment 1999 7 32 0 0 ≡ false)
  pub august_31 : (is_moment 1999 8 31 0 0 ≡ true) × (is_moment 1999 8 32 0 0 ≡ false)
  pub september_30 : (is_moment 1999 9 30 0 0 ≡ true) × (is_moment 1999 9 31 0 0 ≡ false)
  pub october_31 : (is_moment 1999 10 31 0 0 ≡ true) × (is_moment 1999 10 32 0 0 ≡ false)
  pub november_30 : (is_moment 1999 11 30 0 0 ≡ true) × (is_moment 1999 11 31 0 0 ≡ false)
  pub december_31 : (is_moment 9999 12 31 23 59 ≡ true) × (is_moment 1999 12 32 0 0 ≡ false)
  pub hour_24 : is_moment 1999 6 7 24 0 ≡ false
  pub minute_60 : is_moment 1999 6 7 0 60 ≡ false
  pub hour_before_minute : (is_time (1 ∷ 9 ∷ 9 ∷ 9 ∷ 0 ∷ 6 ∷ 0 ∷ 7 ∷ 2 ∷ 3 ∷ 5 ∷ 9 ∷ []) ≡ true) × (is_time (1 ∷ 9 ∷ 9 ∷ 9 ∷ 0 ∷ 6 ∷ 0 ∷ 7 ∷ 5 ∷ 9 ∷ 2 ∷ 3 ∷ []) ≡ false)
  pub month_before_day : (is_time (1 ∷ 9 ∷ 9 ∷ 9 ∷ 1 ∷ 2 ∷ 3 ∷ 1 ∷ 0 ∷ 0 ∷ 0 ∷ 0 ∷ []) ≡ true) × (is_time (1 ∷ 9 ∷ 9 ∷ 9 ∷ 3 ∷ 1 ∷ 1 ∷ 2 ∷ 0 ∷ 0 ∷ 0 ∷ 0 ∷ []) ≡ false)

pub calendar_rows : CalendarRows
unfolding is_in every all_of is_leap_year days_in is_moment year_of is_time
calendar_rows =
    record {
      leap_day_1900 = refl;
      leap_day_2004 = refl;
      leap_day_0000 = refl;
      day_0 = refl;
      month_0 = refl;
      month_13 = refl;
      january_31 = (refl, refl);
      february_28 = (refl, refl);
      march_31 = (refl, refl);
      april_30 = (refl, refl);
      may_31 = (refl, refl);
      june_30 = (refl, refl);
      july_31 = (refl, refl);
      august_31 = (refl, refl);
      september_30 = (refl, refl);
      october_31 = (refl, refl);
      november_30 = (refl, refl);
      december_31 = (refl, refl);
      hour_24 = refl;
      minute_60 = refl;
      hour_before_minute = (refl, refl);
      month_before_day = (refl, refl);
    }
