-- Request 111: a date and time as the signed count of minutes from 1 January 2000, 00:00, and the way back. Assumes nothing.
use Rattle.std.specs.Prelude.{ℕ, zero, suc, ◌+◌, ◌*◌, ◌-◌, ◌/◌, ◌%◌, Bool, cond, ◌&&◌, ltb, ℤ, pos, ◌+ℤ◌, nat_abs}
use Rattle.std.proofs.Math.IntN.{sub_ℕ}
use Rattle.std.specs.Int.Signed.{le_z}
use Rattle.text_calendar_spec.specs.Calendar.{is_leap_year, days_in, moment}
use Rattle.text_calendar_spec.specs.declared.time.Moment.{Moment}

-- ---- from a date and time to its minute

-- the first k of a row of spans together; span i, counted from 0, is `size i` long
unfoldable pub together : (ℕ → ℕ) → ℕ → ℕ
together size zero = 0
together size (suc k) = together size k + size k

-- the days of a year. Request 111
unfoldable pub days_of_year : ℕ → ℕ
days_of_year y = cond (is_leap_year y) 366 365

-- the days before a year, from 1 January 0000 on: those of the years 0, 1, 2 and so on before it. Request 111
unfoldable pub days_before_year : ℕ → ℕ
days_before_year y = together days_of_year y

-- the days before a month of a year: those of the months 1, 2 and so on before it; k is how many these are. Request 111
unfoldable pub days_of_months : ℕ → ℕ → ℕ
days_of_months y k = together (λ i. days_in y (i + 1)) k

-- the days before a date, from 1 January 0000 on. Request 111
unfoldable pub day_of : ℕ → ℕ → ℕ → ℕ
day_of y m d = days_before_year y + days_of_months y (m - 1) + (d - 1)

-- the minutes before a date and time, from 1 January 0000, 00:00, on. Request 111
unfoldable pub minutes_before : ℕ → ℕ → ℕ → ℕ → ℕ → ℕ
minutes_before y m d h n = day_of y m d * 1440 + h * 60 + n

-- those before 1 January 2000, 00:00. Request 111
unfoldable pub epoch : ℕ
epoch = minutes_before 2000 1 1 0 0

-- The signed count of minutes from 1 January 2000, 00:00. Request 111
unfoldable pub minute_of : Moment → ℤ
minute_of t = sub_ℕ (minutes_before t.year t.month t.day t.hour t.minute) epoch

-- A minute of the years 0000 to 9999: from 0000.01.01.00.00 to 9999.12.31.23.59. Request 111
unfoldable pub is_minute : ℤ → Bool
is_minute z = le_z (minute_of (moment 0 1 1 0 0)) z && le_z z (minute_of (moment 9999 12 31 23 59))

-- ---- and back

-- of span k and the n behind it, the one in which place d lies, counted from where span k begins
unfoldable pub span_from : (ℕ → ℕ) → ℕ → ℕ → ℕ → ℕ
span_from size zero k d = k
span_from size (suc n) k d = cond (ltb d (size k)) k (span_from size n (suc k) (d - size k))

-- the year, 0 to 9999, of a day counted from 1 January 0000. Request 111
unfoldable pub year_at : ℕ → ℕ
year_at d = span_from days_of_year 9999 0 d

-- the month, 1 to 12, of a day counted from 1 January of its year. Request 111
unfoldable pub month_in : ℕ → ℕ → ℕ
month_in y d = span_from (λ i. days_in y (i + 1)) 11 0 d + 1

-- the date and time of minute n of such a day. Request 111
unfoldable pub moment_in : ℕ → ℕ → ℕ → Moment
moment_in y d n = moment y (month_in y d) (d - days_of_months y (month_in y d - 1) + 1) (n / 60) (n % 60)

-- the date and time of a minute counted from 1 January 0000, 00:00. Request 111
unfoldable pub moment_at : ℕ → Moment
moment_at n = let y = year_at (n / 1440) in moment_in y (n / 1440 - days_before_year y) (n % 1440)

-- The date and time of a minute counted from 1 January 2000, 00:00; all 0, which is none, where the minute is not of the
-- years 0000 to 9999. Request 111
unfoldable pub moment_of : ℤ → Moment
moment_of z = cond (is_minute z) (moment_at (nat_abs (z +ℤ pos epoch))) (moment 0 0 0 0 0)
