-- The Gregorian calendar. Assumes nothing.
use Rattle.std.specs.Prelude.{ℕ, ◌%◌, Bool, cond, ◌&&◌, ◌||◌, not, [], ◌∷◌, eqb, leb}
use Rattle.general_laws.specs.Bytes.{is_in, all_of}
use Rattle.text_calendar_spec.specs.declared.time.Moment.{Moment}

-- A leap year has a 29 February. Notice 49, 4(1)(1-1)(d)(イ)
unfoldable pub is_leap_year : ℕ → Bool
is_leap_year y = eqb (y % 4) 0 && not (eqb (y % 100) 0) || eqb (y % 400) 0

-- the days of a month; 31 where the number is no month. Notice 49, 4(1)(1-1)(d)(イ)
unfoldable pub days_in : ℕ → ℕ → ℕ
days_in y m = cond (eqb m 2) (cond (is_leap_year y) 29 28) (cond (is_in m (4 ∷ 6 ∷ 9 ∷ 11 ∷ [])) 30 31)

-- year, month, day, hour, minute: a date of years 0000 to 9999, hour 00 to 23, minute 00 to 59. Notice 49,
-- 4(1)(1-1)(d)(イ)
unfoldable pub is_moment : ℕ → ℕ → ℕ → ℕ → ℕ → Bool
is_moment y m d h n =
    all_of (leb y 9999 ∷ leb 1 m ∷ leb m 12 ∷ leb 1 d ∷ leb d (days_in y m) ∷ leb h 23 ∷ leb n 59 ∷ [])

-- such a date and time, from its five numbers. Notice 49, 4(1)(1-1)(d)(イ)
abbrev pub moment : ℕ → ℕ → ℕ → ℕ → ℕ → Moment
moment y m d h n = record { year = y; month = m; day = d; hour = h; minute = n }

-- and the same rule of it. Notice 49, 4(1)(1-1)(d)(イ)
abbrev pub is_in_calendar : Moment → Bool
is_in_calendar t = is_moment t.year t.month t.day t.hour t.minute
