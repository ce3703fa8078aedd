-- The twelve digits of a time, YYYYMMDDhhmm, as numbers 0 to 9. Assumes nothing.
use Rattle.std.specs.Prelude.{ℕ, ◌+◌, ◌*◌, ◌/◌, ◌%◌, Bool, cond, ◌&&◌, List, [], ◌∷◌, leb, ℤ, Option, Some, None}
use Rattle.general_laws.specs.Bytes.{◌!◌, every}
use Rattle.text_calendar_spec.specs.Calendar.{is_moment, moment}
use Rattle.text_calendar_spec.specs.Minutes.{minute_of, moment_of}
use Rattle.text_calendar_spec.specs.declared.time.Moment.{Moment}

-- The year of the twelve digits. Notice 49, 4(1)(1-1)(d)(イ)
unfoldable pub year_of : List ℕ → ℕ
year_of ds = ds ! 0 * 1000 + ds ! 1 * 100 + ds ! 2 * 10 + ds ! 3

-- The number that two digits give. Notice 49, 4(1)(1-1)(d)(イ)
abbrev pub two_digits : ℕ → ℕ → ℕ
two_digits tens ones = tens * 10 + ones

-- Twelve digits, each 0 to 9, that give a date and time. Notice 49, 4(1)(1-1)(d)(イ)
unfoldable pub is_time : List ℕ → Bool
is_time ds =
    every (λ d. leb d 9) ds
    && is_moment (year_of ds) (two_digits (ds ! 4) (ds ! 5)) (two_digits (ds ! 6) (ds ! 7)) (two_digits (ds ! 8) (ds ! 9)) (two_digits (ds ! 10) (ds ! 11))

-- The minute that they give. Request 111; Notice 49, 4(1)(1-1)(d)(イ)
unfoldable pub minute_in : List ℕ → ℤ
minute_in ds =
    minute_of (moment (year_of ds) (two_digits (ds ! 4) (ds ! 5)) (two_digits (ds ! 6) (ds ! 7)) (two_digits (ds ! 8) (ds ! 9)) (two_digits (ds ! 10) (ds ! 11)))

-- The time check: the minute that twelve digits give, or none where they are no date and time. Request 111; Notice 49, 4(1)(1-1)(d)(イ)
unfoldable pub time_check : List ℕ → Option ℤ
time_check ds = cond (is_time ds) (Some (minute_in ds)) None

-- The twelve digits of a date and time. Notice 49, 4(1)(1-1)(d)(イ)
unfoldable pub digits_for : Moment → List ℕ
digits_for t =
    t.year / 1000 ∷ t.year / 100 % 10 ∷ t.year / 10 % 10 ∷ t.year % 10
    ∷ t.month / 10 ∷ t.month % 10
    ∷ t.day / 10 ∷ t.day % 10
    ∷ t.hour / 10 ∷ t.hour % 10
    ∷ t.minute / 10 ∷ t.minute % 10 ∷ []

-- The twelve digits of a minute; twelve 0 where it is not of the years 0000 to 9999. Request 111; Notice 49,
-- 4(1)(1-1)(d)(イ)
unfoldable pub digits_at : ℤ → List ℕ
digits_at z = digits_for (moment_of z)
