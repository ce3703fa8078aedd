-- Request 111: what minutes come to. Assumes nothing.
use Rattle.std.specs.Prelude.{◌≡◌, ℕ, ◌+◌, Bool, true, false, cond, ◌&&◌, ◌||◌, List, [], ◌∷◌, eqb, ltb, length, ℤ, pos, ◌+ℤ◌}
use Rattle.std.specs.Int.Signed.{lt_z}
use Rattle.text_calendar_spec.specs.Calendar.{days_in, moment, is_in_calendar}
use Rattle.text_calendar_spec.specs.Minutes.{minute_of, is_minute, moment_of}
use Rattle.text_calendar_spec.specs.TimeDigits.{is_time, minute_in, digits_at}
use Rattle.text_calendar_spec.specs.declared.time.Moment.{Moment}

-- the first moment is the earlier: the first of year, month, day, hour and minute in which they differ is less there
unfoldable pub is_earlier : Moment → Moment → Bool
is_earlier t u =
    ltb t.year u.year || eqb t.year u.year
    && (ltb t.month u.month || eqb t.month u.month
    && (ltb t.day u.day || eqb t.day u.day
    && (ltb t.hour u.hour || eqb t.hour u.hour
    && ltb t.minute u.minute)))

-- the next minute on a clock and a calendar
unfoldable pub next_minute : Moment → Moment
next_minute t =
    cond (ltb t.minute 59) (moment t.year t.month t.day t.hour (t.minute + 1))
    (cond (ltb t.hour 23) (moment t.year t.month t.day (t.hour + 1) 0)
    (cond (ltb t.day (days_in t.year t.month)) (moment t.year t.month (t.day + 1) 0 0)
    (cond (ltb t.month 12) (moment t.year (t.month + 1) 1 0 0)
    (moment (t.year + 1) 1 1 0 0))))

-- Of dates and times of the years 0000 to 9999, their minutes and their digits
pub record MinutesClaim : Type 0 where
  -- the way back undoes it, both ways; the minutes are those of the years
  pub back : (t : Moment) → is_in_calendar t ≡ true → moment_of (minute_of t) ≡ t
  pub forth : (z : ℤ) → is_minute z ≡ true → (is_in_calendar (moment_of z) ≡ true) × (minute_of (moment_of z) ≡ z)
  pub years : (t : Moment) → is_in_calendar t ≡ true → is_minute (minute_of t) ≡ true
  -- and a minute outside the years has none: all 0, and so are its digits
  pub outside : (z : ℤ) → is_minute z ≡ false → (moment_of z ≡ moment 0 0 0 0 0) × (digits_at z ≡ 0 ∷ 0 ∷ 0 ∷ 0 ∷ 0 ∷ 0 ∷ 0 ∷ 0 ∷ 0 ∷ 0 ∷ 0 ∷ 0 ∷ [])
  -- a later moment has a greater count, and no other has; so equal counts are equal moments
  pub order : (t u : Moment) → is_in_calendar t ≡ true → is_in_calendar u ≡ true → lt_z (minute_of t) (minute_of u) ≡ is_earlier t u
  pub equal : (t u : Moment) → is_in_calendar t ≡ true → is_in_calendar u ≡ true → minute_of t ≡ minute_of u → t ≡ u
  -- the next minute is one more
  pub next : (t : Moment) → is_in_calendar t ≡ true → minute_of (next_minute t) ≡ minute_of t +ℤ pos 1
  -- twelve digits that give a time are those of its minute; and every minute's are twelve that give it
  pub digits : (ds : List ℕ) → length ds ≡ 12 → is_time ds ≡ true → (is_minute (minute_in ds) ≡ true) × (digits_at (minute_in ds) ≡ ds)
  pub minute : (z : ℤ) → is_minute z ≡ true → (length (digits_at z) ≡ 12) × (is_time (digits_at z) ≡ true) × (minute_in (digits_at z) ≡ z)
