-- The twelve digits of a date and time, and the date and time of twelve digits. Assumes nothing.
use Prim.Native.Nat.{ℕ, ◌+◌, ◌*◌, ◌/◌, ◌%◌, ◌<◌, ◌≤◌}
use mathlib.Core.Path.{◌≡◌, sym}
use mathlib.Core.Bool.{true, false}
use mathlib.Core.List.{List}
use native.Mathlib.Omega.{arith}
use borrow.Author.Tests.{leb-true, le-leb}
use lib.Dec.{leb}
use lib.ListN.{length}
use lib.IntN.{ℤ}
use Rattle.general_laws.specs.Bytes.{◌!◌, every}
use Rattle.general_laws.proofs.Tests.{by_test, and_split, every_at}
use Rattle.general_laws.proofs.Places.{by_place}
use Rattle.text_calendar_spec.specs.Calendar.{moment, is_in_calendar}
use Rattle.text_calendar_spec.specs.TimeDigits.{year_of, two_digits, is_time, minute_in, time_check, digits_for}
use Rattle.text_calendar_spec.specs.declared.time.Moment.{Moment}
use Rattle.std.specs.Prelude.{Some, None}
use Rattle.text_calendar_spec.proofs.Days.{month_most}
use Rattle.text_calendar_spec.proofs.Moments.{in_calendar}

-- four digits and two digits give their number
four : (y : ℕ) → y / 1000 * 1000 + y / 100 % 10 * 100 + y / 10 % 10 * 10 + y % 10 ≡ y
four y = omega arith

two : (n : ℕ) → n / 10 * 10 + n % 10 ≡ n
two n = omega arith

-- the date and time that twelve digits give
abbrev pub moment_digits : List ℕ → Moment
moment_digits ds = moment (year_of ds) (two_digits (ds ! 4) (ds ! 5)) (two_digits (ds ! 6) (ds ! 7)) (two_digits (ds ! 8) (ds ! 9)) (two_digits (ds ! 10) (ds ! 11))

pub read_digits : (t : Moment) → moment_digits (digits_for t) ≡ t
unfolding digits_for year_of
read_digits t = simp (four, two)

-- a date and time's digits are 0 to 9
pub small_digits : (t : Moment) → is_in_calendar t ≡ true → every (λ d. leb d 9) (digits_for t) ≡ true
unfolding digits_for every
small_digits t h =
    let r = in_calendar t.year t.month t.day t.hour t.minute h in
    simp (
      le-leb (t.year / 1000) 9 (omega (arith, r.year)),
      le-leb (t.year / 100 % 10) 9 (omega arith),
      le-leb (t.year / 10 % 10) 9 (omega arith),
      le-leb (t.year % 10) 9 (omega arith),
      le-leb (t.month / 10) 9 (omega (arith, r.month_most)),
      le-leb (t.month % 10) 9 (omega arith),
      le-leb (t.day / 10) 9 (omega (arith, r.day_most, month_most t.year t.month)),
      le-leb (t.day % 10) 9 (omega arith),
      le-leb (t.hour / 10) 9 (omega (arith, r.hour)),
      le-leb (t.hour % 10) 9 (omega arith),
      le-leb (t.minute / 10) 9 (omega (arith, r.minute)),
      le-leb (t.minute % 10) 9 (omega arith),
    )

pub digits_time : (t : Moment) → is_in_calendar t ≡ true → is_time (digits_for t) ≡ true
unfolding is_time digits_for year_of
digits_time t h = simp (four, two, small_digits t h, h)

-- the digits of four, and of two
y1 : (a b c d : ℕ) → b ≤ 9 → c ≤ 9 → d ≤ 9 → (a * 1000 + b * 100 + c * 10 + d) / 1000 ≡ a
y1 a b c d p q r = omega arith

y2 : (a b c d : ℕ) → b ≤ 9 → c ≤ 9 → d ≤ 9 → (a * 1000 + b * 100 + c * 10 + d) / 100 % 10 ≡ b
y2 a b c d p q r = omega arith

y3 : (a b c d : ℕ) → c ≤ 9 → d ≤ 9 → (a * 1000 + b * 100 + c * 10 + d) / 10 % 10 ≡ c
y3 a b c d q r = omega arith

y4 : (a b c d : ℕ) → d ≤ 9 → (a * 1000 + b * 100 + c * 10 + d) % 10 ≡ d
y4 a b c d r = omega arith

tens : (a b : ℕ) → b ≤ 9 → (a * 10 + b) / 10 ≡ a
tens a b p = omega arith

ones : (a b : ℕ) → b ≤ 9 → (a * 10 + b) % 10 ≡ b
ones a b p = omega arith

module _ (ds : List ℕ) (h : is_time ds ≡ true) where
  pub time_parts : (every (λ d. leb d 9) ds ≡ true) × (is_in_calendar (moment_digits ds) ≡ true)
  unfolding is_time
  time_parts = and_split _ _ h

  pub digits_back : length ds ≡ 12 → digits_for (moment_digits ds) ≡ ds
  unfolding digits_for year_of
  digits_back l =
      simp (
        y1 (ds ! 0) (ds ! 1) (ds ! 2) (ds ! 3) (digit 1 (omega arith)) (digit 2 (omega arith)) (digit 3 (omega arith)),
        y2 (ds ! 0) (ds ! 1) (ds ! 2) (ds ! 3) (digit 1 (omega arith)) (digit 2 (omega arith)) (digit 3 (omega arith)),
        y3 (ds ! 0) (ds ! 1) (ds ! 2) (ds ! 3) (digit 2 (omega arith)) (digit 3 (omega arith)),
        y4 (ds ! 0) (ds ! 1) (ds ! 2) (ds ! 3) (digit 3 (omega arith)),
        tens (ds ! 4) (ds ! 5) (digit 5 (omega arith)),
        ones (ds ! 4) (ds ! 5) (digit 5 (omega arith)),
        tens (ds ! 6) (ds ! 7) (digit 7 (omega arith)),
        ones (ds ! 6) (ds ! 7) (digit 7 (omega arith)),
        tens (ds ! 8) (ds ! 9) (digit 9 (omega arith)),
        ones (ds ! 8) (ds ! 9) (digit 9 (omega arith)),
        tens (ds ! 10) (ds ! 11) (digit 11 (omega arith)),
        ones (ds ! 10) (ds ! 11) (digit 11 (omega arith)),
      )
      (sym (by_place 12 ds l))
    where
      digit : (i : ℕ) → i < 12 → ds ! i ≤ 9
      digit i m = leb-true (ds ! i) 9 (every_at (λ d. leb d 9) ds time_parts.0 i (omega (arith, l, m)))

-- ---- what the time check gives

pub checked_minute : (ds : List ℕ) (z : ℤ) → time_check ds ≡ Some z → (is_time ds ≡ true) × (z ≡ minute_in ds)
unfolding time_check
checked_minute ds z e =
    by_test (is_time ds)
    (λ t. let f : Some (minute_in ds) ≡ Some z = rw t at e in (t, cc))
    (λ t. let f : None ≡ Some z = rw t at e in cc)

pub checked_invalid : (ds : List ℕ) → time_check ds ≡ None → is_time ds ≡ false
unfolding time_check
checked_invalid ds e =
    by_test (is_time ds) (λ t. let f : Some (minute_in ds) ≡ None = rw t at e in cc) (λ t. t)
