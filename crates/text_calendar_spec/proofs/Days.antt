-- Days of years and of months. Assumes nothing.
use Prim.Native.Nat.{ℕ, zero, suc, ◌+◌, ◌*◌, ◌-◌, ◌/◌, ◌%◌, ◌<◌, ◌≤◌}
use mathlib.Core.Path.{◌≡◌, refl, ap, subst}
use mathlib.Core.Bool.{Bool, true, false, cond, ◌&&◌, ◌||◌, not}
use mathlib.Core.List.{[], ◌∷◌}
use native.Mathlib.Numerals.{add-one}
use native.Mathlib.Omega.{arith}
use borrow.Author.Tests.{eqb-true, eqb-false}
use lib.Dec.{eqb}
use Rattle.text_calendar_spec.specs.Calendar.{is_leap_year, days_in, moment}
use Rattle.general_laws.specs.Bytes.{is_in}
use Rattle.text_calendar_spec.specs.Minutes.{together, days_of_year, days_before_year, days_of_months, span_from, year_at, month_in, moment_in}
use Rattle.text_calendar_spec.proofs.Spans.{ordered, bounded, within, found, lies}

-- one year more: a multiple of 4, of 100, of 400 more, or not
up4 : (y : ℕ) (t : Bool) → eqb (y % 4) 0 ≡ t → (suc y + 3) / 4 ≡ (y + 3) / 4 + cond t 1 0
up4 y true e = omega (arith, eqb-true (y % 4) 0 e)
up4 y false e = omega (arith, eqb-false (y % 4) 0 e)

up100 : (y : ℕ) (t : Bool) → eqb (y % 100) 0 ≡ t → (suc y + 99) / 100 ≡ (y + 99) / 100 + cond t 1 0
up100 y true e = omega (arith, eqb-true (y % 100) 0 e)
up100 y false e = omega (arith, eqb-false (y % 100) 0 e)

up400 : (y : ℕ) (t : Bool) → eqb (y % 400) 0 ≡ t → (suc y + 399) / 400 ≡ (y + 399) / 400 + cond t 1 0
up400 y true e = omega (arith, eqb-true (y % 400) 0 e)
up400 y false e = omega (arith, eqb-false (y % 400) 0 e)

leap_by :
    (y : ℕ) (a b c : Bool) → eqb (y % 4) 0 ≡ a → eqb (y % 100) 0 ≡ b → eqb (y % 400) 0 ≡ c →
    cond (a && not b || c) 366 365 + cond b 1 0 ≡ 365 + cond a 1 0 + cond c 1 0
leap_by y true true true p q r = refl
leap_by y true true false p q r = refl
leap_by y true false true p q r = absurd (omega (arith, eqb-false (y % 100) 0 q, eqb-true (y % 400) 0 r))
leap_by y true false false p q r = refl
leap_by y false true true p q r = absurd (omega (arith, eqb-false (y % 4) 0 p, eqb-true (y % 100) 0 q))
leap_by y false true false p q r = absurd (omega (arith, eqb-false (y % 4) 0 p, eqb-true (y % 100) 0 q))
leap_by y false false true p q r = absurd (omega (arith, eqb-false (y % 4) 0 p, eqb-true (y % 400) 0 r))
leap_by y false false false p q r = refl

-- 365 days a year, and the leap years among them
pub counted : (y : ℕ) → days_before_year y + (y + 99) / 100 ≡ y * 365 + (y + 3) / 4 + (y + 399) / 400
unfolding days_before_year together days_of_year is_leap_year
counted zero = refl
counted (suc y) =
    omega (
      arith,
      counted y,
      leap_by y (eqb (y % 4) 0) (eqb (y % 100) 0) (eqb (y % 400) 0) refl refl refl,
      up4 y (eqb (y % 4) 0) refl,
      up100 y (eqb (y % 100) 0) refl,
      up400 y (eqb (y % 400) 0) refl,
    )

-- the months of a year are the year
months_by : (y : ℕ) (t : Bool) → is_leap_year y ≡ t → days_of_months y 12 ≡ cond t 366 365
unfolding days_of_months together days_in is_in
months_by y true e = rw e
months_by y false e = rw e

pub months : (y : ℕ) → days_of_months y 12 ≡ days_of_year y
unfolding days_of_year
months y = months_by y (is_leap_year y) refl

year_by : (t : Bool) → (cond t 366 365 ≤ 366) × (365 ≤ cond t 366 365)
year_by true = omega arith
year_by false = omega arith

pub year_most : (y : ℕ) → days_of_year y ≤ 366
unfolding days_of_year
year_most y = (year_by (is_leap_year y)).0

-- years 0000 to 9999
pub all_years : days_before_year 10000 ≡ 3652425
all_years = omega (arith, counted 10000)

pub none : (size : ℕ → ℕ) → together size 0 ≡ 0
unfolding together
none size = refl

pub one_more : (size : ℕ → ℕ) (k : ℕ) → together size (suc k) ≡ together size k + size k
unfolding together
one_more size k = refl

pub year_step : (y : ℕ) → days_before_year (y + 1) ≡ days_before_year y + days_of_year y
unfolding days_before_year together
year_step y = rw add-one

pub month_step : (y k : ℕ) → days_of_months y (k + 1) ≡ days_of_months y k + days_in y (k + 1)
unfolding days_of_months together
month_step y k = ap (λ (n : ℕ). together (λ i. days_in y (i + 1)) n) (add-one k)

-- a year that has begun on a day of the years 0000 to 9999 is one of these
pub in_years : (y d : ℕ) → days_before_year y ≤ d → d < 3652425 → y < 10000
unfolding days_before_year
in_years y d l m = within days_of_year 10000 y d l (omega (arith, all_years))

pub year_found : (y d : ℕ) → days_before_year y ≤ d → d < days_before_year (y + 1) → y < 10000 → year_at d ≡ y
unfolding days_before_year year_at
year_found y d l m n =
    let e : together days_of_year 0 ≡ 0 = none days_of_year in
    let h : d < together days_of_year (suc y) = rw (add-one y) at m in
    found days_of_year 9999 0 d y (omega arith) (omega arith) (omega arith) (omega arith)

pub no_months : (y : ℕ) → days_of_months y 0 ≡ 0
unfolding days_of_months together
no_months y = refl

month_by : (a b c : Bool) → cond a (cond b 29 28) (cond c 30 31) ≤ 31
month_by true true c = omega arith
month_by true false c = omega arith
month_by false b true = omega arith
month_by false b false = omega arith

pub month_most : (y m : ℕ) → days_in y m ≤ 31
unfolding days_in
month_most y m = month_by (eqb m 2) (is_leap_year y) (is_in m (4 ∷ 6 ∷ 9 ∷ 11 ∷ []))

-- a month that has begun on a day of the year is one of twelve
pub in_months : (y k d : ℕ) → days_of_months y k ≤ d → d < days_of_year y → k < 12
unfolding days_of_months
in_months y k d l m = within (λ i. days_in y (i + 1)) 12 k d l (omega (arith, months y))

pub month_found : (y k d : ℕ) → days_of_months y k ≤ d → d < days_of_months y (k + 1) → k < 12 → month_in y d ≡ k + 1
unfolding days_of_months month_in
month_found y k d l m n =
    let e : together (λ i. days_in y (i + 1)) 0 ≡ 0 = none (λ i. days_in y (i + 1)) in
    let h : d < together (λ i. days_in y (i + 1)) (suc k) = subst (λ (x : ℕ). d < together (λ i. days_in y (i + 1)) x) (add-one k) m in
    ap (λ (x : ℕ). x + 1)
    (found (λ i. days_in y (i + 1)) 11 0 d k (omega arith) (omega arith) (omega arith) (omega arith))

pub years_most : (y : ℕ) → days_before_year y ≤ y * 366
unfolding days_before_year
years_most y = bounded days_of_year 366 year_most y

pub months_most : (y k : ℕ) → days_of_months y k ≤ k * 31
unfolding days_of_months
months_most y k = bounded (λ i. days_in y (i + 1)) 31 (λ i. month_most y (i + 1)) k

-- the date and time, from the months that are past and the rest
pub moment_found :
    (y k d rest n : ℕ) → days_of_months y k + rest ≡ d → rest < days_in y (k + 1) → k < 12 →
    moment y (k + 1) (rest + 1) (n / 60) (n % 60) ≡ moment_in y d n
unfolding moment_in
moment_found y k d rest n e l m =
    let f : month_in y d ≡ k + 1 = month_found y k d (omega arith) (omega (arith, month_step y k)) m in
    let g : month_in y d - 1 ≡ k = omega arith in
    let h : rest + 1 ≡ d - days_of_months y (month_in y d - 1) + 1 = rw g (omega arith) in
    rw (← h, f)

-- the year of a day has begun on it, and has not ended
pub record InYear (d y : ℕ) : Type 0 where
  pub known : y < 10000
  pub begins : days_before_year y ≤ d
  pub ends : d - days_before_year y < days_of_year y

pub year_lies : (d : ℕ) → d < 3652425 → InYear d (year_at d)
unfolding year_at days_before_year
year_lies d l =
    let e : together days_of_year 0 ≡ 0 = none days_of_year in
    let r = lies days_of_year 9999 0 d d (omega arith) (omega (arith, all_years)) in
    record { known = omega (arith, r.to); begins = r.low; ends = omega (arith, r.high, r.low, one_more days_of_year (span_from days_of_year 9999 0 d)) }

pub months_ordered : (y j k : ℕ) → j ≤ k → days_of_months y j ≤ days_of_months y k
unfolding days_of_months
months_ordered y j k l = ordered (λ i. days_in y (i + 1)) j k l

pub years_ordered : (j k : ℕ) → j ≤ k → days_before_year j ≤ days_before_year k
unfolding days_before_year
years_ordered j k l = ordered days_of_year j k l
