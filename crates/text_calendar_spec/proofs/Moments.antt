-- Dates and times and the minutes before them, counted from 1 January 0000, 00:00. Assumes nothing.
use Prim.Native.Nat.{ℕ, ◌+◌, ◌*◌, ◌-◌, ◌/◌, ◌%◌, ◌<◌, ◌≤◌}
use mathlib.Core.Path.{◌≡◌, refl, sym, ap, subst, ◌∙◌}
use mathlib.Core.Bool.{true}
use native.Mathlib.Omega.{arith}
use borrow.Author.Tests.{leb-true, le-leb}
use Rattle.general_laws.specs.Bytes.{all_of}
use Rattle.general_laws.proofs.Tests.{rule_at}
use Rattle.text_calendar_spec.specs.Calendar.{days_in, is_moment, moment}
use Rattle.text_calendar_spec.specs.Minutes.{together, days_of_year, days_before_year, days_of_months, day_of, minutes_before, span_from, year_at, moment_in, moment_at}
use Rattle.text_calendar_spec.specs.declared.time.Moment.{Moment}
use Rattle.text_calendar_spec.proofs.Spans.{lies}
use Rattle.text_calendar_spec.proofs.Days.{none, one_more, months, month_step, year_step, all_years, year_found, moment_found, year_lies, months_ordered, years_ordered}

-- the rules of a date and time, each as a fact
pub record InCalendar (y m d h n : ℕ) : Type 0 where
  pub year : y ≤ 9999
  pub month_least : 1 ≤ m
  pub month_most : m ≤ 12
  pub day_least : 1 ≤ d
  pub day_most : d ≤ days_in y m
  pub hour : h ≤ 23
  pub minute : n ≤ 59

pub in_calendar : (y m d h n : ℕ) → is_moment y m d h n ≡ true → InCalendar y m d h n
unfolding is_moment
in_calendar y m d h n e =
    record {
      year = leb-true _ _ (rule_at _ e 0);
      month_least = leb-true _ _ (rule_at _ e 1);
      month_most = leb-true _ _ (rule_at _ e 2);
      day_least = leb-true _ _ (rule_at _ e 3);
      day_most = leb-true _ _ (rule_at _ e 4);
      hour = leb-true _ _ (rule_at _ e 5);
      minute = leb-true _ _ (rule_at _ e 6);
    }

pub is_moment_lem : (y m d h n : ℕ) → InCalendar y m d h n → is_moment y m d h n ≡ true
unfolding is_moment all_of
is_moment_lem y m d h n r =
    simp (
      le-leb y 9999 r.year,
      le-leb 1 m r.month_least,
      le-leb m 12 r.month_most,
      le-leb 1 d r.day_least,
      le-leb d (days_in y m) r.day_most,
      le-leb h 23 r.hour,
      le-leb n 59 r.minute,
    )

-- a month of a year ends with the year or before
pub in_year : (y k : ℕ) → k < 12 → days_of_months y k + days_in y (k + 1) ≤ days_of_year y
in_year y k l = omega (arith, months y, month_step y k, months_ordered y (k + 1) 12 (omega arith))

-- the same of a month by its number, 1 to 12
pub month_ends : (y m : ℕ) → 1 ≤ m → m ≤ 12 → days_of_months y (m - 1) + days_in y m ≤ days_of_year y
month_ends y m l h =
    let e : m - 1 + 1 ≡ m = omega arith in
    subst (λ (k : ℕ). days_of_months y (m - 1) + days_in y k ≤ days_of_year y) e (in_year y (m - 1) (omega arith))

-- ---- from a date and time to its minute, and back

-- of a day, given by its year, the months that are past and the rest
pub moment_of_day :
    (y k e n : ℕ) → y < 10000 → k < 12 → e < days_in y (k + 1) → n < 1440 →
    moment_at ((days_before_year y + days_of_months y k + e) * 1440 + n) ≡ moment y (k + 1) (e + 1) (n / 60) (n % 60)
unfolding moment_at
moment_of_day y k e n a b l m =
    let d = days_before_year y + days_of_months y k + e in
    let day : (d * 1440 + n) / 1440 ≡ d = omega arith in
    let rest : (d * 1440 + n) % 1440 ≡ n = omega arith in
    let f : year_at d ≡ y = year_found y d (omega arith) (omega (arith, year_step y, in_year y k b)) a in
    let g : d - days_before_year y ≡ days_of_months y k + e = omega arith in
    rw (day, rest, f, g) (sym (moment_found y k (days_of_months y k + e) e n refl l b))

moments : (y h n : ℕ) {m m' d d' h' n' : ℕ} → m ≡ m' → d ≡ d' → h' ≡ h → n' ≡ n → moment y m d h' n' ≡ moment y m' d' h n
moments y h n p q r s = rw (p, q, r, s)

pub there_back : (y m d h n : ℕ) → InCalendar y m d h n → moment_at (minutes_before y m d h n) ≡ moment y m d h n
unfolding minutes_before day_of
there_back y m d h n r =
    let em : m - 1 + 1 ≡ m = omega (arith, r.month_least) in
    let ed : d - 1 + 1 ≡ d = omega (arith, r.day_least) in
    let day = days_before_year y + days_of_months y (m - 1) + (d - 1) in
    let sum : day * 1440 + h * 60 + n ≡ day * 1440 + (h * 60 + n) = omega arith in
    ap moment_at sum
    ∙ moment_of_day y (m - 1) (d - 1) (h * 60 + n) (omega (arith, r.year)) (omega (arith, r.month_least, r.month_most))
    (rw em (omega (arith, r.day_least, r.day_most))) (omega (arith, r.hour, r.minute))
    ∙ moments y h n em ed (omega (arith, r.minute)) (omega (arith, r.minute))

-- ---- and the other way

-- a date and time has n minutes before it
pub record Before (n : ℕ) (t : Moment) : Type 0 where
  pub rules : InCalendar t.year t.month t.day t.hour t.minute
  pub count : minutes_before t.year t.month t.day t.hour t.minute ≡ n

by_day :
    (y k e d n : ℕ) → y < 10000 → k < 12 → e < days_in y (k + 1) → days_before_year y + days_of_months y k + e ≡ d → n < 1440 →
    Before (d * 1440 + n) (moment y (k + 1) (e + 1) (n / 60) (n % 60))
unfolding minutes_before day_of
by_day y k e d n a b l s m =
    let f : k + 1 - 1 ≡ k = omega arith in
    record {
      rules =
          record {
            year = omega arith;
            month_least = omega arith;
            month_most = omega arith;
            day_least = omega arith;
            day_most = omega arith;
            hour = omega arith;
            minute = omega arith;
          };
      count = rw f (omega arith);
    }

-- the months of a year, by place
abbrev in_months : ℕ → ℕ → ℕ
in_months y i = days_in y (i + 1)

pub moment_lies : (n : ℕ) → n < 5259492000 → Before n (moment_at n)
unfolding moment_at days_of_months
moment_lies n b =
    let d = n / 1440 in
    let l : d < 3652425 = omega arith in
    let y = year_at d in
    let r = year_lies d l in
    let e = d - days_before_year y in
    let k = span_from (in_months y) 11 0 e in
    let z : together (in_months y) 0 ≡ 0 = none (in_months y) in
    let m = lies (in_months y) 11 0 e e (omega arith) (omega (arith, months y, r.ends)) in
    let low : together (in_months y) k ≤ e = m.low in
    let high : e - together (in_months y) k < days_in y (k + 1) = omega (arith, m.high, one_more (in_months y) k) in
    let most : k < 12 = omega (arith, m.to) in
    let sum : d * 1440 + n % 1440 ≡ n = omega arith in
    subst (λ (x : ℕ). Before x (moment_in y e (n % 1440))) sum
    (subst (Before (d * 1440 + n % 1440)) (moment_found y k e (e - together (in_months y) k) (n % 1440) (omega arith) high most)
    (by_day y k (e - together (in_months y) k) d (n % 1440) r.known most high (omega (arith, r.begins)) (omega arith)))

-- ---- how many minutes there are

pub day_fits : (y m d h n : ℕ) → InCalendar y m d h n → day_of y m d < 3652425
unfolding day_of
day_fits y m d h n r =
    let k = years_ordered (y + 1) 10000 (omega (arith, r.year)) in
    omega (arith, month_ends y m r.month_least r.month_most, k, all_years, year_step y, r.day_most, r.day_least)

pub minute_fits : (y m d h n : ℕ) → InCalendar y m d h n → minutes_before y m d h n < 5259492000
unfolding minutes_before
minute_fits y m d h n r = omega (arith, day_fits y m d h n r, r.hour, r.minute)
