-- A later moment has more minutes before it; the next minute has one more. Assumes nothing.
use Prim.Native.Nat.{ℕ, ◌+◌, ◌*◌, ◌-◌, ◌<◌, ◌≤◌}
use mathlib.Core.Path.{◌≡◌, sym, ap, subst, ◌∙◌}
use mathlib.Core.Bool.{Bool, true, false, ◌&&◌, ◌||◌}
use native.Mathlib.Omega.{arith}
use borrow.Author.Tests.{eqb-true, eqb-false, ltb-true, ltb-false, lt-ltb, le-ltb}
use lib.Dec.{eqb, ltb}
use Rattle.general_laws.proofs.Tests.{by_test, by_if}
use Rattle.text_calendar_spec.specs.Calendar.{days_in}
use Rattle.text_calendar_spec.specs.Minutes.{days_of_year, days_before_year, days_of_months, day_of, minutes_before}
use Rattle.text_calendar_spec.specs.Claim.{is_earlier, next_minute}
use Rattle.text_calendar_spec.specs.declared.time.Moment.{Moment}
use Rattle.text_calendar_spec.proofs.Days.{no_months, months, month_step, year_step, months_ordered, years_ordered}
use Rattle.text_calendar_spec.proofs.Moments.{InCalendar, month_ends}

-- the rules of a moment, and the minutes before it
abbrev Rules : Moment → Type 0
Rules t = InCalendar t.year t.month t.day t.hour t.minute

abbrev pub before : Moment → ℕ
before t = minutes_before t.year t.month t.day t.hour t.minute

-- a day more is 1,440 minutes more
later_day : (a b c d x y : ℕ) → a < b → c ≤ 23 → d ≤ 59 → a * 1440 + c * 60 + d < b * 1440 + x * 60 + y
later_day a b c d x y l p q = omega arith

module _ (t u : Moment) (r : Rules t) (s : Rules u) where
  year_less : t.year < u.year → before t < before u
  unfolding minutes_before day_of
  year_less l =
      later_day (days_before_year t.year + days_of_months t.year (t.month - 1) + (t.day - 1)) (days_before_year u.year + days_of_months u.year (u.month - 1) + (u.day - 1))
      t.hour t.minute u.hour u.minute
      (omega (arith, month_ends t.year t.month r.month_least r.month_most, years_ordered (t.year + 1) u.year (omega arith), year_step t.year, r.day_most, r.day_least))
      r.hour r.minute

  month_less : t.year ≡ u.year → t.month < u.month → before t < before u
  unfolding minutes_before day_of
  month_less y l =
      let e : t.month - 1 + 1 ≡ t.month = omega (arith, r.month_least) in
      let step : days_of_months t.year t.month ≡ days_of_months t.year (t.month - 1) + days_in t.year t.month =
      subst (λ (k : ℕ). days_of_months t.year k ≡ days_of_months t.year (t.month - 1) + days_in t.year k) e (month_step t.year (t.month - 1)) in
      let ordered : days_of_months t.year t.month ≤ days_of_months u.year (u.month - 1) =
      subst (λ (y : ℕ). days_of_months t.year t.month ≤ days_of_months y (u.month - 1)) y (months_ordered t.year t.month (u.month - 1) (omega arith)) in
      let same : days_before_year t.year ≡ days_before_year u.year = ap days_before_year y in
      later_day (days_before_year t.year + days_of_months t.year (t.month - 1) + (t.day - 1)) (days_before_year u.year + days_of_months u.year (u.month - 1) + (u.day - 1))
      t.hour t.minute u.hour u.minute (omega (arith, step, ordered, same, r.day_most, r.day_least)) r.hour r.minute

  day_less : t.year ≡ u.year → t.month ≡ u.month → t.day < u.day → before t < before u
  unfolding minutes_before day_of
  day_less y m l =
      let same : days_before_year t.year + days_of_months t.year (t.month - 1) ≡ days_before_year u.year + days_of_months u.year (u.month - 1) = rw (y, m) in
      later_day (days_before_year t.year + days_of_months t.year (t.month - 1) + (t.day - 1)) (days_before_year u.year + days_of_months u.year (u.month - 1) + (u.day - 1))
      t.hour t.minute u.hour u.minute (omega (arith, same, r.day_least, s.day_least)) r.hour r.minute

  same_day : t.year ≡ u.year → t.month ≡ u.month → t.day ≡ u.day → day_of t.year t.month t.day ≡ day_of u.year u.month u.day
  same_day y m d = rw (y, m, d)

  hour_less : t.year ≡ u.year → t.month ≡ u.month → t.day ≡ u.day → t.hour < u.hour → before t < before u
  unfolding minutes_before
  hour_less y m d l = omega (arith, same_day y m d, r.minute)

  minute_less : t.year ≡ u.year → t.month ≡ u.month → t.day ≡ u.day → t.hour ≡ u.hour → t.minute < u.minute → before t < before u
  unfolding minutes_before
  minute_less y m d h l = omega (arith, same_day y m d, h)

  none_less : t.year ≡ u.year → t.month ≡ u.month → t.day ≡ u.day → t.hour ≡ u.hour → u.minute ≤ t.minute → before u ≤ before t
  unfolding minutes_before
  none_less y m d h l = omega (arith, same_day y m d, h)

-- one number decides: less, greater, or the next numbers do
decide_by :
    (a b : ℕ) (P : Bool → Type 0) (rest : Bool) → (a < b → P true) → (b < a → P false) → (a ≡ b → P rest) →
    P (ltb a b || eqb a b && rest)
decide_by a b P rest less greater same =
    by_test (ltb a b) (λ e. rw e (less (ltb-true a b e)))
    (λ e. by_test (eqb a b) (λ f. rw (e, f) (same (eqb-true a b f)))
    (λ f. rw (e, f) (greater (let n = eqb-false a b f in let l : b ≤ a = ltb-false a b e in omega (arith, n, l)))))

pub order : (t u : Moment) → Rules t → Rules u → ltb (before t) (before u) ≡ is_earlier t u
unfolding is_earlier
order t u r s =
    decide_by t.year u.year P _ (λ l. less (year_less t u r s l)) (λ l. greater (year_less u t s r l))
    (λ y. decide_by t.month u.month P _ (λ l. less (month_less t u r s y l)) (λ l. greater (month_less u t s r (sym y) l))
    (λ m. decide_by t.day u.day P _ (λ l. less (day_less t u r s y m l)) (λ l. greater (day_less u t s r (sym y) (sym m) l))
    (λ d. decide_by t.hour u.hour P _ (λ l. less (hour_less t u r s y m d l)) (λ l. greater (hour_less u t s r (sym y) (sym m) (sym d) l))
    (λ h. by_test (ltb t.minute u.minute) (λ e. rw e (less (minute_less t u r s y m d h (ltb-true t.minute u.minute e))))
    (λ e. rw e (le-ltb (before t) (before u) (none_less t u r s y m d h (ltb-false t.minute u.minute e))))))))
  where
    P : Bool → Type 0
    P x = ltb (before t) (before u) ≡ x

    less : before t < before u → P true
    less l = lt-ltb (before t) (before u) l

    greater : before u < before t → P false
    greater l = le-ltb (before t) (before u) (omega (arith, l))

-- ---- the next minute

module _ (t : Moment) (r : Rules t) where
  abbrev IsNext : Moment → Type 0
  IsNext u = before u ≡ before t + 1

  pub next : IsNext (next_minute t)
  unfolding next_minute minutes_before day_of
  next =
      let e : t.month - 1 + 1 ≡ t.month = omega (arith, r.month_least) in
      let step : days_of_months t.year t.month ≡ days_of_months t.year (t.month - 1) + days_in t.year t.month =
      subst (λ (k : ℕ). days_of_months t.year k ≡ days_of_months t.year (t.month - 1) + days_in t.year k) e (month_step t.year (t.month - 1)) in
      by_if IsNext (ltb t.minute 59) (λ p. omega arith)
      (λ p. let n : 59 ≤ t.minute = ltb-false t.minute 59 p in
      by_if IsNext (ltb t.hour 23) (λ q. omega (arith, n, r.minute))
      (λ q. let h : 23 ≤ t.hour = ltb-false t.hour 23 q in
      by_if IsNext (ltb t.day (days_in t.year t.month))
      (λ x. omega (arith, n, h, r.minute, r.hour, r.day_least))
      (λ x. let d : days_in t.year t.month ≤ t.day = ltb-false t.day (days_in t.year t.month) x in
      by_if IsNext (ltb t.month 12)
      (λ y. let f : t.month + 1 - 1 ≡ t.month = omega arith in
      rw f (omega (arith, n, h, d, step, r.minute, r.hour, r.day_most, r.day_least)))
      (λ y. let m : 12 ≤ t.month = ltb-false t.month 12 y in
      let twelve : t.month ≡ 12 = omega (arith, m, r.month_most) in
      let whole : days_of_months t.year t.month ≡ days_of_year t.year = ap (days_of_months t.year) twelve ∙ months t.year in
      omega (arith, n, h, d, step, whole, year_step t.year, no_months (t.year + 1), r.minute, r.hour, r.day_most, r.day_least)))))
