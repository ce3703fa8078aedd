-- What minutes come to, entire. Assumes nothing.
use Prim.Native.Nat.{ℕ}
use mathlib.Core.Path.{◌≡◌, refl, sym, ap, subst, ◌∙◌}
use mathlib.Core.Bool.{true, false}
use mathlib.Core.List.{List, [], ◌∷◌}
use lib.ListN.{length}
use lib.IntN.{ℤ, pos, sub_ℕ, ◌+ℤ◌}
use lib.Signed.{lt_z}
use Rattle.text_calendar_spec.specs.Calendar.{moment, is_in_calendar}
use Rattle.text_calendar_spec.specs.Minutes.{epoch, minute_of, is_minute, moment_at, moment_of}
use Rattle.text_calendar_spec.specs.TimeDigits.{is_time, minute_in, digits_for, digits_at}
use Rattle.text_calendar_spec.specs.Claim.{is_earlier, next_minute, MinutesClaim}
use Rattle.text_calendar_spec.specs.declared.time.Moment.{Moment}
use Rattle.text_calendar_spec.proofs.Moments.{InCalendar, in_calendar, is_moment_lem, there_back, moment_lies, minute_fits}
use Rattle.text_calendar_spec.proofs.FromEpoch.{from_year0, moved_up, below, down, up, is_minute_lem, same_order, one_more}
use Rattle.text_calendar_spec.proofs.Order as Order
use Rattle.text_calendar_spec.proofs.Order.{before}
use Rattle.text_calendar_spec.proofs.Digits.{moment_digits, read_digits, digits_time, time_parts, digits_back}

-- a moment of the years, by its minute from 1 January 0000
pub moment_by : (z : ℤ) → is_minute z ≡ true → moment_of z ≡ moment_at (from_year0 z)
unfolding moment_of
moment_by z h = rw (h, moved_up z h)

module _ (t : Moment) (h : is_in_calendar t ≡ true) where
  rules : InCalendar t.year t.month t.day t.hour t.minute
  rules = in_calendar t.year t.month t.day t.hour t.minute h

  pub in_years : is_minute (minute_of t) ≡ true
  unfolding minute_of
  in_years = is_minute_lem (before t) (minute_fits t.year t.month t.day t.hour t.minute rules)

  counted : from_year0 (minute_of t) ≡ before t
  unfolding minute_of
  counted = up (before t)

  pub moment_back : moment_of (minute_of t) ≡ t
  moment_back = moment_by (minute_of t) in_years ∙ ap moment_at counted ∙ there_back t.year t.month t.day t.hour t.minute rules

minuted : (z : ℤ) → is_minute z ≡ true → (t : Moment) → before t ≡ from_year0 z → minute_of t ≡ z
unfolding minute_of
minuted z h t e = rw e (down z h)

pub moment_forth : (z : ℤ) → is_minute z ≡ true → (is_in_calendar (moment_of z) ≡ true) × (minute_of (moment_of z) ≡ z)
moment_forth z h =
    let r = moment_lies (from_year0 z) (below z h) in
    subst (λ (t : Moment). (is_in_calendar t ≡ true) × (minute_of t ≡ z)) (sym (moment_by z h)) (
      is_moment_lem _ _ _ _ _ r.rules,
      minuted z h (moment_at (from_year0 z)) r.count,
    )

no_moment : (z : ℤ) → is_minute z ≡ false → moment_of z ≡ moment 0 0 0 0 0
unfolding moment_of
no_moment z h = rw h

no_digits : (z : ℤ) → is_minute z ≡ false → digits_at z ≡ 0 ∷ 0 ∷ 0 ∷ 0 ∷ 0 ∷ 0 ∷ 0 ∷ 0 ∷ 0 ∷ 0 ∷ 0 ∷ 0 ∷ []
unfolding digits_at digits_for
no_digits z h = rw (no_moment z h)

in_order : (t u : Moment) → is_in_calendar t ≡ true → is_in_calendar u ≡ true → lt_z (minute_of t) (minute_of u) ≡ is_earlier t u
unfolding minute_of
in_order t u h k = same_order (before t) (before u) epoch ∙ Order.order t u (rules t h) (rules u k)

next_minute_lem : (t : Moment) → is_in_calendar t ≡ true → minute_of (next_minute t) ≡ minute_of t +ℤ pos 1
unfolding minute_of
next_minute_lem t h = ap (λ (n : ℕ). sub_ℕ n epoch) (Order.next t (rules t h)) ∙ one_more (before t) epoch

-- twelve digits and their minute
pub digits_kept : (ds : List ℕ) → length ds ≡ 12 → is_time ds ≡ true → (is_minute (minute_in ds) ≡ true) × (digits_at (minute_in ds) ≡ ds)
unfolding digits_at minute_in
digits_kept ds l h =
    let m = (time_parts ds h).1 in
    (in_years (moment_digits ds) m, ap digits_for (moment_back (moment_digits ds) m) ∙ digits_back ds h l)

pub twelve_digits : (z : ℤ) → length (digits_at z) ≡ 12
unfolding digits_at digits_for
twelve_digits z = refl

pub minute_kept : (z : ℤ) → is_minute z ≡ true → (length (digits_at z) ≡ 12) × (is_time (digits_at z) ≡ true) × (minute_in (digits_at z) ≡ z)
unfolding digits_at minute_in
minute_kept z h = (twelve_digits z, digits_time (moment_of z) (moment_forth z h).0, ap minute_of (read_digits (moment_of z)) ∙ (moment_forth z h).1)

pub minutes_claim : MinutesClaim
minutes_claim =
    record {
      back = moment_back;
      forth = moment_forth;
      years = in_years;
      outside = λ z h. (no_moment z h, no_digits z h);
      order = in_order;
      equal = λ t u h k e. sym (moment_back t h) ∙ ap moment_of e ∙ moment_back u k;
      next = next_minute_lem;
      digits = digits_kept;
      minute = minute_kept;
    }
