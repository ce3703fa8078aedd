-- 400 times the days before a year are 146,097 for each year, less 396 at most, and 699 more at most. Assumes nothing.
use native.Mathlib.Omega.{arith}
use Prim.Native.Nat.{ℕ, ◌+◌, ◌-◌, ◌*◌, ◌/◌, ◌≤◌, ◌<◌}
use mathlib.Core.Path.{◌≡◌, refl}
use Rattle.text_calendar_spec.specs.Minutes.{days_before_year}
use Rattle.text_calendar_spec.proofs.Laws.{counted}
use Rattle.text_calendar.proofs.from_year_0.year_near.Goals as goal

-- bounds for each divisor, and then their sums
by_4 : (y : ℕ) → (y ≤ (y + 3) / 4 * 4) × ((y + 3) / 4 * 4 ≤ y + 3)
by_4 y = omega arith

by_400 : (y : ℕ) → (y ≤ (y + 399) / 400 * 400) × ((y + 399) / 400 * 400 ≤ y + 399)
by_400 y = omega arith

by_100 : (y : ℕ) → (y ≤ (y + 99) / 100 * 100) × ((y + 99) / 100 * 100 ≤ y + 99)
by_100 y = omega arith

at_most : (y days a b c : ℕ) → days + c ≡ y * 365 + a + b → a * 4 ≤ y + 3 → b * 400 ≤ y + 399 → y ≤ c * 100 → days * 400 ≤ y * 146097 + 699
at_most y days a b c e p q r = omega arith

at_least : (y days a b c : ℕ) → days + c ≡ y * 365 + a + b → y ≤ a * 4 → y ≤ b * 400 → c * 100 ≤ y + 99 → y * 146097 ≤ days * 400 + 396
at_least y days a b c e p q r = omega arith

bound : (y : ℕ) → days_before_year y * 400 ≤ y * 146097 + 699
bound y = at_most y (days_before_year y) ((y + 3) / 4) ((y + 399) / 400) ((y + 99) / 100) (counted y) (by_4 y).1 (by_400 y).1 (by_100 y).0

bound_below : (y : ℕ) → y * 146097 ≤ days_before_year y * 400 + 396
bound_below y = at_least y (days_before_year y) ((y + 3) / 4) ((y + 399) / 400) ((y + 99) / 100) (counted y) (by_4 y).0 (by_400 y).0 (by_100 y).1

-- so of the year that 400 times the day give, the one before has begun, and two years on none has
begun : (day g days : ℕ) → g ≡ day * 400 / 146097 → 1 ≤ g → days * 400 ≤ (g - 1) * 146097 + 699 → days ≤ day
begun day g days e l b = omega arith

not_begun : (day g days : ℕ) → g ≡ day * 400 / 146097 → 1 ≤ g → (g - 1 + 3) * 146097 ≤ days * 400 + 396 → day < days
not_begun day g days e l b = omega arith

pub returns-then-near-eq0 : goal.returns-then-near-eq0
returns-then-near-eq0 c = (omega (arith, counted 0), omega (arith, counted 3))

pub returns : goal.returns
returns c =
    let day = c.args.day in
    let g = day * 400 / 146097 in (
      begun day g (days_before_year (g - 1)) refl (omega arith) (bound (g - 1)),
      not_begun day g (days_before_year (g - 1 + 3)) refl (omega arith) (bound_below (g - 1 + 3)),
    )
