-- The year at which the loop stands has begun on the day. Assumes nothing.
use native.Mathlib.Omega.{arith}
use mathlib.Core.Path.{◌≡◌, sym}
use Prim.Native.Nat.{ℕ, ◌+◌, ◌<◌, ◌≤◌}
use Rattle.text_calendar_spec.specs.Minutes.{days_before_year}
use Rattle.text_calendar_spec.proofs.Laws.{in_years, year_found}
use Rattle.text_calendar.proofs.from_year_0.year_at.Goals as goal

-- one year more, where that has begun too
next : (year day days : ℕ) → days ≡ days_before_year (year + 1) → days ≤ day → day < 3652425 → (days_before_year (year + 1) ≤ day) × (year + 1 < 10000)
next year day days e l h =
    let m : days_before_year (year + 1) ≤ day = omega arith in
    (m, in_years (year + 1) day m h)

pub loop-year-init : goal.loop-year-init
loop-year-init c = (c.year_near-year.ensures.0, in_years _ _ c.year_near-year.ensures.0 c.requires)

pub returns : goal.returns
returns c =
    let at = c.loop-year in
    sym (year_found at.year c.args.day at.invariant.0 (omega (arith, c.days_before_year.ensures)) at.invariant.1)

pub loop-year-smaller : goal.loop-year-smaller
loop-year-smaller c = omega (arith, (next _ _ _ c.days_before_year.ensures c.loop-year-test.true c.requires).1)

pub loop-year-preserved : goal.loop-year-preserved
loop-year-preserved c = next _ _ _ c.days_before_year.ensures c.loop-year-test.true c.requires
