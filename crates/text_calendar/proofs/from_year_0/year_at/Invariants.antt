-- The year at which the loop stands has begun on the day. Assumes nothing.
use Prim.Native.Nat.{◌-◌, ◌<◌, ◌≤◌}
use Rattle.text_calendar_spec.specs.Minutes.{days_before_year}
use Rattle.text_calendar.proofs.from_year_0.year_at.Given as goal

abbrev pub invariant-loop-year : goal.invariant-loop-year
invariant-loop-year l = (days_before_year l.year ≤ l.day) × (l.year < 10000)

abbrev pub decreases-loop-year : goal.decreases-loop-year
decreases-loop-year l = 10000 - l.year
