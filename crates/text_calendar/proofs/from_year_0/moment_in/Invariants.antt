-- The months that are past and the rest make the day. Assumes nothing.
use mathlib.Core.Path.{◌≡◌}
use Prim.Native.Nat.{◌+◌, ◌-◌, ◌<◌}
use Rattle.text_calendar_spec.specs.Minutes.{days_of_months}
use Rattle.text_calendar.proofs.from_year_0.moment_in.Given as goal

abbrev pub invariant-loop-rest : goal.invariant-loop-rest
invariant-loop-rest l = (l.past < 12) × (days_of_months l.year l.past + l.rest ≡ l.day)

abbrev pub decreases-loop-rest : goal.decreases-loop-rest
decreases-loop-rest l = 12 - l.past
