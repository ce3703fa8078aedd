-- The months before i are added. Assumes nothing.
use mathlib.Core.Path.{◌≡◌}
use Prim.Native.Nat.{◌*◌, ◌≤◌}
use Rattle.text_calendar_spec.specs.Minutes.{days_of_months}
use Rattle.text_calendar.proofs.from_year_0.days_of_months.Given as goal

abbrev pub invariant-loop-i : goal.invariant-loop-i
invariant-loop-i l = (l.days ≡ days_of_months l.year l.i) × (l.days ≤ l.i * 31)
