-- The count of leap years. Assumes nothing.
use native.Mathlib.Omega.{arith}
use Rattle.text_calendar_spec.proofs.Laws.{counted}
use Rattle.text_calendar.proofs.from_year_0.days_before_year.Goals as goal

pub returns : goal.returns
returns c = omega (arith, counted c.args.year)
