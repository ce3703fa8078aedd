-- A day of the years 0000 to 9999, and its minutes. Assumes nothing.
use Rattle.text_calendar_spec.specs.Minutes.{minutes_before}
use Rattle.text_calendar.proofs.from_year_0.minutes_before.Goals as goal

pub returns : goal.returns
unfolding minutes_before
returns c = rw c.day_of-days.ensures
