-- Two tests of a signed number. Assumes nothing.
use mir.Facts.{to_z-of_z}
use Rattle.text_calendar_spec.proofs.Laws.{is_by_bounds}
use Rattle.text_calendar.proofs.minutes.is_minute.Goals as goal

pub returns : goal.returns
returns c = rw (to_z-of_z c.ranges.minute) (is_by_bounds c.args.minute)
