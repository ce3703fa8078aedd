-- What other crates may rest on. Everything else in proofs/ is this crate's own affair.

-- Request 111's claim, entire
pub use Rattle.text_calendar_spec.proofs.Theorem.{minutes_claim}
-- The days before a year in closed form; years and months one by one; how long they are at most
pub use Rattle.text_calendar_spec.proofs.Days.{counted, years_most, year_step, all_years, in_years, year_found, InYear, year_lies, no_months, month_step, month_most, months_most, in_months, moment_found}
-- The rules of a date and time, each as a fact; how many days and minutes there are before one
pub use Rattle.text_calendar_spec.proofs.Moments.{InCalendar, in_calendar, day_fits, minute_fits}
-- The epoch, the minutes of the years, and both ways of counting
pub use Rattle.text_calendar_spec.proofs.FromEpoch.{epoch_is, is_by_bounds, from_year0, sum_is, moved_up, below}
-- Digits: of a minute there are twelve, each 0 to 9; the date and time that they give
pub use Rattle.text_calendar_spec.proofs.Theorem.{twelve_digits, digits_kept, minute_kept, moment_forth}
pub use Rattle.text_calendar_spec.proofs.Digits.{moment_digits, time_parts, small_digits}
-- What the time check gives
pub use Rattle.text_calendar_spec.proofs.Digits.{checked_minute, checked_invalid}
