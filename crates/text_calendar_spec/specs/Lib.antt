-- The observation time: the calendar, minutes counted from 1 January 2000, 00:00, and the twelve digits of a time (Request
-- 111). Assumes nothing.
pub mod Calendar
pub mod Minutes
pub mod TimeDigits
pub mod Claim
