-- The laws of the calendar, of minutes and of digits.
pub mod Laws
pub mod Spans
pub mod Days
pub mod Moments
pub mod FromEpoch
pub mod Order
pub mod Digits
pub mod Theorem
pub mod Samples
