-- Which states are possible, in the code's terms. Assumes nothing.
pub mod FrameFits
pub mod DigitsFit
