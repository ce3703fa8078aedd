-- What a byte leaves behind it, in the code's terms. Assumes nothing.
pub mod Decisions
