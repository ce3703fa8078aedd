-- The marks in the code's terms. Assumes nothing.
pub mod Places
