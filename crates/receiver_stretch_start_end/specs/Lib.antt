-- Bytes between texts and whole start and end texts, many at once, in the code's terms. Assumes nothing.
pub mod Ahead
