-- Payload, many bytes at once, in the code's terms. Assumes nothing.
pub mod Ahead
