-- The bytes of a slice, one by one, in the code's terms. Assumes nothing.
pub mod Run
