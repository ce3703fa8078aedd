-- What bytes_left returns after a caller's list of calls, and what it means. Assumes nothing.
pub mod CodeLeft
