-- What bytes_left returns after every list of calls of the code.
pub mod Theorem
