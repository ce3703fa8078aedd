-- A list of zeros. Assumes nothing.
pub mod Zeros
