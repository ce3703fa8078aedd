-- What the code decides about a byte, in its own terms. Assumes nothing.
pub mod Decide
