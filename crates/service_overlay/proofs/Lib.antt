-- What the proofs of the functions beside it need.
pub mod Overlaying
