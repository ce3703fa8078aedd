-- The laws of whole start blocks, and the proofs of the functions beside them. Assumes nothing.
pub mod Rules
