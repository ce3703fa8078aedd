-- The laws of whole end blocks, and the proofs of the functions beside them. Assumes nothing.
pub mod Rules
