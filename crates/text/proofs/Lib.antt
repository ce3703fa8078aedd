-- The laws of the definitions, and the proofs of the functions beside them.
pub mod Laws
pub mod CheckByte
pub mod Radars
pub mod QualityBits
pub mod Samples
