-- What every tree of overlay calls of the code comes to, and samples.
pub mod Theorem
pub mod Samples
