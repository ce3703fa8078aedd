-- The laws of counts, and the proofs of the functions beside them.
pub mod Counting
pub mod Reading
pub mod MeshesOfTexts
