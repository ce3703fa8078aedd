-- The laws and the proofs of the functions. Assumes nothing.
pub mod Feeding
pub mod OnePart
pub mod PayloadPlaces
