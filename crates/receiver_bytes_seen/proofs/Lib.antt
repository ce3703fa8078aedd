-- The laws of the bytes seen, kept as a number. Assumes nothing.
pub mod Laws
pub mod AsNumber
pub mod ManyBytes
