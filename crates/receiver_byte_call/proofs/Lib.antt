-- From a byte's decision to the byte call. Assumes nothing.
pub mod Laws
pub mod Numbers
pub mod Decisions
pub mod PayloadByte
