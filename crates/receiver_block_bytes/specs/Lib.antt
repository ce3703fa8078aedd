-- What a block byte is and where it enters, in the code's terms. Assumes nothing.
pub mod Time
pub mod BlockByte
