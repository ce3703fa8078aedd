-- Words on lists of bytes, which all other definitions use. Assumes nothing.
pub mod Bytes
