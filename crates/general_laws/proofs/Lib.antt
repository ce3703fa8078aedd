-- General laws on lists, tests and bits: nothing here speaks of texts. Every module may be cited by every crate.
pub mod Tests
pub mod Places
pub mod Lists
pub mod Computed
pub mod Bits
