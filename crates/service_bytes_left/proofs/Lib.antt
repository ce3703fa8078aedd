-- What the number of bytes left means: Laws is what other crates may rest on. The proof of the function stands beside it.
pub mod Laws
pub mod Theorem
