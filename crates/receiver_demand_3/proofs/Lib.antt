-- Every list of calls of the code is a list of the claim: Laws is what other crates may rest on.
pub mod Laws
pub mod Theorem
