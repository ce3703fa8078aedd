-- The laws behind the marks' code. Laws is what other crates may rest on.
pub mod Laws
pub mod PlaceLaws
