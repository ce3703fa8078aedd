-- The laws of the slice call.
pub mod Laws
