-- What a call of the receiver's code returned, in terms of 01's receiver. Assumes nothing.
pub mod Returned
pub mod InPayload
