-- What the code of overlay returns, in the terms of its definition. Assumes nothing.
pub mod Returned
