-- What reading a whole end block gives. Assumes nothing.
pub mod Read
