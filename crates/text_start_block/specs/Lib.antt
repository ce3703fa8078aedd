-- What reading a whole start block gives. Assumes nothing.
pub mod Read
