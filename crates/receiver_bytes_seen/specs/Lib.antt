-- The last bytes seen in the code's terms. Assumes nothing.
pub mod AsNumber
pub mod Behind
