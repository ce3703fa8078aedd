-- The stretches that the slice call takes at once, in the code's terms. Assumes nothing.
pub mod Stretch
