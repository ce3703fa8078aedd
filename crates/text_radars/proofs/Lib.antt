-- A test of two lists, place by place. Assumes nothing.
pub mod Pairs
