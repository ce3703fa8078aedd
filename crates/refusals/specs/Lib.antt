-- The rows that refusals stand for, and their words. Assumes nothing.
pub mod Rows
pub mod Words
