-- What a word stands for. Assumes nothing.
pub mod Words
