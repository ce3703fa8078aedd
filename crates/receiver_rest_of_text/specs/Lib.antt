-- A byte of a text whose kind has been read, in the code's terms. Assumes nothing.
pub mod RestOfText
