-- Bytes between texts, and whole start and end texts, many bytes at once.
pub mod BetweenTexts
pub mod WholeTexts
