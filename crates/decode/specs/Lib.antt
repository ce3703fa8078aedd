-- What the program counts itself, and which pictures its arguments mark. Assumes nothing.
pub mod Count
pub mod Arguments
