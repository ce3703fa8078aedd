-- What a call of the writer's code returned, in terms of 01's writer. Assumes nothing.
pub mod Returned
