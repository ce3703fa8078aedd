-- Laws of the bytes of a slice, one by one; that they are `receiver_spec`'s feed.
pub mod Laws
pub mod Runs
pub mod QuietRuns
