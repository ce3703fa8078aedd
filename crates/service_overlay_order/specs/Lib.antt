-- What a caller's tree of overlay calls comes to. Assumes nothing.
pub mod CodeOrder
