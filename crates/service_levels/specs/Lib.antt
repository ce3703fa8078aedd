-- 01's section "Services", levels of meshes, and counts. Assumes nothing.
pub mod Meshes
pub mod Returned
