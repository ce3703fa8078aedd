-- The order of overlaying. In reading order: HigherLaws (the higher level: bytes, lists, meshes), LaidGrids (a list of grids), CallTrees
-- (trees of calls), Theorem (the claim); Laws is what other crates may rest on.
pub mod Laws
pub mod HigherLaws
pub mod LaidGrids
pub mod CallTrees
pub mod Theorem
