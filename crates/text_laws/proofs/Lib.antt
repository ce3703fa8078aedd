-- The laws of the definitions of texts: every module may be cited by every crate.
-- texts: their length and their one block; one altered byte makes a text damaged
pub mod Framing
-- kinds: the table read both ways, lengths and counts by part
pub mod KindTable
-- payload bytes and meshes
pub mod Payload
-- the rules of blocks and of a part, each as a fact under its own name
pub mod Blocks
-- inside an undamaged text an opening ends only at the block's byte 0, so that none in its front is later than its own
pub mod Openings
-- the length of a text; parts: length, places of texts, one reading, grid
pub mod Parts
-- the tests of undamaged texts and parts decide
pub mod Deciding
