-- 01's section "Services", by Request 106: bytes left in the text under way, and what the number means. Assumes nothing.
pub mod BytesLeft
pub mod UntilTextEnds
