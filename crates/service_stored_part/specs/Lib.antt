-- 01's section "Services": stored parts. Assumes nothing.
pub mod Stored
