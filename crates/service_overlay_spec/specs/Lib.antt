-- 01's section "Services": overlay of two grids, and by Request 110 of many. Assumes nothing.
pub mod Overlay
pub mod Order
