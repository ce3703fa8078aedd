-- 01's section "The writer", and demand 2. Assumes nothing.
pub mod Written
pub mod Demand2
