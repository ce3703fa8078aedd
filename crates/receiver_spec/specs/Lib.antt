-- 01's section "The receiver", in its order, and demand 3. Assumes nothing.
pub mod Seen
pub mod Marks
pub mod State
pub mod Contents
pub mod Receiver
pub mod Calls
pub mod WaitingDigits
pub mod Alterations
pub mod Demand3
