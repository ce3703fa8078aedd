-- 01's section "Services": clock steps. Assumes nothing.
pub mod Clock
