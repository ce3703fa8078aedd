-- The reference definitions of 01's section "A text", in its order. Assumes nothing.
pub mod Text
pub mod Pictures
pub mod Kinds
pub mod StartBlock
pub mod DataBlock
pub mod EndBlock
pub mod Part
pub mod WriterInput
pub mod SampleBlocks
