-- What the receiver's state and answers mean in terms of 01's receiver, which `receiver_spec` defines. Assumes nothing.
pub mod Meaning
