-- What the code decides is 01's step.
pub mod Laws
pub mod SameStep
