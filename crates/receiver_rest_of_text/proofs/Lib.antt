-- What the code decides inside a text is 01's step.
pub mod Laws
pub mod SameStep
