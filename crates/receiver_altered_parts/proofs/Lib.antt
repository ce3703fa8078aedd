-- Parts of which every text is altered (Request 113), and why the claim on altered bytes has its three conditions on the alterations.
-- Assumes nothing.
pub mod SampleParts
pub mod Samples
pub mod Conditions
