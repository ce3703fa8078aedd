-- The laws that a customer's proofs use.
pub mod Laws
