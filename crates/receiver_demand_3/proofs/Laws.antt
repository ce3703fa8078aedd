-- What other crates may rest on: that lists of calls of the code are lists of the claim.
pub use Rattle.receiver_demand_3.proofs.Theorem.{code_demand_3}
