-- What other crates may rest on. Everything else in proofs/ is this crate's own affair.

-- What the code decides about a byte means the step of `receiver_spec`
pub use Rattle.receiver_step.proofs.SameStep.{step_same}
