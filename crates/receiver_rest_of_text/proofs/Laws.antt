-- What other crates may rest on. Everything else in proofs/ is this crate's own affair.

-- A decision that means a step; a drop; and a byte from the kind on, by its place
pub use Rattle.receiver_rest_of_text.proofs.SameStep.{Means, lost_same, text_same}
