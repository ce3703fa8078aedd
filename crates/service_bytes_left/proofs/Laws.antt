-- What other crates may rest on: what the number means, for every list of receiving calls.
pub use Rattle.service_bytes_left.proofs.Theorem.{until_text_ends}
