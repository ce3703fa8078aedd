-- What other crates may rest on. Everything else in proofs/ is this crate's own affair.
pub use Rattle.receiver_marks.proofs.PlaceLaws.{mark_alone}
pub use Rattle.receiver_spec.proofs.Laws.{marks_claim}
