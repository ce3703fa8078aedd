-- What other crates may rest on. Everything else in proofs/ is this crate's own affair.

-- The bytes seen as a number: how many there are, and one more
pub use Rattle.receiver_bytes_seen.proofs.AsNumber.{length_seen, push_seen_lem}
-- Many more: one stretch behind another, and five bytes later nothing is left of what was seen before
pub use Rattle.receiver_bytes_seen.proofs.ManyBytes.{seen_append, count_append, forgets, count_five, count_stays_5}
