-- What other crates may rest on. Everything else in proofs/ is this crate's own affair.

-- Every decision means 01's step, is quiet exactly where its number is 0, and has the byte among the bytes seen
pub use Rattle.receiver_byte_call.proofs.Decisions.{decide_facts, same_step, applied_here}
-- A payload byte of the data text under way: where it enters the grid, and the state behind it
pub use Rattle.receiver_byte_call.proofs.PayloadByte.{grid_place, advanced_first, advanced_step}
-- 01's number of an answer, by the code's enum and by the definition's reply
pub use Rattle.receiver_byte_call.proofs.Numbers.{number_same}
