-- What a customer's program may rest on, beside the contracts of what it calls.

-- A slice call's count is at most the slice's length; and, for a slice from a place on, at most what is left from there
pub use Rattle.receiver_slice_call.proofs.Laws.{count_most, count_behind}
-- What marks come to, and that the mark of a listed picture marks that picture alone (Request 101)
pub use Rattle.receiver_marks.proofs.Laws.{marks_claim, mark_alone}
-- What minutes come to: the way back, order, the next minute, digits (Request 111)
pub use Rattle.text_calendar_spec.proofs.Laws.{minutes_claim}
