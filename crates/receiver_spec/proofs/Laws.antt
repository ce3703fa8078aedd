-- What other crates may rest on: the laws of the receiver's definition. Everything else in proofs/ is this crate's own affair.

-- Demand 3; and complete comes at a part's last byte and not before
pub use Rattle.receiver_spec.proofs.Theorem.{demand_3, held_then, never_before, every_marked, answers_long, after_last, marks_after}
-- At most one byte altered in each text of a part: as a relation and by lists of alterations the same
pub use Rattle.receiver_spec.proofs.ListsOfAlterations.{alterations_claim}
-- The marks: what they come to, and the handy form
pub use Rattle.receiver_spec.proofs.MarkLaws.{marks_claim, marked_listed, unlisted_unmarked, all_marked, marked_at, among_count, from_marks}
-- Lists of calls are runs of steps, and calls on a sound state and grid (the fresh ones, and whatever steps lead to) are not refused
pub use Rattle.receiver_spec.proofs.CallLists.{PossibleOnGrid, fresh_sound, steps_sound, calls_sound, sound_possible, not_refused, number_answered, slice_taken, slice_count_most, Stepped, calls_stepped, singly_taken, spread_last, answers_append, state_append, grid_append}
-- What a possible state says of its place
pub use Rattle.receiver_spec.proofs.Possible.{place_after_kind, place_in_text, kind_by_place}
-- The digits of the time that wait: what refusal 2 asks of them, and what calls leave of them
pub use Rattle.receiver_spec.proofs.DigitRows.{waiting_claim}
-- A text under way: what one byte does to it, and the opening that it began with
pub use Rattle.receiver_spec.proofs.UnderWay.{TextMoves, goes_on, ends, dropped, text_moves, last_due, ends_text, place_most, since_opening, Began, began}
-- The running check byte
pub use Rattle.receiver_spec.proofs.Steps.{check_is, xor_nil, xor_cons, xor_snoc}
-- The opening among the last bytes seen
pub use Rattle.receiver_spec.proofs.Opening.{only_fd, opening_seen, seen_control}
pub use Rattle.receiver_spec.proofs.WayBack.{seen_check}
-- For code that takes whole texts at once: the receiver is a machine, byte by byte; a start text, and the due text of an open
-- part, lead it from their first byte to the one before their last without an answer
pub use Rattle.receiver_spec.proofs.Machine.{Rules, Machine, Out, mk, answering, move, block, AllQuiet, quiet_none, quiet_byte}
pub use Rattle.receiver_spec.proofs.Instance.{radar, held, machine, out, step_is_move, step_marks, radar_laws}
pub use Rattle.receiver_spec.proofs.BlockRules.{start_taken, end_taken}
pub use Rattle.receiver_spec.proofs.Completing.{start_quiet, due_quiet}
