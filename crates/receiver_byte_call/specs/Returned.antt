-- What a call of the code returned, in the terms of `receiver_spec`'s calls. Assumes nothing.
use Rattle.std.specs.Prelude.{ℕ, Bool, true, false, List}
use Rattle.receiver_spec.specs.Calls.{Reply, quiet, part_begun, text_taken, part_complete, part_dropped, refused, CallOutcome}
use Rattle.refusals.specs.declared.refusal.Refusal.{Refusal}
use Rattle.refusals.specs.Rows.{row_of}
use Rattle.receiver_state.specs.Meaning.{row_number, state_of}
use Rattle.receiver_state.specs.declared.state.State.{State}
use Rattle.receiver_state.specs.declared.answer.Answer.{Answer}
use Rattle.receiver_state.specs.declared.answer.Answer.TheVariants.{Quiet, Begun, Taken, Complete, Dropped, Refused}
use Rattle.receiver_byte_call.specs.declared.calls.CallResult.{CallResult}

-- each case of the code is one of the definition's, and no two are the same
unfoldable pub reply_of : Answer → Reply
reply_of Quiet = quiet
reply_of Begun = part_begun
reply_of Taken = text_taken
reply_of (Complete part) = part_complete part
reply_of (Dropped row) = part_dropped (row_number row)
reply_of (Refused refusal) = refused (row_of refusal)

-- a call's result, with the grid at its exit
unfoldable pub returned : CallResult → List ℕ → CallOutcome
returned r g = record { reply = reply_of r.answer; count = r.count; state = state_of r.state; grid = g }

-- a refusal: the state as it was, and nothing taken
abbrev pub refusal : State → Refusal → CallResult
refusal s why = record { state = s; answer = Refused why; count = 0 }

-- answer 0
unfoldable pub is_quiet : Answer → Bool
is_quiet Quiet = true
is_quiet Begun = false
is_quiet Taken = false
is_quiet (Complete part) = false
is_quiet (Dropped row) = false
is_quiet (Refused refusal) = false
