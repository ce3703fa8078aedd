-- What bytes_left returns after a caller's list of receiving calls, by its contract alone (Request 106). src/ shows by a
-- call that this is the contract. The theorem is `code_until_text_ends`: `CodeUntilTextEnds` holds for every list of
-- calls (`Called` of receiver_demand_3) and every r that the contract gives for the state that the list led to.
-- Assumes nothing.
use Rattle.std.specs.Prelude.{◌≡◌, ℕ, List, Result}
use Rattle.refusals.specs.declared.refusal.Refusal.{Refusal}
use Rattle.receiver_spec.specs.Calls.{Call, received}
use Rattle.receiver_state.specs.Meaning.{state_of}
use Rattle.receiver_state.specs.declared.state.State.{State}
use Rattle.service_bytes_left.specs.BytesLeft.{answer_of, bytes_left}
use Rattle.service_bytes_left.specs.UntilTextEnds.{left_after, UntilTextEnds}

-- The contract of bytes_left, on a state of the code. Request 106
abbrev pub EnsuredLeft : State → Result ℕ Refusal → Type 0
EnsuredLeft s r = answer_of r ≡ bytes_left (state_of s)

-- After a caller's list of calls, which took these bytes with these answers, bytes_left returned r: it is the
-- definition's number after the same calls; these took the same bytes with the same answers; and the number means what
-- UntilTextEnds says. Request 106
pub record CodeUntilTextEnds (marks : ℕ) (calls : List Call) (taken said : List ℕ) (r : Result ℕ Refusal) : Type 0 where
  pub answer : answer_of r ≡ left_after marks calls
  pub bytes : taken ≡ (received marks calls).taken
  pub answers : said ≡ (received marks calls).said
  pub meaning : UntilTextEnds marks calls
