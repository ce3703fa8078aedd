-- The stretches that the slice call takes at once, in the code's terms. Assumes nothing.
use Rattle.std.specs.Prelude.{cond, List, ℕ, eqb}
use Rattle.receiver_state.specs.declared.state.State.{State}
use Rattle.receiver_byte_call.specs.declared.calls.CallResult.{CallResult}
use Rattle.receiver_stretches.specs.Run.{RunOutcome}
use Rattle.receiver_stretch_payload.specs.Ahead.{payload_ahead}
use Rattle.receiver_stretch_start_end.specs.Ahead.{edge_ahead}

-- what the slice came to, with the grid that it left
abbrev pub outcome_of : CallResult → List ℕ → RunOutcome
outcome_of r h = record { result = r; grid = h }

-- how many bytes the stretch has that begins here
unfoldable pub stretch : State → List ℕ → List ℕ → ℕ
stretch s g bytes = cond (eqb s.frame.place 0) (edge_ahead s bytes) (payload_ahead s g bytes)
