-- How long until this text ends, of the code: for every caller's list of calls. Assumes nothing.
use mathlib.Core.Path.{ap, ◌∙◌}
use Prim.Native.Nat.{ℕ}
use mathlib.Core.List.{List}
use Rattle.std.specs.Prelude.{Result}
use Rattle.refusals.specs.declared.refusal.Refusal.{Refusal}
use Rattle.receiver_spec.specs.Calls.{CallOutcome, Call}
use Rattle.receiver_state.specs.declared.state.State.{State}
use Rattle.receiver_demand_3.specs.CodeCalls.{Called}
use Rattle.receiver_demand_3.proofs.Laws.{code_demand_3}
use Rattle.service_bytes_left.specs.BytesLeft.{bytes_left}
use Rattle.service_bytes_left.proofs.Laws.{until_text_ends}
use Rattle.service_until_text_ends.specs.CodeLeft.{EnsuredLeft, CodeUntilTextEnds}

pub code_until_text_ends : (marks : ℕ) {calls : List Call} {s : State} {g taken said : List ℕ} {made : List CallOutcome} → Called marks calls s g taken said made
    → (r : Result ℕ Refusal) → EnsuredLeft s r → CodeUntilTextEnds marks calls taken said r
code_until_text_ends marks {calls} c r e =
    let d = code_demand_3 marks c in
    record { answer = e ∙ ap bytes_left d.state; bytes = d.bytes; answers = d.answers; meaning = until_text_ends marks calls }
