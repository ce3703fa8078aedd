-- What `receiver_spec` asks of the digits that wait, of the code's frame (Request 111). Assumes nothing.
use Rattle.std.specs.Prelude.{ℕ, Bool, cond, ◌&&◌, List, eqb, leb}
use Rattle.general_laws.specs.Bytes.{every}
use Rattle.text.specs.Kinds.{is_start_kind}
use Rattle.receiver_state.specs.declared.state.Frame.{Frame}

-- each is 9 at most at places 9 to 23 of a start text, and 0 elsewhere: what is_possible asks of them. Request 111
unfoldable pub digits_fit : Frame → List ℕ → Bool
digits_fit f digits =
    cond (is_start_kind f.kind && leb 9 f.place && leb f.place 23) (every (λ d. leb d 9) digits) (every (λ d. eqb d 0) digits)
