-- Bytes left in the text under way, exactly (Request 106). Assumes nothing.
use Rattle.std.specs.Prelude.{ℕ, ◌+◌, ◌-◌, cond, not, eqb, Result, Ok, Err}
use Rattle.refusals.specs.declared.refusal.Refusal.{Refusal}
use Rattle.refusals.specs.Rows.{row_of}
use Rattle.text.specs.Kinds.{block_length, text_length}
use Rattle.receiver_spec.specs.State.{State, is_possible}

-- What the service answers: how many bytes are left, or a refusal (2), which carries no value
pub data LeftAnswer : Type 0 where
  left : ℕ → LeftAnswer
  refused : ℕ → LeftAnswer

-- 01's number and value of each case of the code
unfoldable pub answer_of : Result ℕ Refusal → LeftAnswer
answer_of (Ok n) = left n
answer_of (Err refusal) = refused (row_of refusal)

-- Of a text of the kind under way, the five control bytes have come and as many bytes more as the place; the others, its
-- `FF` included, are still to come. (In a possible state with its kind read these are 1 or more.)
-- Request 106; Notice 49, 4(1)(1-1)(b), 4(1)(1-2)(b), 4(2)(b)
unfoldable pub rest_length : State → ℕ
rest_length s = text_length (block_length s.kind) - (5 + s.place)

-- 2 for an impossible state; 0 at place 0; 0 before the kind is read; then what an undamaged text still has to come, as
-- UntilTextEnds says of every list of calls. Request 106; Notice 49, 4(1)(1-1)(b), 4(1)(1-2)(b), 4(2)(b)
unfoldable pub bytes_left : State → LeftAnswer
bytes_left s =
    cond (not (is_possible s)) (refused 2)
    (cond (eqb s.place 0) (left 0)
    (cond (eqb s.kind 0) (left 0)
    (left (rest_length s))))
