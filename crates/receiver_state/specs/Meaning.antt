-- What the code's state, answers and effects on the grid mean. Assumes nothing.
use Rattle.std.specs.Prelude.{ℕ, List, length, set}
use Rattle.text.specs.Part.{zeros, grid_length}
use Rattle.receiver_spec.specs.State
use Rattle.receiver_bytes_seen.specs.AsNumber.{seen_of}
use Rattle.receiver_state.specs.declared.state.State.{State}
use Rattle.refusals.specs.Rows.{row_of}
use Rattle.receiver_state.specs.declared.answer.Row.{Row}
use Rattle.receiver_state.specs.declared.answer.Row.TheVariants.{OpeningInText, NotDueByte, NoPictureCode, NoKind, StartInPart, NotDueKind, OtherPicture, BlockByte, NotFE, WrongCheckByte, NotFF, NotHighestMode, UnmarkedPicture}
use Rattle.receiver_state.specs.declared.answer.Answer.{Answer}
use Rattle.receiver_state.specs.declared.answer.Answer.TheVariants.{Quiet, Begun, Taken, Complete, Dropped, Refused}
use Rattle.receiver_state.specs.declared.grid.Effect.{Effect}
use Rattle.receiver_state.specs.declared.grid.Effect.TheVariants.{Keep, Clear, Enter}

-- the state of 01's receiver
abbrev pub state_of : State → Rattle.receiver_spec.specs.State.State
state_of s =
    record {
      seen = seen_of s.seen s.frame.count;
      place = s.frame.place;
      kind = s.frame.kind;
      picture = s.frame.picture;
      part = s.frame.part;
      due = s.frame.due;
      check = s.frame.check;
      header = s.header;
      modes = s.modes;
      digits = s.digits;
      marks = s.marks;
    }

-- 01's number of a row that drops
abbrev pub row_number : Row → ℕ
row_number OpeningInText = 11
row_number NotDueByte = 12
row_number NoPictureCode = 13
row_number NoKind = 14
row_number StartInPart = 15
row_number NotDueKind = 16
row_number OtherPicture = 17
row_number BlockByte = 18
row_number NotFE = 19
row_number WrongCheckByte = 20
row_number NotFF = 21
row_number NotHighestMode = 22
row_number UnmarkedPicture = 51

-- 01's number of an answer; a refusal's is that of its row
abbrev pub number_of : Answer → ℕ
number_of Quiet = 0
number_of Begun = 1
number_of Taken = 2
number_of (Complete part) = 3
number_of (Dropped row) = row_number row
number_of (Refused refusal) = row_of refusal

-- a grid of 20,000 bytes with an effect; b is the byte
unfoldable pub applied : List ℕ → Effect → ℕ → List ℕ
applied g Keep b = g
applied g Clear b = zeros grid_length
applied g (Enter i) b = set g i b

-- the same for a grid of any length
abbrev pub applied_to : List ℕ → Effect → ℕ → List ℕ
applied_to g Keep b = g
applied_to g Clear b = zeros (length g)
applied_to g (Enter i) b = set g i b
