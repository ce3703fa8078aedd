-- A byte inside a payload, in the code's terms. Assumes nothing.
use Rattle.std.specs.Prelude.{ℕ, Bool, not, ◌&&◌, List, eqb, leb, ltb}
use Rattle.general_laws.specs.Bytes.{every}
use Rattle.text.specs.Pictures.{is_picture_code}
use Rattle.text.specs.Kinds.{is_kind, kind_of, data_block_length}
use Rattle.text.specs.DataBlock.{is_payload_byte}
use Rattle.receiver_spec.specs.Marks.{are_marks}
use Rattle.receiver_state.specs.declared.state.Frame.{Frame}
use Rattle.receiver_state.specs.declared.state.State.{State}
use Rattle.receiver_decisions.specs.Decisions.{frame}

-- a data text of the open part is under way, the one that is due; it is inside its payload, five bytes are seen, and
-- this byte keeps the payload's rule; no mark beyond the twentieth is set (Request 101), and no digit waits (Request 111).
-- Notice 49, 4(1)(1-1)(c)(エ) and (d)(ウ), 4(1)(1-2)(c)(エ) and (d)(ウ), 4(2)(c)(エ) and (d)(ウ)
unfoldable pub is_payload_here : Frame → ℕ → List ℕ → ℕ → Bool
is_payload_here f marks digits b =
    leb 3 f.place
    && not (eqb f.due 0)
    && leb f.due 10
    && eqb f.count 5
    && ltb f.place (data_block_length f.part)
    && eqb f.kind (kind_of f.part f.due)
    && is_kind f.kind
    && is_picture_code f.picture
    && are_marks marks
    && every (λ d. eqb d 0) digits
    && is_payload_byte f.part b

-- the state further on, inside a payload or between texts: place, check byte and the bytes seen have moved on
unfoldable pub advanced_state : State → ℕ → ℕ → ℕ → ℕ → State
advanced_state s place check seen count =
    record {
      seen = seen;
      frame =
          frame place s.frame.kind s.frame.picture s.frame.part s.frame.due check count;
      header = s.header;
      modes = s.modes;
      digits = s.digits;
      marks = s.marks;
    }
