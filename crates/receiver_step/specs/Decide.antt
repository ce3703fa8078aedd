-- What one byte does, in the code's own terms: next state, answer, effect on the grid. Each definition here is one of
-- `receiver_spec`'s Receiver, row for row; proofs/Laws shows that they are the same (step-same). Assumes nothing.
use Rattle.std.specs.Prelude.{ℕ, cond, not, ◌||◌, eqb, Option, Some, None}
use Rattle.text.specs.Text.{FD}
use Rattle.text.specs.Pictures.{is_picture_code}
use Rattle.text.specs.Kinds.{is_kind, is_start_kind, kind_of}
use Rattle.receiver_spec.specs.Seen.{ends_opening, due_byte}
use Rattle.receiver_spec.specs.Marks.{is_marked}
use Rattle.receiver_spec.specs.Receiver.{◌⊕◌}
use Rattle.receiver_bytes_seen.specs.AsNumber.{seen_of, push_seen, push_count}
use Rattle.receiver_state.specs.declared.state.Frame.{Frame}
use Rattle.receiver_state.specs.declared.state.State.{State}
use Rattle.receiver_state.specs.declared.answer.Row.{Row}
use Rattle.receiver_state.specs.declared.answer.Row.TheVariants.{OpeningInText, NotDueByte, NoPictureCode, NoKind, StartInPart, NotDueKind, OtherPicture, UnmarkedPicture}
use Rattle.receiver_state.specs.declared.answer.Answer.TheVariants.{Quiet, Dropped}
use Rattle.receiver_state.specs.declared.grid.Effect.TheVariants.{Keep, Clear}
use Rattle.receiver_decisions.specs.Decisions.{frame, state, between, begins, drops, quietly}
use Rattle.receiver_decisions.specs.declared.decision.Decision.{Decision}
use Rattle.receiver_rest_of_text.specs.RestOfText.{text_decided}

-- state s has the byte among its bytes seen already

-- a text under way at place 1, with this part and due text. Notice 49, 4(1)(1-1)(c)(ア)
abbrev pub at_first : ℕ → ℕ → ℕ → Frame
at_first part due count = frame 1 0 0 part due FD count

-- at a later place of the text, with the byte in the running check byte. Notice 49, 4(1)(1-1)(c)(ア)
unfoldable pub onward : Frame → ℕ → ℕ → ℕ → ℕ → Frame
onward f place kind picture b = frame place kind picture f.part f.due (f.check ⊕ b) f.count

-- an opening has ended. Row 11. Notice 49, 4(1)(1-1)(c)(ア)
unfoldable pub opened_text : State → Decision
opened_text s =
    cond (eqb s.frame.place 0) (quietly s (at_first s.frame.part s.frame.due s.frame.count))
    (begins s (at_first 0 0 s.frame.count) 0 (Dropped OpeningInText) Clear)

-- between texts; due is the opening's due byte. Row 12. Notice 49, 4(1)(1-1)(a) and (c)(ア), 4(1)(1-2)(a), 4(2)(a)
unfoldable pub gap_decided : State → ℕ → ℕ → Decision
gap_decided s due b =
    cond (eqb s.frame.part 0) (quietly s (between s.frame 0 0))
    (cond (eqb b due) (quietly s (between s.frame s.frame.part s.frame.due)) (drops s NotDueByte))

-- block byte 1. Row 13, and row 51 (Request 101). Notice 49, 5(1)
unfoldable pub picture_decided : State → ℕ → Decision
picture_decided s b =
    cond (is_marked s.marks b) (quietly s (onward s.frame 2 0 b b)) (cond (is_picture_code b) (drops s UnmarkedPicture) (drops s NoPictureCode))

-- a start kind is taken. Row 15. Notice 49, 4(1)(1-1)(c)(イ)
unfoldable pub start_decided : State → ℕ → Decision
start_decided s b =
    let here = frame 3 b s.frame.picture 0 0 (s.frame.check ⊕ b) s.frame.count in
    cond (eqb s.frame.part 0) (begins s here s.frame.picture Quiet Keep) (begins s here s.frame.picture (Dropped StartInPart) Clear)

-- another kind: rows 14, 16 and 17, or none. Notice 49, 4(1)(1-1)(d)(イ) and (ウ), 4(1)(1-2)(d)(イ) and (ウ), 4(2)(d)(イ) and
-- (ウ)
unfoldable pub kind_row : Frame → ℕ → ℕ → Option Row
kind_row f picture b =
    cond (not (is_kind b)) (Some NoKind)
    (cond (eqb f.part 0 || not (eqb b (kind_of f.part f.due))) (Some NotDueKind)
    (cond (eqb f.picture picture) None (Some OtherPicture)))

-- the row drops; where there is none, the text goes on
abbrev pub by_row : State → ℕ → Option Row → Decision
by_row s b None = quietly s (onward s.frame 3 b s.frame.picture b)
by_row s b (Some row) = drops s row

-- block byte 2. Rows 14 to 17. Notice 49, 4(1)(1-1)(d)(イ) and (ウ), 4(1)(1-2)(d)(イ) and (ウ), 4(2)(d)(イ) and (ウ)
unfoldable pub kind_decided : State → ℕ → Decision
kind_decided s b =
    cond (is_start_kind b) (start_decided s b) (by_row s b (kind_row s.frame s.header.picture b))

-- the byte among the bytes seen
unfoldable pub pushed_state : State → ℕ → State
pushed_state s b =
    state (push_seen s.seen b)
    (frame s.frame.place s.frame.kind s.frame.picture s.frame.part s.frame.due s.frame.check (push_count s.frame.count))
    s.header s.modes s.digits s.marks

-- one byte: an opening is looked for before every other check. Notice 49, 4(1)(1-1)(c)(ア)
unfoldable pub decide : State → ℕ → Decision
decide s b =
    cond (ends_opening (seen_of s.seen s.frame.count) b) (opened_text (pushed_state s b))
    (cond (eqb s.frame.place 0) (gap_decided (pushed_state s b) (due_byte (seen_of s.seen s.frame.count)) b)
    (cond (eqb s.frame.place 1) (picture_decided (pushed_state s b) b)
    (cond (eqb s.frame.place 2) (kind_decided (pushed_state s b) b) (text_decided (pushed_state s b) b))))
