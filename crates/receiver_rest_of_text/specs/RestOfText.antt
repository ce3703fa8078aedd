-- What a byte of a text whose kind has been read does, in the code's terms. Each definition here is one of
-- `receiver_spec`'s Receiver, row for row; proofs/Laws shows that they are the same (text-same). State s has the byte
-- among its bytes seen already. Assumes nothing.
use Rattle.std.specs.Prelude.{ℕ, ◌+◌, cond, not, eqb, ltb, Option, Some, None}
use Rattle.text.specs.Text.{EOR, TPAD}
use Rattle.text.specs.Kinds.{is_start_kind, is_end_kind, part_of, text_number, block_length}
use Rattle.text.specs.EndBlock.{no_modes}
use Rattle.receiver_spec.specs.Receiver.{◌⊕◌, first_due, next_due, mode_is_highest}
use Rattle.receiver_state.specs.declared.state.Frame.{Frame}
use Rattle.receiver_state.specs.declared.state.State.{State}
use Rattle.receiver_state.specs.declared.answer.Answer.TheVariants.{Quiet, Begun, Taken, Complete}
use Rattle.receiver_state.specs.declared.answer.Row.{Row}
use Rattle.receiver_state.specs.declared.answer.Row.TheVariants.{BlockByte, NotFE, WrongCheckByte, NotFF, NotHighestMode}
use Rattle.receiver_state.specs.declared.grid.Effect.TheVariants.{Keep, Clear}
use Rattle.receiver_decisions.specs.Decisions.{frame, state, between, goes_on, drops, quietly}
use Rattle.receiver_decisions.specs.declared.decision.Decision.{Decision}
use Rattle.receiver_block_bytes.specs.BlockByte.{entered}
use Rattle.receiver_block_bytes.specs.declared.byte.Entered.{Entered}

-- one place on in the text, with this check byte
abbrev pub advanced : Frame → ℕ → Frame
advanced f check = frame (f.place + 1) f.kind f.picture f.part f.due check f.count

-- a block byte from byte 3 on. Row 18.
-- Notice 49, 4(1)(1-1)(c)(イ) to (エ), (d)(イ) and (ウ), 4(1)(1-2)(c)(エ) and (d)(ウ), 4(2)(c)(エ) and (d)(ウ)
abbrev pub entered_here : State → ℕ → Option Entered
entered_here s b = entered s.frame.kind s.header s.modes s.digits s.frame.place b

abbrev pub by_entered : State → ℕ → Option Entered → Decision
by_entered s b None = drops s BlockByte
by_entered s b (Some e) =
    goes_on (state s.seen s.frame e.header e.modes e.digits s.marks) (advanced s.frame (s.frame.check ⊕ b)) Quiet e.effect

-- it enters and the text goes on, or row 18.
-- Notice 49, 4(1)(1-1)(c)(イ) to (エ), (d)(イ) and (ウ), 4(1)(1-2)(c)(エ) and (d)(ウ), 4(2)(c)(エ) and (d)(ウ)
unfoldable pub block_decided : State → ℕ → Decision
block_decided s b = by_entered s b (entered_here s b)

-- a byte behind the block that must be the expected one: the text goes on with this check byte, or the row drops.
-- Notice 49, 4(1)(1-1)(c)(ア)
abbrev pub expected_decided : State → ℕ → ℕ → ℕ → Row → Decision
expected_decided s b expected check row = cond (eqb b expected) (quietly s (advanced s.frame check)) (drops s row)

-- the byte after the block. Row 19. Notice 49, 4(1)(1-1)(c)(ア)
unfoldable pub eor_decided : State → ℕ → Decision
eor_decided s b = expected_decided s b EOR (s.frame.check ⊕ b) NotFE

-- the check byte. Row 20. Notice 49, 4(1)(1-1)(c)(ア)
unfoldable pub check_decided : State → ℕ → Decision
check_decided s b = expected_decided s b s.frame.check s.frame.check WrongCheckByte

-- answer 1, part begun. Notice 49, 4(1)(1-1)(a), 4(1)(1-2)(a), 4(2)(a), 4(1)(1-1)(d)(イ)
unfoldable pub begun_part : State → Decision
begun_part s =
    let part = part_of s.frame.kind in
    goes_on (state s.seen s.frame s.header no_modes s.digits s.marks) (between s.frame part (first_due part s.header)) Begun Clear

-- answer 3, complete. Row 22: status 2 is not the highest mode. Notice 49, 4(1)(1-1)(d)(イ)
unfoldable pub ended_part : State → Decision
ended_part s = cond (mode_is_highest s.header s.modes) (goes_on s (between s.frame 0 0) (Complete s.frame.part) Keep) (drops s NotHighestMode)

-- answer 2, data text taken. Notice 49, 4(1)(1-1)(a), 4(1)(1-2)(a), 4(2)(a)
unfoldable pub taken_text : State → Decision
taken_text s =
    goes_on s (between s.frame s.frame.part (next_due s.frame.part (text_number s.frame.kind))) Taken Keep

-- the last byte, by kind. Row 21. Notice 49, 4(1)(1-1)(c)(ア)
unfoldable pub last_decided : State → ℕ → Decision
last_decided s b =
    cond (not (eqb b TPAD)) (drops s NotFF)
    (cond (is_start_kind s.frame.kind) (begun_part s) (cond (is_end_kind s.frame.kind) (ended_part s) (taken_text s)))

-- by place. Notice 49, 4(1)(1-1)(b) and (c)(ア), 4(1)(1-2)(b), 4(2)(b)
unfoldable pub text_decided : State → ℕ → Decision
text_decided s b =
    cond (ltb s.frame.place (block_length s.frame.kind)) (block_decided s b)
    (cond (eqb s.frame.place (block_length s.frame.kind)) (eor_decided s b)
    (cond (eqb s.frame.place (block_length s.frame.kind + 1)) (check_decided s b) (last_decided s b)))
