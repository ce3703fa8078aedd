-- What a byte leaves behind it, in the code's terms: next state, answer, effect on the grid. Assumes nothing.
use Rattle.std.specs.Prelude.{ℕ, List}
use Rattle.text.specs.EndBlock.{no_modes}
use Rattle.text.specs.declared.header.Header.{Header}
use Rattle.receiver_spec.specs.State.{no_digits}
use Rattle.receiver_spec.specs.Contents.{begun_header}
use Rattle.receiver_spec.specs.Receiver.{Step}
use Rattle.receiver_state.specs.Meaning.{state_of, number_of, applied}
use Rattle.receiver_state.specs.declared.state.Frame.{Frame}
use Rattle.receiver_state.specs.declared.state.State.{State}
use Rattle.receiver_state.specs.declared.answer.Row.{Row}
use Rattle.receiver_state.specs.declared.answer.Answer.{Answer}
use Rattle.receiver_state.specs.declared.answer.Answer.TheVariants.{Quiet, Dropped}
use Rattle.receiver_state.specs.declared.grid.Effect.{Effect}
use Rattle.receiver_state.specs.declared.grid.Effect.TheVariants.{Keep, Clear}
use Rattle.receiver_decisions.specs.declared.decision.Decision.{Decision}

-- a frame: place, kind, picture code, part, due text, check byte, count of the bytes seen
abbrev pub frame : ℕ → ℕ → ℕ → ℕ → ℕ → ℕ → ℕ → Frame
frame place kind picture part due check count =
    record { place = place; kind = kind; picture = picture; part = part; due = due; check = check; count = count }

-- between texts, with this part and due text; the bytes seen stay
abbrev pub between : Frame → ℕ → ℕ → Frame
between f part due = frame 0 0 0 part due 0 f.count

abbrev pub state : ℕ → Frame → Header → List ℕ → List ℕ → ℕ → State
state seen f h m digits marks = record { seen = seen; frame = f; header = h; modes = m; digits = digits; marks = marks }

abbrev pub decision : State → Answer → Effect → Decision
decision s a e = record { next = s; answer = a; effect = e }

-- header, modes, waiting digits and marks stay
unfoldable pub goes_on : State → Frame → Answer → Effect → Decision
goes_on s f a e = decision (state s.seen f s.header s.modes s.digits s.marks) a e

-- header and modes are 0, no digit waits (Request 111), and the picture code enters; the marks stay (Request 101). Notice 49,
-- 4(1)(1-1)(c)(イ)
unfoldable pub begins : State → Frame → ℕ → Answer → Effect → Decision
begins s f picture a e = decision (state s.seen f (begun_header picture) no_modes no_digits s.marks) a e

-- dropped: as fresh with the same marks (Request 101), but the bytes seen are kept
unfoldable pub drops : State → Row → Decision
drops s row = begins s (between s.frame 0 0) 0 (Dropped row) Clear

-- answer 0, with the grid as it is
abbrev pub quietly : State → Frame → Decision
quietly s f = goes_on s f Quiet Keep

-- what a decision means: 01's answer, state and grid; b is the byte
abbrev pub meaning : List ℕ → ℕ → Decision → Step
meaning g b d = record { answer = number_of d.answer; state = state_of d.next; grid = applied g d.effect b }
