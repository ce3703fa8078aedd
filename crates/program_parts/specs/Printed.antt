-- What printing a frame, a state and an answer appends.
use Rattle.std.specs.Prelude.{ℕ, List, [], ◌∷◌, ◌++◌, Bool, true, false, cond, codes}
use Rattle.std.specs.Fmt.{signed_decimal}
use Rattle.program_streams.specs.Printed.{spaced_number, spaced_numbers}
use Rattle.program_streams.specs.Sums.{adler}
use Rattle.receiver_state.specs.Meaning.{number_of}
use Rattle.receiver_state.specs.declared.answer.Answer.{Answer}
use Rattle.receiver_state.specs.declared.answer.Answer.TheVariants.{Quiet, Begun, Taken, Complete, Dropped, Refused}
use Rattle.receiver_state.specs.declared.state.Frame.{Frame}
use Rattle.receiver_state.specs.declared.state.State.{State}
use Rattle.text.specs.declared.header.Header.{Header}

-- a frame's numbers, each with a space before it
abbrev pub frame_text : Frame → List ℕ
frame_text f = spaced_number f.place ++ spaced_numbers (f.kind ∷ f.picture ∷ f.part ∷ f.due ∷ f.check ∷ f.count ∷ [])

-- a header's minute and radars; its clock, picture code, mode and NO ECHO; modes and the grid's sum, to the line's end
abbrev pub time_text : Header → List ℕ
time_text h = (codes " " ++ signed_decimal h.minute) ++ spaced_numbers h.radars

abbrev pub codes_text : Header → List ℕ
codes_text h = spaced_number h.clock ++ spaced_numbers (h.picture ∷ h.mode ∷ cond h.noecho 1 0 ∷ [])

abbrev pub sum_text : List ℕ → List ℕ → List ℕ
sum_text modes grid = spaced_numbers modes ++ spaced_number (adler grid) ++ codes "\n"

-- all of these
abbrev pub contents_text : State → List ℕ → List ℕ
contents_text s grid = time_text s.header ++ codes_text s.header ++ sum_text s.modes grid

-- an answer that has a line and nothing behind it
abbrev pub has_line_alone : Answer → Bool
has_line_alone Quiet = false
has_line_alone Begun = true
has_line_alone Taken = true
has_line_alone (Complete part) = false
has_line_alone (Dropped row) = true
has_line_alone (Refused refusal) = true

-- the line of an answer
abbrev pub answer_line : List ℕ → ℕ → Answer → List ℕ
answer_line name total answer = name ++ spaced_number total ++ spaced_number (number_of answer) ++ codes "\n"
