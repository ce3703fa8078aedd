-- Demand 3: a single claim about a list of receiving calls as a whole. Assumes nothing.
use Rattle.std.specs.Prelude.{◌≡◌, ◌≢◌, ◌↔◌, ℕ, ◌+◌, ◌-◌, ◌≤◌, ◌<◌, true, false, List, [], ◌∷◌, ◌++◌, length, take, drop, pos}
use Rattle.general_laws.specs.Bytes.{◌!◌, is_in}
use Rattle.text.specs.Text.{FD, text_of}
use Rattle.text.specs.Kinds.{is_start_kind}
use Rattle.text.specs.StartBlock.{header_of}
use Rattle.text.specs.Part.{Part, start_part, StartText, UndamagedPart, AlteredTo, zeros, part_header, part_modes, grid_of}
use Rattle.receiver_spec.specs.Alterations.{AlteredTexts, blocks_of}
use Rattle.receiver_spec.specs.Marks.{is_marked, marks_from}
use Rattle.receiver_spec.specs.State.{State, dropped, empty_grid}
use Rattle.receiver_spec.specs.Receiver.{step}
use Rattle.receiver_spec.specs.WaitingDigits.{Elsewhere}
use Rattle.receiver_spec.specs.Calls.{Reply, quiet, part_begun, text_taken, part_complete, part_dropped, refused, number, answered, CallOutcome, Request, byte, slice, Call, on_grid, elsewhere, ask, spread, After, received, singly, answers_of, state_after, grid_after}

-- The reply of a call that is not refused, by its case: 01's answers 0 to 3, and the rows 11 to 22 and 51
pub data IsAnswer : Reply → Type 0 where
  says_nothing : IsAnswer quiet
  says_begun : IsAnswer part_begun
  says_taken : IsAnswer text_taken
  says_complete : (part : ℕ) → IsAnswer (part_complete part)
  says_dropped : (row : ℕ) → 11 ≤ row → row ≤ 22 → IsAnswer (part_dropped row)
  says_unmarked : IsAnswer (part_dropped 51)

-- A slice call takes bytes up to and with the first that is answered other than 0: the last byte taken has the call's
-- answer, those before it 0, and all bytes are taken where the answer is 0. State and grid are those after the bytes
-- taken. No answer without a byte: a call that takes none is answered 0, and only of an empty slice is none taken
pub record SliceTaken (s : State) (g bytes : List ℕ) (outcome : CallOutcome) : Type 0 where
  pub is_answer : IsAnswer outcome.reply
  pub answer : outcome.reply ≡ answered (state_after s g (take (outcome.count - 1) bytes)).part (number outcome.reply)
  pub within : outcome.count ≤ length bytes
  pub each : answers_of s g (take outcome.count bytes) ≡ spread outcome.count (number outcome.reply)
  pub all : number outcome.reply ≡ 0 → outcome.count ≡ length bytes
  pub none : outcome.count ≡ 0 → outcome.reply ≡ quiet
  pub some : 1 ≤ length bytes → 1 ≤ outcome.count
  pub state : outcome.state ≡ state_after s g (take outcome.count bytes)
  pub grid : outcome.grid ≡ grid_after s g (take outcome.count bytes)

-- What one call of a list returned, took and left; a is what the calls before it came to, z what they come to with it.
-- Lent a grid of another length, it is refused with 1, takes nothing and leaves all as it was. Otherwise it is not
-- refused: a byte call takes its byte, and its answer is the step's
abbrev pub CallMade : After → Call → After → Type 0
CallMade a (on_grid (byte b)) z =
    let o = step a.state a.grid b in
    (ask a.state a.grid (byte b) ≡ record { reply = answered a.state.part o.answer; count = 1; state = o.state; grid = o.grid })
    × IsAnswer (ask a.state a.grid (byte b)).reply
    × (z ≡ record { state = o.state; grid = o.grid; taken = a.taken ++ (b ∷ []); said = a.said ++ (o.answer ∷ []) })
CallMade a (on_grid (slice bytes)) z =
    let outcome = ask a.state a.grid (slice bytes) in
    SliceTaken a.state a.grid bytes outcome
    × (z ≡ record { state = outcome.state; grid = outcome.grid; taken = a.taken ++ take outcome.count bytes; said = a.said ++ spread outcome.count (number outcome.reply) })
CallMade a (elsewhere r grid other) z =
    (ask a.state grid r ≡ record { reply = refused 1; count = 0; state = a.state; grid = grid }) × (number (ask a.state grid r).reply ≡ 1) × (z ≡ a)

-- Request 101: the picture of this start block, its byte 1, is marked, or not, in a receiver asked for with the number
-- n. Notice 49, 5(1)
abbrev pub Marked : ℕ → List ℕ → Type 0
Marked n start = is_marked (marks_from n) (start ! 1) ≡ true

-- Notice 49, 5(1)
abbrev pub Unmarked : ℕ → List ℕ → Type 0
Unmarked n start = is_marked (marks_from n) (start ! 1) ≡ false

-- bytes that end with an undamaged part of a marked picture. Request 101
pub record EndsUndamaged (n : ℕ) (bytes : List ℕ) : Type 0 where
  pub before : List ℕ
  pub part : List ℕ
  pub split : bytes ≡ before ++ part
  pub whole : UndamagedPart part
  pub marked : Marked n whole.part.start

-- The answers of an undamaged part from its start text's last byte on: 1; 2 at each data text's last byte; 3 at the
-- end text's; 0 at every other byte
unfoldable pub data_answers : List (List ℕ) → List ℕ
data_answers [] = []
data_answers (block ∷ blocks) = spread (length (text_of block)) 2 ++ data_answers blocks

abbrev pub part_answers : Part → List ℕ
part_answers p = 1 ∷ (data_answers p.datas ++ spread 40 3)

-- The answers of an undamaged part whose picture is unmarked, from block byte 1 of its start text on: 51 at block byte
-- 1 of each of its texts, 0 at every other byte. Block byte 1 is a text's seventh byte. Request 101
abbrev pub text_unmarked : List ℕ → List ℕ
text_unmarked block = zeros 6 ++ (51 ∷ zeros (length (text_of block) - 7))

unfoldable pub texts_unmarked : List (List ℕ) → List ℕ
texts_unmarked [] = []
texts_unmarked (block ∷ blocks) = text_unmarked block ++ texts_unmarked blocks

abbrev pub part_unmarked : Part → List ℕ
part_unmarked p = drop 6 (text_unmarked p.start ++ (texts_unmarked p.datas ++ text_unmarked p.end))

-- After calls that took these bytes, an undamaged start text of a marked picture among them: state and grid, and the
-- answers from that text's last byte on, are those of a fresh receiver with the same marks that was given, one by one,
-- all bytes taken from that text's first on; that last byte is answered 1. Request 101 has marks in this
pub record WayBack (n : ℕ) (here : After) (before text rest : List ℕ) : Type 0 where
  pub state : here.state ≡ (singly n (text ++ rest)).state
  pub grid : here.grid ≡ (singly n (text ++ rest)).grid
  pub begun : here.said ! (length before + (length text - 1)) ≡ 1
  pub answers : drop (length before + (length text - 1)) here.said ≡ drop (length text - 1) (singly n (text ++ rest)).said

-- the fresh state with these marks, written out
abbrev pub all_zero : ℕ → State
all_zero marks =
    record {
      seen = [];
      place = 0;
      kind = 0;
      picture = 0;
      part = 0;
      due = 0;
      check = 0;
      header = record { minute = pos 0; radars = zeros 8; clock = 0; picture = 0; mode = 0; noecho = false };
      modes = zeros 8;
      digits = zeros 12;
      marks = marks;
    }

-- Request 111: until byte 23 of a start text is taken, which leads to place 24, its header's minute is 0
abbrev pub MinuteWaits : State → Type 0
MinuteWaits s = is_start_kind s.kind ≡ true → s.place ≤ 23 → s.header.minute ≡ pos 0

-- What a receiver without the mark makes of an undamaged part that calls took, whatever they took before and behind it:
-- no byte of it is answered complete; from its first picture code on its answers are as above; and as long as no `FD` is
-- taken behind it, state and grid are as fresh, but for the bytes seen. Request 101
pub record PartUnmarked (n : ℕ) (here : After) (before part rest : List ℕ) (u : UndamagedPart part) : Type 0 where
  pub never : (i : ℕ) → length before ≤ i → i < length before + length part → here.said ! i ≢ 3
  pub answers : take (length part - 6) (drop (length before + 6) here.said) ≡ part_unmarked u.part
  pub state : is_in FD rest ≡ false → here.state ≡ dropped (marks_from n) here.state.seen
  pub grid : is_in FD rest ≡ false → here.grid ≡ empty_grid

-- What every list of calls comes to, whatever number n its fresh receiver was asked for with
pub record Demand3 (n : ℕ) (calls : List Call) : Type 0 where
  -- Before the first call: nothing seen, place 0, no part, all else 0, the grid's 20,000 bytes 0, and nothing taken
  pub begin : received n [] ≡ record { state = all_zero (marks_from n); grid = zeros 20000; taken = []; said = [] }
  -- Each call of the list, from what those before it came to to what they come to with it
  pub each : (earlier : List Call) (call : Call) (later : List Call) → calls ≡ earlier ++ (call ∷ later)
      → CallMade (received n earlier) call (received n (earlier ++ (call ∷ [])))
  -- Nothing ever changes the marks
  pub marks : (earlier later : List Call) → calls ≡ earlier ++ later → (received n earlier).state.marks ≡ marks_from n
  -- The digits of the time wait at places 9 to 23 of a start text, each 9 at most, and are 0 elsewhere; until byte 23 is taken the
  -- header's minute is 0. Request 111
  pub digits : (earlier later : List Call) → calls ≡ earlier ++ later
      → ((i : ℕ) → (received n earlier).state.digits ! i ≤ 9) × (Elsewhere (received n earlier).state → (i : ℕ) → (received n earlier).state.digits ! i ≡ 0)
  pub minute : (earlier later : List Call) → calls ≡ earlier ++ later → MinuteWaits (received n earlier).state
  -- A start text of a marked picture is enough to find the way back: compared after each call
  pub way_back : (earlier later : List Call) → calls ≡ earlier ++ later → (before text rest : List ℕ) (u : StartText text) → Marked n u.block
      → (received n earlier).taken ≡ before ++ (text ++ rest) → WayBack n (received n earlier) before text rest
  -- Right behind such a text the header is what its block gives, the minute of its time among it (Request 111)
  pub begun_header : (earlier later : List Call) → calls ≡ earlier ++ later → (before text : List ℕ) (u : StartText text) → Marked n u.block
      → (received n earlier).taken ≡ before ++ text → (received n earlier).state.header ≡ header_of u.block
  -- A byte is answered 3, complete, exactly when the bytes up to it end with an undamaged part of a marked picture
  pub complete : (before : List ℕ) (b : ℕ) (rest : List ℕ) → (received n calls).taken ≡ before ++ (b ∷ rest)
      → ((received n calls).said ! length before ≡ 3) ↔ EndsUndamaged n (before ++ (b ∷ []))
  -- After the call that took its last byte, and as long as no `FD` is taken behind it, header, modes and grid are
  -- that part's
  pub held : (earlier later : List Call) → calls ≡ earlier ++ later → (before part rest : List ℕ) (u : UndamagedPart part) → Marked n u.part.start
      → is_in FD rest ≡ false → (received n earlier).taken ≡ before ++ (part ++ rest)
      → ((received n earlier).state.header ≡ part_header u.part) × ((received n earlier).state.modes ≡ part_modes u.part) × ((received n earlier).grid ≡ grid_of u.part)
  -- It was answered 1, 2 for each data text, and 3, from its start text's last byte on
  pub part_answered : (earlier later : List Call) → calls ≡ earlier ++ later → (before part : List ℕ) (u : UndamagedPart part) → Marked n u.part.start
      → (received n earlier).taken ≡ before ++ part → drop (length before + 39) (received n earlier).said ≡ part_answers u.part
  -- and the call that is answered 3 tells that part's number
  pub complete_tells : (earlier : List Call) (r : Request) (later : List Call) → calls ≡ earlier ++ (on_grid r ∷ later)
      → number (ask (received n earlier).state (received n earlier).grid r).reply ≡ 3
      → (before part : List ℕ) (u : UndamagedPart part) → (received n (earlier ++ (on_grid r ∷ []))).taken ≡ before ++ part
      → (ask (received n earlier).state (received n earlier).grid r).reply ≡ part_complete (start_part u.part.start)
  -- A part whose picture is unmarked is never complete
  pub unmarked : (earlier later : List Call) → calls ≡ earlier ++ later → (before part rest : List ℕ) (u : UndamagedPart part) → Unmarked n u.part.start
      → (received n earlier).taken ≡ before ++ (part ++ rest) → PartUnmarked n (received n earlier) before part rest u
  -- One altered byte, to any value but `FD`, never yields complete, be the picture marked or not
  pub altered : (part : List ℕ) (v : ℕ) → UndamagedPart part → v ≢ FD → AlteredTo v part (received n calls).taken → (i : ℕ) → (received n calls).said ! i ≢ 3
  -- Nor do several: at least one in all, at most one in each of the part's texts, and none to `FD`. Request 113. One in all is a
  -- case of it (`AlterationsClaim.one_in_all`)
  pub several_altered : (part : List ℕ) (u : UndamagedPart part) → AlteredTexts (blocks_of u.part) (received n calls).taken → (received n calls).taken ≢ part
      → (i : ℕ) → (received n calls).said ! i ≢ 3
