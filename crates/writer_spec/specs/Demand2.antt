-- Demand 2: written reads back, and complete is rewritten. Assumes nothing.
use Rattle.std.specs.Prelude.{◌≡◌, ◌≢◌, ℕ, suc, ◌+◌, ◌-◌, ◌≤◌, ◌<◌, Bool, true, false, not, ◌&&◌, ◌||◌, List, [], ◌∷◌, ◌++◌, map, eqb, length, take, drop}
use Rattle.std.proofs.lemmas.List.Edits.{sets}
use Rattle.general_laws.specs.Bytes.{◌!◌, bit, is_in, every}
use Rattle.text.specs.Text.{check_byte, text_of}
use Rattle.text.specs.Kinds.{is_part_number, part_length, payload_length}
use Rattle.text_calendar_spec.specs.TimeDigits.{is_time, minute_in}
use Rattle.text.specs.StartBlock.{no_echo_of, mode_of, mode_byte, has_mode, time_text_of}
use Rattle.text.specs.EndBlock.{highest}
use Rattle.text.specs.Part.{Part, part_bytes, start_part, data_texts_after, UndamagedPart, grid_length, zeros, grid_of, part_header, part_modes}
use Rattle.text.specs.WriterInput.{writer_header_of, is_writer_input}
use Rattle.text.specs.declared.header.Header.{Header}
use Rattle.text.specs.declared.header.WriterHeader.{WriterHeader}
use Rattle.receiver_spec.specs.Marks.{is_marked, marks_from}
use Rattle.receiver_spec.specs.Calls.{part_complete, number, Request, Call, on_grid, ask, received, singly}
use Rattle.writer_spec.specs.Written.{writes_no_echo, status_byte, time_text, written_part, is_payload, bytes_written, refused, writes}

-- What the writer takes: rows 31 to 33 do not refuse it, and header and modes have the lengths of the code's arrays
pub record Accepted (p : ℕ) (h : WriterHeader) (modes payload : List ℕ) : Type 0 where
  pub part : is_part_number p ≡ true
  pub input : is_writer_input h modes ≡ true
  pub allowed : is_payload p payload ≡ true
  pub radars : length h.radars ≡ 8
  pub places : length modes ≡ 8

-- the bytes written
abbrev pub written : ℕ → WriterHeader → List ℕ → List ℕ → List ℕ
written p h modes payload = part_bytes (written_part p h modes payload)

-- the header that a receiver then has: NO ECHO and mode as the writer set them
abbrev pub written_header : ℕ → WriterHeader → List ℕ → List ℕ → Header
written_header p h modes payload =
    record {
      minute = h.minute;
      radars = h.radars;
      clock = h.clock;
      picture = h.picture;
      mode = highest modes;
      noecho = writes_no_echo p payload;
    }

-- Written reads back; by a receiver, asked for with the number n, that has the picture marked (Request 101)
pub record ReadsBack (p : ℕ) (h : WriterHeader) (modes payload : List ℕ) : Type 0 where
  -- the bytes are an undamaged part, as long as was said
  pub undamaged : UndamagedPart (written p h modes payload)
  pub long : length (written p h modes payload) ≡ part_length p (writes_no_echo p payload)
  -- the writer puts them at the front of every output that has room, says how many they are, and leaves what lies
  -- behind them
  pub placed : (output : List ℕ) → length (written p h modes payload) ≤ length output
      → writes p h modes payload output ≡ record { answer = bytes_written (length (written p h modes payload)); count = length (written p h modes payload); output = written p h modes payload ++ drop (length (written p h modes payload)) output }
  -- a fresh receiver that is given them one by one answers complete at the last byte; and not before, whatever its marks
  pub last : (n : ℕ) → is_marked (marks_from n) h.picture ≡ true → (singly n (written p h modes payload)).said ! (length (written p h modes payload) - 1) ≡ 3
  pub before : (n i : ℕ) → suc i < length (written p h modes payload) → (singly n (written p h modes payload)).said ! i ≢ 3
  -- whatever calls took them, and whatever bytes were taken before: complete at the last byte, and the same header,
  -- modes and grid
  pub anywhere : (n : ℕ) → is_marked (marks_from n) h.picture ≡ true → (calls : List Call) (others : List ℕ) → (received n calls).taken ≡ others ++ written p h modes payload
      → ((received n calls).said ! (length others + (length (written p h modes payload) - 1)) ≡ 3)
      × ((received n calls).state.header ≡ written_header p h modes payload)
      × ((received n calls).state.modes ≡ modes)
      × ((received n calls).grid ≡ payload ++ zeros (grid_length - length payload))

-- What a receiver holds after an undamaged part, handed to the writer: header without status bytes, modes, and the
-- payload's bytes of the grid
abbrev pub held_part : Part → ℕ
held_part part = start_part part.start

abbrev pub held_payload : Part → List ℕ
held_payload part = take (payload_length (held_part part)) (grid_of part)

abbrev pub rewritten_part : Part → Part
rewritten_part part = written_part (held_part part) (writer_header_of (part_header part)) (part_modes part) (held_payload part)

-- The exception that 01 names: an all-zero grid that came with data texts
abbrev pub has_all_zero_data : Part → Bool
has_all_zero_data part = writes_no_echo (held_part part) (held_payload part) && not (eqb (data_texts_after part.start) 0)

-- Where the end text begins, and the places that may differ: status 1, status 2 and the check byte of the start text;
-- the eight mode bytes and the check byte of the end text
abbrev pub end_at : List ℕ → ℕ
end_at bytes = length bytes - 40

abbrev pub start_places : List ℕ
start_places = 9 ∷ 10 ∷ 38 ∷ []

abbrev pub end_places : List ℕ
end_places = 8 ∷ 9 ∷ 10 ∷ 11 ∷ 12 ∷ 13 ∷ 14 ∷ 15 ∷ 38 ∷ []

abbrev pub may_differ : List ℕ → ℕ → Bool
may_differ bytes i = is_in i start_places || is_in i (map (λ j. end_at bytes + j) end_places)

-- The bits: status 1 keeps NO ECHO alone, and not in quality. Notice 49, 4(1)(1-1)(d)(イ)
abbrev pub plain_status : ℕ → ℕ → ℕ
plain_status p b = status_byte (no_echo_of b && not (eqb p 3))

-- status 2 and the mode bytes keep their mode alone. Notice 49, 4(1)(1-1)(d)(イ)
abbrev pub plain_mode : ℕ → ℕ
plain_mode b = mode_byte (mode_of b)

-- where an end block has its mode bytes. Notice 49, 4(1)(1-1)(c)(ウ)
abbrev pub mode_places : List ℕ
mode_places = 3 ∷ 4 ∷ 5 ∷ 6 ∷ 7 ∷ 8 ∷ 9 ∷ 10 ∷ []

-- meaningless bits, and quality's NO ECHO bit, are 0: in the start block, in the end block, in both
abbrev pub is_plain_start : Part → Bool
is_plain_start part =
    eqb (plain_status (held_part part) (part.start ! 4)) (part.start ! 4) && eqb (plain_mode (part.start ! 5)) (part.start ! 5)

abbrev pub is_plain_end : Part → Bool
is_plain_end part = every (λ i. eqb (plain_mode (part.end ! i)) (part.end ! i)) mode_places

abbrev pub is_plain : Part → Bool
is_plain part = is_plain_start part && is_plain_end part

-- The blocks that are written in the exception: the start block that came, with NO ECHO alone in status 1 and the
-- mode alone in status 2; the end block that came, with the modes alone in its mode bytes
abbrev pub no_echo_start : Part → List ℕ
no_echo_start part = sets part.start 4 (0x08 ∷ plain_mode (part.start ! 5) ∷ [])

abbrev pub no_echo_end : Part → List ℕ
no_echo_end part = sets part.end 3 (map (λ i. plain_mode (part.end ! i)) mode_places)

-- Complete is rewritten
pub record Rewritten (bytes : List ℕ) (u : UndamagedPart bytes) : Type 0 where
  -- the writer takes what a receiver holds after it
  pub taken : Accepted (held_part u.part) (writer_header_of (part_header u.part)) (part_modes u.part) (held_payload u.part)
  -- the same bytes, but for the places and bits that 01 names
  pub long : has_all_zero_data u.part ≡ false → length (part_bytes (rewritten_part u.part)) ≡ length bytes
  pub places : has_all_zero_data u.part ≡ false → (i : ℕ) → may_differ bytes i ≡ false → part_bytes (rewritten_part u.part) ! i ≡ bytes ! i
  pub status : has_all_zero_data u.part ≡ false
      → (part_bytes (rewritten_part u.part) ! 9 ≡ plain_status (held_part u.part) (bytes ! 9)) × (part_bytes (rewritten_part u.part) ! 10 ≡ plain_mode (bytes ! 10))
  pub modes : has_all_zero_data u.part ≡ false → (i : ℕ) → i < 8
      → part_bytes (rewritten_part u.part) ! (end_at bytes + (8 + i)) ≡ plain_mode (bytes ! (end_at bytes + (8 + i)))
  -- the two check bytes are those of the blocks as rewritten, and unchanged where the block's bits are 0
  pub checks : has_all_zero_data u.part ≡ false
      → (part_bytes (rewritten_part u.part) ! 38 ≡ check_byte (rewritten_part u.part).start)
      × (part_bytes (rewritten_part u.part) ! (end_at bytes + 38) ≡ check_byte (rewritten_part u.part).end)
  pub start_check : has_all_zero_data u.part ≡ false → is_plain_start u.part ≡ true → part_bytes (rewritten_part u.part) ! 38 ≡ bytes ! 38
  pub end_check : has_all_zero_data u.part ≡ false → is_plain_end u.part ≡ true
      → part_bytes (rewritten_part u.part) ! (end_at bytes + 38) ≡ bytes ! (end_at bytes + 38)
  -- outright where those bits are 0: so every such part is one that the writer writes
  pub same : has_all_zero_data u.part ≡ false → is_plain u.part ≡ true → part_bytes (rewritten_part u.part) ≡ bytes
  -- the exception: NO ECHO is set and the data texts are left out, so that the bytes are two texts
  pub all_zero_data : has_all_zero_data u.part ≡ true
      → (part_bytes (rewritten_part u.part) ≡ text_of (no_echo_start u.part) ++ text_of (no_echo_end u.part))
      × (length (part_bytes (rewritten_part u.part)) ≡ 80)

-- Complete is rewritten, of calls: one more call r after these was answered 3, complete. The bytes taken end with an
-- undamaged part, whose number complete tells; that number with the header, modes and grid returned and left, handed
-- to the writer with an output that has room, is taken; and what is written is that part, but for what 01 names
pub record Relayed (n : ℕ) (calls : List Call) (r : Request) : Type 0 where
  pub before : List ℕ
  pub bytes : List ℕ
  pub split : (received n (calls ++ (on_grid r ∷ []))).taken ≡ before ++ bytes
  pub whole : UndamagedPart bytes
  pub tells : (ask (received n calls).state (received n calls).grid r).reply ≡ part_complete (held_part whole.part)
  pub taken : (output : List ℕ) → length (part_bytes (rewritten_part whole.part)) ≤ length output
      → let p = held_part whole.part in
      let here = received n (calls ++ (on_grid r ∷ [])) in
      let again = part_bytes (rewritten_part whole.part) in
      writes p (writer_header_of here.state.header) here.state.modes (take (payload_length p) here.grid) output
      ≡ record { answer = bytes_written (length again); count = length again; output = again ++ drop (length again) output }
  pub rewritten : Rewritten bytes whole

-- Rows 31 to 34 in order: the output unchanged, 0 written
pub record RefusedByRow (p : ℕ) (h : WriterHeader) (modes payload output : List ℕ) : Type 0 where
  pub row31 : is_part_number p ≡ false → writes p h modes payload output ≡ record { answer = refused 31; count = 0; output = output }
  pub row32 : is_part_number p ≡ true → is_writer_input h modes ≡ false
      → writes p h modes payload output ≡ record { answer = refused 32; count = 0; output = output }
  pub row33 : is_part_number p ≡ true → is_writer_input h modes ≡ true → is_payload p payload ≡ false
      → writes p h modes payload output ≡ record { answer = refused 33; count = 0; output = output }
  pub row34 : is_part_number p ≡ true → is_writer_input h modes ≡ true → is_payload p payload ≡ true
      → length output < part_length p (writes_no_echo p payload)
      → writes p h modes payload output ≡ record { answer = refused 34; count = 0; output = output }

-- The two halves, for all input; and the second of every list of calls, whatever number its receiver was asked for with,
-- and each call of it that is answered complete
pub record Demand2 : Type 0 where
  -- What the writer takes reads back
  pub reads_back : (p : ℕ) (h : WriterHeader) (modes payload : List ℕ) → Accepted p h modes payload → ReadsBack p h modes payload
  -- It writes nothing else: a call answered with a number of bytes kept rows 31 to 33, and the output had room
  pub nothing_else : (p : ℕ) (h : WriterHeader) (modes payload output : List ℕ) → length h.radars ≡ 8 → length modes ≡ 8
      → (n : ℕ) → (writes p h modes payload output).answer ≡ bytes_written n
      → Accepted p h modes payload × (length (written p h modes payload) ≤ length output)
  -- Of every valid time, what is written for its minute is the sixteen bytes of its digits: those of before. Request 111
  pub time_written : (p : ℕ) (h : WriterHeader) (modes payload ds : List ℕ) → length ds ≡ 12 → is_time ds ≡ true → h.minute ≡ minute_in ds
      → time_text_of (written_part p h modes payload).start ≡ time_text ds
  -- Any other call is refused by the first row that it breaks
  pub rows : (p : ℕ) (h : WriterHeader) (modes payload output : List ℕ) → RefusedByRow p h modes payload output
  -- Complete is rewritten
  pub rewritten : (bytes : List ℕ) (u : UndamagedPart bytes) → Rewritten bytes u
  -- by its bits: status 1 keeps bit 3, and none in quality; status 2 and the mode bytes keep bits 2, 4 and 6; all
  -- others are 0
  pub status_bits : (p b k : ℕ) → k < 8 → bit (plain_status p b) k ≡ (eqb k 3 && (bit b 3 && not (eqb p 3)))
  pub mode_bits : (b : ℕ) → b < 256 → has_mode b ≡ true → (k : ℕ) → k < 8 → bit (plain_mode b) k ≡ (is_in k (2 ∷ 4 ∷ 6 ∷ []) && bit b k)
  pub relayed : (n : ℕ) (calls : List Call) (r : Request) → number (ask (received n calls).state (received n calls).grid r).reply ≡ 3 → Relayed n calls r
