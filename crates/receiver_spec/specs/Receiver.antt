-- What the receiver does with one byte: 01's table, rows 11 to 22, and row 51, in the order of the checks. Assumes nothing.
use Rattle.std.specs.Prelude.{ℕ, suc, Bool, false, cond, ◌||◌, not, List, eqb, ltb}
use Rattle.std.specs.Int.Bits.{bit_xor}
use Rattle.text.specs.Text.{FD, EOR, TPAD}
use Rattle.text.specs.Pictures.{is_picture_code}
use Rattle.text.specs.Kinds.{is_kind, is_start_kind, is_end_kind, part_of, text_number, kind_of, block_length, data_texts}
use Rattle.text.specs.EndBlock.{highest, no_modes}
use Rattle.text.specs.declared.header.Header.{Header}
use Rattle.receiver_spec.specs.Seen.{push, ends_opening, due_byte}
use Rattle.receiver_spec.specs.Marks.{is_marked}
use Rattle.receiver_spec.specs.State.{State, no_digits, dropped, empty_grid}
use Rattle.receiver_spec.specs.Contents.{takes_byte, begun_header, enter_header, enter_digits, enter_modes, enter_grid}

-- the exclusive or of two bytes
infixl 60 ◌⊕◌
unfoldable pub ◌⊕◌ : ℕ → ℕ → ℕ
a ⊕ b = bit_xor a b

-- 01's answers 1, 2 and 3: part begun, data text taken, complete
abbrev pub BEGUN : ℕ
BEGUN = 1

abbrev pub TAKEN : ℕ
TAKEN = 2

abbrev pub COMPLETE : ℕ
COMPLETE = 3

-- A byte's answer, and the state and the grid that it leaves
pub record Step : Type 0 where
  pub answer : ℕ
  pub state : State
  pub grid : List ℕ

abbrev pub answers : ℕ → State → List ℕ → Step
answers n s g = record { answer = n; state = s; grid = g }

-- 01: dropped. State and grid are as fresh with the same marks, but the last bytes seen are kept, the byte just taken
-- among them
abbrev pub drops : ℕ → State → List ℕ → Step
drops n s seen = answers n (dropped s.marks seen) empty_grid

-- a state within a text, and between texts: place, kind, picture code, check byte; header and modes
abbrev pub within : State → List ℕ → ℕ → ℕ → ℕ → ℕ → State
within s seen place kind picture check =
    record { seen = seen; place = place; kind = kind; picture = picture; part = s.part; due = s.due; check = check; header = s.header; modes = s.modes; digits = s.digits; marks = s.marks }

abbrev pub between : State → List ℕ → ℕ → ℕ → Header → List ℕ → State
between s seen part due header modes =
    record { seen = seen; place = 0; kind = 0; picture = 0; part = part; due = due; check = 0; header = header; modes = modes; digits = s.digits; marks = s.marks }

-- An opening starts a text at place 1; an open part's header stays. Row 11: while a text is under way, drop, and the
-- new text goes on.
-- Notice 49, 4(1)(1-1)(c)(ア)
unfoldable pub opened : State → List ℕ → List ℕ → Step
opened s g seen =
    cond (eqb s.place 0) (answers 0 (within s seen 1 0 0 FD) g) (answers 11 (within (dropped s.marks seen) seen 1 0 0 FD) empty_grid)

-- Between texts. With no part open, bytes are free. Row 12: with a part open, the opening must follow byte upon byte.
-- Notice 49, 4(1)(1-1)(a) and (c)(ア), 4(1)(1-2)(a), 4(2)(a)
unfoldable pub gap_byte : State → List ℕ → List ℕ → ℕ → Step
gap_byte s g seen b =
    cond (eqb s.part 0) (answers 0 (between s seen 0 0 s.header s.modes) g)
    (cond (eqb b (due_byte s.seen)) (answers 0 (between s seen s.part s.due s.header s.modes) g)
    (drops 12 s seen))

-- Block byte 1. Row 13: no picture code. Row 51: a listed code that is unmarked (Request 101). Notice 49, 5(1)
unfoldable pub picture_byte : State → List ℕ → List ℕ → ℕ → Step
picture_byte s g seen b =
    cond (not (is_picture_code b)) (drops 13 s seen)
    (cond (not (is_marked s.marks b)) (drops 51 s seen)
    (answers 0 (within s seen 2 0 b (s.check ⊕ b)) g))

-- a start kind is taken: no part is open, header and modes are 0, no digit waits, and the picture code enters.
-- Notice 49, 4(1)(1-1)(c)(イ)
abbrev pub starting : State → List ℕ → ℕ → State
starting s seen b =
    record {
      seen = seen;
      place = 3;
      kind = b;
      picture = s.picture;
      part = 0;
      due = 0;
      check = s.check ⊕ b;
      header = begun_header s.picture;
      modes = no_modes;
      digits = no_digits;
      marks = s.marks;
    }

-- Block byte 2. Row 14: no kind. Row 15: a start kind while a part is open; the part is dropped, and this text goes on.
-- Row 16: a data or end kind with no part open, or not the due one. Row 17: another picture code than the start's.
-- Notice 49, 4(1)(1-1)(d)(イ) and (ウ), 4(1)(1-2)(d)(イ) and (ウ), 4(2)(d)(イ) and (ウ)
unfoldable pub kind_byte : State → List ℕ → List ℕ → ℕ → Step
kind_byte s g seen b =
    cond (not (is_kind b)) (drops 14 s seen)
    (cond (is_start_kind b) (cond (eqb s.part 0) (answers 0 (starting s seen b) g) (answers 15 (starting s seen b) empty_grid))
    (cond (eqb s.part 0) (drops 16 s seen)
    (cond (not (eqb b (kind_of s.part s.due))) (drops 16 s seen)
    (cond (eqb s.picture s.header.picture) (answers 0 (within s seen 3 b s.picture (s.check ⊕ b)) g)
    (drops 17 s seen)))))

-- where a block byte enters: header, modes and the digits that wait (Request 111) with it. Notice 49, 4(1)(1-1)(c)(イ) and (ウ), (d)(イ)
abbrev pub entered : State → List ℕ → ℕ → State
entered s seen b =
    record {
      seen = seen;
      place = suc s.place;
      kind = s.kind;
      picture = s.picture;
      part = s.part;
      due = s.due;
      check = s.check ⊕ b;
      header = cond (is_start_kind s.kind) (enter_header s.header s.digits s.place b) s.header;
      modes = cond (is_end_kind s.kind) (enter_modes s.modes s.place b) s.modes;
      digits = cond (is_start_kind s.kind) (enter_digits s.digits s.place b) s.digits;
      marks = s.marks;
    }

-- and the grid with it, where it is payload. Notice 49, 4(1)(1-1)(c)(エ), 4(1)(1-2)(c)(エ), 4(2)(c)(エ)
abbrev pub entered_grid : State → List ℕ → ℕ → List ℕ
entered_grid s g b =
    cond (is_start_kind s.kind || is_end_kind s.kind) g (enter_grid g (text_number s.kind) s.place b)

-- A later block byte. Row 18: it breaks its rule.
-- Notice 49, 4(1)(1-1)(c)(イ) to (エ), (d)(イ) and (ウ), 4(1)(1-2)(c)(エ) and (d)(ウ), 4(2)(c)(エ) and (d)(ウ)
unfoldable pub block_byte : State → List ℕ → List ℕ → ℕ → Step
block_byte s g seen b =
    cond (takes_byte s.kind s.header s.digits s.place b) (answers 0 (entered s seen b) (entered_grid s g b)) (drops 18 s seen)

-- Row 19: not `FE`. Notice 49, 4(1)(1-1)(c)(ア)
unfoldable pub eor_byte : State → List ℕ → List ℕ → ℕ → Step
eor_byte s g seen b =
    cond (eqb b EOR) (answers 0 (within s seen (suc s.place) s.kind s.picture (s.check ⊕ b)) g) (drops 19 s seen)

-- Row 20: wrong check byte. Notice 49, 4(1)(1-1)(c)(ア)
unfoldable pub checked_byte : State → List ℕ → List ℕ → ℕ → Step
checked_byte s g seen b =
    cond (eqb b s.check) (answers 0 (within s seen (suc s.place) s.kind s.picture s.check) g) (drops 20 s seen)

-- the text that is due after a start text, which may have NO ECHO.
-- Notice 49, 4(1)(1-1)(a), 4(1)(1-2)(a), 4(2)(a), 4(1)(1-1)(d)(イ)
unfoldable pub first_due : ℕ → Header → ℕ
first_due part h = cond (eqb (data_texts part h.noecho) 0) 11 1

-- the due text after data text k. Notice 49, 4(1)(1-1)(a), 4(1)(1-2)(a), 4(2)(a)
unfoldable pub next_due : ℕ → ℕ → ℕ
next_due part k = cond (ltb k (data_texts part false)) (suc k) 11

-- Row 22: status 2 is the highest mode. Notice 49, 4(1)(1-1)(d)(イ)
unfoldable pub mode_is_highest : Header → List ℕ → Bool
mode_is_highest h modes = eqb h.mode (highest modes)

-- The last byte. Row 21: not `FF`. Answer 1, part begun: header kept, modes 0, whole grid 0. Answer 2, data text taken.
-- Answer 3, complete: no part open from here; header, modes and grid kept. Notice 49, 4(1)(1-1)(c)(ア)
unfoldable pub last_byte : State → List ℕ → List ℕ → ℕ → Step
last_byte s g seen b =
    cond (not (eqb b TPAD)) (drops 21 s seen)
    (cond (is_start_kind s.kind)
    (answers BEGUN (between s seen (part_of s.kind) (first_due (part_of s.kind) s.header) s.header no_modes) empty_grid)
    (cond (is_end_kind s.kind)
    (cond (mode_is_highest s.header s.modes) (answers COMPLETE (between s seen 0 0 s.header s.modes) g) (drops 22 s seen))
    (answers TAKEN (between s seen s.part (next_due s.part (text_number s.kind)) s.header s.modes) g)))

-- by the byte's place in its text. Notice 49, 4(1)(1-1)(b) and (c)(ア), 4(1)(1-2)(b), 4(2)(b)
unfoldable pub placed_byte : State → List ℕ → List ℕ → ℕ → Step
placed_byte s g seen b =
    cond (eqb s.place 0) (gap_byte s g seen b)
    (cond (eqb s.place 1) (picture_byte s g seen b)
    (cond (eqb s.place 2) (kind_byte s g seen b)
    (cond (ltb s.place (block_length s.kind)) (block_byte s g seen b)
    (cond (eqb s.place (block_length s.kind)) (eor_byte s g seen b)
    (cond (eqb s.place (suc (block_length s.kind))) (checked_byte s g seen b)
    (last_byte s g seen b))))))

-- One byte: the opening is looked for before every other check. Notice 49, 4(1)(1-1)(c)(ア)
unfoldable pub step : State → List ℕ → ℕ → Step
step s g b =
    cond (ends_opening s.seen b) (opened s g (push s.seen b)) (placed_byte s g (push s.seen b) b)
