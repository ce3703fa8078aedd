-- The receiver's state, and which states are possible. Assumes nothing.
use Rattle.std.specs.Prelude.{ℕ, ◌+◌, Bool, cond, ◌&&◌, not, List, [], ◌∷◌, eqb, leb, length}
use Rattle.general_laws.specs.Bytes.{every, all_of}
use Rattle.text.specs.Pictures.{is_picture_code}
use Rattle.text.specs.Kinds.{is_kind, is_start_kind, kind_of, block_length}
use Rattle.text.specs.StartBlock.{blank_header}
use Rattle.text.specs.EndBlock.{no_modes}
use Rattle.text.specs.Part.{zeros, grid_length}
use Rattle.text.specs.declared.header.Header.{Header}
use Rattle.receiver_spec.specs.Marks.{are_marks, marks_from}

-- 01: the state is a value
pub record State : Type 0 where
  -- the last bytes seen (0 to 5 of them), newest first
  pub seen : List ℕ
  -- 0 between texts, else the count of bytes taken from `FD` on
  pub place : ℕ
  -- the kind and the picture code under way, each 0 until read and at place 0
  pub kind : ℕ
  pub picture : ℕ
  -- the part open, or 0
  pub part : ℕ
  -- the due text: 0 with no part open, 1 to 10 for data, 11 for the end
  pub due : ℕ
  -- the running check byte, 0 at place 0
  pub check : ℕ
  pub header : Header
  pub modes : List ℕ
  -- the twelve digits of the time, which wait here until byte 23 of a start text (Request 111)
  pub digits : List ℕ
  -- the pictures that the receiver takes; nothing ever changes them (Request 101)
  pub marks : ℕ

-- no digit waits: twelve 0. Request 111
abbrev pub no_digits : List ℕ
no_digits = 0 ∷ 0 ∷ 0 ∷ 0 ∷ 0 ∷ 0 ∷ 0 ∷ 0 ∷ 0 ∷ 0 ∷ 0 ∷ 0 ∷ []

-- the grid, all 0
abbrev pub empty_grid : List ℕ
empty_grid = zeros grid_length

-- State as fresh with these marks, but the last bytes seen are kept: what 01 calls dropped
abbrev pub dropped : ℕ → List ℕ → State
dropped marks seen =
    record {
      seen = seen;
      place = 0;
      kind = 0;
      picture = 0;
      part = 0;
      due = 0;
      check = 0;
      header = blank_header;
      modes = no_modes;
      digits = no_digits;
      marks = marks;
    }

-- Fresh: nothing seen, place 0, no part, all else 0; made from a number of marks (Request 101)
abbrev pub fresh : ℕ → State
fresh n = dropped (marks_from n) []

-- The ranges that refusal 2 names, and nothing more: header and modes are not judged, and a check byte is a byte

-- no part open and no text due, or a part and one of its texts, the start aside. Notice 49, 4(1)(1-1)(a),
-- 4(1)(1-2)(a), 4(2)(a)
unfoldable pub is_due : ℕ → ℕ → Bool
is_due part due = cond (eqb part 0) (eqb due 0) (is_kind (kind_of part due) && not (eqb due 0))

-- the kind read is the due one of the open part, or a start kind with none open.
-- Notice 49, 4(1)(1-1)(d)(イ) and (ウ), 4(1)(1-2)(d)(イ) and (ウ), 4(2)(d)(イ) and (ウ)
unfoldable pub fits_part : State → Bool
fits_part s = cond (eqb s.part 0) (is_start_kind s.kind) (eqb s.kind (kind_of s.part s.due))

-- before the kind is read: nothing under way, the `FD`, or the `FD` and the picture code. Notice 49, 5(1)
unfoldable pub kind_unread : State → Bool
kind_unread s =
    cond (eqb s.place 0) (eqb s.picture 0 && eqb s.check 0)
    (cond (eqb s.place 1) (eqb s.picture 0)
    (eqb s.place 2 && is_picture_code s.picture))

-- after it is read.
-- Notice 49, 4(1)(1-1)(b), (d)(イ) and (ウ), 4(1)(1-2)(b), (d)(イ) and (ウ), 4(2)(b), (d)(イ) and (ウ), 5(1)
unfoldable pub kind_read : State → Bool
kind_read s =
    all_of (
    leb 3 s.place
    ∷ leb s.place (block_length s.kind + 2)
    ∷ is_picture_code s.picture
    ∷ is_kind s.kind
    ∷ fits_part s
    ∷ [])

-- places 9 to 23 of a start text: the time's first digit is taken, and its last is not. Request 111
unfoldable pub awaits_time : State → Bool
awaits_time s = is_start_kind s.kind && leb 9 s.place && leb s.place 23

-- there each digit is 9 at most, also one that is still to come; elsewhere each is 0. Request 111
unfoldable pub are_waiting : State → Bool
are_waiting s = cond (awaits_time s) (every (λ d. leb d 9) s.digits) (every (λ d. eqb d 0) s.digits)

-- a possible state (01, row 2, and Requests 101 and 111: no marks beyond the twentieth; the digits that wait).
-- Notice 49, 4(1)(1-1)(a), (b), (d)(イ) and (ウ), 4(1)(1-2)(a), (b), (d)(イ) and (ウ),
-- 4(2)(a), (b), (d)(イ) and (ウ), 5(1)
unfoldable pub is_possible : State → Bool
is_possible s =
    all_of (
    leb (length s.seen) 5
    ∷ is_due s.part s.due
    ∷ cond (eqb s.kind 0) (kind_unread s) (kind_read s)
    ∷ are_marks s.marks
    ∷ are_waiting s
    ∷ [])
