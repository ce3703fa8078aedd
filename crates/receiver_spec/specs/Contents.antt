-- What a block byte from byte 3 on may be, and where it enters: header, modes or grid. Assumes nothing.
use Rattle.std.specs.Prelude.{ℕ, suc, ◌+◌, ◌*◌, ◌-◌, ◌/◌, ◌%◌, Bool, true, cond, ◌&&◌, ◌||◌, not, List, [], ◌∷◌, eqb, leb, set, ℤ}
use Rattle.general_laws.specs.Bytes.{◌!◌, is_in}
use Rattle.text.specs.Kinds.{part_of, is_start_kind, is_end_kind}
use Rattle.text.specs.StartBlock.{no_echo_of, mode_of, has_mode, is_clock_byte, clock_of, digit_places, stop_places, is_digit, is_radar_code, follows, blank_header}
use Rattle.text_calendar_spec.specs.TimeDigits.{is_time, minute_in}
use Rattle.text.specs.DataBlock.{is_payload_byte}
use Rattle.text.specs.EndBlock.{is_mode_byte}
use Rattle.text.specs.declared.header.Header.{Header}
use Rattle.receiver_spec.specs.State.{no_digits}

-- ---- the start block, Notice 49, 4(1)(1-1)(c)(イ) and (d)(イ)

-- which of the twelve digits stands at a place of the time. Notice 49, 4(1)(1-1)(c)(イ) and (d)(イ)
abbrev pub index_in : ℕ → List ℕ → ℕ
index_in i [] = 0
index_in i (x ∷ xs) = cond (eqb i x) 0 (suc (index_in i xs))

-- the digits with one more, at place i of `YYYY.MM.DD.hh.mm`. Notice 49, 4(1)(1-1)(c)(イ) and (d)(イ)
abbrev pub with_digit : List ℕ → ℕ → ℕ → List ℕ
with_digit digits i b = set digits (index_in i digit_places) (b - 0x30)

-- 01, row 18: digits and stops are judged at their own byte; date, hour and minute at the last, from the digits that wait.
-- Notice 49, 4(1)(1-1)(c)(イ) and (d)(イ)
unfoldable pub time_takes : List ℕ → ℕ → ℕ → Bool
time_takes digits i b =
    cond (is_in i stop_places) (eqb b 0x2E) (is_digit b && (not (eqb i 15) || is_time (with_digit digits i b)))

-- 01, row 18: the rule of byte i of a start block. Notice 49, 4(1)(1-1)(c)(イ) and (d)(イ)
unfoldable pub start_takes : Header → List ℕ → ℕ → ℕ → Bool
start_takes h digits i b =
    cond (eqb i 3) (eqb b 0)
    (cond (eqb i 4) true
    (cond (eqb i 5) (has_mode b)
    (cond (leb i 7) (is_clock_byte b)
    (cond (leb i 23) (time_takes digits (i - 8) b)
    (cond (eqb i 24) (is_radar_code b)
    (follows (h.radars ! (i - 25)) b))))))

-- a header with one field anew
abbrev pub with_picture : Header → ℕ → Header
with_picture h q =
    record { minute = h.minute; radars = h.radars; clock = h.clock; picture = q; mode = h.mode; noecho = h.noecho }

abbrev pub with_no_echo : Header → Bool → Header
with_no_echo h e =
    record { minute = h.minute; radars = h.radars; clock = h.clock; picture = h.picture; mode = h.mode; noecho = e }

abbrev pub with_mode : Header → ℕ → Header
with_mode h m =
    record { minute = h.minute; radars = h.radars; clock = h.clock; picture = h.picture; mode = m; noecho = h.noecho }

abbrev pub with_clock : Header → ℕ → Header
with_clock h c =
    record { minute = h.minute; radars = h.radars; clock = c; picture = h.picture; mode = h.mode; noecho = h.noecho }

abbrev pub with_minute : Header → ℤ → Header
with_minute h z =
    record { minute = z; radars = h.radars; clock = h.clock; picture = h.picture; mode = h.mode; noecho = h.noecho }

abbrev pub with_radars : Header → List ℕ → Header
with_radars h r =
    record { minute = h.minute; radars = r; clock = h.clock; picture = h.picture; mode = h.mode; noecho = h.noecho }

-- 01: taking a start kind sets the header to 0, and the picture code enters. Notice 49, 4(1)(1-1)(c)(イ)
unfoldable pub begun_header : ℕ → Header
begun_header picture = with_picture blank_header picture

-- 01: the fields then enter as they come. Of the clock, the high part enters first, and the low part beside it. The time
-- enters with byte 23 alone, as the minute that the digits give (Request 111).
-- Notice 49, 4(1)(1-1)(c)(イ) and (d)(イ)
unfoldable pub enter_header : Header → List ℕ → ℕ → ℕ → Header
enter_header h digits i b =
    cond (eqb i 3) h
    (cond (eqb i 4) (with_no_echo h (no_echo_of b))
    (cond (eqb i 5) (with_mode h (mode_of b))
    (cond (eqb i 6) (with_clock h (clock_of b 0))
    (cond (eqb i 7) (with_clock h (clock_of (h.clock / 128 % 128) b))
    (cond (leb i 22) h
    (cond (eqb i 23) (with_minute h (minute_in (with_digit digits 15 b)))
    (with_radars h (set h.radars (i - 24) b))))))))

-- Request 111: the digits wait until byte 23, and are 0 from then on. Notice 49, 4(1)(1-1)(c)(イ) and (d)(イ)
unfoldable pub enter_digits : List ℕ → ℕ → ℕ → List ℕ
enter_digits digits i b =
    cond (leb i 7) digits
    (cond (leb i 22) (cond (is_in (i - 8) stop_places) digits (with_digit digits (i - 8) b))
    no_digits)

-- ---- the end block, Notice 49, 4(1)(1-1)(c)(ウ) and (d)(イ)

-- 01, row 18: the rule of byte i of an end block for these radars. Notice 49, 4(1)(1-1)(c)(ウ) and (d)(イ)
unfoldable pub end_takes : List ℕ → ℕ → ℕ → Bool
end_takes radars i b = cond (leb i 10) (is_mode_byte (radars ! (i - 3)) b) (eqb b 0)

-- the modes with byte i. Notice 49, 4(1)(1-1)(c)(ウ) and (d)(イ)
unfoldable pub enter_modes : List ℕ → ℕ → ℕ → List ℕ
enter_modes modes i b = cond (leb i 10) (set modes (i - 3) (mode_of b)) modes

-- ---- the data block, Notice 49, 4(1)(1-1)(c)(エ), 4(1)(1-2)(c)(エ), 4(2)(c)(エ)

-- 01: data text k enters the grid from byte 2,000 × (k − 1). Notice 49, 4(1)(1-1)(c)(エ), 4(1)(1-2)(c)(エ), 4(2)(c)(エ)
unfoldable pub enter_grid : List ℕ → ℕ → ℕ → ℕ → List ℕ
enter_grid grid k i b = set grid (2000 * (k - 1) + (i - 3)) b

-- ---- by kind

-- the rule of block byte i of a kind's block, given the header and the digits so far (01, row 18).
-- Notice 49, 4(1)(1-1)(c)(イ) to (エ), (d)(イ) and (ウ), 4(1)(1-2)(c)(エ) and (d)(ウ), 4(2)(c)(エ) and (d)(ウ)
unfoldable pub takes_byte : ℕ → Header → List ℕ → ℕ → ℕ → Bool
takes_byte kind h digits i b =
    cond (is_start_kind kind) (start_takes h digits i b)
    (cond (is_end_kind kind) (end_takes h.radars i b) (is_payload_byte (part_of kind) b))
