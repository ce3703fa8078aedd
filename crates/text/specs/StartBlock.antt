-- The start block, 32 bytes. Assumes nothing.
use Rattle.std.specs.Prelude.{ℕ, ◌+◌, ◌*◌, ◌-◌, ◌/◌, ◌%◌, Bool, true, false, cond, ◌&&◌, ◌||◌, not, List, [], ◌∷◌, map, eqb, leb, ltb, length, take, drop, pos}
use Rattle.general_laws.specs.Bytes.{◌!◌, bit, is_in, every, all_of}
use Rattle.text.specs.Text.{FD}
use Rattle.text.specs.Pictures.{is_picture_code}
use Rattle.text.specs.Kinds.{is_start_kind}
use Rattle.text_calendar_spec.specs.TimeDigits.{is_time, minute_in}
use Rattle.text.specs.declared.header.Header.{Header}

-- Status 1, byte 4: bit 3 is NO ECHO, and no other bit has a meaning. Notice 49, 4(1)(1-1)(d)(イ)
unfoldable pub no_echo_of : ℕ → Bool
no_echo_of status1 = bit status1 3

-- Which of three bits is set, where exactly one is; 0 where that is not so. Notice 49, 4(1)(1-1)(d)(イ)
abbrev pub one_of : Bool → Bool → Bool → ℕ
one_of true false false = 1
one_of false true false = 2
one_of false false true = 3
one_of false false false = 0
one_of true true false = 0
one_of true false true = 0
one_of false true true = 0
one_of true true true = 0

-- The mode of a byte with mode bits (status 2, and the end block's bytes): bit 2 is mode 1, bit 4 mode 2, bit 6 mode 3,
-- and exactly one of these is set; 0 where that is not so. No other bit has a meaning. Notice 49, 4(1)(1-1)(d)(イ)
unfoldable pub mode_of : ℕ → ℕ
mode_of b = one_of (bit b 2) (bit b 4) (bit b 6)

-- Exactly one mode bit is set. Notice 49, 4(1)(1-1)(d)(イ)
unfoldable pub has_mode : ℕ → Bool
has_mode b = not (eqb (mode_of b) 0)

-- The byte that says a mode, meaningless bits 0; 0 for a number that is no mode. Notice 49, 4(1)(1-1)(d)(イ)
unfoldable pub mode_byte : ℕ → ℕ
mode_byte m = cond (eqb m 1) 0x04 (cond (eqb m 2) 0x10 (cond (eqb m 3) 0x40 0))

-- The clock, bytes 6 and 7: 0 to 16,383, seven bits each, high part first, bit 7 zero. Notice 49, 4(1)(1-1)(d)(イ)
unfoldable pub is_clock_byte : ℕ → Bool
is_clock_byte b = leb b 0x7F

-- The clock that two bytes give, high part first. Notice 49, 4(1)(1-1)(d)(イ)
unfoldable pub clock_of : ℕ → ℕ → ℕ
clock_of high low = high * 128 + low

-- The two bytes of a clock. Notice 49, 4(1)(1-1)(d)(イ)
unfoldable pub clock_bytes : ℕ → List ℕ
clock_bytes clock = clock / 128 ∷ clock % 128 ∷ []

-- The time in ASCII, `YYYY.MM.DD.hh.mm`: where its digits stand. Notice 49, 4(1)(1-1)(c)(イ) and (d)(イ)
abbrev pub digit_places : List ℕ
digit_places = 0 ∷ 1 ∷ 2 ∷ 3 ∷ 5 ∷ 6 ∷ 8 ∷ 9 ∷ 11 ∷ 12 ∷ 14 ∷ 15 ∷ []

-- where its stops stand. Notice 49, 4(1)(1-1)(c)(イ)
abbrev pub stop_places : List ℕ
stop_places = 4 ∷ 7 ∷ 10 ∷ 13 ∷ []

-- a digit's character. Notice 49, 4(1)(1-1)(d)(イ)
unfoldable pub is_digit : ℕ → Bool
is_digit char = leb 0x30 char && leb char 0x39

-- the twelve digits, as numbers. Notice 49, 4(1)(1-1)(c)(イ) and (d)(イ)
unfoldable pub digits_of : List ℕ → List ℕ
digits_of chars = map (λ i. chars ! i - 0x30) digit_places

-- The time in ASCII, `YYYY.MM.DD.hh.mm`, of a moment that there is. Notice 49, 4(1)(1-1)(c)(イ) and (d)(イ)
unfoldable pub is_time_text : List ℕ → Bool
is_time_text chars =
    all_of (
    every (λ i. is_digit (chars ! i)) digit_places
    ∷ every (λ i. eqb (chars ! i) 0x2E) stop_places
    ∷ is_time (digits_of chars)
    ∷ [])

-- The 21 radar codes. Notice 49, 5(2)
unfoldable pub radar_codes : List ℕ
radar_codes =
    0xA0 ∷ 0xA1 ∷ 0xA2 ∷ 0xA3 ∷ 0xA4 ∷ 0xA5 ∷ 0xA7 ∷ 0xA8 ∷ 0xA9 ∷ 0xAA ∷ 0xAB ∷ 0xAC ∷ 0xAD ∷ 0xAE ∷ 0xAF
    ∷ 0xB0 ∷ 0xB1 ∷ 0xB3 ∷ 0xB4 ∷ 0xB5 ∷ 0xB6 ∷ []

-- One of the radar codes. Notice 49, 5(2)
unfoldable pub is_radar_code : ℕ → Bool
is_radar_code b = is_in b radar_codes

-- Radar codes, each above the one before it, and then only `00`. Notice 49, 4(1)(1-1)(d)(イ)
unfoldable pub rising : ℕ → List ℕ → Bool
rising before [] = true
rising before (r ∷ rs) = cond (eqb r 0) (every (λ b. eqb b 0) rs) (is_radar_code r && ltb before r && rising r rs)

-- One to eight radar codes, strictly rising, then `00`. Notice 49, 4(1)(1-1)(d)(イ)
unfoldable pub is_radar_list : List ℕ → Bool
is_radar_list rs = all_of (leb (length rs) 8 ∷ not (eqb (rs ! 0) 0) ∷ rising 0 rs ∷ [])

-- The same rule by place: the byte after a radar's byte is `00`, or a radar code above it. Notice 49, 4(1)(1-1)(d)(イ)
unfoldable pub follows : ℕ → ℕ → Bool
follows before r = eqb r 0 || is_radar_code r && not (eqb before 0) && ltb before r

-- Where the time stands. Notice 49, 4(1)(1-1)(c)(イ)
abbrev pub time_text_of : List ℕ → List ℕ
time_text_of block = take 16 (drop 8 block)

-- Where the radars stand. Notice 49, 4(1)(1-1)(c)(イ)
abbrev pub radars_of : List ℕ → List ℕ
radars_of block = take 8 (drop 24 block)

-- A start block. Notice 49, 4(1)(1-1)(c)(イ) and (d)(イ). 4(1)(1-2) and 4(2) refer to these
unfoldable pub is_start_block : List ℕ → Bool
is_start_block block =
    all_of (
    eqb (length block) 32
    ∷ eqb (block ! 0) FD
    ∷ is_picture_code (block ! 1)
    ∷ is_start_kind (block ! 2)
    ∷ eqb (block ! 3) 0x00
    ∷ has_mode (block ! 5)
    ∷ is_clock_byte (block ! 6)
    ∷ is_clock_byte (block ! 7)
    ∷ is_time_text (time_text_of block)
    ∷ is_radar_list (radars_of block)
    ∷ [])

-- 01: a part's header is what its start block gives; its time is the minute (Request 111). Notice 49, 4(1)(1-1)(c)(イ)
-- and (d)(イ)
unfoldable pub header_of : List ℕ → Header
header_of block =
    record {
      minute = minute_in (digits_of (time_text_of block));
      radars = radars_of block;
      clock = clock_of (block ! 6) (block ! 7);
      picture = block ! 1;
      mode = mode_of (block ! 5);
      noecho = no_echo_of (block ! 4);
    }

-- a header, all 0
abbrev pub blank_header : Header
blank_header =
    record {
      minute = pos 0;
      radars = 0 ∷ 0 ∷ 0 ∷ 0 ∷ 0 ∷ 0 ∷ 0 ∷ 0 ∷ [];
      clock = 0;
      picture = 0;
      mode = 0;
      noecho = false;
    }
