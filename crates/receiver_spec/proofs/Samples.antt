-- Sample traffic on the receiver's definition, computed by the checker: 01's three samples, a part with a data text, and each of
-- the answers 11 to 22 and 51. A row gives, as the listening program prints them, bytes read so far and answer, for each answer but 0.
-- Assumes nothing.
use mathlib.Core.Path.{◌≡◌, refl}
use mathlib.Core.Bool.{cond}
use mathlib.Core.List.{List, [], ◌∷◌, ◌++◌}
use Prim.Native.Nat.{ℕ, suc}
use lib.Dec.{eqb}
use lib.ListN.{take, drop, replicate}
use Rattle.general_laws.specs.Bytes.{bit, is_in, every, all_of, same}
use Rattle.text.specs.Text.{xor_all, check_byte, text_of}
use Rattle.text.specs.Pictures.{picture_codes, is_picture_code}
use Rattle.text.specs.Kinds.{kinds, part_of, text_number, kind_of, is_kind, is_start_kind, is_end_kind, is_data_kind, data_texts, data_block_length, block_length}
use Rattle.text_calendar_spec.specs.Calendar.{is_leap_year, days_in, is_moment}
use Rattle.text_calendar_spec.specs.TimeDigits.{year_of, is_time}
use Rattle.text.specs.StartBlock.{no_echo_of, mode_of, has_mode, is_clock_byte, clock_of, is_digit, radar_codes, is_radar_code, follows}
use Rattle.text.specs.DataBlock.{odd_level, even_level, is_intensity_byte, is_top_byte, is_quality_byte, is_payload_byte}
use Rattle.text.specs.EndBlock.{is_mode_byte, highest}
use Rattle.text.specs.SampleBlocks.{sample_start, sample_end}
use Rattle.receiver_spec.specs.Seen.{ends_opening, due_byte}
use Rattle.receiver_spec.specs.Marks.{marked_among, marked_pictures, is_marked, are_marks, all_marks, marks_from}
use Rattle.receiver_spec.specs.State.{fresh, empty_grid}
use Rattle.receiver_spec.specs.Contents.{time_takes, start_takes, begun_header, enter_header, enter_digits, end_takes, enter_modes, enter_grid, takes_byte}
use Rattle.receiver_spec.specs.Receiver.{◌⊕◌, opened, gap_byte, picture_byte, kind_byte, block_byte, eor_byte, checked_byte, first_due, next_due, mode_is_highest, last_byte, placed_byte, step}
use Rattle.receiver_spec.specs.Calls.{answers_of}

-- bytes read so far and answer, for each answer but 0
abbrev printed : ℕ → List ℕ → List ℕ
printed n [] = []
printed n (a ∷ rest) = cond (eqb a 0) (printed (suc n) rest) (suc n ∷ a ∷ printed (suc n) rest)

-- with the marks asked for, and with all twenty
pub listen_with : ℕ → List ℕ → List ℕ
listen_with marks bytes = printed 0 (answers_of (fresh marks) empty_grid bytes)

abbrev listen : List ℕ → List ℕ
listen bytes = listen_with all_marks bytes

-- 01's S and end text; a start text without NO ECHO; quality's start, data and end text; end texts of another picture and mode
pub S : List ℕ
S = text_of sample_start

pub E : List ℕ
E = text_of sample_end

pub echoing : List ℕ
echoing = text_of (0xFD ∷ 0xCC ∷ 0x10 ∷ 0x00 ∷ 0x00 ∷ drop 5 sample_start)

pub quality : List ℕ
quality =
    text_of (0xFD ∷ 0xCC ∷ 0x30 ∷ drop 3 sample_start)
    ++ (text_of (0xFD ∷ 0xCC ∷ 0x31 ∷ replicate 100 0x05) ++ text_of (0xFD ∷ 0xCC ∷ 0x3F ∷ drop 3 sample_end))

pub other_picture : List ℕ
other_picture = text_of (0xFD ∷ 0xC0 ∷ 0x1F ∷ drop 3 sample_end)

pub other_mode : List ℕ
other_mode = text_of (0xFD ∷ 0xCC ∷ 0x1F ∷ 0x10 ∷ drop 4 sample_end)

pub record Rows : Type 0 where
  pub start_end : listen (S ++ E) ≡ 40 ∷ 1 ∷ 80 ∷ 3 ∷ []
  pub start_twice : listen (S ++ S) ≡ 40 ∷ 1 ∷ 48 ∷ 15 ∷ 80 ∷ 1 ∷ []
  pub start_cut : listen (take 20 S ++ S) ≡ 21 ∷ 18 ∷ 60 ∷ 1 ∷ []
  pub with_data : listen quality ≡ 40 ∷ 1 ∷ 151 ∷ 2 ∷ 191 ∷ 3 ∷ []
  pub answer_11 : listen (echoing ++ (0x16 ∷ 0x16 ∷ 0x16 ∷ 0x10 ∷ 0x02 ∷ 0xFD ∷ 0xCC ∷ 0x11 ∷ 0x16 ∷ 0x16 ∷ 0x16 ∷ 0x10 ∷ 0x02 ∷ 0xFD ∷ [])) ≡ 40 ∷ 1 ∷ 54 ∷ 11 ∷ []
  pub answer_12 : listen (S ++ (0x00 ∷ [])) ≡ 40 ∷ 1 ∷ 41 ∷ 12 ∷ []
  pub answer_13 : listen (take 6 S ++ (0x00 ∷ [])) ≡ 7 ∷ 13 ∷ []
  pub answer_14 : listen (take 7 S ++ (0x55 ∷ [])) ≡ 8 ∷ 14 ∷ []
  pub answer_16 : listen E ≡ 8 ∷ 16 ∷ []
  pub answer_17 : listen (S ++ other_picture) ≡ 40 ∷ 1 ∷ 48 ∷ 17 ∷ []
  pub answer_19 : listen (S ++ (take 37 E ++ (0x00 ∷ []))) ≡ 40 ∷ 1 ∷ 78 ∷ 19 ∷ []
  pub answer_20 : listen (S ++ (take 38 E ++ (0x00 ∷ []))) ≡ 40 ∷ 1 ∷ 79 ∷ 20 ∷ []
  pub answer_21 : listen (S ++ (take 39 E ++ (0x00 ∷ []))) ≡ 40 ∷ 1 ∷ 80 ∷ 21 ∷ []
  pub answer_22 : listen (S ++ other_mode) ≡ 40 ∷ 1 ∷ 80 ∷ 22 ∷ []
  -- Request 101: `CC` alone is marked, bit 7; all before it are, bits 0 to 6; none is, since bit 20 is set too
  pub marked : listen_with 0x80 (S ++ E) ≡ 40 ∷ 1 ∷ 80 ∷ 3 ∷ []
  pub answer_51 : listen_with 0x7F (S ++ E) ≡ 7 ∷ 51 ∷ 47 ∷ 51 ∷ []
  pub asked_beyond : listen_with 0x100080 (S ++ E) ≡ 7 ∷ 51 ∷ 47 ∷ 51 ∷ []
  -- 13 comes first; 51 comes in a part's later texts too, and before 17
  pub thirteen_first : listen_with 0 (take 6 S ++ (0x00 ∷ [])) ≡ 7 ∷ 13 ∷ []
  pub before_17 : listen_with 0x80 (S ++ other_picture) ≡ 40 ∷ 1 ∷ 47 ∷ 51 ∷ []
  -- the marks are kept behind 13, 51, 11 and 15
  pub kept_13 : listen_with 0x80 (take 6 S ++ (0x00 ∷ (S ++ E))) ≡ 7 ∷ 13 ∷ 47 ∷ 1 ∷ 87 ∷ 3 ∷ []
  pub kept_51 : listen_with 0x80 (other_picture ++ (S ++ E)) ≡ 7 ∷ 51 ∷ 80 ∷ 1 ∷ 120 ∷ 3 ∷ []
  pub kept_11 : listen_with 0x80 (echoing ++ (take 7 S ++ (0x11 ∷ (S ++ E)))) ≡ 40 ∷ 1 ∷ 54 ∷ 11 ∷ 88 ∷ 1 ∷ 128 ∷ 3 ∷ []
  pub kept_15 : listen_with 0x80 (S ++ (S ++ E)) ≡ 40 ∷ 1 ∷ 48 ∷ 15 ∷ 80 ∷ 1 ∷ 120 ∷ 3 ∷ []

pub rows : Rows
unfolding listen_with S E echoing quality other_picture other_mode answers_of step opened placed_byte gap_byte picture_byte kind_byte block_byte eor_byte checked_byte first_due next_due mode_is_highest last_byte ◌⊕◌ ends_opening due_byte time_takes start_takes begun_header enter_header enter_digits end_takes enter_modes enter_grid takes_byte bit is_in every all_of same xor_all check_byte text_of picture_codes is_picture_code marked_among marked_pictures is_marked are_marks marks_from kinds part_of text_number kind_of is_kind is_start_kind is_end_kind is_data_kind data_texts data_block_length block_length no_echo_of mode_of has_mode is_clock_byte clock_of is_leap_year days_in is_moment year_of is_time is_digit radar_codes is_radar_code follows odd_level even_level is_intensity_byte is_top_byte is_quality_byte is_payload_byte is_mode_byte highest
rows =
    record {
      start_end = refl;
      start_twice = refl;
      start_cut = refl;
      with_data = refl;
      answer_11 = refl;
      answer_12 = refl;
      answer_13 = refl;
      answer_14 = refl;
      answer_16 = refl;
      answer_17 = refl;
      answer_19 = refl;
      answer_20 = refl;
      answer_21 = refl;
      answer_22 = refl;
      marked = refl;
      answer_51 = refl;
      asked_beyond = refl;
      thirteen_first = refl;
      before_17 = refl;
      kept_13 = refl;
      kept_51 = refl;
      kept_11 = refl;
      kept_15 = refl;
    }
