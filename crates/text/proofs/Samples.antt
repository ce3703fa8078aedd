-- 01, "Sample traffic": the rows marked P, those of quality as Request 107 has them, and the sample's end text byte by byte, as one
-- theorem about the definitions, computed by the checker. Assumes nothing.
use mathlib.Core.Path.{◌≡◌, refl}
use mathlib.Core.Bool.{true, false}
use mathlib.Core.List.{List, [], ◌∷◌, ◌++◌}
use Prim.Native.Nat.{ℕ}
use lib.ListN.{drop}
use Rattle.general_laws.specs.Bytes.{bit, is_in, every, all_of, same}
use Rattle.text_calendar_spec.specs.Calendar.{is_leap_year, days_in, is_moment}
use Rattle.text_calendar_spec.specs.TimeDigits.{year_of, is_time}
use Rattle.text.specs.Text.{xor_all, check_byte, text_of}
use Rattle.text.specs.Pictures.{picture_codes, is_picture_code}
use Rattle.text.specs.Kinds.{kinds, part_of, text_number, kind_of, is_kind, is_start_kind, is_end_kind, is_data_kind, data_texts, data_block_length, block_length}
use Rattle.text.specs.StartBlock.{no_echo_of, mode_of, has_mode, mode_byte, is_clock_byte, clock_of, clock_bytes, is_digit, digits_of, is_time_text, radar_codes, is_radar_code, rising, is_radar_list, is_start_block}
use Rattle.text.specs.DataBlock.{odd_level, even_level, is_intensity_byte, is_top_byte, is_quality_byte, is_payload_byte, is_data_block}
use Rattle.text.specs.EndBlock.{is_mode_byte, is_end_block, modes_of, highest}
use Rattle.text.specs.SampleBlocks.{sample_start, sample_end}
use Rattle.text.specs.Part.{texts_of, part_bytes, in_order, is_part, radars_for, is_block, is_undamaged_text, cut_blocks, cut_part, is_undamaged_part}

-- `1987.08.15.12.15`, as document 002 has it
abbrev time1987 : List ℕ
time1987 =
    0x31 ∷ 0x39 ∷ 0x38 ∷ 0x37 ∷ 0x2E ∷ 0x30 ∷ 0x38 ∷ 0x2E ∷ 0x31 ∷ 0x35 ∷ 0x2E ∷ 0x31 ∷ 0x32 ∷ 0x2E ∷ 0x31 ∷ 0x35 ∷ []

pub record SampleRows : Type 0 where
  pub clock_9983 : (clock_bytes 9983 ≡ 0x4D ∷ 0x7F ∷ []) × (clock_of 0x4D 0x7F ≡ 9983)
  pub time_1987 : is_time_text time1987 ≡ true
  pub leap_day_2000 : is_moment 2000 2 29 0 0 ≡ true
  pub leap_day_1999 : is_moment 1999 2 29 0 0 ≡ false
  pub levels_1_e : (odd_level 0x1E ≡ 1) × (even_level 0x1E ≡ 14)
  pub intensity_ee : is_payload_byte 1 0xEE ≡ true
  pub intensity_ef : is_payload_byte 1 0xEF ≡ false
  pub intensity_f0 : is_payload_byte 1 0xF0 ≡ false
  pub top_08 : is_payload_byte 2 0x08 ≡ true
  pub top_09 : is_payload_byte 2 0x09 ≡ false
  pub quality_05 : is_payload_byte 3 0x05 ≡ true
  pub quality_40 : is_payload_byte 3 0x40 ≡ true
  pub quality_41 : is_payload_byte 3 0x41 ≡ true
  pub quality_80 : is_payload_byte 3 0x80 ≡ true
  pub quality_81 : is_payload_byte 3 0x81 ≡ false
  pub modes_123 : mode_byte (highest (1 ∷ 2 ∷ 3 ∷ [])) ≡ 0x40
  pub modes_2111 : mode_byte (highest (2 ∷ 1 ∷ 1 ∷ 1 ∷ [])) ≡ 0x10
  pub radars_a3_a5 : is_radar_list (0xA3 ∷ 0xA5 ∷ []) ≡ true
  pub radars_a5_a3 : is_radar_list (0xA5 ∷ 0xA3 ∷ []) ≡ false
  pub radars_a5_a5 : is_radar_list (0xA5 ∷ 0xA5 ∷ []) ≡ false
  pub radars_a6 : is_radar_list (0xA6 ∷ []) ≡ false
  pub check_d4 : check_byte sample_end ≡ 0xD4
  pub check_4_f : check_byte sample_start ≡ 0x4F
  pub end_text : text_of sample_end ≡ 0x16 ∷ 0x16 ∷ 0x16 ∷ 0x10 ∷ 0x02 ∷ (sample_end ++ (0xFE ∷ 0xD4 ∷ 0xFF ∷ []))

pub sample_rows : SampleRows
unfolding bit is_in every all_of xor_all check_byte text_of mode_byte clock_of clock_bytes is_leap_year days_in is_moment year_of is_time is_digit digits_of is_time_text radar_codes is_radar_code rising is_radar_list odd_level even_level is_intensity_byte is_top_byte is_quality_byte is_payload_byte highest
sample_rows =
    record {
      clock_9983 = (refl, refl);
      time_1987 = refl;
      leap_day_2000 = refl;
      leap_day_1999 = refl;
      levels_1_e = (refl, refl);
      intensity_ee = refl;
      intensity_ef = refl;
      intensity_f0 = refl;
      top_08 = refl;
      top_09 = refl;
      quality_05 = refl;
      quality_40 = refl;
      quality_41 = refl;
      quality_80 = refl;
      quality_81 = refl;
      modes_123 = refl;
      modes_2111 = refl;
      radars_a3_a5 = refl;
      radars_a5_a3 = refl;
      radars_a5_a5 = refl;
      radars_a6 = refl;
      check_d4 = refl;
      check_4_f = refl;
      end_text = refl;
    }

-- The sample's texts are undamaged, and together they are an undamaged part: intensity with NO ECHO. The end text before the
-- start text is none, and the same two texts with quality's kinds are none: quality always has a data text
pub sample_part :
    (is_undamaged_text (text_of sample_start) ≡ true)
    × (is_undamaged_text (text_of sample_end) ≡ true)
    × (is_undamaged_part (text_of sample_start ++ text_of sample_end) ≡ true)
    × (is_undamaged_part (text_of sample_end ++ text_of sample_start) ≡ false)
    × (is_undamaged_part (text_of (0xFD ∷ 0xCC ∷ 0x30 ∷ drop 3 sample_start) ++ text_of (0xFD ∷ 0xCC ∷ 0x3F ∷ drop 3 sample_end)) ≡ false)
unfolding bit is_in every all_of same xor_all check_byte text_of picture_codes is_picture_code kinds part_of text_number kind_of is_kind is_start_kind is_end_kind is_data_kind data_texts data_block_length block_length no_echo_of mode_of has_mode mode_byte is_clock_byte is_leap_year days_in is_moment year_of is_time is_digit digits_of is_time_text radar_codes is_radar_code rising is_radar_list is_start_block is_mode_byte is_end_block is_data_block modes_of highest texts_of part_bytes in_order is_part radars_for is_block is_undamaged_text cut_blocks cut_part is_undamaged_part
sample_part = (refl, refl, refl, refl, refl)
