-- Parts with an altered byte in every text, one of each kind: each is such a part as the claim on altered bytes speaks of, and is
-- answered so by a fresh receiver with all twenty marks. And two parts with alterations that the claim excludes, where what came is, or
-- ends with, another undamaged part. A row gives, as the listening program prints them, bytes read so far and answer, for each answer
-- but 0. All of this is computed by the checker. Assumes nothing.
use mathlib.Core.Path.{◌≡◌, refl}
use mathlib.Core.Logic.{◌≢◌}
use mathlib.Core.Bool.{Bool, cond, true, false}
use mathlib.Core.List.{List, [], ◌∷◌, ◌++◌}
use Prim.Native.Nat.{ℕ, suc}
use native.Mathlib.Omega.{arith}
use lib.Dec.{eqb}
use lib.ListN.{drop}
use Rattle.general_laws.specs.Bytes.{◌!◌, bit, is_in, every, all_of, same}
use Rattle.text.specs.Text.{FD, xor_all, check_byte, text_of}
use Rattle.text.specs.Pictures.{picture_codes, is_picture_code}
use Rattle.text.specs.Kinds.{kinds, part_of, text_number, kind_of, is_kind, is_start_kind, is_end_kind, is_data_kind, data_texts, data_block_length, block_length}
use Rattle.text_calendar_spec.specs.Calendar.{is_leap_year, days_in, is_moment}
use Rattle.text_calendar_spec.specs.TimeDigits.{year_of, is_time}
use Rattle.text.specs.StartBlock.{no_echo_of, mode_of, has_mode, is_clock_byte, clock_of, is_digit, radar_codes, is_radar_code, follows, is_start_block, is_radar_list, is_time_text, digits_of, rising}
use Rattle.text.specs.DataBlock.{odd_level, even_level, is_intensity_byte, is_top_byte, is_quality_byte, is_payload_byte, is_data_block}
use Rattle.text.specs.EndBlock.{is_mode_byte, highest, is_end_block, modes_of}
use Rattle.text.specs.Part.{Part, texts_of, part_bytes, in_order, is_part, AlteredTo}
use Rattle.text_laws.proofs.Framing.{altered_at}
use Rattle.receiver_spec.specs.Seen.{ends_opening, due_byte}
use Rattle.receiver_spec.specs.Marks.{marked_among, marked_pictures, is_marked, are_marks, all_marks, marks_from}
use Rattle.receiver_spec.specs.State.{fresh, empty_grid}
use Rattle.receiver_spec.specs.Contents.{time_takes, start_takes, begun_header, enter_header, enter_digits, end_takes, enter_modes, enter_grid, takes_byte}
use Rattle.receiver_spec.specs.Receiver.{◌⊕◌, opened, gap_byte, picture_byte, kind_byte, block_byte, eor_byte, checked_byte, first_due, next_due, mode_is_highest, last_byte, placed_byte, step}
use Rattle.receiver_spec.specs.Calls.{answers_of}
use Rattle.receiver_spec.specs.Alterations.{AlteredTexts, blocks_of, Alteration, nothing, became, are_alterations, altered_bytes, some_altered}
use Rattle.receiver_spec.proofs.Laws.{alterations_claim}
use Rattle.receiver_altered_parts.proofs.SampleParts.{no_echo, no_echo_altered, intensity, intensity_altered, top, top_altered, quality, quality_altered, altered_once, altered_twice, other_clock, holds_start, place_of_fd, altered_to_fd, never_sent}

-- bytes read so far and answer, for each answer but 0
abbrev printed : ℕ → List ℕ → List ℕ
printed n [] = []
printed n (a ∷ rest) = cond (eqb a 0) (printed (suc n) rest) (suc n ∷ a ∷ printed (suc n) rest)

abbrev pub listen : List ℕ → List ℕ
listen bytes = printed 0 (answers_of (fresh all_marks) empty_grid bytes)

-- no text is left as it was
abbrev pub every_altered : List Alteration → Bool
every_altered [] = true
every_altered (nothing ∷ list) = false
every_altered (became place v ∷ list) = every_altered list

-- an undamaged part, an alteration of each of its texts, and the answers to what came
pub record EveryTextAltered (p : Part) (list : List Alteration) (answers : List ℕ) : Type 0 where
  pub undamaged : is_part p ≡ true
  pub alterations : are_alterations (blocks_of p) list ≡ true
  pub some : some_altered list ≡ true
  pub every : every_altered list ≡ true
  pub answered : listen (altered_bytes (blocks_of p) list) ≡ answers

-- so the claim is about it
pub claimed : {p : Part} {list : List Alteration} {answers : List ℕ} → EveryTextAltered p list answers
    → AlteredTexts (blocks_of p) (altered_bytes (blocks_of p) list) × (altered_bytes (blocks_of p) list ≢ part_bytes p)
claimed {p} {list} sample =
    let claim = alterations_claim p in
    (claim.each_list list sample.alterations, (claim.at_least_one list sample.alterations).0 sample.some)

pub no_echo_lem : EveryTextAltered no_echo no_echo_altered (39 ∷ 20 ∷ 49 ∷ 18 ∷ [])
unfolding no_echo no_echo_altered are_alterations altered_bytes some_altered is_part is_start_block in_order is_end_block is_radar_list modes_of is_data_block answers_of step opened placed_byte gap_byte picture_byte kind_byte block_byte eor_byte checked_byte first_due next_due mode_is_highest last_byte ◌⊕◌ ends_opening due_byte time_takes start_takes begun_header enter_header enter_digits end_takes enter_modes enter_grid takes_byte marked_among marked_pictures is_marked are_marks marks_from bit is_in every all_of same xor_all check_byte text_of picture_codes is_picture_code kinds part_of text_number kind_of is_kind is_start_kind is_end_kind is_data_kind data_texts data_block_length block_length no_echo_of mode_of has_mode is_clock_byte clock_of is_leap_year days_in is_moment year_of is_time is_digit radar_codes is_radar_code follows odd_level even_level is_intensity_byte is_top_byte is_quality_byte is_payload_byte is_mode_byte highest is_time_text digits_of rising
no_echo_lem = record { undamaged = refl; alterations = refl; some = refl; every = refl; answered = refl }

pub intensity_texts : EveryTextAltered intensity intensity_altered (39 ∷ 20 ∷ 78 ∷ 19 ∷ 2059 ∷ 16 ∷ 4062 ∷ 13 ∷ 4070 ∷ 16 ∷ 6080 ∷ 13 ∷ 8092 ∷ 14 ∷ 14125 ∷ 16 ∷ 16136 ∷ 16 ∷ 18147 ∷ 16 ∷ 20159 ∷ 18 ∷ [])
unfolding intensity intensity_altered are_alterations altered_bytes some_altered is_part is_start_block in_order is_end_block is_radar_list modes_of is_data_block answers_of step opened placed_byte gap_byte picture_byte kind_byte block_byte eor_byte checked_byte first_due next_due mode_is_highest last_byte ◌⊕◌ ends_opening due_byte time_takes start_takes begun_header enter_header enter_digits end_takes enter_modes enter_grid takes_byte marked_among marked_pictures is_marked are_marks marks_from bit is_in every all_of same xor_all check_byte text_of picture_codes is_picture_code kinds part_of text_number kind_of is_kind is_start_kind is_end_kind is_data_kind data_texts data_block_length block_length no_echo_of mode_of has_mode is_clock_byte clock_of is_leap_year days_in is_moment year_of is_time is_digit radar_codes is_radar_code follows odd_level even_level is_intensity_byte is_top_byte is_quality_byte is_payload_byte is_mode_byte highest is_time_text digits_of rising
intensity_texts = record { undamaged = refl; alterations = refl; some = refl; every = refl; answered = refl }

pub top_texts : EveryTextAltered top top_altered (40 ∷ 21 ∷ 48 ∷ 16 ∷ 459 ∷ 16 ∷ [])
unfolding top top_altered are_alterations altered_bytes some_altered is_part is_start_block in_order is_end_block is_radar_list modes_of is_data_block answers_of step opened placed_byte gap_byte picture_byte kind_byte block_byte eor_byte checked_byte first_due next_due mode_is_highest last_byte ◌⊕◌ ends_opening due_byte time_takes start_takes begun_header enter_header enter_digits end_takes enter_modes enter_grid takes_byte marked_among marked_pictures is_marked are_marks marks_from bit is_in every all_of same xor_all check_byte text_of picture_codes is_picture_code kinds part_of text_number kind_of is_kind is_start_kind is_end_kind is_data_kind data_texts data_block_length block_length no_echo_of mode_of has_mode is_clock_byte clock_of is_leap_year days_in is_moment year_of is_time is_digit radar_codes is_radar_code follows odd_level even_level is_intensity_byte is_top_byte is_quality_byte is_payload_byte is_mode_byte highest is_time_text digits_of rising
top_texts = record { undamaged = refl; alterations = refl; some = refl; every = refl; answered = refl }

pub quality_texts : EveryTextAltered quality quality_altered (39 ∷ 20 ∷ 159 ∷ 16 ∷ [])
unfolding quality quality_altered are_alterations altered_bytes some_altered is_part is_start_block in_order is_end_block is_radar_list modes_of is_data_block answers_of step opened placed_byte gap_byte picture_byte kind_byte block_byte eor_byte checked_byte first_due next_due mode_is_highest last_byte ◌⊕◌ ends_opening due_byte time_takes start_takes begun_header enter_header enter_digits end_takes enter_modes enter_grid takes_byte marked_among marked_pictures is_marked are_marks marks_from bit is_in every all_of same xor_all check_byte text_of picture_codes is_picture_code kinds part_of text_number kind_of is_kind is_start_kind is_end_kind is_data_kind data_texts data_block_length block_length no_echo_of mode_of has_mode is_clock_byte clock_of is_leap_year days_in is_moment year_of is_time is_digit radar_codes is_radar_code follows odd_level even_level is_intensity_byte is_top_byte is_quality_byte is_payload_byte is_mode_byte highest is_time_text digits_of rising
quality_texts = record { undamaged = refl; alterations = refl; some = refl; every = refl; answered = refl }

-- alterations of a part, not of every text, and the answers to what came
pub record SomeTextsAltered (p : Part) (list : List Alteration) (answers : List ℕ) : Type 0 where
  pub alterations : are_alterations (blocks_of p) list ≡ true
  pub some : some_altered list ≡ true
  pub answered : listen (altered_bytes (blocks_of p) list) ≡ answers

-- Echo top with its start text as it was, so that a part is open when the first altered text comes: payload and a mode byte altered; a
-- start kind in the data text; the end text's first byte; its picture code
pub record BehindStart : Type 0 where
  pub payload : SomeTextsAltered top (nothing ∷ became 300 0x07 ∷ became 8 0x10 ∷ []) (40 ∷ 1 ∷ 450 ∷ 20 ∷ 459 ∷ 16 ∷ [])
  pub start_kind : SomeTextsAltered top (nothing ∷ became 7 0x20 ∷ nothing ∷ []) (40 ∷ 1 ∷ 48 ∷ 15 ∷ 49 ∷ 18 ∷ 459 ∷ 16 ∷ [])
  pub first_byte : SomeTextsAltered top (nothing ∷ nothing ∷ became 0 0x00 ∷ []) (40 ∷ 1 ∷ 451 ∷ 2 ∷ 452 ∷ 12 ∷ [])
  pub picture : SomeTextsAltered top (nothing ∷ nothing ∷ became 6 0xC0 ∷ []) (40 ∷ 1 ∷ 451 ∷ 2 ∷ 459 ∷ 17 ∷ [])

pub behind_start : BehindStart
unfolding top are_alterations altered_bytes some_altered is_part is_start_block in_order is_end_block is_radar_list modes_of is_data_block answers_of step opened placed_byte gap_byte picture_byte kind_byte block_byte eor_byte checked_byte first_due next_due mode_is_highest last_byte ◌⊕◌ ends_opening due_byte time_takes start_takes begun_header enter_header enter_digits end_takes enter_modes enter_grid takes_byte marked_among marked_pictures is_marked are_marks marks_from bit is_in every all_of same xor_all check_byte text_of picture_codes is_picture_code kinds part_of text_number kind_of is_kind is_start_kind is_end_kind is_data_kind data_texts data_block_length block_length no_echo_of mode_of has_mode is_clock_byte clock_of is_leap_year days_in is_moment year_of is_time is_digit radar_codes is_radar_code follows odd_level even_level is_intensity_byte is_top_byte is_quality_byte is_payload_byte is_mode_byte highest is_time_text digits_of rising
behind_start =
    record {
      payload = record { alterations = refl; some = refl; answered = refl };
      start_kind = record { alterations = refl; some = refl; answered = refl };
      first_byte = record { alterations = refl; some = refl; answered = refl };
      picture = record { alterations = refl; some = refl; answered = refl };
    }

-- Why at most one in each text: two bytes of a start text altered, neither to `FD`. What came is another undamaged part, and complete
-- is the true answer
pub record TwoInOneText : Type 0 where
  pub undamaged : is_part no_echo ≡ true
  pub first : AlteredTo 0x4C (text_of no_echo.start) altered_once
  pub second : AlteredTo 0x4E altered_once altered_twice
  pub other : is_part other_clock ≡ true
  pub came : altered_twice ≡ text_of other_clock.start
  pub differs : (part_bytes no_echo ! 11 ≡ 0x4D) × ((altered_twice ++ text_of no_echo.end) ! 11 ≡ 0x4C)
  pub answered : listen (altered_twice ++ text_of no_echo.end) ≡ 40 ∷ 1 ∷ 80 ∷ 3 ∷ []

pub two_in_one_text : TwoInOneText
unfolding no_echo altered_once altered_twice other_clock part_bytes texts_of is_part is_start_block in_order is_end_block is_radar_list modes_of is_data_block answers_of step opened placed_byte gap_byte picture_byte kind_byte block_byte eor_byte checked_byte first_due next_due mode_is_highest last_byte ◌⊕◌ ends_opening due_byte time_takes start_takes begun_header enter_header enter_digits end_takes enter_modes enter_grid takes_byte marked_among marked_pictures is_marked are_marks marks_from bit is_in every all_of same xor_all check_byte text_of picture_codes is_picture_code kinds part_of text_number kind_of is_kind is_start_kind is_end_kind is_data_kind data_texts data_block_length block_length no_echo_of mode_of has_mode is_clock_byte clock_of is_leap_year days_in is_moment year_of is_time is_digit radar_codes is_radar_code follows odd_level even_level is_intensity_byte is_top_byte is_quality_byte is_payload_byte is_mode_byte highest is_time_text digits_of rising
two_in_one_text =
    record {
      undamaged = refl;
      first = altered_at (text_of no_echo.start) 11 (omega arith) (λ e. omega arith);
      second = altered_at altered_once 38 (omega arith) (λ e. omega arith);
      other = refl;
      came = refl;
      differs = (refl, refl);
      answered = refl;
    }

-- Why none to `FD`: one byte of data text 10, altered to it. What came ends with an undamaged part of 80 bytes, which nobody sent; that
-- complete is then the answer is demand 3's (Conditions)
pub record OneToFD : Type 0 where
  pub undamaged : is_part holds_start ≡ true
  pub first : AlteredTo FD (part_bytes holds_start) altered_to_fd
  pub other : is_part never_sent ≡ true
  pub came : drop 20110 altered_to_fd ≡ part_bytes never_sent

pub one_to_fd : OneToFD
unfolding holds_start altered_to_fd never_sent part_bytes texts_of is_part is_start_block in_order is_end_block is_radar_list modes_of is_data_block bit is_in every all_of same xor_all check_byte text_of picture_codes is_picture_code kinds part_of text_number kind_of is_kind is_start_kind is_end_kind is_data_kind data_texts data_block_length block_length no_echo_of mode_of has_mode is_clock_byte clock_of is_leap_year days_in is_moment year_of is_time is_digit radar_codes is_radar_code follows odd_level even_level is_intensity_byte is_top_byte is_quality_byte is_payload_byte is_mode_byte highest is_time_text digits_of rising
one_to_fd =
    record {
      undamaged = refl;
      first = altered_at (part_bytes holds_start) place_of_fd (omega arith) (λ e. omega arith);
      other = refl;
      came = refl;
    }
