-- What a receiver holds after a part, handed to the writer: the writer takes it. Assumes nothing.
use mathlib.Core.Path.{◌≡◌, refl, sym, ap, ◌∙◌, subst}
use mathlib.Core.Bool.{Bool, true, false, not, ◌&&◌}
use mathlib.Core.List.{List, [], ◌∷◌, ◌++◌}
use Prim.Native.Nat.{ℕ, zero, suc, ◌+◌, ◌*◌, ◌-◌, ◌≤◌}
use native.Mathlib.Nat.{mul-le-mul_right}
use native.Mathlib.Omega.{arith}
use lib.Dec.{eqb, leb}
use lib.ListN.{length, take, drop, length-drop}
use lib.Seq.{length-take-le, take-append-add}
use borrow.Author.Tests.{eqb-true, leb-true, eq-eqb, le-leb}
use Rattle.general_laws.specs.Bytes.{◌!◌, bit, is_in, every, all_of}
use Rattle.text.specs.Kinds.{is_kind, is_part_number, part_of, data_block_length, payload_length}
use Rattle.text.specs.StartBlock.{one_of, mode_of, has_mode, is_clock_byte, clock_of, time_text_of, radars_of, no_echo_of, header_of}
use Rattle.text.specs.DataBlock.{is_intensity_byte, is_top_byte, is_quality_byte, odd_level, even_level, is_payload_byte, payload_of}
use Rattle.text.specs.EndBlock.{radar_places, is_mode_byte, modes_of}
use Rattle.text.specs.Part.{Part, in_order, is_part, grid_length, payloads_of, zeros, grid_of, part_header, part_modes}
use Rattle.text.specs.WriterInput.{writer_header_of, is_mode_for, are_modes_for, is_writer_header, is_writer_input}
use Rattle.general_laws.proofs.Tests.{by_test, never, and_join, every_in, every_append}
use Rattle.text_laws.proofs.KindTable.{kind_part, text_back, data_is_kind, start_is_kind, by_part, most_texts}
use Rattle.text_laws.proofs.Blocks.{StartRules, start_rules, data_rules, EndRules, end_rules, PartRules, part_rules}
use Rattle.text_laws.proofs.Parts.{data_sized, order_split, payloads_length, payload_fits, grid_length_lem, every_zeros}
use Rattle.writer_spec.specs.Written.{is_payload}
use Rattle.writer_spec.specs.Demand2.{Accepted, held_part, held_payload}
use Rattle.writer_spec.proofs.WrittenAgain.{time_minute}

-- ---- zeros, and tests of lists

take_zeros : (n m : ℕ) → n ≤ m → take n (zeros m) ≡ zeros n
unfolding zeros
take_zeros zero m h = refl
take_zeros (suc n) zero h = absurd (omega arith)
take_zeros (suc n) (suc m) h = ap (λ t. 0 ∷ t) (take_zeros n m (omega arith))

-- 00 is a payload byte of every part
zero_allowed : (p : ℕ) → is_part_number p ≡ true → is_payload_byte p 0 ≡ true
unfolding is_payload_byte is_intensity_byte is_top_byte is_quality_byte odd_level even_level
zero_allowed = by_part (λ p. is_payload_byte p 0 ≡ true) refl refl refl

-- ---- clock and modes

clock_kept : (a b : ℕ) → is_clock_byte a ≡ true → is_clock_byte b ≡ true → leb (clock_of a b) 16383 ≡ true
unfolding clock_of is_clock_byte
clock_kept a b h l = le-leb (a * 128 + b) 16383 (omega (arith, leb-true a 0x7F h, leb-true b 0x7F l))

mode_few : (a b c : Bool) → not (eqb (one_of a b c) 0) ≡ true → leb 1 (one_of a b c) && leb (one_of a b c) 3 ≡ true
mode_few true false false h = refl
mode_few false true false h = refl
mode_few false false true h = refl
mode_few false false false h = never refl h
mode_few true true false h = never refl h
mode_few true false true h = never refl h
mode_few false true true h = never refl h
mode_few true true true h = never refl h

mode_kept : (radar b : ℕ) → is_mode_byte radar b ≡ true → is_mode_for radar (mode_of b) ≡ true
unfolding is_mode_byte is_mode_for has_mode mode_of bit
mode_kept radar b h =
    by_test (eqb radar 0) (λ e. let none : b ≡ 0 = eqb-true b 0 (rw e at h) in rw (e, none))
    (λ e. rw e (mode_few (bit b 2) (bit b 4) (bit b 6) (rw e at h)))

-- ---- payloads

payloads_kept : (q p k : ℕ) (blocks : List (List ℕ)) → in_order q p k blocks ≡ true → every (is_payload_byte p) (payloads_of blocks) ≡ true
unfolding payloads_of every
payloads_kept q p k [] h = refl
payloads_kept q p k (block ∷ blocks) h =
    let (b, _, e, rest) = order_split q p k block blocks h in
    let r = data_rules block b in
    let known = subst (λ c. is_kind c ≡ true) e (data_is_kind (block ! 2) r.kind) in
    let whose : part_of (block ! 2) ≡ p = ap part_of e ∙ (text_back p k known).0 in
    every_append (is_payload_byte p) (payload_of block) (payloads_of blocks)
    (subst (λ t. every (is_payload_byte t) (payload_of block) ≡ true) whose r.payload)
    (payloads_kept q p (suc k) blocks rest)

module _ (part : Part) (h : is_part part ≡ true) where
  abbrev rules : PartRules part
  rules = part_rules part h

  abbrev rules_of_start : StartRules part.start
  rules_of_start = start_rules part.start rules.start

  abbrev rules_of_end : EndRules (radars_of part.start) part.end
  rules_of_end = end_rules (radars_of part.start) part.end rules.end

  abbrev payloads : List ℕ
  payloads = payloads_of part.datas

  pub is_part_number_lem : is_part_number (held_part part) ≡ true
  is_part_number_lem = kind_part (part.start ! 2) (start_is_kind (part.start ! 2) rules_of_start.kind)

  payloads_fit : length payloads ≤ payload_length (held_part part)
  unfolding payload_length
  payloads_fit =
      rw (payloads_length (data_sized (part.start ! 1) (held_part part) 1 part.datas rules.order), rules.count)
      (mul-le-mul_right (data_block_length (held_part part) - 3) (most_texts (held_part part) (no_echo_of (part.start ! 4))))

  payload_in_grid : payload_length (held_part part) ≤ grid_length
  unfolding payload_length
  payload_in_grid = payload_fits (held_part part) false

  -- the payload's bytes of the grid are the payloads of the data texts, and then zeros
  pub held_payload_lem : held_payload part ≡ payloads ++ zeros (payload_length (held_part part) - length payloads)
  unfolding grid_of
  held_payload_lem =
      let n = payload_length (held_part part) in
      let m = grid_length - length payloads in
      let all : n ≡ length payloads + (n - length payloads) = omega (arith, payloads_fit) in
      ap (λ k. take k (payloads ++ zeros m)) all
      ∙ take-append-add payloads (zeros m) (n - length payloads)
      ∙ ap (λ t. payloads ++ t) (take_zeros (n - length payloads) m (omega (arith, payload_in_grid)))

  is_payload_lem : is_payload (held_part part) (held_payload part) ≡ true
  unfolding is_payload
  is_payload_lem =
      and_join (eq-eqb _ _ (length-take-le (payload_length (held_part part)) (grid_of part) (omega (arith, payload_in_grid, grid_length_lem part h))))
      (subst (λ t. every (is_payload_byte (held_part part)) t ≡ true) (sym held_payload_lem)
      (every_append (is_payload_byte (held_part part)) payloads (zeros (payload_length (held_part part) - length payloads))
      (payloads_kept (part.start ! 1) (held_part part) 1 part.datas rules.order)
      (every_zeros (is_payload_byte (held_part part)) (payload_length (held_part part) - length payloads) (zero_allowed (held_part part) is_part_number_lem))))

  header_kept : is_writer_header (writer_header_of (part_header part)) ≡ true
  unfolding is_writer_header header_of all_of
  header_kept = rw (rules_of_start.picture, clock_kept (part.start ! 6) (part.start ! 7) rules_of_start.clock_high rules_of_start.clock_low, (time_minute (time_text_of part.start) rules_of_start.time).0, rules_of_start.radars)

  modes_kept : are_modes_for (radars_of part.start) (part_modes part) ≡ true
  unfolding are_modes_for modes_of every is_in
  modes_kept = rw (mode 0 refl, mode 1 refl, mode 2 refl, mode 3 refl, mode 4 refl, mode 5 refl, mode 6 refl, mode 7 refl)
    where
      mode : (i : ℕ) → is_in i radar_places ≡ true → is_mode_for (radars_of part.start ! i) (mode_of (part.end ! (3 + i))) ≡ true
      mode i m =
          mode_kept (radars_of part.start ! i) (part.end ! (3 + i))
          (every_in (λ i. is_mode_byte (radars_of part.start ! i) (part.end ! (3 + i))) radar_places i rules_of_end.modes m)

  pub radars_long : length (radars_of part.start) ≡ 8
  radars_long = length-take-le 8 (drop 24 part.start) (omega (arith, length-drop 24 part.start, rules_of_start.long))

  -- The writer takes what a receiver holds
  pub held_taken : Accepted (held_part part) (writer_header_of (part_header part)) (part_modes part) (held_payload part)
  unfolding is_writer_input header_of modes_of
  held_taken =
      record {
        part = is_part_number_lem;
        input = and_join header_kept modes_kept;
        allowed = is_payload_lem;
        radars = radars_long;
        places = refl;
      }
