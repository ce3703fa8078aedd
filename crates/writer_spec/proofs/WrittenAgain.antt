-- Blocks written again from what they say: the same blocks, with plain status and mode bytes. Assumes nothing.
use mathlib.Core.Path.{◌≡◌, refl, sym, ap, ap₂, ◌∙◌, subst}
use mathlib.Core.Bool.{Bool, true}
use mathlib.Core.List.{List, [], ◌∷◌, ◌++◌, append_assoc, map}
use Prim.Native.Nat.{ℕ, suc, ◌+◌, ◌*◌, ◌-◌, ◌/◌, ◌%◌, ◌≤◌}
use native.Mathlib.Omega.{arith}
use lib.Dec.{eqb, leb}
use lib.ListN.{length, take, drop, length-drop}
use lib.Seq.{sets, take_at, drop_at}
use borrow.Author.Tests.{eqb-true, leb-true}
use Rattle.general_laws.specs.Bytes.{◌!◌, is_in, every}
use Rattle.text_calendar_spec.specs.Minutes.{is_minute}
use Rattle.text_calendar_spec.specs.TimeDigits.{is_time, minute_in, digits_at}
use Rattle.text.specs.Kinds.{is_kind, is_start_kind, part_of, text_number, kind_of, data_block_length}
use Rattle.text.specs.StartBlock.{mode_byte, is_clock_byte, clock_of, clock_bytes, digit_places, stop_places, is_digit, digits_of, is_time_text, time_text_of, is_start_block, header_of}
use Rattle.text.specs.DataBlock.{payload_of, is_data_block}
use Rattle.text.specs.EndBlock.{is_end_block, modes_of, highest}
use Rattle.text.specs.Part.{in_order, payloads_of, zeros}
use Rattle.text.specs.WriterInput.{writer_header_of}
use Rattle.general_laws.proofs.Places.{places, by_place}
use Rattle.general_laws.proofs.Tests.{and_split, rule_at, every_in}
use Rattle.text_calendar_spec.proofs.Laws.{digits_kept}
use Rattle.text_laws.proofs.KindTable.{kind_back, data_is_kind, start_is_kind, block_least}
use Rattle.text_laws.proofs.Blocks.{StartRules, start_rules, data_rules, EndRules, end_rules, split_3}
use Rattle.text_laws.proofs.Parts.{Sized, one, data_sized, order_split}
use Rattle.writer_spec.specs.Written.{status_byte, time_text, block_of, start_contents, end_contents, data_blocks}
use Rattle.writer_spec.specs.Demand2.{plain_mode}

-- a block of 32 bytes, by place
abbrev spelled : (ℕ → ℕ) → List ℕ
spelled byte = map byte (places 0 32)

-- ---- the start block

start_kind : (b : ℕ) → is_start_kind b ≡ true → kind_of (part_of b) 0 ≡ b
unfolding is_start_kind
start_kind b h =
    let text : text_number b ≡ 0 = eqb-true (text_number b) 0 (and_split (is_kind b) (eqb (text_number b) 0) h).1 in
    ap (λ t. kind_of (part_of b) t) (sym text) ∙ kind_back b (start_is_kind b h)

clock_high : (a b : ℕ) → is_clock_byte b ≡ true → (a * 128 + b) / 128 ≡ a
unfolding is_clock_byte
clock_high a b h = omega (arith, leb-true b 0x7F h)

clock_low_lem : (a b : ℕ) → is_clock_byte b ≡ true → (a * 128 + b) % 128 ≡ b
unfolding is_clock_byte
clock_low_lem a b h = omega (arith, leb-true b 0x7F h)

digit_back : (b : ℕ) → is_digit b ≡ true → b - 0x30 + 0x30 ≡ b
unfolding is_digit
digit_back b h = omega (arith, leb-true 0x30 b (and_split (leb 0x30 b) (leb b 0x39) h).0)

module _ (chars : List ℕ) (h : is_time_text chars ≡ true) where
  pub time_digit : (i : ℕ) → is_in i digit_places ≡ true → chars ! i - 0x30 + 0x30 ≡ chars ! i
  unfolding is_time_text
  time_digit i m = digit_back (chars ! i) (every_in (λ i. is_digit (chars ! i)) digit_places i (rule_at _ h 0) m)

  time_stop : (i : ℕ) → is_in i stop_places ≡ true → chars ! i ≡ 0x2E
  unfolding is_time_text
  time_stop i m = eqb-true (chars ! i) 0x2E (every_in (λ i. eqb (chars ! i) 0x2E) stop_places i (rule_at _ h 1) m)

  time_kept : is_time (digits_of chars) ≡ true
  unfolding is_time_text
  time_kept = rule_at _ h 2

  -- its minute is one of the years, and has these digits
  pub time_minute : (is_minute (minute_in (digits_of chars)) ≡ true) × (digits_at (minute_in (digits_of chars)) ≡ digits_of chars)
  unfolding digits_of
  time_minute = digits_kept (digits_of chars) refl time_kept

start_spelled : (byte : ℕ → ℕ) (no_echo : Bool) (modes : List ℕ) → StartRules (spelled byte)
    → block_of (byte 1) (kind_of (part_of (byte 2)) 0) (start_contents no_echo (writer_header_of (header_of (spelled byte))) modes)
    ≡ sets (spelled byte) 4 (status_byte no_echo ∷ mode_byte (highest modes) ∷ [])
unfolding start_contents time_text clock_bytes clock_of header_of digits_of is_in
start_spelled byte no_echo modes r =
    rw (
      start_kind (byte 2) r.kind,
      clock_high (byte 6) (byte 7) r.clock_low,
      clock_low_lem (byte 6) (byte 7) r.clock_low,
      (time_minute chars r.time).1,
      digit 0 refl,
      digit 1 refl,
      digit 2 refl,
      digit 3 refl,
      digit 5 refl,
      digit 6 refl,
      digit 8 refl,
      digit 9 refl,
      digit 11 refl,
      digit 12 refl,
      digit 14 refl,
      digit 15 refl,
      r.first,
      r.null,
      stop 4 refl,
      stop 7 refl,
      stop 10 refl,
      stop 13 refl,
    )
  where
    chars : List ℕ
    chars = time_text_of (spelled byte)

    digit : (i : ℕ) → is_in i digit_places ≡ true → chars ! i - 0x30 + 0x30 ≡ chars ! i
    digit = time_digit chars r.time

    stop : (i : ℕ) → is_in i stop_places ≡ true → chars ! i ≡ 0x2E
    stop = time_stop chars r.time

-- A start block is written again with the status bytes that the writer sets
pub start_again : (block : List ℕ) (no_echo : Bool) (modes : List ℕ) → is_start_block block ≡ true
    → block_of (block ! 1) (kind_of (part_of (block ! 2)) 0) (start_contents no_echo (writer_header_of (header_of block)) modes)
    ≡ sets block 4 (status_byte no_echo ∷ mode_byte (highest modes) ∷ [])
start_again block no_echo modes h =
    let e : block ≡ spelled (λ k. block ! k) = by_place 32 block (start_rules block h).long in
    subst (λ t. block_of (t ! 1) (kind_of (part_of (t ! 2)) 0) (start_contents no_echo (writer_header_of (header_of t)) modes) ≡ sets t 4 (status_byte no_echo ∷ mode_byte (highest modes) ∷ [])) (sym e)
    (start_spelled (λ k. block ! k) no_echo modes (start_rules (spelled (λ k. block ! k)) (subst (λ t. is_start_block t ≡ true) e h)))

-- ---- the end block

zeros_only : (xs : List ℕ) → every (λ b. eqb b 0) xs ≡ true → xs ≡ zeros (length xs)
unfolding every zeros
zeros_only [] h = refl
zeros_only (x ∷ xs) h =
    let (a, b) = and_split (eqb x 0) (every (λ b. eqb b 0) xs) h in
    ap₂ (λ y ys. y ∷ ys) (eqb-true x 0 a) (zeros_only xs b)

end_spelled : (byte : ℕ → ℕ) (radars : List ℕ) → EndRules radars (spelled byte)
    → block_of (byte 1) (byte 2) (end_contents (modes_of (spelled byte))) ≡ sets (spelled byte) 3 (map (λ j. plain_mode (byte j)) (places 3 8))
unfolding end_contents modes_of
end_spelled byte radars r =
    ap₂ (λ b t. b ∷ byte 1 ∷ byte 2 ∷ (map (λ j. plain_mode (byte j)) (places 3 8) ++ t)) (sym r.first) (sym (zeros_only (drop 11 (spelled byte)) r.zeros))

-- An end block is written again with plain mode bytes
pub end_again : (radars block : List ℕ) → is_end_block radars block ≡ true
    → block_of (block ! 1) (block ! 2) (end_contents (modes_of block)) ≡ sets block 3 (map (λ j. plain_mode (block ! j)) (places 3 8))
end_again radars block h =
    let e : block ≡ spelled (λ k. block ! k) = by_place 32 block (end_rules radars block h).long in
    subst (λ t. block_of (t ! 1) (t ! 2) (end_contents (modes_of t)) ≡ sets t 3 (map (λ j. plain_mode (t ! j)) (places 3 8))) (sym e)
    (end_spelled (λ k. block ! k) radars (end_rules radars (spelled (λ k. block ! k)) (subst (λ t. is_end_block radars t ≡ true) e h)))

-- ---- data blocks

data_whole : (q p k : ℕ) (block : List ℕ) → is_data_block block ≡ true → block ! 1 ≡ q → block ! 2 ≡ kind_of p k → block_of q (kind_of p k) (payload_of block) ≡ block
data_whole q p k block h a b =
    let r = data_rules block h in
    let three : 3 ≤ length block = omega (arith, r.long, block_least (block ! 2) (data_is_kind (block ! 2) r.kind)) in
    ap₂ (λ x y. block_of x y (payload_of block)) (sym a) (sym b) ∙ sym (split_3 block three r.first)

first_long : {n : ℕ} {block : List ℕ} {blocks : List (List ℕ)} → Sized n (block ∷ blocks) → length block ≡ n
first_long (one l s) = l

-- Data blocks in order are written again from their payloads
pub datas_again : (q p k : ℕ) (blocks : List (List ℕ)) (rest : List ℕ) → in_order q p k blocks ≡ true
    → data_blocks p q k (length blocks) (payloads_of blocks ++ rest) ≡ blocks
unfolding data_blocks payloads_of
datas_again q p k [] rest h = refl
datas_again q p k (block ∷ blocks) rest h =
    let (b, a, c, more) = order_split q p k block blocks h in
    let size : length (payload_of block) ≡ data_block_length p - 3 = length-drop 3 block ∙ ap (λ n. n - 3) (first_long (data_sized q p k (block ∷ blocks) h)) in
    ap (λ t. block_of q (kind_of p k) (take (data_block_length p - 3) t) ∷ data_blocks p q (suc k) (length blocks) (drop (data_block_length p - 3) t)) (append_assoc (payload_of block) (payloads_of blocks) rest)
    ∙ ap₂ (λ t u. block_of q (kind_of p k) t ∷ data_blocks p q (suc k) (length blocks) u) (take_at (payload_of block) (payloads_of blocks ++ rest) (data_block_length p - 3) size) (drop_at (payload_of block) (payloads_of blocks ++ rest) (data_block_length p - 3) size)
    ∙ ap₂ (λ t u. t ∷ u) (data_whole q p k block b a c) (datas_again q p (suc k) blocks rest more)
