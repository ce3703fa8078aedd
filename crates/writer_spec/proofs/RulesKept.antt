-- The blocks that are written keep their rules, and what was handed in is read off them again. Assumes nothing.
use mathlib.Core.Path.{◌≡◌, refl, sym, ap, ◌∙◌, subst}
use mathlib.Core.Bool.{Bool, true, false}
use mathlib.Core.List.{List, [], ◌∷◌, map}
use Prim.Native.Nat.{ℕ, suc, ◌+◌, ◌-◌, ◌/◌, ◌%◌, ◌≤◌, ◌<◌}
use native.Mathlib.Omega.{arith}
use lib.Dec.{eqb, leb, lit≤}
use lib.ListN.{length}
use lib.Seq.{take_all}
use borrow.Author.Tests.{eqb-true, eqb-false, leb-true, le-leb, not-true}
use Rattle.general_laws.specs.Bytes.{◌!◌, is_in, every, all_of, bit}
use Rattle.text_calendar_spec.specs.Minutes.{is_minute}
use Rattle.text_calendar_spec.specs.TimeDigits.{is_time, minute_in, digits_at}
use Rattle.text.specs.Pictures.{is_picture_code}
use Rattle.text.specs.Kinds.{kinds, is_part_number, is_kind, is_start_kind, is_end_kind, part_of, text_number, kind_of}
use Rattle.text.specs.StartBlock.{no_echo_of, mode_of, mode_byte, has_mode, is_clock_byte, clock_of, clock_bytes, is_digit, digits_of, is_time_text, time_text_of, is_radar_list, is_start_block, header_of}
use Rattle.text.specs.EndBlock.{radar_places, is_mode_byte, is_end_block, modes_of, highest}
use Rattle.text.specs.Part.{zeros}
use Rattle.text.specs.WriterInput.{is_mode_for, are_modes_for, is_writer_header, is_writer_input}
use Rattle.text.specs.declared.header.WriterHeader.{WriterHeader}
use Rattle.general_laws.proofs.Places.{by_place, places}
use Rattle.general_laws.proofs.Computed.{same_tests}
use Rattle.general_laws.proofs.Tests.{by_test, and_split, and_join, every_at, every_in, rule_at}
use Rattle.text_calendar_spec.proofs.Laws.{minute_kept, digits_kept}
use Rattle.text_laws.proofs.Blocks.{start_keeps, EndRules, end_keeps}
use Rattle.writer_spec.specs.Written.{status_byte, char, time_text, block_of, start_contents, end_contents, written_part}
use Rattle.writer_spec.specs.Demand2.{Accepted}

-- 1, 2 or 3: a part, or a mode
pub data OneToThree : ℕ → Type 0 where
  one : OneToThree 1
  two : OneToThree 2
  three : OneToThree 3

pub one_to_three : (m : ℕ) → 1 ≤ m → m ≤ 3 → OneToThree m
one_to_three m a b =
    by_test (eqb m 1) (λ t. subst OneToThree (sym (eqb-true m 1 t)) one)
    (λ t. by_test (eqb m 2) (λ u. subst OneToThree (sym (eqb-true m 2 u)) two)
    (λ u. subst OneToThree (three_is (eqb-false m 1 t) (eqb-false m 2 u)) three))
  where
    three_is : (m ≡ 1 → ⊥) → (m ≡ 2 → ⊥) → 3 ≡ m
    three_is x y = omega arith

-- ---- modes

pub mode_back : {m : ℕ} → OneToThree m → (has_mode (mode_byte m) ≡ true) × (mode_of (mode_byte m) ≡ m)
unfolding has_mode mode_of mode_byte bit
mode_back one = (refl, refl)
mode_back two = (refl, refl)
mode_back three = (refl, refl)

-- a radar's mode, or none
zero_mode : (eqb (mode_byte 0) 0 ≡ true) × (mode_of (mode_byte 0) ≡ 0)
unfolding mode_of mode_byte bit
zero_mode = (refl, refl)

pub mode_kept : (radar m : ℕ) → is_mode_for radar m ≡ true → (is_mode_byte radar (mode_byte m) ≡ true) × (mode_of (mode_byte m) ≡ m) × (m ≤ 3)
unfolding is_mode_for is_mode_byte
mode_kept radar m h =
    by_test (eqb radar 0)
    (λ t. let none : m ≡ 0 = eqb-true m 0 (rw t at h) in rw (t, none) (zero_mode.0, zero_mode.1, omega arith))
    (λ t. let (a, b) = and_split (leb 1 m) (leb m 3) (rw t at h) in
    let k = mode_back (one_to_three m (leb-true 1 m a) (leb-true m 3 b)) in
    rw t (k.0, k.1, leb-true m 3 b))

-- ---- parts and kinds

pub part_is : (p : ℕ) → is_part_number p ≡ true → OneToThree p
unfolding is_part_number
part_is p h = let (a, b) = and_split (leb 1 p) (leb p 3) h in one_to_three p (leb-true 1 p a) (leb-true p 3 b)

pub kind_edges : {p : ℕ} → OneToThree p → (is_start_kind (kind_of p 0) ≡ true) × (is_end_kind (kind_of p 11) ≡ true) × (part_of (kind_of p 0) ≡ p)
unfolding is_start_kind is_end_kind is_kind part_of text_number kind_of kinds
kind_edges one = (refl, refl, refl)
kind_edges two = (refl, refl, refl)
kind_edges three = (refl, refl, refl)

-- ---- the time

digit_back : (n : ℕ) → n + 48 - 48 ≡ n
digit_back n = omega arith

char_digit : (n : ℕ) → n ≤ 9 → is_digit (char n) ≡ true
unfolding is_digit
char_digit n h = and_join (le-leb 48 (n + 48) (omega arith)) (le-leb (n + 48) 57 (omega arith))

small_digits : (d : List ℕ) → is_time d ≡ true → (i : ℕ) → i < length d → d ! i ≤ 9
unfolding is_time
small_digits d h i l = leb-true (d ! i) 9 (every_at (λ x. leb x 9) d (and_split _ _ h).0 i l)

module _ (d : List ℕ) (twelve : length d ≡ 12) where
  pub time_back : digits_of (time_text d) ≡ d
  unfolding digits_of time_text
  time_back = simp digit_back refl ∙ sym (by_place 12 d twelve)

  pub time_kept : is_time d ≡ true → is_time_text (time_text d) ≡ true
  unfolding is_time_text all_of every time_text
  time_kept h =
      rw (digit 0 (lit≤ tt), digit 1 (lit≤ tt), digit 2 (lit≤ tt), digit 3 (lit≤ tt), digit 4 (lit≤ tt), digit 5 (lit≤ tt), digit 6 (lit≤ tt), digit 7 (lit≤ tt), digit 8 (lit≤ tt), digit 9 (lit≤ tt), digit 10 (lit≤ tt), digit 11 (lit≤ tt))
      (and_join (ap is_time time_back ∙ h) refl)
    where
      digit : (i : ℕ) → i < 12 → is_digit (char (d ! i)) ≡ true
      digit i l = char_digit (d ! i) (small_digits d h i (subst (λ n. i < n) (sym twelve) l))

-- Request 111: of a time's minute, the sixteen bytes of its digits are written
pub time_written_lem : (p : ℕ) (h : WriterHeader) (modes payload ds : List ℕ) → length ds ≡ 12 → is_time ds ≡ true → h.minute ≡ minute_in ds
    → time_text_of (written_part p h modes payload).start ≡ time_text ds
unfolding written_part start_contents clock_bytes time_text
time_written_lem p h modes payload ds twelve timed e = ap time_text (ap digits_at e ∙ (digits_kept ds twelve timed).1)

-- ---- the start block

highest_first : (ms : List ℕ) → ms ! 0 ≤ highest ms
unfolding highest
highest_first [] = omega arith
highest_first (m ∷ ms) = omega arith

highest_most : (ms : List ℕ) (n : ℕ) → ((i : ℕ) → i < length ms → ms ! i ≤ n) → highest ms ≤ n
unfolding highest
highest_most [] n h = omega arith
highest_most (m ∷ ms) n h = omega (arith, h 0 (omega arith), highest_most ms n (λ i l. h (suc i) (omega arith)))

in_places : (i : ℕ) → i < 8 → is_in i radar_places ≡ true
unfolding is_in
in_places = same_tests 8 (λ i. is_in i radar_places) (λ _. true) tt

radar_first : (radars : List ℕ) → is_radar_list radars ≡ true → eqb (radars ! 0) 0 ≡ false
unfolding is_radar_list
radar_first radars h = not-true (eqb (radars ! 0) 0) (rule_at _ h 1)

some_mode : (radar m : ℕ) → eqb radar 0 ≡ false → is_mode_for radar m ≡ true → 1 ≤ m
unfolding is_mode_for
some_mode radar m r h = leb-true 1 m (and_split (leb 1 m) (leb m 3) (rw r at h)).0

clock_back : (c : ℕ) → clock_of (c / 128) (c % 128) ≡ c
unfolding clock_of
clock_back c = omega arith

pub status_back : (e : Bool) → no_echo_of (status_byte e) ≡ e
unfolding no_echo_of status_byte bit
status_back true = refl
status_back false = refl

module _ (p : ℕ) (h : WriterHeader) (modes payload : List ℕ) (t : Accepted p h modes payload) where
  abbrev rules : List Bool
  rules = is_picture_code h.picture ∷ leb h.clock 16383 ∷ is_minute h.minute ∷ is_radar_list h.radars ∷ []

  header_rules : all_of rules ≡ true
  unfolding is_writer_input is_writer_header
  header_rules = (and_split _ _ t.input).0

  moded : are_modes_for h.radars modes ≡ true
  unfolding is_writer_input
  moded = (and_split (is_writer_header h) (are_modes_for h.radars modes) t.input).1

  pub picture : is_picture_code h.picture ≡ true
  picture = rule_at rules header_rules 0

  clock : h.clock ≤ 16383
  clock = leb-true h.clock 16383 (rule_at rules header_rules 1)

  -- the minute's digits are twelve, and a time whose minute it is
  minuted : (length (digits_at h.minute) ≡ 12) × (is_time (digits_at h.minute) ≡ true) × (minute_in (digits_at h.minute) ≡ h.minute)
  minuted = minute_kept h.minute (rule_at rules header_rules 2)

  -- one mode for each radar or none
  pub each : (i : ℕ) → is_in i radar_places ≡ true → is_mode_for (h.radars ! i) (modes ! i) ≡ true
  unfolding are_modes_for
  each i m = every_in (λ i. is_mode_for (h.radars ! i) (modes ! i)) radar_places i moded m

  -- the first radar is there, and so the highest mode is one
  pub top_mode : OneToThree (highest modes)
  top_mode =
      one_to_three (highest modes) (omega (arith, highest_first modes, first_mode))
      (highest_most modes 3 (λ i l. (mode_kept (h.radars ! i) (modes ! i) (each i (place i (subst (λ n. i < n) t.places l)))).2))
    where
      place : (i : ℕ) → i < 8 → is_in i radar_places ≡ true
      place i l = in_places i l

      first_mode : 1 ≤ modes ! 0
      first_mode = some_mode (h.radars ! 0) (modes ! 0) (radar_first h.radars (rule_at rules header_rules 3)) (each 0 (in_places 0 (lit≤ tt)))

  abbrev start : Bool → List ℕ
  start e = block_of h.picture (kind_of p 0) (start_contents e h modes)

  pub start_kept : (e : Bool) → is_start_block (start e) ≡ true
  unfolding start_contents clock_bytes time_text is_clock_byte
  start_kept e =
      start_keeps (start e)
      (record {
        long = omega (arith, t.radars);
        first = refl;
        picture = picture;
        kind = (kind_edges (part_is p t.part)).0;
        null = refl;
        mode = (mode_back top_mode).0;
        clock_high = le-leb (h.clock / 128) 127 (omega (arith, clock));
        clock_low = le-leb (h.clock % 128) 127 (omega arith);
        time = time_kept (digits_at h.minute) minuted.0 minuted.1;
        radars = subst (λ r. is_radar_list r ≡ true) (sym (take_all 8 h.radars (omega (arith, t.radars)))) (rule_at rules header_rules 3);
      })

  pub start_header : (e : Bool) → header_of (start e) ≡ record { minute = h.minute; radars = h.radars; clock = h.clock; picture = h.picture; mode = highest modes; noecho = e }
  unfolding header_of start_contents clock_bytes time_text
  start_header e =
      rw (time_back (digits_at h.minute) minuted.0, minuted.2, take_all 8 h.radars (omega (arith, t.radars)), clock_back h.clock, (mode_back top_mode).1, status_back e)

  -- ---- the end block

  abbrev end : List ℕ
  end = block_of h.picture (kind_of p 11) (end_contents modes)

  abbrev listed : List ℕ
  listed = map (λ k. modes ! k) (places 0 8)

  same_modes : modes ≡ listed
  same_modes = by_place 8 modes t.places

  one_mode : (i : ℕ) → i < 8 → (is_mode_byte (h.radars ! i) (mode_byte (modes ! i)) ≡ true) × (mode_of (mode_byte (modes ! i)) ≡ modes ! i)
  one_mode i l = let k = mode_kept (h.radars ! i) (modes ! i) (each i (in_places i l)) in (k.0, k.1)

  end_listed : EndRules h.radars (block_of h.picture (kind_of p 11) (end_contents listed))
  unfolding end_contents every zeros
  end_listed =
      record {
        long = refl;
        first = refl;
        picture = picture;
        kind = (kind_edges (part_is p t.part)).1;
        modes =
            rw ((one_mode 0 (lit≤ tt)).0, (one_mode 1 (lit≤ tt)).0, (one_mode 2 (lit≤ tt)).0, (one_mode 3 (lit≤ tt)).0, (one_mode 4 (lit≤ tt)).0, (one_mode 5 (lit≤ tt)).0, (one_mode 6 (lit≤ tt)).0, (one_mode 7 (lit≤ tt)).0);
        zeros = refl;
      }

  listed_modes : modes_of (block_of h.picture (kind_of p 11) (end_contents listed)) ≡ listed
  unfolding end_contents modes_of
  listed_modes =
      rw ((one_mode 0 (lit≤ tt)).1, (one_mode 1 (lit≤ tt)).1, (one_mode 2 (lit≤ tt)).1, (one_mode 3 (lit≤ tt)).1, (one_mode 4 (lit≤ tt)).1, (one_mode 5 (lit≤ tt)).1, (one_mode 6 (lit≤ tt)).1, (one_mode 7 (lit≤ tt)).1)

  pub end_kept : is_end_block h.radars end ≡ true
  end_kept =
      subst (λ m. is_end_block h.radars (block_of h.picture (kind_of p 11) (end_contents m)) ≡ true) (sym same_modes)
      (end_keeps h.radars (block_of h.picture (kind_of p 11) (end_contents listed)) end_listed)

  pub end_modes : modes_of end ≡ modes
  end_modes = ap (λ m. modes_of (block_of h.picture (kind_of p 11) (end_contents m))) same_modes ∙ listed_modes ∙ sym same_modes
