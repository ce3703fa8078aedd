-- Blocks as 01 states them, and as the receiver takes them byte by byte, are the same. Assumes nothing.
use mathlib.Core.Path.{◌≡◌, refl, sym, ap, ap₂, ◌∙◌, subst}
use mathlib.Core.Logic.{◌↔◌}
use mathlib.Core.Bool.{Bool, true, false, not, ◌&&◌, ◌||◌}
use mathlib.Core.List.{List, [], ◌∷◌, map}
use Prim.Native.Nat.{ℕ, suc, ◌+◌, ◌*◌, ◌-◌, ◌/◌, ◌%◌, ◌≤◌, ◌<◌}
use native.Mathlib.Nat.{add-zero}
use native.Mathlib.Omega.{arith}
use lib.Dec.{eqb, lit≤}
use lib.ListN.{length, get_or, drop, set}
use lib.Seq.{sets}
use borrow.Author.Tests.{eqb-true, leb-true, eq-eqb, not-true}
use Rattle.general_laws.specs.Bytes.{◌!◌, is_in, every, all_of}
use Rattle.text.specs.Text.{FD}
use Rattle.text.specs.Pictures.{is_picture_code}
use Rattle.text.specs.Kinds.{is_kind, is_start_kind, is_end_kind, is_data_kind, part_of, text_number}
use Rattle.text.specs.StartBlock.{is_clock_byte, clock_of, digit_places, stop_places, is_digit, digits_of, is_time_text, time_text_of, is_radar_code, follows, radars_of, is_start_block, header_of}
use Rattle.text_calendar_spec.specs.TimeDigits.{is_time}
use Rattle.text.specs.DataBlock.{is_payload_byte}
use Rattle.text.specs.EndBlock.{radar_places, is_mode_byte, is_end_block, modes_of, no_modes}
use Rattle.text.specs.declared.header.Header.{Header}
use Rattle.general_laws.proofs.Places.{places, by_place}
use Rattle.text.proofs.Laws.{radars_by_place}
use Rattle.general_laws.proofs.Tests.{and_split, and_join, neither, rule_at, every_at, every_in}
use Rattle.text_laws.proofs.Blocks.{StartRules, start_rules, start_keeps, EndRules, end_rules, end_keeps}
use Rattle.receiver_spec.specs.State.{no_digits}
use Rattle.receiver_spec.specs.Contents.{time_takes, start_takes, begun_header, enter_header, enter_digits, end_takes, enter_modes, enter_grid, takes_byte}
use Rattle.receiver_spec.proofs.Machine.{BlockContents, contents_end, contents_byte}
use Rattle.receiver_spec.proofs.Instance.{Held, held, begin_held, enter_held, radar}
use Rattle.text_laws.proofs.KindTable.{start_not_end, end_not_start}

-- ---- a run of block bytes: their tests, and what is held behind them

tests : ℕ → Held → ℕ → List ℕ → List Bool
tests k c i [] = []
tests k c i (x ∷ xs) = takes_byte k c.header c.digits i x ∷ tests k (enter_held k c i x) (suc i) xs

puts : ℕ → Held → ℕ → List ℕ → Held
puts k c i [] = c
puts k c i (x ∷ xs) = puts k (enter_held k c i x) (suc i) xs

contents_from : (marks : ℕ) {k i : ℕ} {c d : Held} {xs : List ℕ} → BlockContents (radar marks) k c i xs d → (all_of (tests k c i xs) ≡ true) × (d ≡ puts k c i xs)
unfolding tests puts all_of
contents_from marks contents_end = (refl, refl)
contents_from marks (contents_byte h r) = let (a, b) = contents_from marks r in (and_join h a, b)

contents_to : (marks k : ℕ) (c : Held) (i : ℕ) (xs : List ℕ) → all_of (tests k c i xs) ≡ true → BlockContents (radar marks) k c i xs (puts k c i xs)
unfolding tests puts all_of
contents_to marks k c i [] h = contents_end
contents_to marks k c i (x ∷ xs) h =
    let (a, b) = and_split (takes_byte k c.header c.digits i x) (all_of (tests k (enter_held k c i x) (suc i) xs)) h in
    contents_byte a (contents_to marks k (enter_held k c i x) (suc i) xs b)

-- ---- the start block

start_tests : Header → List ℕ → ℕ → List ℕ → List Bool
start_tests h ds i [] = []
start_tests h ds i (x ∷ xs) = start_takes h ds i x ∷ start_tests (enter_header h ds i x) (enter_digits ds i x) (suc i) xs

start_puts : Header → List ℕ → ℕ → List ℕ → Header
start_puts h ds i [] = h
start_puts h ds i (x ∷ xs) = start_puts (enter_header h ds i x) (enter_digits ds i x) (suc i) xs

-- the digits that wait behind them
start_digits : List ℕ → ℕ → List ℕ → List ℕ
start_digits ds i [] = ds
start_digits ds i (x ∷ xs) = start_digits (enter_digits ds i x) (suc i) xs

module _ (k : ℕ) (s : is_start_kind k ≡ true) where
  takes_start : (h : Header) (ds : List ℕ) (i x : ℕ) → takes_byte k h ds i x ≡ start_takes h ds i x
  unfolding takes_byte
  takes_start h ds i x = rw s

  -- what is held with one byte more
  abbrev with_start : Held → ℕ → ℕ → Held
  with_start c i x = held (enter_header c.header c.digits i x) c.modes (enter_digits c.digits i x) c.grid

  enter_start : (c : Held) (i x : ℕ) → enter_held k c i x ≡ with_start c i x
  enter_start c i x = rw (s, start_not_end k s)

  tests_start : (xs : List ℕ) (c : Held) (i : ℕ) → tests k c i xs ≡ start_tests c.header c.digits i xs
  unfolding tests start_tests
  tests_start [] c i = refl
  tests_start (x ∷ xs) c i =
      ap₂ (λ t ts. t ∷ ts) (takes_start c.header c.digits i x)
      (ap (λ e. tests k e (suc i) xs) (enter_start c i x) ∙ tests_start xs (with_start c i x) (suc i))

  puts_start : (xs : List ℕ) (c : Held) (i : ℕ) → puts k c i xs ≡ held (start_puts c.header c.digits i xs) c.modes (start_digits c.digits i xs) c.grid
  unfolding puts start_puts start_digits
  puts_start [] c i = refl
  puts_start (x ∷ xs) c i =
      ap (λ e. puts k e (suc i) xs) (enter_start c i x) ∙ puts_start xs (with_start c i x) (suc i)

-- the high part of the clock stays when the low part comes
clock_joined : (a b : ℕ) → is_clock_byte a ≡ true → clock_of (clock_of a 0 / 128 % 128) b ≡ clock_of a b
unfolding clock_of is_clock_byte
clock_joined a b h = omega (arith, leb-true a 0x7F h)

-- a block's bytes behind its kind, written out by place
abbrev written : List ℕ → List ℕ
written xs = map (λ j. xs ! j) (places 0 29)

-- a digit's test, and the last one's, at which the time is judged
digit : (b : ℕ) (judged : Bool) → is_digit b && judged ≡ true → is_digit b ≡ true
digit b judged h = (and_split (is_digit b) judged h).0

-- the three rules of the time
time_rules : (chars : List ℕ) → is_time_text chars ≡ true
    → (every (λ i. is_digit (chars ! i)) digit_places ≡ true) × (every (λ i. eqb (chars ! i) 0x2E) stop_places ≡ true) × (is_time (digits_of chars) ≡ true)
unfolding is_time_text
time_rules chars h = (rule_at _ h 0, rule_at _ h 1, rule_at _ h 2)

module _ (q k : ℕ) (xs : List ℕ) (hq : is_picture_code q ≡ true) (s : is_start_kind k ≡ true) where
  start_from : all_of (start_tests (begun_header q) no_digits 3 (written xs)) ≡ true → StartRules (FD ∷ q ∷ k ∷ written xs)
  unfolding start_tests start_takes enter_header enter_digits begun_header time_takes is_time_text digits_of is_in every all_of
  start_from h =
      record {
        long = refl;
        first = refl;
        picture = hq;
        kind = s;
        null = eqb-true _ _ (t 0);
        mode = t 2;
        clock_high = t 3;
        clock_low = t 4;
        time =
            rw (
              digit (xs ! 5) _ (t 5),
              digit (xs ! 6) _ (t 6),
              digit (xs ! 7) _ (t 7),
              digit (xs ! 8) _ (t 8),
              digit (xs ! 10) _ (t 10),
              digit (xs ! 11) _ (t 11),
              digit (xs ! 13) _ (t 13),
              digit (xs ! 14) _ (t 14),
              digit (xs ! 16) _ (t 16),
              digit (xs ! 17) _ (t 17),
              digit (xs ! 19) _ (t 19),
              digit (xs ! 20) _ (t 20),
              t 9,
              t 12,
              t 15,
              t 18,
              (and_split (is_digit (xs ! 20)) _ (t 20)).1,
            );
        radars = rw (radars_by_place (radars_of (FD ∷ q ∷ k ∷ written xs)) refl, t 21, t 22, t 23, t 24, t 25, t 26, t 27, t 28);
      }
    where
      t : (n : ℕ) → get_or (start_tests (begun_header q) no_digits 3 (written xs)) n true ≡ true
      t n = rule_at (start_tests (begun_header q) no_digits 3 (written xs)) h n

  start_to : StartRules (FD ∷ q ∷ k ∷ written xs) → all_of (start_tests (begun_header q) no_digits 3 (written xs)) ≡ true
  unfolding start_tests start_takes enter_header enter_digits begun_header time_takes is_time_text digits_of is_in every all_of
  start_to r =
      rw (
        eq-eqb (xs ! 0) 0 r.null,
        r.mode,
        r.clock_high,
        r.clock_low,
        digit_at 0 refl,
        digit_at 1 refl,
        digit_at 2 refl,
        digit_at 3 refl,
        digit_at 5 refl,
        digit_at 6 refl,
        digit_at 8 refl,
        digit_at 9 refl,
        digit_at 11 refl,
        digit_at 12 refl,
        digit_at 14 refl,
        digit_at 15 refl,
        stop_at 4 refl,
        stop_at 7 refl,
        stop_at 10 refl,
        stop_at 13 refl,
        (time_rules chars r.time).2,
        (and_split (is_radar_code (xs ! 21)) _ listed).0,
        next 1 refl,
        next 2 refl,
        next 3 refl,
        next 4 refl,
        next 5 refl,
        next 6 refl,
        next 7 refl,
      )
    where
      chars : List ℕ
      chars = time_text_of (FD ∷ q ∷ k ∷ written xs)

      radars : List ℕ
      radars = radars_of (FD ∷ q ∷ k ∷ written xs)

      digit_at : (i : ℕ) → is_in i digit_places ≡ true → is_digit (chars ! i) ≡ true
      digit_at i m = every_in (λ i. is_digit (chars ! i)) digit_places i (time_rules chars r.time).0 m

      stop_at : (i : ℕ) → is_in i stop_places ≡ true → eqb (chars ! i) 0x2E ≡ true
      stop_at i m = every_in (λ i. eqb (chars ! i) 0x2E) stop_places i (time_rules chars r.time).1 m

      listed : is_radar_code (xs ! 21) && every (λ i. follows (radars ! (i - 1)) (radars ! i)) (places 1 7) ≡ true
      listed = sym (radars_by_place radars refl) ∙ r.radars

      next : (i : ℕ) → is_in i (places 1 7) ≡ true → follows (radars ! (i - 1)) (radars ! i) ≡ true
      next i m = every_in (λ i. follows (radars ! (i - 1)) (radars ! i)) (places 1 7) i (and_split (is_radar_code (xs ! 21)) _ listed).1 m

  start_header : is_clock_byte (xs ! 3) ≡ true → start_puts (begun_header q) no_digits 3 (written xs) ≡ header_of (FD ∷ q ∷ k ∷ written xs)
  unfolding start_puts enter_header enter_digits begun_header header_of digits_of is_in
  start_header h = rw (clock_joined (xs ! 3) (xs ! 4) h)

-- behind a whole start block no digit waits
start_digits_lem : (xs : List ℕ) → start_digits no_digits 3 (written xs) ≡ no_digits
unfolding start_digits enter_digits is_in
start_digits_lem xs = refl

-- A start block is taken, byte by byte, exactly when it keeps its rules, and the header is then what the block gives; no digit
-- waits behind it
pub start_taken : (marks q k : ℕ) (a d : Held) (xs : List ℕ) → is_picture_code q ≡ true → is_start_kind k ≡ true → length xs ≡ 29
    → BlockContents (radar marks) k (begin_held q a) 3 xs d ↔ ((is_start_block (FD ∷ q ∷ k ∷ xs) ≡ true) × (d ≡ held (header_of (FD ∷ q ∷ k ∷ xs)) no_modes no_digits a.grid))
start_taken marks q k a d xs hq s l = (fro, to)
  where
    e : xs ≡ written xs
    e = by_place 29 xs l

    c : Held
    c = begin_held q a

    clock : is_start_block (FD ∷ q ∷ k ∷ xs) ≡ true → is_clock_byte (xs ! 3) ≡ true
    clock h = (start_rules (FD ∷ q ∷ k ∷ xs) h).clock_high

    holds : is_start_block (FD ∷ q ∷ k ∷ xs) ≡ true → puts k c 3 xs ≡ held (header_of (FD ∷ q ∷ k ∷ xs)) no_modes no_digits a.grid
    holds h =
        puts_start k s xs c 3
        ∙ ap₂ (λ h ds. held h no_modes ds a.grid) (ap (start_puts (begun_header q) no_digits 3) e ∙ start_header q k xs hq s (clock h) ∙ ap (λ t. header_of (FD ∷ q ∷ k ∷ t)) (sym e))
        (ap (start_digits no_digits 3) e ∙ start_digits_lem xs)

    fro : BlockContents (radar marks) k c 3 xs d → (is_start_block (FD ∷ q ∷ k ∷ xs) ≡ true) × (d ≡ held (header_of (FD ∷ q ∷ k ∷ xs)) no_modes no_digits a.grid)
    fro r =
        let (t, f) = contents_from marks r in
        let tests : all_of (start_tests (begun_header q) no_digits 3 (written xs)) ≡ true = subst (λ y. all_of (start_tests (begun_header q) no_digits 3 y) ≡ true) e (ap all_of (sym (tests_start k s xs c 3)) ∙ t) in
        let ok : is_start_block (FD ∷ q ∷ k ∷ xs) ≡ true = subst (λ y. is_start_block (FD ∷ q ∷ k ∷ y) ≡ true) (sym e) (start_keeps (FD ∷ q ∷ k ∷ written xs) (start_from q k xs hq s tests)) in
        (ok, f ∙ holds ok)

    to : (is_start_block (FD ∷ q ∷ k ∷ xs) ≡ true) × (d ≡ held (header_of (FD ∷ q ∷ k ∷ xs)) no_modes no_digits a.grid) → BlockContents (radar marks) k c 3 xs d
    to (ok, f) =
        let r = start_rules (FD ∷ q ∷ k ∷ written xs) (subst (λ y. is_start_block (FD ∷ q ∷ k ∷ y) ≡ true) e ok) in
        let t = ap all_of (tests_start k s xs c 3) ∙ subst (λ y. all_of (start_tests (begun_header q) no_digits 3 y) ≡ true) (sym e) (start_to q k xs hq s r) in
        subst (BlockContents (radar marks) k c 3 xs) (holds ok ∙ sym f) (contents_to marks k c 3 xs t)

-- ---- the data block

pub data_only : (k : ℕ) → is_data_kind k ≡ true → (is_start_kind k ≡ false) × (is_end_kind k ≡ false)
unfolding is_data_kind is_start_kind is_end_kind
data_only k h =
    let (a, b) = and_split (is_kind k) (not (eqb (text_number k) 0 || eqb (text_number k) 11)) h in
    rw a (neither (eqb (text_number k) 0) (eqb (text_number k) 11) (not-true _ b))

module _ (k : ℕ) (h : is_data_kind k ≡ true) where
  -- where the payload enters
  abbrev base : ℕ
  base = 2000 * (text_number k - 1)

  takes_data : (g : Header) (ds : List ℕ) (i x : ℕ) → takes_byte k g ds i x ≡ is_payload_byte (part_of k) x
  unfolding takes_byte
  takes_data g ds i x = rw ((data_only k h).0, (data_only k h).1)

  enter_data : (c : Held) (i x : ℕ) → enter_held k c i x ≡ held c.header c.modes c.digits (set c.grid (base + (i - 3)) x)
  unfolding enter_grid
  enter_data c i x = rw ((data_only k h).0, (data_only k h).1)

  data_from : (marks : ℕ) {i : ℕ} {c d : Held} {xs : List ℕ} → BlockContents (radar marks) k c i xs d → 3 ≤ i
      → (every (is_payload_byte (part_of k)) xs ≡ true) × (d ≡ held c.header c.modes c.digits (sets c.grid (base + (i - 3)) xs))
  unfolding every
  data_from marks contents_end l = (refl, refl)
  data_from marks {i} {c} (contents_byte {x} {xs} t r) l =
      let (p, q) = data_from marks r (omega arith) in
      let far : base + (suc i - 3) ≡ suc (base + (i - 3)) = omega arith in (
        and_join (sym (takes_data c.header c.digits i x) ∙ t) p,
        q ∙ ap₂ (λ (e : Held) j. held e.header e.modes e.digits (sets e.grid j xs)) (enter_data c i x) far,
      )

  data_to : (marks i : ℕ) (c : Held) (xs : List ℕ) → every (is_payload_byte (part_of k)) xs ≡ true → 3 ≤ i
      → BlockContents (radar marks) k c i xs (held c.header c.modes c.digits (sets c.grid (base + (i - 3)) xs))
  unfolding every
  data_to marks i c [] t l = contents_end
  data_to marks i c (x ∷ xs) t l =
      let (p, q) = and_split (is_payload_byte (part_of k) x) (every (is_payload_byte (part_of k)) xs) t in
      let far : base + (suc i - 3) ≡ suc (base + (i - 3)) = omega arith in
      contents_byte (takes_data c.header c.digits i x ∙ p)
      (subst (λ (e : Held). BlockContents (radar marks) k e (suc i) xs (held c.header c.modes c.digits (sets (set c.grid (base + (i - 3)) x) (suc (base + (i - 3))) xs))) (sym (enter_data c i x))
      (subst (λ j. BlockContents (radar marks) k (held c.header c.modes c.digits (set c.grid (base + (i - 3)) x)) (suc i) xs (held c.header c.modes c.digits (sets (set c.grid (base + (i - 3)) x) j xs))) far
      (data_to marks (suc i) (held c.header c.modes c.digits (set c.grid (base + (i - 3)) x)) xs q (omega arith))))

-- A data block is taken exactly when its payload keeps its rule, and the payload has then entered the grid
pub data_taken : (marks k : ℕ) (c d : Held) (xs : List ℕ) → is_data_kind k ≡ true
    → BlockContents (radar marks) k c 3 xs d ↔ ((every (is_payload_byte (part_of k)) xs ≡ true) × (d ≡ held c.header c.modes c.digits (sets c.grid (2000 * (text_number k - 1)) xs)))
data_taken marks k c d xs h = (
  λ r. let (p, q) = data_from k h marks r (lit≤ tt) in (p, q ∙ at),
  λ (p, q). subst (BlockContents (radar marks) k c 3 xs) (at ∙ sym q) (data_to k h marks 3 c xs p (lit≤ tt)),
)
  where
    at : held c.header c.modes c.digits (sets c.grid (2000 * (text_number k - 1) + (3 - 3)) xs) ≡ held c.header c.modes c.digits (sets c.grid (2000 * (text_number k - 1)) xs)
    at = ap (λ j. held c.header c.modes c.digits (sets c.grid j xs)) (add-zero (2000 * (text_number k - 1)))

-- ---- the end block

end_tests : List ℕ → ℕ → List ℕ → List Bool
end_tests radars i [] = []
end_tests radars i (x ∷ xs) = end_takes radars i x ∷ end_tests radars (suc i) xs

end_puts : List ℕ → ℕ → List ℕ → List ℕ
end_puts modes i [] = modes
end_puts modes i (x ∷ xs) = end_puts (enter_modes modes i x) (suc i) xs

module _ (k : ℕ) (s : is_end_kind k ≡ true) where
  takes_end : (h : Header) (ds : List ℕ) (i x : ℕ) → takes_byte k h ds i x ≡ end_takes h.radars i x
  unfolding takes_byte
  takes_end h ds i x = rw (end_not_start k s, s)

  enter_end : (c : Held) (i x : ℕ) → enter_held k c i x ≡ held c.header (enter_modes c.modes i x) c.digits c.grid
  enter_end c i x = rw (end_not_start k s, s)

  tests_end : (xs : List ℕ) (c : Held) (i : ℕ) → tests k c i xs ≡ end_tests c.header.radars i xs
  unfolding tests end_tests
  tests_end [] c i = refl
  tests_end (x ∷ xs) c i =
      ap₂ (λ t ts. t ∷ ts) (takes_end c.header c.digits i x)
      (ap (λ e. tests k e (suc i) xs) (enter_end c i x) ∙ tests_end xs (held c.header (enter_modes c.modes i x) c.digits c.grid) (suc i))

  puts_end : (xs : List ℕ) (c : Held) (i : ℕ) → puts k c i xs ≡ held c.header (end_puts c.modes i xs) c.digits c.grid
  unfolding puts end_puts
  puts_end [] c i = refl
  puts_end (x ∷ xs) c i =
      ap (λ e. puts k e (suc i) xs) (enter_end c i x) ∙ puts_end xs (held c.header (enter_modes c.modes i x) c.digits c.grid) (suc i)

module _ (radars : List ℕ) (q k : ℕ) (xs : List ℕ) (hq : is_picture_code q ≡ true) (s : is_end_kind k ≡ true) where
  end_from : all_of (end_tests radars 3 (written xs)) ≡ true → EndRules radars (FD ∷ q ∷ k ∷ written xs)
  unfolding end_tests end_takes every all_of
  end_from h =
      record {
        long = refl;
        first = refl;
        picture = hq;
        kind = s;
        modes = rw (t 0, t 1, t 2, t 3, t 4, t 5, t 6, t 7);
        zeros = rw (t 8, t 9, t 10, t 11, t 12, t 13, t 14, t 15, t 16, t 17, t 18, t 19, t 20, t 21, t 22, t 23, t 24, t 25, t 26, t 27, t 28);
      }
    where
      t : (n : ℕ) → get_or (end_tests radars 3 (written xs)) n true ≡ true
      t n = rule_at (end_tests radars 3 (written xs)) h n

  end_to : EndRules radars (FD ∷ q ∷ k ∷ written xs) → all_of (end_tests radars 3 (written xs)) ≡ true
  unfolding end_tests end_takes every all_of is_in
  end_to r = rw (mode 0 refl, mode 1 refl, mode 2 refl, mode 3 refl, mode 4 refl, mode 5 refl, mode 6 refl, mode 7 refl, zero 0 (lit≤ tt), zero 1 (lit≤ tt), zero 2 (lit≤ tt), zero 3 (lit≤ tt), zero 4 (lit≤ tt), zero 5 (lit≤ tt), zero 6 (lit≤ tt), zero 7 (lit≤ tt), zero 8 (lit≤ tt), zero 9 (lit≤ tt), zero 10 (lit≤ tt), zero 11 (lit≤ tt), zero 12 (lit≤ tt), zero 13 (lit≤ tt), zero 14 (lit≤ tt), zero 15 (lit≤ tt), zero 16 (lit≤ tt), zero 17 (lit≤ tt), zero 18 (lit≤ tt), zero 19 (lit≤ tt), zero 20 (lit≤ tt))
    where
      mode : (i : ℕ) → is_in i radar_places ≡ true → is_mode_byte (radars ! i) ((FD ∷ q ∷ k ∷ written xs) ! (3 + i)) ≡ true
      mode i m = every_in (λ i. is_mode_byte (radars ! i) ((FD ∷ q ∷ k ∷ written xs) ! (3 + i))) radar_places i r.modes m

      zero : (i : ℕ) → i < 21 → eqb (drop 8 (written xs) ! i) 0 ≡ true
      zero i l = every_at (λ b. eqb b 0) (drop 8 (written xs)) r.zeros i l

  end_modes : (m : List ℕ) → length m ≡ 8 → end_puts m 3 (written xs) ≡ modes_of (FD ∷ q ∷ k ∷ written xs)
  unfolding end_puts enter_modes modes_of
  end_modes m l = ap (λ t. end_puts t 3 (written xs)) (by_place 8 m l)

-- An end block is taken exactly when it keeps its rules for the radars of the header, and the modes, whatever they were,
-- are then what it gives
pub end_taken : (marks q k : ℕ) (h : Header) (m ds g : List ℕ) (d : Held) (xs : List ℕ) → is_picture_code q ≡ true → is_end_kind k ≡ true → length m ≡ 8 → length xs ≡ 29
    → BlockContents (radar marks) k (held h m ds g) 3 xs d ↔ ((is_end_block h.radars (FD ∷ q ∷ k ∷ xs) ≡ true) × (d ≡ held h (modes_of (FD ∷ q ∷ k ∷ xs)) ds g))
end_taken marks q k h m ds g d xs hq s eight l = (fro, to)
  where
    e : xs ≡ written xs
    e = by_place 29 xs l

    c : Held
    c = held h m ds g

    holds : puts k c 3 xs ≡ held h (modes_of (FD ∷ q ∷ k ∷ xs)) ds g
    holds =
        puts_end k s xs c 3 ∙ ap (λ m. held h m ds g) (ap (end_puts m 3) e ∙ end_modes h.radars q k xs hq s m eight ∙ ap (λ t. modes_of (FD ∷ q ∷ k ∷ t)) (sym e))

    fro : BlockContents (radar marks) k c 3 xs d → (is_end_block h.radars (FD ∷ q ∷ k ∷ xs) ≡ true) × (d ≡ held h (modes_of (FD ∷ q ∷ k ∷ xs)) ds g)
    fro r =
        let (t, f) = contents_from marks r in
        let tests : all_of (end_tests h.radars 3 (written xs)) ≡ true = subst (λ y. all_of (end_tests h.radars 3 y) ≡ true) e (ap all_of (sym (tests_end k s xs c 3)) ∙ t) in
        (subst (λ y. is_end_block h.radars (FD ∷ q ∷ k ∷ y) ≡ true) (sym e) (end_keeps h.radars (FD ∷ q ∷ k ∷ written xs) (end_from h.radars q k xs hq s tests)), f ∙ holds)

    to : (is_end_block h.radars (FD ∷ q ∷ k ∷ xs) ≡ true) × (d ≡ held h (modes_of (FD ∷ q ∷ k ∷ xs)) ds g) → BlockContents (radar marks) k c 3 xs d
    to (ok, f) =
        let r = end_rules h.radars (FD ∷ q ∷ k ∷ written xs) (subst (λ y. is_end_block h.radars (FD ∷ q ∷ k ∷ y) ≡ true) e ok) in
        let t = ap all_of (tests_end k s xs c 3) ∙ subst (λ y. all_of (end_tests h.radars 3 y) ≡ true) (sym e) (end_to h.radars q k xs hq s r) in
        subst (BlockContents (radar marks) k c 3 xs) (holds ∙ sym f) (contents_to marks k c 3 xs t)
