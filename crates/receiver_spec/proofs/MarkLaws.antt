-- The marks: which codes are marked, and how many. Assumes nothing.
use mathlib.Core.Path.{◌≡◌, refl, sym, ap, ap₂, ◌∙◌, subst}
use mathlib.Core.Logic.{◌≢◌, ◌↔◌}
use mathlib.Core.Bool.{Bool, true, false, cond, not, ◌&&◌}
use mathlib.Core.List.{List, [], ◌∷◌}
use Prim.Native.Nat.{ℕ, zero, suc, ◌+◌, ◌-◌, ◌/◌, ◌%◌, ◌^◌, ◌≤◌, ◌<◌}
use native.Mathlib.Nat.{add-zero, zero-add, add_assoc, lt_of_lt_of_le, lt_of_le_of_lt, two-pow-succ, div-eq_of_lt}
use native.Mathlib.Omega.{arith}
use lib.Dec.{eqb, ltb, lit≤}
use lib.ListN.{length}
use lib.Pow.{field, mod-mod-pow, pow_mono, shr-shr, shr_le}
use borrow.Author.Tests.{eqb-true, eqb-false, ltb-true, lt-ltb, le-ltb}
use Rattle.general_laws.specs.Bytes.{◌!◌, bit, is_in}
use Rattle.text.specs.Pictures.{picture_codes, is_picture_code}
use Rattle.general_laws.proofs.Tests.{by_test, by_if, never, and_split}
use Rattle.general_laws.proofs.Computed.{same_numbers, tabled}
use Rattle.receiver_spec.specs.Contents.{index_in}
use Rattle.receiver_spec.specs.Marks.{marked_among, marked_pictures, is_marked, marks_set, are_marks, all_marks, marks_from, bits_below, MarksClaim}

-- ---- a marked code is listed

among_listed : (marks i : ℕ) (codes : List ℕ) (code : ℕ) → is_in code (marked_among marks i codes) ≡ true → is_in code codes ≡ true
unfolding marked_among is_in
among_listed marks i [] code h = h
among_listed marks i (q ∷ codes) code h =
    by_test (eqb code q) (λ e. rw e)
    (λ e. let later : is_in code (marked_among marks (suc i) codes) ≡ true =
    by_if (λ t. is_in code t ≡ true → is_in code (marked_among marks (suc i) codes) ≡ true) (bit marks i) (λ _ t. rw e at t) (λ _ t. t) h in
    rw e (among_listed marks (suc i) codes code later))

pub marked_listed : (marks code : ℕ) → is_marked marks code ≡ true → is_picture_code code ≡ true
unfolding is_marked marked_pictures is_picture_code
marked_listed marks code h = among_listed marks 0 picture_codes code h

pub unlisted_unmarked : (marks code : ℕ) → is_picture_code code ≡ false → is_marked marks code ≡ false
unlisted_unmarked marks code h = by_test (is_marked marks code) (λ t. never h (marked_listed marks code t)) (λ t. t)

pub all_marked : (code : ℕ) → is_marked all_marks code ≡ is_picture_code code
unfolding is_marked marked_pictures marked_among is_picture_code picture_codes bit
all_marked code = refl

-- ---- each code has its mark at its place

unfoldable distinct : List ℕ → Bool
distinct [] = true
distinct (q ∷ codes) = not (is_in q codes) && distinct codes

not-true : (t : Bool) → not t ≡ true → t ≡ false
not-true true h = never refl h
not-true false h = refl

-- a code that stands alone in front: its mark is bit i
alone_marked : (marks i : ℕ) (codes : List ℕ) (code q : ℕ) → eqb code q ≡ true → is_in q codes ≡ false → is_in code (marked_among marks i (q ∷ codes)) ≡ bit marks i
unfolding marked_among is_in
alone_marked marks i codes code q e alone =
    by_if (λ t. is_in code t ≡ bit marks i) (bit marks i) (λ m. rw (e, m)) (λ m. none ∙ sym m)
  where
    none : is_in code (marked_among marks (suc i) codes) ≡ false
    none =
        by_test (is_in code (marked_among marks (suc i) codes))
        (λ t. never alone (subst (λ x. is_in x codes ≡ true) (eqb-true code q e) (among_listed marks (suc i) codes code t))) (λ t. t)

far : (i n : ℕ) → suc i + n ≡ i + suc n
far i n = omega arith

among_place : (marks i : ℕ) (codes : List ℕ) (code : ℕ) → distinct codes ≡ true → is_in code (marked_among marks i codes) ≡ (is_in code codes && bit marks (i + index_in code codes))
unfolding marked_among is_in distinct
among_place marks i [] code h = refl
among_place marks i (q ∷ codes) code h =
    let (alone, others) = and_split (not (is_in q codes)) (distinct codes) h in
    let later : is_in code (marked_among marks (suc i) codes) ≡ (is_in code codes && bit marks (i + suc (index_in code codes))) =
    among_place marks (suc i) codes code others ∙ ap (λ n. is_in code codes && bit marks n) (far i (index_in code codes)) in
    by_test (eqb code q) (λ e. alone_marked marks i codes code q e (not-true (is_in q codes) alone) ∙ rw (e, add-zero i))
    (λ e. rw e (by_if (λ t. is_in code t ≡ (is_in code codes && bit marks (i + suc (index_in code codes)))) (bit marks i) (λ _. rw e later) (λ _. later)))

codes_apart : distinct picture_codes ≡ true
unfolding distinct picture_codes is_in
codes_apart = refl

-- the handy form: a code is marked where it is listed and the bit at its place is set
pub marked_at : (marks code : ℕ) → is_marked marks code ≡ (is_picture_code code && bit marks (index_in code picture_codes))
unfolding is_marked marked_pictures is_picture_code
marked_at marks code = among_place marks 0 picture_codes code codes_apart ∙ ap (λ n. is_in code picture_codes && bit marks n) (zero-add (index_in code picture_codes))

by_places : (i : ℕ) → i < 20 → (is_picture_code (picture_codes ! i) ≡ true) × (index_in (picture_codes ! i) picture_codes ≡ i)
unfolding is_picture_code picture_codes is_in
by_places i l = (tabled (λ i. is_picture_code (picture_codes ! i)) 20 tt i l, same_numbers 20 (λ i. index_in (picture_codes ! i) picture_codes) (λ i. i) tt i l)

each_marked : (marks i : ℕ) → i < 20 → is_marked marks (picture_codes ! i) ≡ bit marks i
each_marked marks i l =
    let (listed, at) = by_places i l in
    marked_at marks (picture_codes ! i) ∙ rw (listed, at)

-- ---- how many

bit_number : (marks i : ℕ) → cond (bit marks i) 1 0 ≡ marks / 2 ^ i % 2
unfolding bit
bit_number marks i =
    by_test (eqb (marks / 2 ^ i % 2) 1) (λ e. rw e (sym (eqb-true (marks / 2 ^ i % 2) 1 e)))
    (λ e. rw e (omega (arith, eqb-false (marks / 2 ^ i % 2) 1 e)))

cond_length : (c : Bool) (q : ℕ) (codes : List ℕ) → length (cond c (q ∷ codes) codes) ≡ cond c 1 0 + length codes
cond_length true q codes = omega arith
cond_length false q codes = omega arith

pub among_count : (marks i q : ℕ) (codes : List ℕ) → length (marked_among marks i (q ∷ codes)) ≡ marks / 2 ^ i % 2 + length (marked_among marks (suc i) codes)
unfolding marked_among
among_count marks i q codes =
    cond_length (bit marks i) q (marked_among marks (suc i) codes) ∙ ap (λ n. n + length (marked_among marks (suc i) codes)) (bit_number marks i)

-- from bit i on, upwards, as from 0 on to i
counted_on : (marks i : ℕ) (codes : List ℕ) → bits_below marks i + length (marked_among marks i codes) ≡ bits_below marks (i + length codes)
unfolding marked_among
counted_on marks i [] = add-zero (bits_below marks i) ∙ ap (bits_below marks) (sym (add-zero i))
counted_on marks i (q ∷ codes) =
    ap (λ n. bits_below marks i + n) (among_count marks i q codes)
    ∙ sym (add_assoc (bits_below marks i) (marks / 2 ^ i % 2) (length (marked_among marks (suc i) codes)))
    ∙ counted_on marks (suc i) codes ∙ ap (bits_below marks) (far i (length codes))

set_sum : (marks : ℕ) → marks_set marks ≡ bits_below marks 20
unfolding marks_set marked_pictures picture_codes
set_sum marks = sym (zero-add (length (marked_among marks 0 picture_codes))) ∙ counted_on marks 0 picture_codes

low_bit : (marks i : ℕ) → i < 20 → marks / 2 ^ i % 2 ≡ marks % 1048576 / 2 ^ i % 2
low_bit marks i l =
    let j = 19 - i + 1 in
    let twenty : j + i ≡ 20 = omega arith in
    sym (mod-mod-pow (marks / 2 ^ i) (19 - i) 1)
    ∙ ap (λ n. n % 2) (sym (field marks j i) ∙ ap (λ n. marks % 2 ^ n / 2 ^ i) twenty)

low_bits : (marks n : ℕ) → n ≤ 20 → bits_below marks n ≡ bits_below (marks % 1048576) n
low_bits marks zero l = refl
low_bits marks (suc n) l = ap₂ (λ a b. a + b) (low_bits marks n (omega arith)) (low_bit marks n (omega arith))

-- ---- beyond the twentieth

high_bit : (n i : ℕ) → n < 1048576 → 20 ≤ i → bit n i ≡ false
unfolding bit
high_bit n i l h =
    let none : n / 2 ^ i ≡ 0 = div-eq_of_lt (lt_of_lt_of_le l (pow_mono h)) in
    rw none

-- a number all of whose bits from i on are 0 has nothing there
nothing_there : (k n i : ℕ) → ((j : ℕ) → i ≤ j → bit n j ≡ false) → n / 2 ^ i < 2 ^ k → n / 2 ^ i ≡ 0
unfolding bit
nothing_there zero n i h l = omega arith
nothing_there (suc k) n i h l =
    let half : n / 2 ^ i / 2 ≡ n / 2 ^ (i + 1) = shr-shr n i 1 in
    let even : n / 2 ^ i % 2 ≢ 1 = eqb-false (n / 2 ^ i % 2) 1 (h i (omega arith)) in
    let less : n / 2 ^ (i + 1) < 2 ^ k = omega (arith, half, two-pow-succ k) in
    let rest : n / 2 ^ (i + 1) ≡ 0 = nothing_there k n (i + 1) (λ j g. h j (omega arith)) less in
    omega (arith, half, even, rest)

lt_two_pow : (n : ℕ) → n < 2 ^ n
lt_two_pow zero = lit≤ tt
lt_two_pow (suc n) = omega (arith, lt_two_pow n, two-pow-succ n)

beyond_judged : (n : ℕ) → (are_marks n ≡ true) ↔ ((i : ℕ) → 20 ≤ i → bit n i ≡ false)
unfolding are_marks
beyond_judged n = (
  λ t i h. high_bit n i (ltb-true n 1048576 t) h,
  λ h. let none : n / 1048576 ≡ 0 = nothing_there n n 20 h (lt_of_le_of_lt (shr_le n 20) (lt_two_pow n)) in
      lt-ltb n 1048576 (omega arith),
)

-- ---- the claim

asked_for : (n : ℕ) → n < 1048576 → marks_from n ≡ n
unfolding marks_from are_marks
asked_for n l = rw (lt-ltb n 1048576 l)

asked_beyond : (n : ℕ) → 1048576 ≤ n → marks_from n ≡ 0
unfolding marks_from are_marks
asked_beyond n l = rw (le-ltb n 1048576 l)

pub marks_claim : MarksClaim
unfolding marks_set marked_pictures marked_among picture_codes bit
marks_claim =
    record {
      each = each_marked;
      listed = marked_listed;
      order = refl;
      all = refl;
      none = refl;
      lowest = λ marks. set_sum marks ∙ low_bits marks 20 (lit≤ tt) ∙ sym (set_sum (marks % 1048576));
      sum = set_sum;
      judged = beyond_judged;
      asked = asked_for;
      beyond = asked_beyond;
    }

-- what a receiver is made with is no mark beyond the twentieth
pub from_marks : (n : ℕ) → are_marks (marks_from n) ≡ true
unfolding marks_from are_marks
from_marks n = by_if (λ m. ltb m 1048576 ≡ true) (ltb n 1048576) (λ h. h) (λ _. refl)
