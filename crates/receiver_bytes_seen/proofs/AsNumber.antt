-- The bytes seen, kept as the low bytes of a number: compared with other bytes, cut, and with one more. Assumes nothing.
use mathlib.Core.Path.{◌≡◌, refl, sym, ap, ◌∙◌}
use mathlib.Core.Bool.{Bool, true, false, cond, ◌&&◌}
use mathlib.Core.List.{List, [], ◌∷◌}
use Prim.Native.Nat.{ℕ, zero, suc, ◌+◌, ◌*◌, ◌/◌, ◌%◌, ◌≤◌, ◌<◌}
use native.Mathlib.Numerals.{add-one}
use native.Mathlib.Omega.{arith}
use lib.Dec.{eqb, leb, ltb, eqb-zero-suc, eqb-suc-zero, eqb-suc-suc}
use lib.ListN.{length, take}
use lib.Seq.{take_all}
use borrow.Author.Tests.{eqb-true, eqb-false, eq-eqb, ne_eqb, ltb-true, ltb-false, leb-true, leb-false}
use Rattle.general_laws.specs.Bytes.{◌!◌, every, same}
use Rattle.text.specs.Text.{opening}
use Rattle.general_laws.proofs.Tests.{by_test, and_split}
use Rattle.receiver_spec.specs.Seen.{ends_opening, run_of, due_byte}
use Rattle.receiver_bytes_seen.specs.AsNumber.{seen_of, push_seen, push_count}

-- as many bytes are seen as the count says
pub length_seen : (v count : ℕ) → length (seen_of v count) ≡ count
unfolding seen_of
length_seen v zero = refl
length_seen v (suc count) = ap suc (length_seen (v / 256) count)

-- the newest n of them
pub take_seen : (v n count : ℕ) → n ≤ count → take n (seen_of v count) ≡ seen_of v n
unfolding seen_of
take_seen v zero count h = refl
take_seen v (suc n) zero h = absurd (omega arith)
take_seen v (suc n) (suc count) h = ap (λ (l : List ℕ). v % 256 ∷ l) (take_seen (v / 256) n count (omega arith))

take_fewer : (v n count : ℕ) → count ≤ n → take n (seen_of v count) ≡ seen_of v count
take_fewer v n count h = take_all n (seen_of v count) (rw (length_seen v count) h)

-- the number that the n low bytes of v give, and the number of these bytes
abbrev low_of : ℕ → ℕ → ℕ
low_of v zero = 0
low_of v (suc n) = v % 256 + 256 * low_of (v / 256) n

abbrev number_of : List ℕ → ℕ
number_of [] = 0
number_of (b ∷ bytes) = b + 256 * number_of bytes

abbrev are_bytes : List ℕ → Bool
are_bytes bytes = every (λ b. ltb b 256) bytes

-- two bytes and two numbers beside them are compared at once
beside : (x y b c : ℕ) → x < 256 → b < 256 → eqb (x + 256 * y) (b + 256 * c) ≡ (eqb x b && eqb y c)
beside x y b c hx hb =
    by_test (eqb x b)
    (λ e. by_test (eqb y c)
    (λ f. rw (e, f) (eq-eqb (x + 256 * y) (b + 256 * c) (omega (arith, eqb-true x b e, eqb-true y c f))))
    (λ f. rw (e, f) (ne_eqb (x + 256 * y) (b + 256 * c) (λ q. eqb-false y c f (omega arith)))))
    (λ e. rw e (ne_eqb (x + 256 * y) (b + 256 * c) (λ q. eqb-false x b e (omega arith))))

swap : (a b c : Bool) → (a && (b && c)) ≡ (b && (a && c))
swap true b c = refl
swap false true c = refl
swap false false c = refl

-- the bytes seen are these when the counts and the numbers are
same_seen : (v count : ℕ) (bytes : List ℕ) → are_bytes bytes ≡ true
    → same (seen_of v count) bytes ≡ (eqb count (length bytes) && eqb (low_of v (length bytes)) (number_of bytes))
unfolding same seen_of every
same_seen v zero [] h = refl
same_seen v zero (b ∷ bytes) h = rw (eqb-zero-suc (length bytes))
same_seen v (suc count) [] h = rw (eqb-suc-zero count)
same_seen v (suc count) (b ∷ bytes) h =
    let (p, q) = and_split (ltb b 256) (are_bytes bytes) h in
    rw (
      same_seen (v / 256) count bytes q,
      eqb-suc-suc count (length bytes),
      beside (v % 256) (low_of (v / 256) (length bytes)) b (number_of bytes) (omega arith) (ltb-true b 256 p),
    )
    (swap (eqb (v % 256) b) (eqb count (length bytes)) (eqb (low_of (v / 256) (length bytes)) (number_of bytes)))

-- and so for the newest of them
same_newest : (v count : ℕ) (bytes : List ℕ) → are_bytes bytes ≡ true
    → same (take (length bytes) (seen_of v count)) bytes ≡ (leb (length bytes) count && eqb (low_of v (length bytes)) (number_of bytes))
same_newest v count bytes h =
    by_test (leb (length bytes) count)
    (λ e. rw (take_seen v (length bytes) count (leb-true _ _ e), same_seen v (length bytes) bytes h, e, eq-eqb (length bytes) (length bytes) refl))
    (λ e. let l : count < length bytes = leb-false _ _ e in
    rw (take_fewer v (length bytes) count (omega arith), same_seen v count bytes h, e, ne_eqb count (length bytes) (λ q. omega arith)))

low_three : (v : ℕ) → low_of v 3 ≡ v % 16777216
low_three v = omega arith

low_four : (v : ℕ) → low_of v 4 ≡ v % 4294967296
low_four v = omega arith

low_five : (v : ℕ) → low_of v 5 ≡ v % 1099511627776
low_five v = omega (arith, low_four (v / 256))

-- an opening ends with `FD` after five bytes whose number is the control bytes'
pub opening_by_number : (v count b : ℕ)
    → ends_opening (seen_of v count) b ≡ (eqb b 0xFD && (eqb count 5 && eqb (v % 1099511627776) 0x1616161002))
unfolding ends_opening same every
opening_by_number v count b =
    ap (λ (t : Bool). eqb b 0xFD && t)
    (same_seen v count (0x02 ∷ 0x10 ∷ 0x16 ∷ 0x16 ∷ 0x16 ∷ []) refl
    ∙ ap (λ (n : ℕ). eqb count 5 && eqb n 0x1616161002) (low_five v))

-- the byte after the longest run: up to the third byte of an opening it is `16`
after : (five four three two one : Bool)
    → opening ! cond five 5 (cond four 4 (cond three 3 (cond two 2 (cond one 1 0))))
    ≡ cond five 0xFD (cond four 0x02 (cond three 0x10 0x16))
after true four three two one = refl
after false true three two one = refl
after false false true two one = refl
after false false false true one = refl
after false false false false true = refl
after false false false false false = refl

run_five : (v count : ℕ) → run_of 5 (seen_of v count) ≡ (leb 5 count && eqb (v % 1099511627776) 0x1616161002)
unfolding every
run_five v count =
    same_newest v count (0x02 ∷ 0x10 ∷ 0x16 ∷ 0x16 ∷ 0x16 ∷ []) refl
    ∙ ap (λ (n : ℕ). leb 5 count && eqb n 0x1616161002) (low_five v)

run_four : (v count : ℕ) → run_of 4 (seen_of v count) ≡ (leb 4 count && eqb (v % 4294967296) 0x16161610)
unfolding every
run_four v count =
    same_newest v count (0x10 ∷ 0x16 ∷ 0x16 ∷ 0x16 ∷ []) refl
    ∙ ap (λ (n : ℕ). leb 4 count && eqb n 0x16161610) (low_four v)

run_three : (v count : ℕ) → run_of 3 (seen_of v count) ≡ (leb 3 count && eqb (v % 16777216) 0x161616)
unfolding every
run_three v count =
    same_newest v count (0x16 ∷ 0x16 ∷ 0x16 ∷ []) refl ∙ ap (λ (n : ℕ). leb 3 count && eqb n 0x161616) (low_three v)

-- the due byte by the number of the newest five, four and three bytes
pub due_by_number : (v count : ℕ)
    → due_byte (seen_of v count)
    ≡ cond (leb 5 count && eqb (v % 1099511627776) 0x1616161002) 0xFD
    (cond (leb 4 count && eqb (v % 4294967296) 0x16161610) 0x02
    (cond (leb 3 count && eqb (v % 16777216) 0x161616) 0x10 0x16))
unfolding due_byte
due_by_number v count =
    rw (← run_five v count, ← run_four v count, ← run_three v count)
    (after
    (run_of 5 (seen_of v count))
    (run_of 4 (seen_of v count))
    (run_of 3 (seen_of v count))
    (run_of 2 (seen_of v count))
    (run_of 1 (seen_of v count)))

-- the n low bytes of a number are all that n bytes seen are read from
low_seen : (v n : ℕ) → seen_of (low_of v n) n ≡ seen_of v n
unfolding seen_of
low_seen v zero = refl
low_seen v (suc n) =
    let p : (v % 256 + 256 * low_of (v / 256) n) % 256 ≡ v % 256 = omega arith in
    let q : (v % 256 + 256 * low_of (v / 256) n) / 256 ≡ low_of (v / 256) n = omega arith in
    rw (p, q, low_seen (v / 256) n)

four_kept : (v : ℕ) → seen_of (v % 4294967296) 4 ≡ seen_of v 4
four_kept v = ap (λ (n : ℕ). seen_of n 4) (sym (low_four v)) ∙ low_seen v 4

kept : (v n : ℕ) → n ≤ 4 → seen_of (v % 4294967296) n ≡ seen_of v n
kept v n h = sym (take_seen (v % 4294967296) n 4 h) ∙ ap (take n) (four_kept v) ∙ take_seen v n 4 h

before_it : (v b n : ℕ) → b < 256 → n ≤ 4 → seen_of (push_seen v b) (suc n) ≡ b ∷ seen_of v n
unfolding seen_of push_seen
before_it v b n h l =
    let p : (v % 4294967296 * 256 + b) % 256 ≡ b = omega arith in
    let q : (v % 4294967296 * 256 + b) / 256 ≡ v % 4294967296 = omega arith in
    rw (p, q, kept v n l)

-- with one more byte, five are kept, the newest first
pub push_seen_lem : (v count b : ℕ) → b < 256 → seen_of (push_seen v b) (push_count count) ≡ take 5 (b ∷ seen_of v count)
unfolding push_count
push_seen_lem v count b h =
    by_test (ltb count 5)
    (λ e. let l : count < 5 = ltb-true count 5 e in
    rw (e, add-one count, take_fewer v 4 count (omega arith)) (before_it v b count h (omega arith)))
    (λ e. rw (e, take_seen v 4 count (omega (arith, ltb-false count 5 e))) (before_it v b 4 h (omega arith)))
