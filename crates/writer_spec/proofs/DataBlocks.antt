-- The data blocks that are written are those of the part, in order, and their payloads are the payload. Assumes nothing.
use mathlib.Core.Path.{◌≡◌, refl, sym, ap, ◌∙◌, subst}
use mathlib.Core.Bool.{Bool, true, false, ◌&&◌, ◌||◌}
use mathlib.Core.List.{List, [], ◌∷◌, ◌++◌}
use Prim.Native.Nat.{ℕ, zero, suc, ◌+◌, ◌*◌, ◌-◌, ◌≤◌, ◌<◌}
use native.Mathlib.Nat.{suc-mul, zero-mul}
use native.Mathlib.Omega.{arith}
use lib.Dec.{eqb, lit≤}
use lib.ListN.{length, take, drop, length-drop, take-append-drop}
use lib.Seq.{length-take-le}
use borrow.Author.Tests.{eqb-true, eq-eqb, ne_eqb}
use Rattle.general_laws.specs.Bytes.{every}
use Rattle.text.specs.Pictures.{is_picture_code}
use Rattle.text.specs.Kinds.{kinds, is_kind, is_data_kind, part_of, text_number, kind_of, block_length, data_block_length, data_texts}
use Rattle.text.specs.DataBlock.{is_payload_byte}
use Rattle.text.specs.Part.{in_order, payloads_of}
use Rattle.general_laws.proofs.Computed.{same_tests}
use Rattle.general_laws.proofs.Tests.{and_split, and_join}
use Rattle.text_laws.proofs.Blocks.{data_keeps}
use Rattle.writer_spec.specs.Written.{block_of, data_blocks}
use Rattle.writer_spec.proofs.RulesKept.{OneToThree, one, two, three}

-- data text k of a part: its kind, and the size of its block
abbrev fits : ℕ → ℕ → Bool
fits p k = is_data_kind (kind_of p k) && (eqb (part_of (kind_of p k)) p && eqb (block_length (kind_of p k)) (data_block_length p))

ten : (k : ℕ) → k < 11 → eqb k 0 || fits 1 k ≡ true
unfolding is_data_kind is_kind part_of text_number kind_of kinds block_length data_block_length
ten = same_tests 11 (λ k. eqb k 0 || fits 1 k) (λ _. true) tt

single : (fits 2 1 ≡ true) × (fits 3 1 ≡ true)
unfolding is_data_kind is_kind part_of text_number kind_of kinds block_length data_block_length
single = (refl, refl)

counts : (data_texts 1 false ≡ 10) × (data_texts 2 false ≡ 1) × (data_texts 3 false ≡ 1)
unfolding data_texts
counts = (refl, refl, refl)

only : (k : ℕ) → 1 ≤ k → k ≤ 1 → 1 ≡ k
only k a b = omega arith

fitting : {p : ℕ} (k : ℕ) → OneToThree p → 1 ≤ k → k ≤ data_texts p false → fits p k ≡ true
fitting k one a b =
    let small : k < 11 = omega (arith, counts.0) in
    subst (λ t. t || fits 1 k ≡ true) (ne_eqb k 0 (λ e. omega arith)) (ten k small)
fitting k two a b = subst (λ k. fits 2 k ≡ true) (only k a (omega (arith, counts.1))) single.0
fitting k three a b = subst (λ k. fits 3 k ≡ true) (only k a (omega (arith, counts.2))) single.1

pub data_kinds : {p : ℕ} (k : ℕ) → OneToThree p → 1 ≤ k → k ≤ data_texts p false
    → (is_data_kind (kind_of p k) ≡ true) × (part_of (kind_of p k) ≡ p) × (block_length (kind_of p k) ≡ data_block_length p)
data_kinds {p} k is a b =
    let (kind, rest) = and_split (is_data_kind (kind_of p k)) _ (fitting k is a b) in
    let (part, long) = and_split (eqb (part_of (kind_of p k)) p) (eqb (block_length (kind_of p k)) (data_block_length p)) rest in
    (kind, eqb-true _ _ part, eqb-true _ _ long)

pub sizes : {p : ℕ} → OneToThree p → 3 ≤ data_block_length p
unfolding data_block_length
sizes one = lit≤ tt
sizes two = lit≤ tt
sizes three = lit≤ tt

-- a test on a list holds on its two parts
every_split : (test : ℕ → Bool) (n : ℕ) (xs : List ℕ) → every test xs ≡ true → (every test (take n xs) ≡ true) × (every test (drop n xs) ≡ true)
unfolding every
every_split test zero xs h = (refl, h)
every_split test (suc n) [] h = (refl, refl)
every_split test (suc n) (x ∷ xs) h =
    let (a, b) = and_split (test x) (every test xs) h in
    let (c, d) = every_split test n xs b in
    (and_join a c, d)

module _ (p q : ℕ) (is : OneToThree p) (hq : is_picture_code q ≡ true) where
  pub data_order : (n k : ℕ) (payload : List ℕ) → 1 ≤ k → k + n ≤ suc (data_texts p false) → n * (data_block_length p - 3) ≤ length payload
      → every (is_payload_byte p) payload ≡ true → in_order q p k (data_blocks p q k n payload) ≡ true
  unfolding in_order data_blocks
  data_order zero k payload a b l h = refl
  data_order (suc n) k payload a b l h =
      let (kind, part, long) = data_kinds k is a (omega arith) in
      let (now, later) = every_split (is_payload_byte p) (data_block_length p - 3) payload h in
      let room : data_block_length p - 3 ≤ length payload = omega (arith, suc-mul n (data_block_length p - 3)) in
      and_join
      (and_join
      (data_keeps (block_of q (kind_of p k) (take (data_block_length p - 3) payload))
      (record {
        long = omega (arith, long, sizes is, length-take-le (data_block_length p - 3) payload room);
        first = refl;
        picture = hq;
        kind = kind;
        payload = subst (λ x. every (is_payload_byte x) (take (data_block_length p - 3) payload) ≡ true) (sym part) now;
      }))
      (and_join (eq-eqb q q refl) (eq-eqb (kind_of p k) (kind_of p k) refl)))
      (data_order n (suc k) (drop (data_block_length p - 3) payload) (omega arith) (omega arith)
      (omega (arith, suc-mul n (data_block_length p - 3), length-drop (data_block_length p - 3) payload)) later)

pub data_count : (p q k n : ℕ) (payload : List ℕ) → length (data_blocks p q k n payload) ≡ n
unfolding data_blocks
data_count p q k zero payload = refl
data_count p q k (suc n) payload = ap suc (data_count p q (suc k) n (drop (data_block_length p - 3) payload))

pub data_payloads : (p q k n : ℕ) (payload : List ℕ) → length payload ≡ n * (data_block_length p - 3) → payloads_of (data_blocks p q k n payload) ≡ payload
unfolding data_blocks payloads_of
data_payloads p q k zero payload l = sym (nothing payload (l ∙ zero-mul (data_block_length p - 3)))
  where
    nothing : (xs : List ℕ) → length xs ≡ 0 → xs ≡ []
    nothing [] e = refl
    nothing (x ∷ xs) e = absurd (omega arith)
data_payloads p q k (suc n) payload l =
    let size = data_block_length p - 3 in
    ap (λ t. take size payload ++ t) (data_payloads p q (suc k) n (drop size payload) (omega (arith, suc-mul n size, length-drop size payload)))
    ∙ take-append-drop size payload
