-- Where the payload of a data text stands in a part's bytes. Assumes nothing.
use mathlib.Core.Path.{◌≡◌, refl, sym, ap, ap₂, ◌∙◌, subst}
use mathlib.Core.Logic.{⊎_elim}
use mathlib.Core.Bool.{Bool, true, false, ◌||◌, and-false}
use mathlib.Core.List.{List, [], ◌∷◌}
use Prim.Native.Nat.{ℕ, zero, suc, ◌+◌, ◌*◌, ◌-◌, ◌≤◌, ◌<◌}
use native.Mathlib.Nat.{mul-le-mul_right}
use native.Mathlib.Omega.{arith}
use lib.Dec.{eqb, ltb, lit≤}
use lib.ListN.{length, get_or, take, drop}
use lib.Seq.{take-nil, drop-drop, get_or-take, get_or-drop}
use borrow.Author.Tests.{eqb-true, eqb-false, ltb-true, ltb-false, le-leb, lt-leb}
use Rattle.general_laws.specs.Bytes.{◌!◌}
use Rattle.text.specs.Kinds.{is_part_number, part_of, data_block_length, data_texts, part_length}
use Rattle.text.specs.StartBlock.{no_echo_of}
use Rattle.text.specs.DataBlock.{payload_of}
use Rattle.text.specs.Part.{UndamagedPart, cut_blocks, cut_part, is_undamaged_part}
use Rattle.general_laws.proofs.Tests.{or_split, neither}
use Rattle.text_laws.proofs.KindTable.{data_least}
use Rattle.text_laws.proofs.Parts.{start_at, part_length_settled}
use Rattle.text_laws.proofs.Deciding.{part_decided}
use Rattle.service_stored_part.specs.Stored.{has_text, text_payload, payload_at, PayloadPlace}
use Rattle.service_stored_part.proofs.OnePart.{numbered, part_long}

-- ---- cut blocks

blocks_long : (n size : ℕ) (bytes : List ℕ) → length (cut_blocks n size bytes) ≡ n
unfolding cut_blocks
blocks_long zero size bytes = refl
blocks_long (suc n) size bytes = ap suc (blocks_long n size (drop (size + 8) bytes))

block_at : (n size : ℕ) (bytes : List ℕ) (i : ℕ) → i < n → get_or (cut_blocks n size bytes) i [] ≡ take size (drop (i * (size + 8) + 5) bytes)
unfolding cut_blocks
block_at zero size bytes i l = absurd (omega arith)
block_at (suc n) size bytes zero l = let e : 5 ≡ 0 * (size + 8) + 5 = omega arith in ap (λ m. take size (drop m bytes)) e
block_at (suc n) size bytes (suc i) l =
    let e : (size + 8) + (i * (size + 8) + 5) ≡ suc i * (size + 8) + 5 = omega arith in
    block_at n size (drop (size + 8) bytes) i (omega arith)
    ∙ ap (λ t. take size t) (drop-drop (i * (size + 8) + 5) (size + 8) bytes) ∙ ap (λ m. take size (drop m bytes)) e

-- a block's payload
behind_3 : (n : ℕ) (bytes : List ℕ) → drop 3 (take (suc (suc (suc n))) bytes) ≡ take n (drop 3 bytes)
behind_3 n [] = sym (take-nil n)
behind_3 n (a ∷ []) = sym (take-nil n)
behind_3 n (a ∷ b ∷ []) = sym (take-nil n)
behind_3 n (a ∷ b ∷ c ∷ bytes) = refl

payload_of_lem : (size : ℕ) (bytes : List ℕ) → 3 ≤ size → payload_of (take size bytes) ≡ take (size - 3) (drop 3 bytes)
payload_of_lem size bytes l =
    let e : size ≡ suc (suc (suc (size - 3))) = omega arith in
    ap (λ n. drop 3 (take n bytes)) e ∙ behind_3 (size - 3) bytes

-- ---- lengths

reach : (j last size : ℕ) → suc j ≤ last → 48 + j * (size + 11) + size ≤ 40 + (last * (size + 11) + 40)
reach j last size l = omega (arith, mul-le-mul_right (size + 11) l)

-- ---- an undamaged part

module _ (bytes : List ℕ) (whole : is_undamaged_part bytes ≡ true) where
  part : UndamagedPart bytes
  part = (part_decided bytes).0 whole

  pub long : 80 ≤ length bytes
  long = part_long bytes part

  start_byte : (i : ℕ) → i < 32 → take 32 (drop 5 bytes) ! i ≡ bytes ! (5 + i)
  start_byte i l = get_or-take 32 (drop 5 bytes) i 0 l ∙ get_or-drop 5 bytes i 0

  known : is_part_number (part_of (bytes ! 7)) ≡ true
  known =
      subst (λ k. is_part_number (part_of k) ≡ true) (ap (λ (t : List ℕ). t ! 2) (start_at bytes part) ∙ start_byte 2 (lit≤ tt)) (numbered bytes part)

  module _ {number last : ℕ} {noecho : Bool} (is_number : number ≡ part_of (bytes ! 7)) (is_no_echo : noecho ≡ no_echo_of (bytes ! 9)) (is_last : last ≡ data_texts number noecho) where
    last_is : last ≡ data_texts (part_of (bytes ! 7)) (no_echo_of (bytes ! 9))
    last_is = is_last ∙ ap₂ data_texts is_number is_no_echo

    datas_cut : (cut_part bytes).datas ≡ cut_blocks last (data_block_length number) (drop 40 bytes)
    unfolding cut_part
    datas_cut =
        ap₂ (λ k s. cut_blocks (data_texts (part_of k) (no_echo_of s)) (data_block_length (part_of k)) (drop 40 bytes)) (start_byte 2 (lit≤ tt)) (start_byte 4 (lit≤ tt))
        ∙ ap₂ (λ n p. cut_blocks n (data_block_length p) (drop 40 bytes)) (sym last_is) (sym is_number)

    count : length (cut_part bytes).datas ≡ last
    count = ap length datas_cut ∙ blocks_long last (data_block_length number) (drop 40 bytes)

    -- a text that is not there
    pub none : (k : ℕ) → (eqb k 0 || ltb last k) ≡ true → [] ≡ text_payload bytes k
    unfolding text_payload has_text
    none k h =
        ⊎_elim (λ z. rw (whole, lt-leb 1 k (omega (arith, eqb-true k 0 z)))) (λ z. rw (count, lt-leb k last (ltb-true last k z), and-false)) (or_split (eqb k 0) (ltb last k) h)

    module _ {block : ℕ} (is_block : block ≡ data_block_length number) (k : ℕ) (has : (eqb k 0 || ltb last k) ≡ false) where
      within : (1 ≤ k) × (k ≤ last)
      within = let (z, m) = neither (eqb k 0) (ltb last k) has in (omega (arith, eqb-false k 0 z), ltb-false last k m)

      sizes : 103 ≤ block
      sizes = subst (λ n. 103 ≤ n) (sym (is_block ∙ ap data_block_length is_number)) (data_least (part_of (bytes ! 7)) known)

      whole_long : length bytes ≡ 40 + (last * (block + 8) + 40)
      unfolding part_length
      whole_long =
          rw known at (part_length_settled bytes part)
          ∙ ap₂ (λ n m. 40 + (n * (m + 8) + 40)) (sym last_is) (sym (is_block ∙ ap data_block_length is_number))

      -- the payload lies within the part
      room : payload_at block k + (block - 3) ≤ length bytes
      room =
          let wide : block + 8 ≡ block - 3 + 11 = omega (arith, sizes) in
          rw (whole_long, wide) (reach (k - 1) last (block - 3) (omega (arith, within)))

      -- and is what stands there
      given : take (payload_at block k + (block - 3) - payload_at block k) (drop (payload_at block k) bytes) ≡ text_payload bytes k
      unfolding text_payload has_text
      given =
          rw (whole, le-leb 1 k within.0, le-leb k (length (cut_part bytes).datas) (omega (arith, count, within)))
          (sym (ap payload_of (ap (λ (t : List (List ℕ)). get_or t (k - 1) []) datas_cut ∙ block_at last (data_block_length number) (drop 40 bytes) (k - 1) (omega (arith, within)))
          ∙ payload_of_lem (data_block_length number) (drop ((k - 1) * (data_block_length number + 8) + 5) (drop 40 bytes)) (omega (arith, is_block, sizes))
          ∙ ap (λ n. take (n - 3) (drop 3 (drop ((k - 1) * (n + 8) + 5) (drop 40 bytes)))) (sym is_block)
          ∙ ap₂ (λ (n : ℕ) (t : List ℕ). take n t) width place))
        where
          width : block - 3 ≡ payload_at block k + (block - 3) - payload_at block k
          width = omega arith

          place : drop 3 (drop ((k - 1) * (block + 8) + 5) (drop 40 bytes)) ≡ drop (payload_at block k) bytes
          place =
              let wide : block + 8 ≡ block - 3 + 11 = omega (arith, sizes) in
              let sum : 40 + ((k - 1) * (block - 3 + 11) + 5) + 3 ≡ payload_at block k = omega arith in
              ap (λ n. drop 3 (drop ((k - 1) * n + 5) (drop 40 bytes))) wide
              ∙ ap (drop 3) (drop-drop ((k - 1) * (block - 3 + 11) + 5) 40 bytes)
              ∙ drop-drop 3 (40 + ((k - 1) * (block - 3 + 11) + 5)) bytes ∙ ap (λ n. drop n bytes) sum

      pub payload_place : PayloadPlace bytes block k
      payload_place = record { first = within.0; size = sizes; room = room; given = given }

-- no undamaged part at all
pub damaged : (bytes : List ℕ) (k : ℕ) → is_undamaged_part bytes ≡ false → [] ≡ text_payload bytes k
unfolding text_payload has_text
damaged bytes k h = rw h
