-- Payload bytes, one by one and many at once. Assumes nothing.
use mathlib.Core.Path.{◌≡◌, refl, sym, ap, ◌∙◌}
use mathlib.Core.Bool.{true, false}
use mathlib.Core.List.{List, [], ◌∷◌}
use Prim.Native.Nat.{ℕ, zero, suc, ◌+◌, ◌≤◌, ◌<◌}
use native.Mathlib.Nat.{add-zero, zero-add}
use native.Mathlib.Omega.{arith}
use lib.Dec.{leb, ltb}
use lib.ListN.{length, set, take}
use lib.Seq.{sets}
use borrow.Author.Tests.{leb-true, ltb-true, not-true}
use Rattle.general_laws.specs.Bytes.{every}
use Rattle.text.specs.Text.{xor_all}
use Rattle.text.specs.Kinds.{is_start_kind, is_end_kind, part_of, text_number, block_length}
use Rattle.text.specs.DataBlock.{is_payload_byte}
use Rattle.general_laws.proofs.Tests.{and_split, by_test}
use Rattle.text_laws.proofs.KindTable.{block_most, data_number}
use Rattle.receiver_spec.specs.Receiver.{◌⊕◌}
use Rattle.receiver_spec.proofs.Laws.{xor_cons, xor_nil}
use Rattle.receiver_bytes_seen.specs.AsNumber.{push_seen, push_count}
use Rattle.receiver_bytes_seen.specs.Behind.{seen_after, count_after}
use Rattle.receiver_state.specs.Meaning.{applied}
use Rattle.receiver_state.specs.declared.state.Frame.{Frame}
use Rattle.receiver_state.specs.declared.state.State.{State}
use Rattle.receiver_byte_call.specs.Returned.{is_quiet}
use Rattle.receiver_byte_call.specs.InPayload.{advanced_state}
use Rattle.receiver_byte_call.proofs.Laws.{grid_place, advanced_step, advanced_first}
use Rattle.receiver_stretches.specs.Run.{passed, run}
use Rattle.receiver_stretch_payload.specs.Ahead.{is_in_payload, allowed_prefix}

-- what the test says
pub record InPayload (f : Frame) : Type 0 where
  pub low : 3 ≤ f.place
  pub high : f.place < block_length f.kind
  pub start : is_start_kind f.kind ≡ false
  pub end : is_end_kind f.kind ≡ false

pub in_payload_has : (f : Frame) → is_in_payload f ≡ true → InPayload f
unfolding is_in_payload
in_payload_has f h =
    let (h1, end) = and_split _ _ h in
    let (h2, start) = and_split _ _ h1 in
    let (low, high) = and_split (leb 3 f.place) (ltb f.place (block_length f.kind)) h2 in
    record {
      low = leb-true 3 f.place low;
      high = ltb-true f.place (block_length f.kind) high;
      start = not-true _ start;
      end = not-true _ end;
    }

-- the payload of data text k, 1 to 10, has its place in the grid
pub bounds : (f : Frame) → f.kind < 256 → is_in_payload f ≡ true
    → (1 ≤ text_number f.kind) × (text_number f.kind ≤ 10) × (3 ≤ f.place) × (f.place < block_length f.kind) × (block_length f.kind ≤ 2003)
bounds f small h =
    let p = in_payload_has f h in
    let (one, ten) = data_number f.kind small p.start p.end (omega (arith, p.low, p.high)) in
    (one, ten, p.low, p.high, block_most f.kind)

-- ---- how many keep the rule

module _ (p : ℕ) where
  pub allowed_all : (xs : List ℕ) → every (is_payload_byte p) xs ≡ true → allowed_prefix p xs ≡ length xs
  unfolding every allowed_prefix
  allowed_all [] h = refl
  allowed_all (b ∷ xs) h = let (first, rest) = and_split (is_payload_byte p b) (every (is_payload_byte p) xs) h in rw (first, allowed_all xs rest)

  pub allowed_most : (xs : List ℕ) → allowed_prefix p xs ≤ length xs
  unfolding allowed_prefix
  allowed_most [] = omega arith
  allowed_most (b ∷ xs) = by_test (is_payload_byte p b) (λ t. rw t (omega (arith, allowed_most xs))) (λ t. rw t (omega arith))

  -- those that do, of the first n bytes
  pub allowed_within : (n : ℕ) (xs : List ℕ) → every (is_payload_byte p) (take (allowed_prefix p (take n xs)) xs) ≡ true
  unfolding every allowed_prefix
  allowed_within zero xs = refl
  allowed_within (suc n) [] = refl
  allowed_within (suc n) (b ∷ xs) = by_test (is_payload_byte p b) (λ t. rw t (rw t (allowed_within n xs))) (λ t. rw t)

-- ---- what they do

module _ (s : State) (h : InPayload s.frame) where
  abbrev k : ℕ
  k = s.frame.kind

  -- all of them
  next_spot : (place : ℕ) → 3 ≤ place → grid_place k (place + 1) ≡ suc (grid_place k place)
  next_spot place low = omega (arith, low)

  payload_bytes_passed :
      (xs g : List ℕ) (place check seen count i : ℕ) → every (is_payload_byte (part_of k)) xs ≡ true → 3 ≤ place → place + length xs ≤ block_length k
      → run (advanced_state s place check seen count) g xs i
      ≡ passed (advanced_state s (place + length xs) (check ⊕ xor_all xs) (seen_after seen xs) (count_after count xs)) (sets g (grid_place k place) xs) (i + length xs)
  unfolding run every is_quiet applied seen_after count_after
  payload_bytes_passed [] g place check seen count i rule low high = rw (add-zero place, add-zero i, xor_nil check)
  payload_bytes_passed (b ∷ xs) g place check seen count i rule low high =
      let (first, rest) = and_split (is_payload_byte (part_of k) b) (every (is_payload_byte (part_of k)) xs) rule in
      let d = advanced_step s place check seen count b h.start h.end low (omega (arith, high)) first in
      rw d
      (payload_bytes_passed xs (set g (grid_place k place) b) (place + 1) (check ⊕ b) (push_seen seen b) (push_count count) (i + 1) rest (omega (arith, low)) (omega (arith, high))
      ∙ rw (xor_cons check b xs, next_spot place low, far place xs, far i xs))
    where
      far : (n : ℕ) (xs : List ℕ) → n + 1 + length xs ≡ n + suc (length xs)
      far n xs = omega arith

  pub whole_payload_passed :
      (xs g : List ℕ) → every (is_payload_byte (part_of k)) xs ≡ true → s.frame.place + length xs ≤ block_length k
      → run s g xs 0
      ≡ passed (advanced_state s (s.frame.place + length xs) (s.frame.check ⊕ xor_all xs) (seen_after s.seen xs) (count_after s.frame.count xs))
      (sets g (grid_place k s.frame.place) xs) (length xs)
  whole_payload_passed xs g rule high =
      ap (λ (t : State). run t g xs 0) (sym (advanced_first s))
      ∙ payload_bytes_passed xs g s.frame.place s.frame.check s.seen s.frame.count 0 rule h.low high
      ∙ ap (passed _ _) (zero-add (length xs))

  -- the same, under the names that the code has for its parts
  pub payload_passed_on :
      (xs g : List ℕ) {grid : List ℕ} {check n : ℕ} {t : State} → every (is_payload_byte (part_of k)) xs ≡ true → length xs ≡ n
      → s.frame.place + n ≤ block_length k → grid ≡ sets g (grid_place k s.frame.place) xs → check ≡ s.frame.check ⊕ xor_all xs
      → t ≡ advanced_state s (s.frame.place + n) check (seen_after s.seen xs) (count_after s.frame.count xs) → passed t grid n ≡ run s g xs 0
  payload_passed_on xs g rule l high e c q = rw (q, e, c, sym l) (sym (whole_payload_passed xs g rule (omega (arith, l))))
