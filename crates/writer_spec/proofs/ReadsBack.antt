-- Written reads back: the bytes are an undamaged part, and a receiver that takes them holds what was handed in. Assumes nothing.
use mathlib.Core.Path.{◌≡◌, refl, sym, ap, ap₂, ◌∙◌, subst}
use mathlib.Core.Logic.{◌⊎◌, inl, inr}
use mathlib.Core.Bool.{Bool, true, false, not, ◌&&◌}
use mathlib.Core.List.{List, [], ◌∷◌, ◌++◌, map, append_assoc}
use Prim.Native.Nat.{ℕ, suc, ◌+◌, ◌*◌, ◌-◌, ◌≤◌}
use native.Mathlib.Nat.{zero-add, mul-le-mul_right}
use native.Mathlib.Omega.{arith}
use lib.Dec.{eqb, ltb, lit≤}
use lib.ListN.{length, get_or, take, drop, replicate, length-append}
use lib.Seq.{take-suc, take_all, length-take-le}
use borrow.Author.Tests.{eqb-true, le-ltb, not-true}
use Rattle.general_laws.specs.Bytes.{◌!◌, every}
use Rattle.text.specs.Kinds.{is_part_number, kind_of, data_block_length, data_texts, part_length, payload_length}
use Rattle.text.specs.StartBlock.{no_echo_of, mode_of, radars_of, header_of}
use Rattle.text.specs.DataBlock.{is_payload_byte}
use Rattle.text.specs.EndBlock.{is_end_block, modes_of, highest}
use Rattle.text.specs.Part.{Part, part_bytes, in_order, start_part, is_part, UndamagedPart, grid_length, payloads_of, zeros, grid_of, part_header, part_modes}
use Rattle.text.specs.declared.header.Header.{Header}
use Rattle.text.specs.declared.header.WriterHeader.{WriterHeader}
use Rattle.general_laws.proofs.Tests.{by_test, and_split}
use Rattle.text_laws.proofs.KindTable.{most_texts, no_texts}
use Rattle.text_laws.proofs.Blocks.{part_keeps}
use Rattle.text_laws.proofs.Parts.{part_length_lem, payload_fits}
use Rattle.receiver_spec.specs.Marks.{is_marked, marks_from}
use Rattle.receiver_spec.specs.Calls.{Call, on_grid, byte, received, singly}
use Rattle.receiver_spec.specs.Demand3.{Marked}
use Rattle.receiver_spec.proofs.Laws.{singly_taken, demand_3, held_then, never_before}
use Rattle.writer_spec.specs.Written.{writes_no_echo, block_of, start_contents, end_contents, data_blocks, written_part, is_payload, WriteOutcome, bytes_written, writes}
use Rattle.writer_spec.specs.Demand2.{Accepted, written, written_header, ReadsBack}
use Rattle.writer_spec.proofs.RulesKept.{OneToThree, one, two, three, part_is, kind_edges, picture, top_mode, mode_back, start_kept, start_header, status_back, end_kept, end_modes}
use Rattle.writer_spec.proofs.DataBlocks.{data_order, data_count, data_payloads}

grid_of_lem : (start : List ℕ) (datas : List (List ℕ)) (end : List ℕ)
    → grid_of (record { start = start; datas = datas; end = end }) ≡ payloads_of datas ++ zeros (grid_length - length (payloads_of datas))
unfolding grid_of
grid_of_lem start datas end = refl

no_blocks : (p q : ℕ) (payload : List ℕ)
    → payloads_of (data_blocks p q 1 0 payload) ++ zeros (grid_length - length (payloads_of (data_blocks p q 1 0 payload))) ≡ zeros grid_length
unfolding data_blocks payloads_of
no_blocks p q payload = refl

-- zeros before zeros
zeros_before : (xs : List ℕ) (n : ℕ) → every (λ b. eqb b 0) xs ≡ true → xs ++ zeros n ≡ zeros (length xs + n)
unfolding every zeros
zeros_before [] n h = ap (λ k. replicate k 0) (sym (zero-add n))
zeros_before (x ∷ xs) n h =
    let (a, b) = and_split (eqb x 0) (every (λ b. eqb b 0) xs) h in
    ap₂ (λ y ys. y ∷ ys) (eqb-true x 0 a) (zeros_before xs n b) ∙ ap (λ k. replicate k 0) (suc_add (length xs) n)
  where
    suc_add : (k n : ℕ) → suc (k + n) ≡ suc k + n
    suc_add k n = omega arith

all_zeros : (xs : List ℕ) → length xs ≤ grid_length → every (λ b. eqb b 0) xs ≡ true → xs ++ zeros (grid_length - length xs) ≡ zeros grid_length
all_zeros xs l h = zeros_before xs (grid_length - length xs) h ∙ ap zeros (rest l)
  where
    rest : length xs ≤ grid_length → length xs + (grid_length - length xs) ≡ grid_length
    rest l = omega arith

-- a list's last byte
last_apart : (xs : List ℕ) → 1 ≤ length xs → xs ≡ take (length xs - 1) xs ++ (get_or xs (length xs - 1) 0 ∷ [])
last_apart xs h = sym (take_all (suc (length xs - 1)) xs (omega arith)) ∙ take-suc xs (length xs - 1) 0 (omega arith)

some_length : {p : ℕ} → OneToThree p → (e : Bool) → 1 ≤ part_length p e
unfolding part_length is_part_number data_texts data_block_length
some_length one true = lit≤ tt
some_length one false = lit≤ tt
some_length two true = lit≤ tt
some_length two false = lit≤ tt
some_length three true = lit≤ tt
some_length three false = lit≤ tt

module _ (p : ℕ) (h : WriterHeader) (modes payload : List ℕ) (t : Accepted p h modes payload) where
  abbrev e : Bool
  e = writes_no_echo p payload

  is : OneToThree p
  is = part_is p t.part

  abbrev start : List ℕ
  start = block_of h.picture (kind_of p 0) (start_contents e h modes)

  abbrev end : List ℕ
  end = block_of h.picture (kind_of p 11) (end_contents modes)

  abbrev datas : List (List ℕ)
  datas = data_blocks p h.picture 1 (data_texts p e) payload

  abbrev this : Part
  this = record { start = start; datas = datas; end = end }

  is_this : written_part p h modes payload ≡ this
  unfolding written_part
  is_this = refl

  -- the payload's length and rule
  pub sized : length payload ≡ data_texts p false * (data_block_length p - 3)
  unfolding is_payload payload_length
  sized = eqb-true (length payload) (data_texts p false * (data_block_length p - 3)) (and_split _ _ t.allowed).0

  pub ruled : every (is_payload_byte p) payload ≡ true
  unfolding is_payload
  ruled = (and_split (eqb (length payload) (payload_length p)) (every (is_payload_byte p) payload) t.allowed).1

  whose : start_part start ≡ p
  whose = (kind_edges is).2

  no_echo_read : no_echo_of (start ! 4) ≡ e
  unfolding start_contents
  no_echo_read = status_back e

  radars_back : radars_of start ≡ h.radars
  unfolding header_of
  radars_back = ap (λ (x : Header). x.radars) (start_header p h modes payload t e)

  mode_is : mode_of (start ! 5) ≡ highest (modes_of end)
  unfolding start_contents
  mode_is = (mode_back (top_mode p h modes payload t)).1 ∙ ap highest (sym (end_modes p h modes payload t))

  ordered : in_order h.picture p 1 datas ≡ true
  ordered =
      data_order p h.picture is (picture p h modes payload t) (data_texts p e) 1 payload (omega arith) (omega (arith, most_texts p e))
      (omega (arith, sized, mul-le-mul_right (data_block_length p - 3) (most_texts p e))) ruled

  this_kept : is_part this ≡ true
  this_kept =
      part_keeps this
      (record {
        start = start_kept p h modes payload t e;
        count = data_count p h.picture 1 (data_texts p e) payload ∙ ap₂ data_texts (sym whose) (sym no_echo_read);
        order = subst (λ x. in_order h.picture x 1 datas ≡ true) (sym whose) ordered;
        end = subst (λ r. is_end_block r end ≡ true) (sym radars_back) (end_kept p h modes payload t);
        end_picture = refl;
        end_kind = ap (λ x. kind_of x 11) (sym whose);
        mode = mode_is;
      })

  pub written_is_part : is_part (written_part p h modes payload) ≡ true
  written_is_part = subst (λ (x : Part). is_part x ≡ true) (sym is_this) this_kept

  pub undamaged : UndamagedPart (written p h modes payload)
  undamaged = record { part = written_part p h modes payload; rules = written_is_part; framed = refl }

  pub long : length (written p h modes payload) ≡ part_length p e
  long =
      ap (λ (x : Part). length (part_bytes x)) is_this ∙ part_length_lem this this_kept ∙ ap₂ part_length whose no_echo_read

  -- ---- what is held

  header_is : part_header (written_part p h modes payload) ≡ written_header p h modes payload
  header_is = ap part_header is_this ∙ start_header p h modes payload t e

  modes_is : part_modes (written_part p h modes payload) ≡ modes
  modes_is = ap part_modes is_this ∙ end_modes p h modes payload t

  -- all data texts are there, or there are none and the payload is all zeros
  which : (data_texts p e ≡ data_texts p false) ⊎ ((data_texts p e ≡ 0) × (every (λ b. eqb b 0) payload ≡ true))
  unfolding writes_no_echo data_texts
  which = by_test (not (eqb p 3) && every (λ b. eqb b 0) payload) no_echo_no_data (λ f. inl (ap (data_texts p) f))
    where
      no_echo_no_data : not (eqb p 3) && every (λ b. eqb b 0) payload ≡ true → (data_texts p e ≡ data_texts p false) ⊎ ((data_texts p e ≡ 0) × (every (λ b. eqb b 0) payload ≡ true))
      no_echo_no_data s =
          let (other, all_zero_data) = and_split (not (eqb p 3)) (every (λ b. eqb b 0) payload) s in
          inr (ap (data_texts p) s ∙ no_texts p (not-true (eqb p 3) other), all_zero_data)

  grid_is : grid_of (written_part p h modes payload) ≡ payload ++ zeros (grid_length - length payload)
  grid_is = ap grid_of is_this ∙ filled which
    where
      filled : (data_texts p e ≡ data_texts p false) ⊎ ((data_texts p e ≡ 0) × (every (λ b. eqb b 0) payload ≡ true)) → grid_of this ≡ payload ++ zeros (grid_length - length payload)
      filled (inl q) =
          grid_of_lem start datas end
          ∙ ap (λ x. x ++ zeros (grid_length - length x)) (data_payloads p h.picture 1 (data_texts p e) payload (sized ∙ ap (λ n. n * (data_block_length p - 3)) (sym q)))
      filled (inr (z, all_zero_data)) =
          grid_of_lem start datas end
          ∙ ap (λ n. payloads_of (data_blocks p h.picture 1 n payload) ++ zeros (grid_length - length (payloads_of (data_blocks p h.picture 1 n payload)))) z
          ∙ no_blocks p h.picture payload
          ∙ sym (all_zeros payload (omega (arith, sized, payload_fits p false)) all_zero_data)

  -- the picture is the header's
  marked : (n : ℕ) → is_marked (marks_from n) h.picture ≡ true → Marked n undamaged.part.start
  unfolding undamaged header_of
  marked n hm = subst (λ q. is_marked (marks_from n) q ≡ true) (sym (ap (λ (x : Header). x.picture) header_is)) hm

  pub anywhere : (n : ℕ) → is_marked (marks_from n) h.picture ≡ true → (calls : List Call) (others : List ℕ) → (received n calls).taken ≡ others ++ written p h modes payload
      → ((received n calls).said ! (length others + (length (written p h modes payload) - 1)) ≡ 3)
      × ((received n calls).state.header ≡ written_header p h modes payload)
      × ((received n calls).state.modes ≡ modes)
      × ((received n calls).grid ≡ payload ++ zeros (grid_length - length payload))
  unfolding undamaged
  anywhere n hm calls others taken =
      let bytes = written p h modes payload in
      let d = demand_3 n calls in
      let (held-header, held-modes, held-grid) = held_then n calls others bytes undamaged (marked n hm) taken in
      let front = take (length bytes - 1) bytes in
      let z = get_or bytes (length bytes - 1) 0 in
      let some : 1 ≤ length bytes = omega (arith, long, some_length is e) in
      let split : bytes ≡ front ++ (z ∷ []) = last_apart bytes some in
      let join : others ++ bytes ≡ (others ++ front) ++ (z ∷ []) = ap (λ x. others ++ x) split ∙ sym (append_assoc others front (z ∷ [])) in
      let place : length (others ++ front) ≡ length others + (length bytes - 1) = length-append others front ∙ ap (λ n. length others + n) (length-take-le (length bytes - 1) bytes (omega arith)) in (
        ap (λ i. (received n calls).said ! i) (sym place)
            ∙ (d.complete (others ++ front) z [] (taken ∙ join)).1 (record { before = others; part = bytes; split = sym join; whole = undamaged; marked = marked n hm }),
        held-header ∙ header_is,
        held-modes ∙ modes_is,
        held-grid ∙ grid_is,
      )

  placed : (output : List ℕ) → length (written p h modes payload) ≤ length output
      → writes p h modes payload output ≡ record { answer = bytes_written (length (written p h modes payload)); count = length (written p h modes payload); output = written p h modes payload ++ drop (length (written p h modes payload)) output }
  unfolding writes
  placed output room =
      let fits : ltb (length output) (part_length p (writes_no_echo p payload)) ≡ false = le-ltb (length output) (part_length p (writes_no_echo p payload)) (omega (arith, long, room)) in
      simp (t.part, t.input, t.allowed, fits) (ap placed_as (sym long))
    where
      placed_as : ℕ → WriteOutcome
      placed_as n = record { answer = bytes_written n; count = n; output = written p h modes payload ++ drop n output }

  pub reads_back_lem : ReadsBack p h modes payload
  reads_back_lem =
      let bytes = written p h modes payload in
      record {
        undamaged = undamaged;
        long = long;
        placed = placed;
        last = λ n hm. ap (λ i. (singly n bytes).said ! i) (sym (zero-add (length bytes - 1))) ∙ (anywhere n hm (map (λ b. on_grid (byte b)) bytes) [] (singly_taken n bytes)).0;
        before = λ n. never_before n bytes undamaged;
        anywhere = anywhere;
      }
