-- Lengths: a text's is settled by its kind; a part's by its start text, and so are the places of its texts. Assumes nothing.
use mathlib.Core.Path.{◌≡◌, refl, sym, ap, ap₂, ◌∙◌, subst}
use mathlib.Core.Bool.{Bool, true, ◌&&◌}
use mathlib.Core.List.{List, [], ◌∷◌, ◌++◌, append_assoc, append-nil, map}
use Prim.Native.Nat.{ℕ, zero, suc, ◌+◌, ◌*◌, ◌-◌, ◌≤◌, ◌<◌}
use native.Mathlib.Nat.{suc-mul, zero-mul}
use native.Mathlib.Omega.{arith}
use lib.Dec.{eqb, lit≤}
use lib.ListN.{length, take, drop, replicate, length-append, length-drop, length-replicate, get_or-append}
use lib.Seq.{take_at, drop_at, drop-drop, take-take, get_or-take, get_or-drop, get_or-append-add}
use borrow.Author.Tests.{eqb-true}
use Rattle.general_laws.specs.Bytes.{◌!◌, every}
use Rattle.text.specs.Text.{control_b, text_of}
use Rattle.text.specs.Kinds.{is_kind, part_of, kind_of, data_block_length, block_length, text_length, data_texts, part_length}
use Rattle.text.specs.StartBlock.{no_echo_of, radars_of}
use Rattle.text.specs.DataBlock.{payload_of, is_data_block}
use Rattle.text.specs.Part.{Block, start_block, data_block, end_block, UndamagedText, Part, texts_of, part_bytes, is_text_of, in_order, start_part, data_texts_after, is_part, UndamagedPart, grid_length, payloads_of, zeros, grid_of, cut_blocks, cut_part}
use Rattle.general_laws.proofs.Tests.{by_test, and_split, and_join}
use Rattle.text_laws.proofs.Framing.{text_length_lem}
use Rattle.text_laws.proofs.Blocks.{start_rules, data_rules, end_rules, PartRules, part_rules}
use Rattle.text_laws.proofs.KindTable.{kind_part, text_back, data_is_kind, start_is_kind, data_block_length_lem, block_least, start_block_length, end_block_length}
use Rattle.text_laws.proofs.Openings.{block_at}

-- blocks of one length
pub data Sized (n : ℕ) : List (List ℕ) → Type 0 where
  none : Sized n []
  one : {block : List ℕ} {blocks : List (List ℕ)} → length block ≡ n → Sized n blocks → Sized n (block ∷ blocks)

pub order_split : (q p k : ℕ) (block : List ℕ) (blocks : List (List ℕ)) → in_order q p k (block ∷ blocks) ≡ true
    → (is_data_block block ≡ true) × (block ! 1 ≡ q) × (block ! 2 ≡ kind_of p k) × (in_order q p (suc k) blocks ≡ true)
unfolding in_order
order_split q p k block blocks h =
    let (a, rest) = and_split (is_data_block block && is_text_of q p k block) (in_order q p (suc k) blocks) h in
    let (b, c) = and_split (is_data_block block) (is_text_of q p k block) a in
    let (d, e) = and_split (eqb (block ! 1) q) (eqb (block ! 2) (kind_of p k)) c in
    (b, eqb-true _ _ d, eqb-true _ _ e, rest)

-- the data blocks of a part are of that part's length
pub data_sized : (q p k : ℕ) (blocks : List (List ℕ)) → in_order q p k blocks ≡ true → Sized (data_block_length p) blocks
data_sized q p k [] h = none
data_sized q p k (block ∷ blocks) h =
    let (b, _, e, rest) = order_split q p k block blocks h in
    let r = data_rules block b in
    let known = subst (λ c. is_kind c ≡ true) e (data_is_kind (block ! 2) r.kind) in
    let part : part_of (block ! 2) ≡ p = ap part_of e ∙ (text_back p k known).0 in
    one (r.long ∙ data_block_length_lem (block ! 2) r.kind ∙ ap data_block_length part) (data_sized q p (suc k) blocks rest)

pub texts_length : {n : ℕ} {blocks : List (List ℕ)} → Sized n blocks → length (texts_of blocks) ≡ length blocks * (n + 8)
unfolding texts_of
texts_length {n} none = sym (zero-mul (n + 8))
texts_length {n} (one {block} {blocks} l s) =
    omega (arith, length-append (text_of block) (texts_of blocks), text_length_lem block, texts_length s, suc-mul (length blocks) (n + 8))

-- ---- cutting

-- the block of the first text, and what follows that text
first_block : (block rest : List ℕ) (n : ℕ) → length block ≡ n → take n (drop 5 (text_of block ++ rest)) ≡ block
unfolding text_of
first_block block rest n l = ap (λ t. take n t) (append_assoc block (control_b block) rest) ∙ take_at block (control_b block ++ rest) n l

after_text : (block rest : List ℕ) (n : ℕ) → length block + 8 ≡ n → drop n (text_of block ++ rest) ≡ rest
after_text block rest n l = drop_at (text_of block) rest n (text_length_lem block ∙ l)

cut_blocks_lem : {n : ℕ} {blocks : List (List ℕ)} (rest : List ℕ) → Sized n blocks → cut_blocks (length blocks) n (texts_of blocks ++ rest) ≡ blocks
unfolding cut_blocks texts_of
cut_blocks_lem rest none = refl
cut_blocks_lem {n} rest (one {block} {blocks} l s) =
    ap (λ t. take n (drop 5 t) ∷ cut_blocks (length blocks) n (drop (n + 8) t)) (append_assoc (text_of block) (texts_of blocks) rest)
    ∙ ap₂ (λ b t. b ∷ cut_blocks (length blocks) n t) (first_block block (texts_of blocks ++ rest) n l) (after_text block (texts_of blocks ++ rest) (n + 8) (ap (λ x. x + 8) l))
    ∙ ap (λ bs. block ∷ bs) (cut_blocks_lem rest s)

module _ (p : Part) (h : is_part p ≡ true) where
  rules : PartRules p
  rules = part_rules p h

  pub start_long : length p.start ≡ 32
  unfolding rules
  start_long = (start_rules p.start rules.start).long

  pub end_long : length p.end ≡ 32
  unfolding rules
  end_long = (end_rules (radars_of p.start) p.end rules.end).long

  datas_sized : Sized (data_block_length (start_part p.start)) p.datas
  unfolding rules
  datas_sized = data_sized (p.start ! 1) (start_part p.start) 1 p.datas rules.order

  -- a part's length
  pub part_length_lem : length (part_bytes p) ≡ part_length (start_part p.start) (no_echo_of (p.start ! 4))
  unfolding part_bytes part_length rules
  part_length_lem =
      let known = kind_part (p.start ! 2) (start_is_kind (p.start ! 2) (start_rules p.start rules.start).kind) in
      let datas : length (texts_of p.datas) ≡ data_texts_after p.start * text_length (data_block_length (start_part p.start)) =
      texts_length datas_sized ∙ ap (λ n. n * text_length (data_block_length (start_part p.start))) rules.count in
      rw known (simp length-append (omega (arith, datas, text_length_lem p.start, text_length_lem p.end, start_long, end_long)))

  -- a part is cut into its blocks
  pub cut_part_lem : cut_part (part_bytes p) ≡ p
  unfolding cut_part part_bytes rules
  cut_part_lem =
      ap cut start ∙ (λ i. record { start = p.start; datas = datas i; end = end i })
    where
      count : ℕ
      count = data_texts_after p.start

      size : ℕ
      size = data_block_length (start_part p.start)

      bytes : List ℕ
      bytes = text_of p.start ++ (texts_of p.datas ++ text_of p.end)

      cut : List ℕ → Part
      cut s =
          record {
            start = s;
            datas = cut_blocks (data_texts_after s) (data_block_length (start_part s)) (drop 40 bytes);
            end = take 32 (drop (45 + data_texts_after s * (data_block_length (start_part s) + 8)) bytes);
          }

      start : take 32 (drop 5 bytes) ≡ p.start
      start = first_block p.start (texts_of p.datas ++ text_of p.end) 32 start_long

      after : drop 40 bytes ≡ texts_of p.datas ++ text_of p.end
      after = after_text p.start (texts_of p.datas ++ text_of p.end) 40 (omega (arith, start_long))

      datas : cut_blocks count size (drop 40 bytes) ≡ p.datas
      datas = ap₂ (λ n t. cut_blocks n size t) (sym rules.count) after ∙ cut_blocks_lem (text_of p.end) datas_sized

      end : take 32 (drop (45 + count * (size + 8)) bytes) ≡ p.end
      end =
          let texts : length (texts_of p.datas) ≡ count * (size + 8) = texts_length datas_sized ∙ ap (λ n. n * (size + 8)) rules.count in
          let place : 45 + count * (size + 8) ≡ 40 + count * (size + 8) + 5 = omega arith in
          ap (λ n. take 32 (drop n bytes)) place
          ∙ ap (λ t. take 32 t) (sym (drop-drop 5 (40 + count * (size + 8)) bytes) ∙ ap (λ t. drop 5 t) (sym (drop-drop (count * (size + 8)) 40 bytes) ∙ ap (λ t. drop (count * (size + 8)) t) after ∙ drop_at (texts_of p.datas) (text_of p.end) (count * (size + 8)) texts))
          ∙ ap (λ t. take 32 (drop 5 t)) (sym (append-nil (text_of p.end)))
          ∙ first_block p.end [] 32 end_long

-- ---- places

-- the texts of a part, in order: they follow each other with nothing between
pub part_texts : Part → List (List ℕ)
part_texts p = text_of p.start ∷ (map text_of p.datas ++ (text_of p.end ∷ []))

pub joined : List (List ℕ) → List ℕ
joined [] = []
joined (text ∷ texts) = text ++ joined texts

pub part_is_texts : (p : Part) → part_bytes p ≡ joined (part_texts p)
unfolding part_bytes part_texts joined texts_of
part_is_texts p = ap (λ t. text_of p.start ++ t) (go p.datas)
  where
    go : (blocks : List (List ℕ)) → texts_of blocks ++ text_of p.end ≡ joined (map text_of blocks ++ (text_of p.end ∷ []))
    go [] = sym (append-nil (text_of p.end))
    go (block ∷ blocks) = append_assoc (text_of block) (texts_of blocks) (text_of p.end) ∙ ap (λ t. text_of block ++ t) (go blocks)

-- the lengths of the texts that follow from a start block, in order
pub text_lengths : List ℕ → List ℕ
text_lengths start = 40 ∷ (replicate (data_texts_after start) (text_length (data_block_length (start_part start))) ++ (40 ∷ []))

pub text_lengths_lem : (p : Part) → is_part p ≡ true → map length (part_texts p) ≡ text_lengths p.start
unfolding part_texts text_lengths rules
text_lengths_lem p h =
    ap₂ (λ n ns. n ∷ ns) (text_length_lem p.start ∙ ap (λ n. n + 8) (start_long p h))
    (go (datas_sized p h) ∙ ap₂ (λ n e. replicate n (text_length (data_block_length (start_part p.start))) ++ (e ∷ [])) (rules p h).count (text_length_lem p.end ∙ ap (λ n. n + 8) (end_long p h)))
  where
    go : {n : ℕ} {blocks : List (List ℕ)} → Sized n blocks
        → map length (map text_of blocks ++ (text_of p.end ∷ [])) ≡ replicate (length blocks) (text_length n) ++ (length (text_of p.end) ∷ [])
    go none = refl
    go (one {block} {blocks} l s) = ap₂ (λ n ns. n ∷ ns) (text_length_lem block ∙ ap (λ n. n + 8) l) (go s)

-- ---- of undamaged texts, by their bytes alone

block_long : {block : List ℕ} → Block block → (3 ≤ length block) × (length block ≡ block_length (block ! 2))
block_long {block} (start_block h) =
    let r = start_rules block h in
    (omega (arith, r.long), r.long ∙ sym (start_block_length (block ! 2) r.kind))
block_long {block} (data_block h) =
    let r = data_rules block h in
    (omega (arith, r.long, block_least (block ! 2) (data_is_kind (block ! 2) r.kind)), r.long)
block_long {block} (end_block radars _ h) =
    let r = end_rules radars block h in
    (omega (arith, r.long), r.long ∙ sym (end_block_length (block ! 2) r.kind))

-- A text's length is settled by its kind, byte 7 of the text
pub text_length_settled : (bytes : List ℕ) → UndamagedText bytes → length bytes ≡ text_length (block_length (bytes ! 7))
text_length_settled bytes u =
    let (some, long) = block_long u.rules in
    ap length u.framed ∙ text_length_lem u.block
    ∙ ap text_length (long ∙ ap block_length (sym (block_at u.block 2 some) ∙ ap (λ t. t ! 7) (sym u.framed)))

-- ---- of undamaged parts, by their bytes alone

-- the start block stands behind the five control bytes
pub start_at : (bytes : List ℕ) (u : UndamagedPart bytes) → u.part.start ≡ take 32 (drop 5 bytes)
unfolding part_bytes
start_at bytes u =
    sym (ap (λ t. take 32 (drop 5 t)) u.framed
    ∙ first_block u.part.start (texts_of u.part.datas ++ text_of u.part.end) 32 (start_long u.part u.rules))

pub start_byte : (bytes : List ℕ) (u : UndamagedPart bytes) (i : ℕ) → i < 32 → u.part.start ! i ≡ bytes ! (5 + i)
start_byte bytes u i l = ap (λ t. t ! i) (start_at bytes u) ∙ get_or-take 32 (drop 5 bytes) i 0 l ∙ get_or-drop 5 bytes i 0

-- A part's length is settled by its start text: by its kind, byte 7 of the part, and its status 1, byte 9
pub part_length_settled : (bytes : List ℕ) → UndamagedPart bytes → length bytes ≡ part_length (part_of (bytes ! 7)) (no_echo_of (bytes ! 9))
part_length_settled bytes u =
    ap length u.framed ∙ part_length_lem u.part u.rules
    ∙ ap₂ (λ k s. part_length (part_of k) (no_echo_of s)) (start_byte bytes u 2 (omega arith)) (start_byte bytes u 4 (omega arith))

-- Two undamaged parts that begin with the same start text have their texts at the same places:
-- text by text, they have the same lengths
pub same_places : (xs ys : List ℕ) (u : UndamagedPart xs) (v : UndamagedPart ys) → take 40 xs ≡ take 40 ys
    → map length (part_texts u.part) ≡ map length (part_texts v.part)
same_places xs ys u v e =
    text_lengths_lem u.part u.rules ∙ ap text_lengths (start_at xs u ∙ front xs ∙ ap (λ t. take 32 (drop 5 t)) e ∙ sym (front ys) ∙ sym (start_at ys v))
    ∙ sym (text_lengths_lem v.part v.rules)
  where
    front : (bytes : List ℕ) → take 32 (drop 5 bytes) ≡ take 32 (drop 5 (take 40 bytes))
    front [] = refl
    front (a ∷ []) = refl
    front (a ∷ b ∷ []) = refl
    front (a ∷ b ∷ c ∷ []) = refl
    front (a ∷ b ∷ c ∷ d ∷ []) = refl
    front (a ∷ b ∷ c ∷ d ∷ e ∷ bytes) = sym (take-take 32 35 bytes (lit≤ tt))

-- An undamaged part has one reading: its blocks, and so its header, modes and grid, are settled by its bytes
pub one_reading : (bytes : List ℕ) (u v : UndamagedPart bytes) → u.part ≡ v.part
one_reading bytes u v =
    sym (cut_part_lem u.part u.rules) ∙ ap cut_part (sym u.framed ∙ v.framed) ∙ cut_part_lem v.part v.rules

-- ---- grids

pub payloads_length : {n : ℕ} {blocks : List (List ℕ)} → Sized n blocks → length (payloads_of blocks) ≡ length blocks * (n - 3)
unfolding payloads_of
payloads_length {n} none = sym (zero-mul (n - 3))
payloads_length {n} (one {block} {blocks} l s) =
    omega (arith, length-append (payload_of block) (payloads_of blocks), length-drop 3 block, payloads_length s, suc-mul (length blocks) (n - 3))

-- no part has more payload than the grid has room for
pub payload_fits : (p : ℕ) (no_echo : Bool) → data_texts p no_echo * (data_block_length p - 3) ≤ grid_length
unfolding data_texts data_block_length
payload_fits p no_echo =
    by_test (eqb p 3) (λ e. rw (e, eqb-true p 3 e) (lit≤ tt))
    (λ e. by_test no_echo (λ n. rw (e, n) (omega (arith, zero-mul (data_block_length p - 3))))
    (λ n. by_test (eqb p 1) (λ f. rw (e, n, f) (lit≤ tt))
    (λ f. by_test (eqb p 2) (λ g. rw (e, n, f, g) (lit≤ tt)) (λ g. rw (e, n, f, g) (lit≤ tt)))))

-- the grid of a part has 20,000 bytes
pub grid_length_lem : (p : Part) → is_part p ≡ true → length (grid_of p) ≡ grid_length
unfolding grid_of rules zeros
grid_length_lem p h =
    let few : length (payloads_of p.datas) ≤ grid_length =
    rw (payloads_length (datas_sized p h), (rules p h).count) (payload_fits (start_part p.start) (no_echo_of (p.start ! 4))) in
    length-append (payloads_of p.datas) (zeros (grid_length - length (payloads_of p.datas)))
    ∙ omega (arith, few, length-replicate {A = ℕ} (grid_length - length (payloads_of p.datas)) 0)

pub zeros_long : (n : ℕ) → length (zeros n) ≡ n
unfolding zeros
zeros_long n = length-replicate {A = ℕ} n 0

pub every_zeros : (test : ℕ → Bool) (n : ℕ) → test 0 ≡ true → every test (zeros n) ≡ true
unfolding every zeros
every_zeros test zero h = refl
every_zeros test (suc n) h = and_join h (every_zeros test n h)

-- Where a data text's payload byte stands in the grid: behind the payloads of the data texts before it
payload_place : {n : ℕ} (earlier : List (List ℕ)) (block : List ℕ) (later : List (List ℕ)) (behind : List ℕ) → Sized n (earlier ++ (block ∷ later))
    → (i : ℕ) → i < n - 3 → (payloads_of (earlier ++ (block ∷ later)) ++ behind) ! (length earlier * (n - 3) + i) ≡ payload_of block ! i
unfolding payloads_of
payload_place {n} [] block later behind (one l s) i small =
    ap₂ (λ (t : List ℕ) j. t ! j) (append_assoc (payload_of block) (payloads_of later) behind) (omega (arith, zero-mul (n - 3)))
    ∙ get_or-append (payload_of block) (payloads_of later ++ behind) 0 i (omega (arith, length-drop 3 block, l, small))
payload_place {n} (first ∷ earlier) block later behind (one l s) i small =
    let long : length (payload_of first) ≡ n - 3 = omega (arith, length-drop 3 first, l) in
    ap₂ (λ (t : List ℕ) j. t ! j) (append_assoc (payload_of first) (payloads_of (earlier ++ (block ∷ later))) behind)
    (omega (arith, long, suc-mul (length earlier) (n - 3)))
    ∙ get_or-append-add (payload_of first) (payloads_of (earlier ++ (block ∷ later)) ++ behind) (length earlier * (n - 3) + i) 0
    ∙ payload_place earlier block later behind s i small

pub grid_place : (p : Part) → is_part p ≡ true → (earlier : List (List ℕ)) (block : List ℕ) (later : List (List ℕ)) → p.datas ≡ earlier ++ (block ∷ later)
    → (i : ℕ) → i < data_block_length (start_part p.start) - 3
    → grid_of p ! (length earlier * (data_block_length (start_part p.start) - 3) + i) ≡ payload_of block ! i
unfolding grid_of
grid_place p h earlier block later e i small =
    let n = data_block_length (start_part p.start) in
    ap (λ blocks. (payloads_of blocks ++ zeros (grid_length - length (payloads_of p.datas))) ! (length earlier * (n - 3) + i)) e
    ∙ payload_place earlier block later (zeros (grid_length - length (payloads_of p.datas))) (subst (Sized n) e (datas_sized p h)) i small
