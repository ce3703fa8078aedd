-- Parts, and what is undamaged. Nothing here speaks of a receiver. Assumes nothing.
use Rattle.std.specs.Prelude.{◌≡◌, ◌≢◌, ℕ, zero, suc, ◌+◌, ◌*◌, ◌-◌, Bool, true, cond, ◌&&◌, ◌||◌, List, [], ◌∷◌, ◌++◌, eqb, length, take, drop, replicate}
use Rattle.general_laws.specs.Bytes.{◌!◌, all_of, same}
use Rattle.text.specs.Text.{text_of}
use Rattle.text.specs.Kinds.{part_of, kind_of, data_texts, data_block_length}
use Rattle.text.specs.StartBlock.{is_start_block, is_radar_list, radars_of, no_echo_of, mode_of, header_of}
use Rattle.text.specs.DataBlock.{is_data_block, payload_of}
use Rattle.text.specs.EndBlock.{is_end_block, modes_of, highest}
use Rattle.text.specs.declared.header.Header.{Header}

-- A block that keeps its rules. An end block keeps them for some start block's radars.
-- Notice 49, 4(1)(1-1)(c)(イ) to (エ), (d)(イ) and (ウ), 4(1)(1-2)(c)(エ) and (d)(ウ), 4(2)(c)(エ) and (d)(ウ)
pub data Block : List ℕ → Type 0 where
  start_block : {block : List ℕ} → is_start_block block ≡ true → Block block
  data_block : {block : List ℕ} → is_data_block block ≡ true → Block block
  end_block : {block : List ℕ} (radars : List ℕ) → is_radar_list radars ≡ true → is_end_block radars block ≡ true → Block block

-- 01: an *undamaged text*. Notice 49, 4(1)(1-1)(b), 4(1)(1-2)(b), 4(2)(b)
pub record UndamagedText (bytes : List ℕ) : Type 0 where
  pub block : List ℕ
  pub rules : Block block
  pub framed : bytes ≡ text_of block

-- 01: an undamaged start text. Notice 49, 4(1)(1-1)(b)(ア)
pub record StartText (bytes : List ℕ) : Type 0 where
  pub block : List ℕ
  pub rules : is_start_block block ≡ true
  pub framed : bytes ≡ text_of block

-- A part by its blocks. Notice 49, 4(1)(1-1)(a), 4(1)(1-2)(a), 4(2)(a)
pub record Part : Type 0 where
  pub start : List ℕ
  pub datas : List (List ℕ)
  pub end : List ℕ

-- texts with nothing between. Notice 49, 4(1)(1-1)(a), 4(1)(1-2)(a), 4(2)(a)
unfoldable pub texts_of : List (List ℕ) → List ℕ
texts_of [] = []
texts_of (block ∷ blocks) = text_of block ++ texts_of blocks

-- The bytes of a part: its texts with nothing between. Notice 49, 4(1)(1-1)(a), 4(1)(1-2)(a), 4(2)(a)
unfoldable pub part_bytes : Part → List ℕ
part_bytes p = text_of p.start ++ (texts_of p.datas ++ text_of p.end)

-- a block's picture code and kind are those of part p's text t of picture q.
-- Notice 49, 4(1)(1-1)(a), (d)(イ) and (ウ), 4(1)(1-2)(a), (d)(イ) and (ウ), 4(2)(a), (d)(イ) and (ウ)
abbrev pub is_text_of : ℕ → ℕ → ℕ → List ℕ → Bool
is_text_of q p t block = eqb (block ! 1) q && eqb (block ! 2) (kind_of p t)

-- data texts in order, from data text k on. Notice 49, 4(1)(1-1)(a), 4(1)(1-2)(a), 4(2)(a)
unfoldable pub in_order : ℕ → ℕ → ℕ → List (List ℕ) → Bool
in_order q p k [] = true
in_order q p k (block ∷ blocks) = is_data_block block && is_text_of q p k block && in_order q p (suc k) blocks

abbrev pub start_part : List ℕ → ℕ
start_part start = part_of (start ! 2)

-- how many data texts follow a start block. Notice 49, 4(1)(1-1)(a), 4(1)(1-2)(a), 4(2)(a), 4(1)(1-1)(d)(イ)
abbrev pub data_texts_after : List ℕ → ℕ
data_texts_after start = data_texts (start_part start) (no_echo_of (start ! 4))

-- The rules of a part: start, data texts in order, end, with one picture code; NO ECHO; status 2 is the highest mode.
-- Notice 49, 4(1)(1-1)(a) and (d)(イ), 4(1)(1-2)(a), 4(2)(a)
unfoldable pub is_part : Part → Bool
is_part p =
    all_of (
    is_start_block p.start
    ∷ eqb (length p.datas) (data_texts_after p.start)
    ∷ in_order (p.start ! 1) (start_part p.start) 1 p.datas
    ∷ is_end_block (radars_of p.start) p.end
    ∷ is_text_of (p.start ! 1) (start_part p.start) 11 p.end
    ∷ eqb (mode_of (p.start ! 5)) (highest (modes_of p.end))
    ∷ [])

-- 01: an *undamaged part*. Notice 49, 4(1)(1-1)(a), 4(1)(1-2)(a), 4(2)(a)
pub record UndamagedPart (bytes : List ℕ) : Type 0 where
  pub part : Part
  pub rules : is_part part ≡ true
  pub framed : bytes ≡ part_bytes part

-- What a part says: grid, header and modes. A grid is 20,000 bytes
abbrev pub grid_length : ℕ
grid_length = 20000

unfoldable pub payloads_of : List (List ℕ) → List ℕ
payloads_of [] = []
payloads_of (block ∷ blocks) = payload_of block ++ payloads_of blocks

unfoldable pub zeros : ℕ → List ℕ
zeros n = replicate n 0

-- 01: a part's grid is the payload of its data texts in order, then zeros
unfoldable pub grid_of : Part → List ℕ
grid_of p = payloads_of p.datas ++ zeros (grid_length - length (payloads_of p.datas))

abbrev pub part_header : Part → Header
part_header p = header_of p.start

abbrev pub part_modes : Part → List ℕ
part_modes p = modes_of p.end

-- The tests. A text is cut by its length, a part by its start text
abbrev pub block_in : List ℕ → List ℕ
block_in text = take (length text - 8) (drop 5 text)

-- an end block standing alone: radars wherever it has a byte that is not `00`
abbrev pub radar_for : ℕ → ℕ → ℕ
radar_for code b = cond (eqb b 0) 0 code

unfoldable pub radars_for : List ℕ → List ℕ
radars_for block =
    radar_for 0xA0 (block ! 3) ∷ radar_for 0xA1 (block ! 4) ∷ radar_for 0xA2 (block ! 5) ∷ radar_for 0xA3 (block ! 6)
    ∷ radar_for 0xA4 (block ! 7) ∷ radar_for 0xA5 (block ! 8) ∷ radar_for 0xA7 (block ! 9) ∷ radar_for 0xA8 (block ! 10) ∷ []

-- whether a block keeps its rules.
-- Notice 49, 4(1)(1-1)(c)(イ) to (エ), (d)(イ) and (ウ), 4(1)(1-2)(c)(エ) and (d)(ウ), 4(2)(c)(エ) and (d)(ウ)
unfoldable pub is_block : List ℕ → Bool
is_block block = is_start_block block || is_data_block block || is_radar_list (radars_for block) && is_end_block (radars_for block) block

-- whether bytes are an undamaged text. Notice 49, 4(1)(1-1)(b), 4(1)(1-2)(b), 4(2)(b)
unfoldable pub is_undamaged_text : List ℕ → Bool
is_undamaged_text bytes = same bytes (text_of (block_in bytes)) && is_block (block_in bytes)

-- the blocks of n texts with blocks of this length
unfoldable pub cut_blocks : ℕ → ℕ → List ℕ → List (List ℕ)
cut_blocks zero size bytes = []
cut_blocks (suc n) size bytes = take size (drop 5 bytes) ∷ cut_blocks n size (drop (size + 8) bytes)

-- where the texts of a part stand is settled by its start text
unfoldable pub cut_part : List ℕ → Part
cut_part bytes =
    let start = take 32 (drop 5 bytes) in
    let count = data_texts_after start in
    let size = data_block_length (start_part start) in
    record {
      start = start;
      datas = cut_blocks count size (drop 40 bytes);
      end = take 32 (drop (45 + count * (size + 8)) bytes);
    }

-- whether bytes are an undamaged part. Notice 49, 4(1)(1-1)(a), 4(1)(1-2)(a), 4(2)(a)
unfoldable pub is_undamaged_part : List ℕ → Bool
is_undamaged_part bytes = same bytes (part_bytes (cut_part bytes)) && is_part (cut_part bytes)

-- One byte altered, to v, and everything else as it was
pub data AlteredTo (v : ℕ) : List ℕ → List ℕ → Type 0 where
  here : {x : ℕ} {xs : List ℕ} → x ≢ v → AlteredTo v (x ∷ xs) (v ∷ xs)
  there : {x : ℕ} {xs ys : List ℕ} → AlteredTo v xs ys → AlteredTo v (x ∷ xs) (x ∷ ys)
