-- The 18 kinds, block byte 2, and the lengths that they settle. Assumes nothing.
use Rattle.std.specs.Prelude.{ℕ, ◌+◌, ◌*◌, ◌-◌, Bool, false, cond, ◌&&◌, ◌||◌, not, List, [], ◌∷◌, eqb, leb}

-- A kind: its code, its part (1 intensity, 2 echo top, 3 quality: 01, row 31) and its text's number
-- (0 the start text, k data text k, 11 the end text: 01's due text)
pub record Kind : Type 0 where
  pub code : ℕ
  pub part : ℕ
  pub text : ℕ

abbrev pub kind : ℕ → ℕ → ℕ → Kind
kind c p t = record { code = c; part = p; text = t }

-- 01's table of kinds, row by row.
-- Notice 49, 4(1)(1-1)(d)(イ) and (ウ), 4(1)(1-2)(d)(イ) and (ウ), 4(2)(d)(イ) and (ウ)
unfoldable pub kinds : List Kind
kinds =
    kind 0x10 1 0
    ∷ kind 0x11 1 1 ∷ kind 0x12 1 2 ∷ kind 0x13 1 3 ∷ kind 0x14 1 4 ∷ kind 0x15 1 5
    ∷ kind 0x16 1 6 ∷ kind 0x17 1 7 ∷ kind 0x18 1 8 ∷ kind 0x19 1 9 ∷ kind 0x1A 1 10
    ∷ kind 0x1F 1 11
    ∷ kind 0x20 2 0 ∷ kind 0x21 2 1 ∷ kind 0x2F 2 11
    ∷ kind 0x30 3 0 ∷ kind 0x31 3 1 ∷ kind 0x3F 3 11
    ∷ []

-- the row of a code, and the row of a part's text; all 0 where there is none
abbrev pub by_code : ℕ → List Kind → Kind
by_code b [] = kind 0 0 0
by_code b (k ∷ ks) = cond (eqb b k.code) k (by_code b ks)

abbrev pub by_text : ℕ → ℕ → List Kind → Kind
by_text p t [] = kind 0 0 0
by_text p t (k ∷ ks) = cond (eqb p k.part && eqb t k.text) k (by_text p t ks)

-- 1 intensity, 2 echo top, 3 quality
unfoldable pub is_part_number : ℕ → Bool
is_part_number p = leb 1 p && leb p 3

-- The part of a kind, 0 where b is no kind. Notice 49, 4(1)(1-1)(d)(イ) and (ウ), 4(1)(1-2)(d)(イ) and (ウ), 4(2)(d)(イ)
-- and (ウ)
unfoldable pub part_of : ℕ → ℕ
part_of b = (by_code b kinds).part

-- The text number of a kind, 0 for a start kind and where b is no kind.
-- Notice 49, 4(1)(1-1)(d)(イ) and (ウ), 4(1)(1-2)(d)(イ) and (ウ), 4(2)(d)(イ) and (ウ)
unfoldable pub text_number : ℕ → ℕ
text_number b = (by_code b kinds).text

-- The kind of text t of part p, 0 where there is none. Notice 49, 4(1)(1-1)(d)(イ) and (ウ), 4(1)(1-2)(d)(イ) and (ウ),
-- 4(2)(d)(イ) and (ウ)
unfoldable pub kind_of : ℕ → ℕ → ℕ
kind_of p t = (by_text p t kinds).code

-- One of the 18 kinds. Notice 49, 4(1)(1-1)(d)(イ) and (ウ), 4(1)(1-2)(d)(イ) and (ウ), 4(2)(d)(イ) and (ウ)
unfoldable pub is_kind : ℕ → Bool
is_kind b = not (eqb (part_of b) 0)

-- A start kind. Notice 49, 4(1)(1-1)(d)(イ), 4(1)(1-2)(d)(イ), 4(2)(d)(イ)
unfoldable pub is_start_kind : ℕ → Bool
is_start_kind b = is_kind b && eqb (text_number b) 0

-- An end kind. Notice 49, 4(1)(1-1)(d)(イ), 4(1)(1-2)(d)(イ), 4(2)(d)(イ)
unfoldable pub is_end_kind : ℕ → Bool
is_end_kind b = is_kind b && eqb (text_number b) 11

-- A data kind. Notice 49, 4(1)(1-1)(d)(ウ), 4(1)(1-2)(d)(ウ), 4(2)(d)(ウ)
unfoldable pub is_data_kind : ℕ → Bool
is_data_kind b = is_kind b && not (eqb (text_number b) 0 || eqb (text_number b) 11)

-- The length of a data block by part, 0 where there is no such part.
-- Notice 49, 4(1)(1-1)(b)(イ), 4(1)(1-2)(b)(イ), 4(2)(b)(イ)
unfoldable pub data_block_length : ℕ → ℕ
data_block_length p = cond (eqb p 1) 2003 (cond (eqb p 2) 403 (cond (eqb p 3) 103 0))

-- The length of a kind's block, 0 where b is no kind. Notice 49, 4(1)(1-1)(b)(ア) to (ウ), 4(1)(1-2)(b)(イ), 4(2)(b)(イ)
unfoldable pub block_length : ℕ → ℕ
block_length b = cond (is_data_kind b) (data_block_length (part_of b)) (cond (is_kind b) 32 0)

-- A text has five bytes before its block and three after it. Notice 49, 4(1)(1-1)(b), 4(1)(1-2)(b), 4(2)(b)
abbrev pub text_length : ℕ → ℕ
text_length block = block + 8

-- How many data texts a part has. With NO ECHO, intensity and echo top have none; quality always has one.
-- Notice 49, 4(1)(1-1)(a), 4(1)(1-2)(a), 4(2)(a), 4(1)(1-1)(d)(イ)
unfoldable pub data_texts : ℕ → Bool → ℕ
data_texts p no_echo = cond (eqb p 3) 1 (cond no_echo 0 (cond (eqb p 1) 10 (cond (eqb p 2) 1 0)))

-- The length of a whole part: start text, data texts, end text. 0 where there is no such part.
-- Notice 49, 4(1)(1-1)(a), 4(1)(1-2)(a), 4(2)(a)
unfoldable pub part_length : ℕ → Bool → ℕ
part_length p no_echo =
    cond (is_part_number p) (text_length 32 + (data_texts p no_echo * text_length (data_block_length p) + text_length 32)) 0

-- How many payload bytes a whole part carries: 20,000, 400 or 100. Notice 49, 4(1)(1-1)(a), 4(1)(1-2)(a), 4(2)(a)
unfoldable pub payload_length : ℕ → ℕ
payload_length p = data_texts p false * (data_block_length p - 3)
