-- The data block: payload from byte 3. Assumes nothing.
use Rattle.std.specs.Prelude.{ℕ, ◌+◌, ◌*◌, ◌-◌, ◌/◌, ◌%◌, Bool, false, cond, ◌&&◌, ◌||◌, List, [], ◌∷◌, eqb, leb, length, drop}
use Rattle.general_laws.specs.Bytes.{◌!◌, every, all_of}
use Rattle.text.specs.Text.{FD}
use Rattle.text.specs.Pictures.{is_picture_code}
use Rattle.text.specs.Kinds.{is_data_kind, part_of, block_length}

-- Intensity: two meshes a byte, the odd number in the high four bits, the even one in the low. Notice 49,
-- 4(1)(1-1)(d)(ウ)
unfoldable pub odd_level : ℕ → ℕ
odd_level b = b / 16

-- the even one. Notice 49, 4(1)(1-1)(d)(ウ)
unfoldable pub even_level : ℕ → ℕ
even_level b = b % 16

-- Data text k (1 to 10) has meshes 4,000 × (k − 1) + 1 to 4,000 × k: these two are in its payload byte i, counted
-- from 0.
-- Notice 49, 4(1)(1-1)(c)(エ), whose table shows text 1: that text k goes on from text k − 1 is 01's rule.
-- Where meshes lie on the map, (d)(エ), is outside 01
unfoldable pub odd_mesh : ℕ → ℕ → ℕ
odd_mesh k i = 4000 * (k - 1) + (2 * i + 1)

-- the even one. Notice 49, 4(1)(1-1)(c)(エ)
unfoldable pub even_mesh : ℕ → ℕ → ℕ
even_mesh k i = 4000 * (k - 1) + (2 * i + 2)

-- Levels 0 to 14. Notice 49, 4(1)(1-1)(d)(ウ) and 5(3)(3-1)
unfoldable pub is_intensity_byte : ℕ → Bool
is_intensity_byte b = leb (odd_level b) 14 && leb (even_level b) 14

-- Echo top: one mesh a byte, 0 to 8. Notice 49, 4(1)(1-2)(d)(ウ) and 5(3)(3-2)
unfoldable pub is_top_byte : ℕ → Bool
is_top_byte b = leb b 8

-- Quality: one mesh a byte; bits 0 to 6 name causes, bit 7 is "cause unknown" and stands alone: `00` to `7F`, or `80`.
-- Notice 49, 4(2)(d)(ウ), whose figure cannot be read: Request 107 is the rule
unfoldable pub is_quality_byte : ℕ → Bool
is_quality_byte b = leb b 0x7F || eqb b 0x80

-- The payload bytes of a part; none where there is no such part.
-- Notice 49, 4(1)(1-1)(d)(ウ), 4(1)(1-2)(d)(ウ), 4(2)(d)(ウ), 5(3)(3-1) and (3-2); for quality Request 107
unfoldable pub is_payload_byte : ℕ → ℕ → Bool
is_payload_byte p b = cond (eqb p 1) (is_intensity_byte b) (cond (eqb p 2) (is_top_byte b) (cond (eqb p 3) (is_quality_byte b) false))

-- The payload of a data block, from byte 3 on. Notice 49, 4(1)(1-1)(c)(エ), 4(1)(1-2)(c)(エ), 4(2)(c)(エ)
abbrev pub payload_of : List ℕ → List ℕ
payload_of block = drop 3 block

-- A data block. Notice 49, 4(1)(1-1)(c)(エ) and (d)(ウ), 4(1)(1-2)(c)(エ) and (d)(ウ), 4(2)(c)(エ) and (d)(ウ)
unfoldable pub is_data_block : List ℕ → Bool
is_data_block block =
    all_of (
    eqb (length block) (block_length (block ! 2))
    ∷ eqb (block ! 0) FD
    ∷ is_picture_code (block ! 1)
    ∷ is_data_kind (block ! 2)
    ∷ every (is_payload_byte (part_of (block ! 2))) (payload_of block)
    ∷ [])
