-- Where a picture code stands in 01's list, as the code works it out, and its mark (Request 101). Assumes nothing.
use Rattle.std.specs.Prelude.{ℕ, ◌+◌, ◌*◌, ◌/◌, ◌%◌, ◌^◌, cond, ltb}
use Rattle.text.specs.Pictures.{picture_codes, is_picture_code}
use Rattle.receiver_spec.specs.Contents.{index_in}

-- four bits of a number for each code of a sixteen
abbrev pub four_bits : ℕ → ℕ → ℕ
four_bits table code = table / 2 ^ (code % 16 * 4) % 16

-- the place, by sixteens that begin at places 0, 8, 14 and 18. Notice 49, 5(1)
unfoldable pub place_of : ℕ → ℕ
place_of code =
    cond (ltb code 0xD0) (four_bits 0x0007006500430210 code)
    (cond (ltb code 0xE0) (four_bits 0x0005000400321000 code + 8)
    (cond (ltb code 0xF0) (four_bits 0x0000000000320010 code + 14) (four_bits 0x10 code + 18)))

-- the number that has the mark of this picture alone; 0 where the code is not listed. Notice 49, 5(1)
unfoldable pub mark_of : ℕ → ℕ
mark_of code = cond (is_picture_code code) (2 ^ index_in code picture_codes) 0
