-- The picture codes, block byte 1. Assumes nothing.
use Rattle.std.specs.Prelude.{ℕ, Bool, List, [], ◌∷◌}
use Rattle.general_laws.specs.Bytes.{is_in}

-- The 20 picture codes in 01's order. Notice 49, 5(1)
unfoldable pub picture_codes : List ℕ
picture_codes =
    0xC0 ∷ 0xC1 ∷ 0xC2 ∷ 0xC4 ∷ 0xC5 ∷ 0xC8 ∷ 0xC9 ∷ 0xCC ∷ 0xD2 ∷ 0xD3
    ∷ 0xD4 ∷ 0xD5 ∷ 0xD8 ∷ 0xDC ∷ 0xE0 ∷ 0xE1 ∷ 0xE4 ∷ 0xE5 ∷ 0xF0 ∷ 0xF1 ∷ []

-- One of the picture codes. Notice 49, 5(1)
unfoldable pub is_picture_code : ℕ → Bool
is_picture_code b = is_in b picture_codes
