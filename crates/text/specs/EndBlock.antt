-- The end block, 32 bytes. Assumes nothing.
use Rattle.std.specs.Prelude.{ℕ, ◌+◌, max, Bool, cond, List, [], ◌∷◌, map, eqb, length, drop}
use Rattle.general_laws.specs.Bytes.{◌!◌, every, all_of}
use Rattle.text.specs.Text.{FD}
use Rattle.text.specs.Pictures.{is_picture_code}
use Rattle.text.specs.Kinds.{is_end_kind}
use Rattle.text.specs.StartBlock.{mode_of, has_mode}

-- the eight places of radars and modes. Notice 49, 4(1)(1-1)(c)(イ) and (ウ)
abbrev pub radar_places : List ℕ
radar_places = 0 ∷ 1 ∷ 2 ∷ 3 ∷ 4 ∷ 5 ∷ 6 ∷ 7 ∷ []

-- The byte for a radar: exactly one mode bit set, other bits ignored; `00` where there is no radar.
-- Notice 49, 4(1)(1-1)(d)(イ)
unfoldable pub is_mode_byte : ℕ → ℕ → Bool
is_mode_byte radar b = cond (eqb radar 0) (eqb b 0) (has_mode b)

-- An end block for these radars, in place: bytes 3 to 10 are theirs, bytes 11 to 31 are `00`.
-- Notice 49, 4(1)(1-1)(c)(ウ) and (d)(イ). 4(1)(1-2) and 4(2) refer to these
unfoldable pub is_end_block : List ℕ → List ℕ → Bool
is_end_block radars block =
    all_of (
    eqb (length block) 32
    ∷ eqb (block ! 0) FD
    ∷ is_picture_code (block ! 1)
    ∷ is_end_kind (block ! 2)
    ∷ every (λ i. is_mode_byte (radars ! i) (block ! (3 + i))) radar_places
    ∷ every (λ b. eqb b 0x00) (drop 11 block)
    ∷ [])

-- 01: a part's modes are those of its end block, by place, 0 where there is no radar. Notice 49, 4(1)(1-1)(c)(ウ) and
-- (d)(イ)
unfoldable pub modes_of : List ℕ → List ℕ
modes_of block = map (λ i. mode_of (block ! (3 + i))) radar_places

-- modes, all 0
abbrev pub no_modes : List ℕ
no_modes = 0 ∷ 0 ∷ 0 ∷ 0 ∷ 0 ∷ 0 ∷ 0 ∷ 0 ∷ []

-- The highest of these modes. Notice 49, 4(1)(1-1)(d)(イ)
unfoldable pub highest : List ℕ → ℕ
highest [] = 0
highest (m ∷ ms) = max m (highest ms)
