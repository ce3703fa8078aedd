-- What reading a whole start block gives: its header, where the block keeps every rule. Assumes nothing.
use Rattle.std.specs.Prelude.{ℕ, Bool, cond, List, [], ◌∷◌, eqb, Option, Some, None}
use Rattle.general_laws.specs.Bytes.{◌!◌, all_of}
use Rattle.text.specs.Text.{FD}
use Rattle.text.specs.Pictures.{is_picture_code}
use Rattle.text.specs.Kinds.{is_start_kind}
use Rattle.text.specs.StartBlock.{has_mode, is_clock_byte, is_start_block, header_of}
use Rattle.text.specs.declared.header.Header.{Header}

-- a start block's header, where it keeps every rule. Notice 49, 4(1)(1-1)(c)(イ) and (d)(イ)
unfoldable pub start_read : List ℕ → Option Header
start_read block = cond (is_start_block block) (Some (header_of block)) None

-- the rules of a start block's bytes 0 to 7. Notice 49, 4(1)(1-1)(c)(イ) and (d)(イ)
unfoldable pub start_front : List ℕ → Bool
start_front block =
    all_of (
    eqb (block ! 0) FD
    ∷ is_picture_code (block ! 1)
    ∷ is_start_kind (block ! 2)
    ∷ eqb (block ! 3) 0x00
    ∷ has_mode (block ! 5)
    ∷ is_clock_byte (block ! 6)
    ∷ is_clock_byte (block ! 7)
    ∷ [])
