-- What an argument stands for: a picture code as two hexadecimal digits (Request 101). Assumes nothing.
use Rattle.std.specs.Prelude.{ℕ, ◌+◌, ◌*◌, ◌-◌, cond, ◌&&◌, List, eqb, leb, length, Option, Some, None}
use Rattle.general_laws.specs.Bytes.{◌!◌}

-- the value of a hexadecimal digit, in upper or lower case; none of another letter
unfoldable pub digit_of : ℕ → Option ℕ
digit_of letter =
    cond (leb 0x30 letter && leb letter 0x39) (Some (letter - 0x30))
    (cond (leb 0x41 letter && leb letter 0x46) (Some (letter - 0x41 + 10))
    (cond (leb 0x61 letter && leb letter 0x66) (Some (letter - 0x61 + 10)) None))

-- the byte of two digits; none where one is none
abbrev pub byte_of : Option ℕ → Option ℕ → Option ℕ
byte_of None low = None
byte_of (Some high) None = None
byte_of (Some high) (Some low) = Some (high * 16 + low)

-- a byte, or 0 where there is none
abbrev pub or_0 : Option ℕ → ℕ
or_0 None = 0
or_0 (Some byte) = byte

-- the byte that a word stands for; 0, which is no listed code, where it is not two digits
unfoldable pub code_of : List ℕ → ℕ
code_of word = cond (eqb (length word) 2) (or_0 (byte_of (digit_of (word ! 0)) (digit_of (word ! 1)))) 0
