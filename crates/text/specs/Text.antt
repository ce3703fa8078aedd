-- A text: control bytes, a block, `FE`, the check byte, `FF`. Assumes nothing.
use Rattle.std.specs.Prelude.{ℕ, List, [], ◌∷◌, ◌++◌}
use Rattle.std.specs.Int.Bits.{bit_xor}

-- The control codes by the notice's names: leading pad. Notice 49, 4(1)(1-1)(d)(ア)
abbrev pub LPAD : ℕ
LPAD = 0x16

-- synchronisation. Notice 49, 4(1)(1-1)(d)(ア)
abbrev pub SYN : ℕ
SYN = 0x16

-- transparent mode begins. Notice 49, 4(1)(1-1)(d)(ア)
abbrev pub DLE : ℕ
DLE = 0x10

-- the text begins. Notice 49, 4(1)(1-1)(d)(ア)
abbrev pub STX : ℕ
STX = 0x02

-- text and transparent mode end. Notice 49, 4(1)(1-1)(d)(ア)
abbrev pub EOR : ℕ
EOR = 0xFE

-- trailing pad. Notice 49, 4(1)(1-1)(d)(ア)
abbrev pub TPAD : ℕ
TPAD = 0xFF

-- The start identification code, byte 0 of every block. Notice 49, 4(1)(1-1)(d)(イ)
abbrev pub FD : ℕ
FD = 0xFD

-- Control codes A, the five bytes before the block. Notice 49, 4(1)(1-1)(c)(ア)
abbrev pub control_a : List ℕ
control_a = LPAD ∷ SYN ∷ SYN ∷ DLE ∷ STX ∷ []

-- 01: the *opening* is the five control bytes and the `FD`. Notice 49, 4(1)(1-1)(c)(ア)
abbrev pub opening : List ℕ
opening = LPAD ∷ SYN ∷ SYN ∷ DLE ∷ STX ∷ FD ∷ []

-- The exclusive or of all bytes of a list. Notice 49, 4(1)(1-1)(c)(ア)
unfoldable pub xor_all : List ℕ → ℕ
xor_all [] = 0
xor_all (b ∷ bytes) = bit_xor b (xor_all bytes)

-- The check byte, BCC: the exclusive or of all block bytes and the `FE`, which comes in last.
-- Notice 49, 1 and 4(1)(1-1)(c)(ア), whose figure cannot be read: 01 is the rule
unfoldable pub check_byte : List ℕ → ℕ
check_byte block = bit_xor (xor_all block) EOR

-- Control codes B, the three bytes after the block. Notice 49, 4(1)(1-1)(c)(ア)
abbrev pub control_b : List ℕ → List ℕ
control_b block = EOR ∷ check_byte block ∷ TPAD ∷ []

-- A text. Notice 49, 4(1)(1-1)(b)(ア) to (ウ) and (c)(ア)
unfoldable pub text_of : List ℕ → List ℕ
text_of block = control_a ++ (block ++ control_b block)
