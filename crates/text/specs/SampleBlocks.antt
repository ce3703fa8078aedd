-- The two blocks of 01's section "Sample traffic". Assumes nothing.
use Rattle.std.specs.Prelude.{List, [], ◌∷◌, ◌++◌, ℕ, replicate}

-- `1999.06.07.12.10`
abbrev pub time1999 : List ℕ
time1999 =
    0x31 ∷ 0x39 ∷ 0x39 ∷ 0x39 ∷ 0x2E ∷ 0x30 ∷ 0x36 ∷ 0x2E ∷ 0x30 ∷ 0x37 ∷ 0x2E ∷ 0x31 ∷ 0x32 ∷ 0x2E ∷ 0x31 ∷ 0x30 ∷ []

-- the start block with check byte `4F`, and the end block with check byte `D4`
abbrev pub sample_start : List ℕ
sample_start = 0xFD ∷ 0xCC ∷ 0x10 ∷ 0x00 ∷ 0x08 ∷ 0x04 ∷ 0x4D ∷ 0x7F ∷ (time1999 ++ (0xA5 ∷ replicate 7 0))

abbrev pub sample_end : List ℕ
sample_end = 0xFD ∷ 0xCC ∷ 0x1F ∷ 0x04 ∷ replicate 28 0
