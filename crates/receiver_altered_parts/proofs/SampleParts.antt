-- Four undamaged parts and, for each, an alteration of every one of its texts; and the parts that show why the claim says
-- "at most one in each text" and "none to `FD`". All are of picture CC. A byte's place in a text, from 0 on, is its place in the
-- block and 5. Assumes nothing.
use mathlib.Core.List.{List, [], ◌∷◌, ◌++◌}
use Prim.Native.Nat.{ℕ, suc}
use lib.ListN.{take, drop, replicate}
use Rattle.text.specs.Text.{text_of}
use Rattle.text.specs.Part.{Part, part_bytes}
use Rattle.text.specs.SampleBlocks.{time1999, sample_start, sample_end}
use Rattle.receiver_spec.specs.Alterations.{Alteration, became}

-- the blocks of S and its end text with another kind; without NO ECHO
abbrev pub start_of : ℕ → List ℕ
start_of kind = 0xFD ∷ 0xCC ∷ kind ∷ 0x00 ∷ 0x00 ∷ drop 5 sample_start

abbrev pub end_of : ℕ → List ℕ
end_of kind = 0xFD ∷ 0xCC ∷ kind ∷ drop 3 sample_end

abbrev pub data_of : ℕ → List ℕ → List ℕ
data_of kind payload = 0xFD ∷ 0xCC ∷ kind ∷ payload

-- what stands in a start block with NO ECHO behind its picture code, and is intensity payload too: every level is at most 14
abbrev pub start_as_payload : List ℕ
start_as_payload = 0x10 ∷ 0x00 ∷ 0x08 ∷ 0x04 ∷ 0x4D ∷ 0x7E ∷ (time1999 ++ (0xA5 ∷ replicate 7 0))

-- ---- NO ECHO: another clock in the start text, a start kind in the end text

unfoldable pub no_echo : Part
no_echo = record { start = sample_start; datas = []; end = sample_end }

unfoldable pub no_echo_altered : List Alteration
no_echo_altered = became 11 0x4C ∷ became 7 0x10 ∷ []

-- ---- intensity

unfoldable pub intensity : Part
intensity =
    record {
      start = start_of 0x10;
      datas =
          data_of 0x11 (drop 1 start_as_payload ++ replicate 1971 0)
          ∷ data_of 0x12 (0x26 ∷ (replicate 1995 0 ++ (0x16 ∷ 0x16 ∷ 0x16 ∷ 0x10 ∷ [])))
          ∷ data_of 0x13 (replicate 2000 0x1E)
          ∷ data_of 0x14 (replicate 2000 0x1E)
          ∷ data_of 0x15 (replicate 2000 0x1E)
          ∷ data_of 0x16 (replicate 2000 0x1E)
          ∷ data_of 0x17 (replicate 2000 0x1E)
          ∷ data_of 0x18 (replicate 2000 0x1E)
          ∷ data_of 0x19 (replicate 2000 0x1E)
          ∷ data_of 0x1A (replicate 2000 0x1E)
          ∷ [];
      end = end_of 0x1F;
    }

-- the start text's clock; then in the data texts: a start kind, and payload that fits a start text up to the place of its `FE`; `FE`
-- to `02` behind 16 16 16 10, before a check byte `FD`; another picture; no picture; no kind; the first byte; the `FD`; a payload
-- byte that is not allowed; the check byte; the `FF`; and in the end text echo top's start kind
unfoldable pub intensity_altered : List Alteration
intensity_altered =
    became 11 0x4C ∷ became 7 0x10 ∷ became 2008 0x02 ∷ became 6 0xC0 ∷ became 6 0xCD ∷ became 7 0x55 ∷ became 0 0x00 ∷ became 5 0xFC ∷ became 100 0xFF
    ∷ became 2009 0x00 ∷ became 2010 0x00 ∷ became 7 0x20 ∷ []

-- ---- echo top: the `FF` of the start text, a payload byte, a mode byte

unfoldable pub top : Part
top = record { start = start_of 0x20; datas = data_of 0x21 (replicate 400 0x08) ∷ []; end = end_of 0x2F }

unfoldable pub top_altered : List Alteration
top_altered = became 39 0xFE ∷ became 300 0x07 ∷ became 8 0x10 ∷ []

-- ---- quality: the year, the `FD`, the `FE`

unfoldable pub quality : Part
quality = record { start = start_of 0x30; datas = data_of 0x31 (replicate 100 0x80) ∷ []; end = end_of 0x3F }

unfoldable pub quality_altered : List Alteration
quality_altered = became 16 0x38 ∷ became 5 0x00 ∷ became 37 0x02 ∷ []

-- ---- two bytes of one text: another clock in the start text, and the check byte that fits it; what came is another part

unfoldable pub altered_once : List ℕ
altered_once = take 11 (text_of sample_start) ++ (0x4C ∷ drop 12 (text_of sample_start))

unfoldable pub altered_twice : List ℕ
altered_twice = take 38 altered_once ++ (0x4E ∷ drop 39 altered_once)

unfoldable pub other_clock : Part
other_clock = record { start = take 6 sample_start ++ (0x4C ∷ drop 7 sample_start); datas = []; end = sample_end }

-- ---- one byte, to `FD`: data text 10 ends like a start text with NO ECHO but for its `FD`, and has the check byte of both

unfoldable pub holds_start : Part
holds_start =
    record {
      start = start_of 0x10;
      datas =
          data_of 0x11 (replicate 2000 0)
          ∷ data_of 0x12 (replicate 2000 0)
          ∷ data_of 0x13 (replicate 2000 0)
          ∷ data_of 0x14 (replicate 2000 0)
          ∷ data_of 0x15 (replicate 2000 0)
          ∷ data_of 0x16 (replicate 2000 0)
          ∷ data_of 0x17 (replicate 2000 0)
          ∷ data_of 0x18 (replicate 2000 0)
          ∷ data_of 0x19 (replicate 2000 0)
          ∷ data_of 0x1A (0xD2 ∷ (replicate 1962 0 ++ (0x16 ∷ 0x16 ∷ 0x16 ∷ 0x10 ∷ 0x02 ∷ 0x00 ∷ 0xCC ∷ start_as_payload)))
          ∷ [];
      end = end_of 0x1F;
    }

-- the byte behind 16 16 16 10 02
abbrev pub place_of_fd : ℕ
place_of_fd = 20115

unfoldable pub altered_to_fd : List ℕ
altered_to_fd = take place_of_fd (part_bytes holds_start) ++ (0xFD ∷ drop (suc place_of_fd) (part_bytes holds_start))

-- what came ends with it
unfoldable pub never_sent : Part
never_sent = record { start = 0xFD ∷ 0xCC ∷ start_as_payload; datas = []; end = end_of 0x1F }
