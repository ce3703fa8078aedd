-- What the writer writes: 01's section "The writer", and rows 31 to 34. Assumes nothing.
use Rattle.std.specs.Prelude.{ℕ, zero, suc, ◌+◌, ◌-◌, Bool, cond, not, ◌&&◌, List, [], ◌∷◌, ◌++◌, map, eqb, ltb, length, take, drop}
use Rattle.general_laws.specs.Bytes.{◌!◌, every}
use Rattle.text.specs.Text.{FD}
use Rattle.text.specs.Kinds.{is_part_number, kind_of, data_block_length, data_texts, part_length, payload_length}
use Rattle.text_calendar_spec.specs.TimeDigits.{digits_at}
use Rattle.text.specs.StartBlock.{mode_byte, clock_bytes}
use Rattle.text.specs.DataBlock.{is_payload_byte}
use Rattle.text.specs.EndBlock.{highest}
use Rattle.text.specs.Part.{Part, part_bytes, zeros}
use Rattle.text.specs.WriterInput.{is_writer_input}
use Rattle.text.specs.declared.header.WriterHeader.{WriterHeader}

-- 01: NO ECHO is set exactly for an intensity or top payload of all zeros. Notice 49, 4(1)(1-1)(d)(イ)
unfoldable pub writes_no_echo : ℕ → List ℕ → Bool
writes_no_echo p payload = not (eqb p 3) && every (λ b. eqb b 0) payload

-- status 1; meaningless bits are 0. Notice 49, 4(1)(1-1)(d)(イ)
unfoldable pub status_byte : Bool → ℕ
status_byte no_echo = cond no_echo 0x08 0x00

-- a digit's character. Notice 49, 4(1)(1-1)(d)(イ)
abbrev pub char : ℕ → ℕ
char digit = digit + 0x30

-- the stop of the time. Notice 49, 4(1)(1-1)(c)(イ)
abbrev pub stop : ℕ
stop = 0x2E

-- The time in ASCII, `YYYY.MM.DD.hh.mm`. Notice 49, 4(1)(1-1)(c)(イ) and (d)(イ)
unfoldable pub time_text : List ℕ → List ℕ
time_text d =
    char (d ! 0) ∷ char (d ! 1) ∷ char (d ! 2) ∷ char (d ! 3) ∷ stop
    ∷ char (d ! 4) ∷ char (d ! 5) ∷ stop
    ∷ char (d ! 6) ∷ char (d ! 7) ∷ stop
    ∷ char (d ! 8) ∷ char (d ! 9) ∷ stop
    ∷ char (d ! 10) ∷ char (d ! 11) ∷ []

-- a block: `FD`, picture code, kind, and its bytes from byte 3 on. Notice 49, 4(1)(1-1)(c)(イ) to (エ), (d)(イ) and (ウ),
-- 4(1)(1-2)(c)(エ), (d)(イ) and (ウ), 4(2)(c)(エ), (d)(イ) and (ウ)
abbrev pub block_of : ℕ → ℕ → List ℕ → List ℕ
block_of q k contents = FD ∷ q ∷ k ∷ contents

-- the start block's bytes from byte 3 on: status 2 is the highest mode, and the time is that of the minute (Request 111).
-- Notice 49, 4(1)(1-1)(c)(イ) and (d)(イ)
unfoldable pub start_contents : Bool → WriterHeader → List ℕ → List ℕ
start_contents no_echo h modes =
    0x00 ∷ status_byte no_echo ∷ mode_byte (highest modes) ∷ (clock_bytes h.clock ++ (time_text (digits_at h.minute) ++ h.radars))

-- the end block's. Notice 49, 4(1)(1-1)(c)(ウ) and (d)(イ)
unfoldable pub end_contents : List ℕ → List ℕ
end_contents modes = map mode_byte modes ++ zeros 21

-- n data blocks, from data text k on, each with its share of the payload.
-- Notice 49, 4(1)(1-1)(c)(エ), 4(1)(1-2)(c)(エ), 4(2)(c)(エ)
unfoldable pub data_blocks : ℕ → ℕ → ℕ → ℕ → List ℕ → List (List ℕ)
data_blocks p q k zero payload = []
data_blocks p q k (suc n) payload =
    block_of q (kind_of p k) (take (data_block_length p - 3) payload) ∷ data_blocks p q (suc k) n (drop (data_block_length p - 3) payload)

-- the part that is written. Notice 49, 4(1)(1-1)(a), 4(1)(1-2)(a), 4(2)(a)
unfoldable pub written_part : ℕ → WriterHeader → List ℕ → List ℕ → Part
written_part p h modes payload =
    let no_echo = writes_no_echo p payload in
    record {
      start = block_of h.picture (kind_of p 0) (start_contents no_echo h modes);
      datas = data_blocks p h.picture 1 (data_texts p no_echo) payload;
      end = block_of h.picture (kind_of p 11) (end_contents modes);
    }

-- row 33: 20,000, 400 or 100 bytes by part, none of them forbidden.
-- Notice 49, 4(1)(1-1)(d)(ウ), 4(1)(1-2)(d)(ウ), 4(2)(d)(ウ)
unfoldable pub is_payload : ℕ → List ℕ → Bool
is_payload p payload = eqb (length payload) (payload_length p) && every (is_payload_byte p) payload

-- What the writer answers: how many bytes it wrote, or a refusal (31 to 34)
pub data WriteAnswer : Type 0 where
  bytes_written : ℕ → WriteAnswer
  refused : ℕ → WriteAnswer

-- with how many bytes were written and the output that it leaves
pub record WriteOutcome : Type 0 where
  pub answer : WriteAnswer
  pub count : ℕ
  pub output : List ℕ

-- a refusal: output unchanged, 0 written
abbrev pub refuses : ℕ → List ℕ → WriteOutcome
refuses n output = record { answer = refused n; count = 0; output = output }

-- Rows 31 to 34 in order; otherwise the part's bytes stand at the front of the output, and the rest is untouched.
-- Notice 49, 4(1)(1-1)(a), 4(1)(1-2)(a), 4(2)(a)
unfoldable pub writes : ℕ → WriterHeader → List ℕ → List ℕ → List ℕ → WriteOutcome
writes p h modes payload output =
    let long = part_length p (writes_no_echo p payload) in
    cond (not (is_part_number p)) (refuses 31 output)
    (cond (not (is_writer_input h modes)) (refuses 32 output)
    (cond (not (is_payload p payload)) (refuses 33 output)
    (cond (ltb (length output) long) (refuses 34 output)
    (record { answer = bytes_written long; count = long; output = part_bytes (written_part p h modes payload) ++ drop long output }))))
