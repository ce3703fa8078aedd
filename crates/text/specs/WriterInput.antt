-- The rule of a header and modes that a writer takes (01, row 32). Assumes nothing.
use Rattle.std.specs.Prelude.{ℕ, Bool, cond, ◌&&◌, List, [], ◌∷◌, eqb, leb}
use Rattle.general_laws.specs.Bytes.{◌!◌, every, all_of}
use Rattle.text.specs.Pictures.{is_picture_code}
use Rattle.text_calendar_spec.specs.Minutes.{is_minute}
use Rattle.text.specs.StartBlock.{is_radar_list}
use Rattle.text.specs.EndBlock.{radar_places}
use Rattle.text.specs.declared.header.WriterHeader.{WriterHeader}
use Rattle.text.specs.declared.header.Header.{Header}

-- 01: the header without its status bytes. Notice 49, 4(1)(1-1)(c)(イ)
abbrev pub writer_header_of : Header → WriterHeader
writer_header_of h = record { minute = h.minute; radars = h.radars; clock = h.clock; picture = h.picture }

-- the mode of a radar is 1 to 3; 0 where there is no radar. Notice 49, 4(1)(1-1)(d)(イ)
unfoldable pub is_mode_for : ℕ → ℕ → Bool
is_mode_for radar m = cond (eqb radar 0) (eqb m 0) (leb 1 m && leb m 3)

-- The modes of eight places. Notice 49, 4(1)(1-1)(d)(イ)
unfoldable pub are_modes_for : List ℕ → List ℕ → Bool
are_modes_for radars modes = every (λ i. is_mode_for (radars ! i) (modes ! i)) radar_places

-- every rule of a start block (01, row 32); the minute is one of the years 0000 to 9999 (Request 111). Notice 49,
-- 4(1)(1-1)(c)(イ) and (d)(イ)
unfoldable pub is_writer_header : WriterHeader → Bool
is_writer_header h =
    all_of (is_picture_code h.picture ∷ leb h.clock 16383 ∷ is_minute h.minute ∷ is_radar_list h.radars ∷ [])

-- what a writer takes: such a header, and modes for its radars (01, row 32). Notice 49, 4(1)(1-1)(c)(イ) and (d)(イ)
unfoldable pub is_writer_input : WriterHeader → List ℕ → Bool
is_writer_input h modes = is_writer_header h && are_modes_for h.radars modes
