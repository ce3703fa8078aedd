-- How many payload bytes a slice begins with, in the code's terms. Assumes nothing.
use Rattle.std.specs.Prelude.{ℕ, suc, ◌-◌, Bool, cond, not, ◌&&◌, List, [], ◌∷◌, eqb, leb, ltb, length, take}
use Rattle.text.specs.Kinds.{is_start_kind, is_end_kind, part_of, block_length}
use Rattle.text.specs.DataBlock.{is_payload_byte}
use Rattle.text.specs.Part.{grid_length}
use Rattle.receiver_state.specs.declared.state.Frame.{Frame}
use Rattle.receiver_state.specs.declared.state.State.{State}

-- a data text's payload is under way. Notice 49, 4(1)(1-1)(c)(エ), 4(1)(1-2)(c)(エ), 4(2)(c)(エ)
unfoldable pub is_in_payload : Frame → Bool
is_in_payload f = leb 3 f.place && ltb f.place (block_length f.kind) && not (is_start_kind f.kind) && not (is_end_kind f.kind)

-- as far as they keep their part's rule. Notice 49, 4(1)(1-1)(d)(ウ), 4(1)(1-2)(d)(ウ), 4(2)(d)(ウ)
unfoldable pub allowed_prefix : ℕ → List ℕ → ℕ
allowed_prefix p [] = 0
allowed_prefix p (b ∷ bytes) = cond (is_payload_byte p b) (suc (allowed_prefix p bytes)) 0

-- and up to the block's end. Notice 49, 4(1)(1-1)(c)(エ) and (d)(ウ), 4(1)(1-2)(c)(エ) and (d)(ウ), 4(2)(c)(エ) and (d)(ウ)
unfoldable pub payload_ahead : State → List ℕ → List ℕ → ℕ
payload_ahead s g bytes =
    cond (is_in_payload s.frame && eqb (length g) grid_length)
    (allowed_prefix (part_of s.frame.kind) (take (block_length s.frame.kind - s.frame.place) bytes)) 0
