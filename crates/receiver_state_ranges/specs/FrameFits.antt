-- What `receiver_spec` asks of a possible state, of the code's frame. Assumes nothing.
use Rattle.std.specs.Prelude.{◌+◌, Bool, cond, ◌&&◌, [], ◌∷◌, eqb, leb}
use Rattle.general_laws.specs.Bytes.{all_of}
use Rattle.text.specs.Pictures.{is_picture_code}
use Rattle.text.specs.Kinds.{is_kind, is_start_kind, kind_of, block_length}
use Rattle.receiver_state.specs.declared.state.Frame.{Frame}

-- place, kind and picture code fit each other and the part open: what is_possible asks of them.
-- Notice 49, 4(1)(1-1)(b), (d)(イ) and (ウ), 4(1)(1-2)(b), (d)(イ) and (ウ), 4(2)(b), (d)(イ) and (ウ), 5(1)
unfoldable pub frame_fits : Frame → Bool
frame_fits f =
    cond (eqb f.kind 0)
    (cond (eqb f.place 0) (eqb f.picture 0 && eqb f.check 0)
    (cond (eqb f.place 1) (eqb f.picture 0) (eqb f.place 2 && is_picture_code f.picture)))
    (all_of (
    leb 3 f.place
    ∷ leb f.place (block_length f.kind + 2)
    ∷ is_picture_code f.picture
    ∷ is_kind f.kind
    ∷ cond (eqb f.part 0) (is_start_kind f.kind) (eqb f.kind (kind_of f.part f.due))
    ∷ []))
