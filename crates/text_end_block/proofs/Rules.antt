-- The rules of a whole end block, in the order in which the code looks at them. Assumes nothing.
use mathlib.Core.Path.{◌≡◌}
use mathlib.Core.Bool.{◌&&◌, and-true, and_assoc}
use mathlib.Core.List.{List}
use Prim.Native.Nat.{ℕ, ◌+◌}
use lib.Dec.{eqb}
use lib.ListN.{length, drop}
use borrow.Author.Tests.{eq-eqb}
use Rattle.general_laws.specs.Bytes.{◌!◌, every, all_of}
use Rattle.text.specs.Text.{FD}
use Rattle.text.specs.Pictures.{is_picture_code}
use Rattle.text.specs.Kinds.{is_end_kind}
use Rattle.text.specs.EndBlock.{radar_places, is_mode_byte, is_end_block}

pub end_rules :
    (radars block : List ℕ) → length block ≡ 32 →
    is_end_block radars block
    ≡ ((eqb (block ! 0) FD && (is_picture_code (block ! 1) && is_end_kind (block ! 2)))
    && (every (λ i. is_mode_byte (radars ! i) (block ! (3 + i))) radar_places && every (λ b. eqb b 0x00) (drop 11 block)))
unfolding is_end_block all_of
end_rules radars block h = simp (eq-eqb (length block) 32 h, and_assoc, and-true)
