-- The slice from byte 11 on is all that stands behind the first 11 bytes. Assumes nothing.
use mathlib.Core.Path.{◌≡◌, ap, ◌∙◌}
use mathlib.Core.List.{List}
use Prim.Native.Nat.{ℕ}
use native.Mathlib.Omega.{arith}
use lib.Dec.{eqb}
use lib.ListN.{length, take, drop, length-drop}
use lib.Seq.{take_all}
use Rattle.general_laws.specs.Bytes.{every}
use Rattle.text_end_block.proofs.read.is_zero_behind.Goals as goal

-- all of the bytes behind the first 11
rest : (block : List ℕ) → length block ≡ 32 → take 21 (drop 11 block) ≡ drop 11 block
rest block l = take_all 21 (drop 11 block) (omega (arith, length-drop 11 block, l))

pub returns : goal.returns
returns c = c.are_zero.ensures ∙ ap (every (λ b. eqb b 0)) (rest c.args.block.now c.told-block)
