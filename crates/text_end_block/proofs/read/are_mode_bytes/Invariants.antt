-- The loop has found the right byte for each radar below i. Assumes nothing.
use mathlib.Core.Path.{◌≡◌}
use mathlib.Core.Bool.{true}
use Prim.Native.Nat.{ℕ, ◌+◌, ◌<◌}
use Rattle.general_laws.specs.Bytes.{◌!◌}
use Rattle.text.specs.EndBlock.{is_mode_byte}
use Rattle.text_end_block.proofs.read.are_mode_bytes.Given as goal

abbrev pub invariant-loop-i : goal.invariant-loop-i
invariant-loop-i l = (k : ℕ) → k < l.i → is_mode_byte (l.fn.radars ! k) (l.block ! (3 + k)) ≡ true
