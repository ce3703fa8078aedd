-- The meshes of the bytes so far are counted. Assumes nothing.
use mathlib.Core.Path.{refl, ap}
use Prim.Native.Nat.{◌+◌}
use native.Mathlib.Omega.{arith}
use mir.Val.{bool_byte}
use Rattle.general_laws.specs.Bytes.{◌!◌}
use Rattle.text.specs.DataBlock.{odd_level}
use Rattle.general_laws.proofs.Tests.{bool_byte_less}
use Rattle.service_levels.specs.Meshes.{count_to}
use Rattle.service_levels.proofs.Counting.{byte_on, split_byte, by_16}
use Rattle.service_levels.proofs.counts.Level.count_in_bytes.Goals as goal

pub loop-b-init : goal.loop-b-init
unfolding count_to
loop-b-init c = (omega arith, omega arith, refl)

pub loop-b-preserved : goal.loop-b-preserved
loop-b-preserved c =
    let bytes = c.args.bytes.now in
    let level = c.args.self.number in
    let i = c.loop-b.b-index in
    let b = bytes ! i in (
      simp bool_byte_less (omega arith),
      simp bool_byte_less (omega arith),
      rw (c.split-halves.ensures.odd_value, c.split-halves.ensures.even_value)
          (omega (arith, c.loop-b.invariant.2, ap bool_byte (by_16 level (odd_level b)), split_byte b level, byte_on bytes i level (i + 1) refl)),
    )
