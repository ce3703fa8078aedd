-- The bytes so far are the higher ones, the others as they were. Assumes nothing.
use mathlib.Core.Path.{◌∙◌}
use native.Mathlib.Omega.{arith}
use Rattle.service_overlay.proofs.Overlaying.{overlay_on, overlay_all}
use Rattle.service_overlay.proofs.grids.overlay_bytes.Goals as goal

pub loop-i-preserved : goal.loop-i-preserved
loop-i-preserved c =
    let a = c.args in
    let on = overlay_on a.first.now a.second.now a.third.now c.requires.first_len c.requires.second_len c.loop-i.i (omega arith) in
    rw (c.loop-i.invariant, c.higher_byte.ensures) on

pub returns : goal.returns
returns c =
    let a = c.args in
    c.loop-i.invariant ∙ overlay_all a.first.now a.second.now a.third.now c.requires.first_len c.requires.second_len c.loop-i.i (omega arith)
