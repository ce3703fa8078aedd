-- The highest byte and the highest even level so far say whether the bytes so far have no level 15. Assumes nothing.
use mathlib.Core.Path.{refl, ap, ◌∙◌}
use mathlib.Core.Bool.{◌&&◌}
use Rattle.general_laws.specs.Bytes.{◌!◌, every}
use Rattle.text.specs.DataBlock.{is_intensity_byte}
use Rattle.general_laws.proofs.Lists.{every_on}
use Rattle.service_levels.proofs.Counting.{levels_on}
use Rattle.service_levels.proofs.counts.has_no_level_15.Goals as goal

pub loop-b-init : goal.loop-b-init
unfolding every
loop-b-init c = refl

pub loop-b-preserved : goal.loop-b-preserved
loop-b-preserved c =
    let grid = c.args.grid.now in
    let i = c.loop-b.b-index in
    rw (c.max-highest.ensures, c.max-highest_even.ensures, c.split-halves.ensures.even_value)
    (levels_on c.loop-b.highest c.loop-b.highest_even (grid ! i)
    ∙ ap (λ t. t && is_intensity_byte (grid ! i)) c.loop-b.invariant
    ∙ every_on grid i c.loop-b-test.true is_intensity_byte)
