-- Each radar follows the one before it where each of those that are left does. Assumes nothing.
use mathlib.Core.Path.{◌≡◌}
use lib.ListN.{drop}
use Rattle.text.specs.StartBlock.{follows}
use Rattle.text_radars.proofs.Pairs.{pairs}
use Rattle.text_radars.proofs.places.is_radar_list.Given as goal

abbrev pub invariant-loop-before : goal.invariant-loop-before
invariant-loop-before l =
    pairs follows l.before-iterator.a.rest.now l.before-iterator.b.rest.now ≡ pairs follows l.fn.radars (drop 1 l.fn.radars)
