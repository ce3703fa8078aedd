-- The modes are right where those of the places that are left are. Assumes nothing.
use mathlib.Core.Path.{◌≡◌}
use Rattle.text.specs.WriterInput.{is_mode_for}
use Rattle.text_radars.proofs.Pairs.{pairs}
use Rattle.text_radars.proofs.places.are_modes_for.Given as goal

abbrev pub invariant-loop-radar : goal.invariant-loop-radar
invariant-loop-radar l =
    pairs is_mode_for l.radar-iterator.a.rest.now l.radar-iterator.b.rest.now ≡ pairs is_mode_for l.fn.radars l.fn.modes
