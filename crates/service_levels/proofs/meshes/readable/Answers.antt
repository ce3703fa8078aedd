-- Each refusal by the test before it. Assumes nothing.
use mathlib.Core.Path.{sym, ◌∙◌}
use borrow.Author.Tests.{eq-eqb, ne_eqb}
use Rattle.service_levels.specs.Returned.{readable}
use Rattle.service_levels.proofs.meshes.readable.Goals as goal

pub returns-then-grid-ne20000 : goal.returns-then-grid-ne20000
unfolding readable
returns-then-grid-ne20000 c = simp (ne_eqb _ _ c.if-grid-ne20000.true)

pub returns-then-not-has_no_level_15 : goal.returns-then-not-has_no_level_15
unfolding readable
returns-then-not-has_no_level_15 c =
    simp (eq-eqb _ _ c.if-grid-ne20000.false, sym c.has_no_level_15.ensures ∙ c.if-not-has_no_level_15.true)

pub returns : goal.returns
unfolding readable
returns c = simp (eq-eqb _ _ c.if-grid-ne20000.false, sym c.has_no_level_15.ensures ∙ c.if-not-has_no_level_15.false)
