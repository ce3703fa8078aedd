-- Level 14 is the last; below it, those at or above the next level are taken off. Assumes nothing.
use mathlib.Core.Path.{ap, ◌∙◌}
use Rattle.std.proofs.lemmas.Result.{err_from_is_err_and}
use Rattle.service_levels.specs.Meshes.{value}
use Rattle.service_levels.specs.Returned.{answer_of}
use Rattle.decode.proofs.AtLevel.{at_top, refused_here, refused_next, less}
use Rattle.decode.proofs.counts.meshes_at.Goals as goal

pub returns-in_err-from : goal.returns-in_err-from
unfolding answer_of
returns-in_err-from c =
    let p = err_from_is_err_and c.from_residual.result c.from_residual.ensures.1 in
    rw (p.1, p.2) (refused_here c.args.grid.now c.args.level _ c.in_err-from.ensures)

pub returns-then-level-ge14 : goal.returns-then-level-ge14
unfolding answer_of
returns-then-level-ge14 c = c.in_ok-from.ensures ∙ at_top c.args.grid.now c.args.level c.if-level-ge14.true

pub returns-in_err-above : goal.returns-in_err-above
unfolding answer_of
returns-in_err-above c =
    let p = err_from_is_err_and c.from_residual-in_err-above.result c.from_residual-in_err-above.ensures.1 in
    rw (p.1, p.2) (refused_next c.args.grid.now c.args.level _ c.if-level-ge14.false c.in_err-above.ensures)

pub returns : goal.returns
unfolding answer_of
returns c = ap value c.saturating_sub.ensures ∙ less c.args.grid.now c.args.level _ _ c.in_ok-from.ensures c.in_ok-above.ensures
