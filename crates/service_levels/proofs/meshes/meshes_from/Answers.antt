-- The refusals in their order; then the count. Assumes nothing.
use mathlib.Core.Path.{ap, ◌∙◌}
use native.Mathlib.Omega.{arith}
use borrow.Author.Tests.{eqb-true, le-leb, lt-leb}
use Rattle.std.proofs.lemmas.Result.{err_from_is_err_and}
use Rattle.service_levels.specs.Meshes.{value, count_to, meshes, meshes_from}
use Rattle.service_levels.specs.Returned.{answer_of}
use Rattle.service_levels.proofs.Reading.{read, unread}
use Rattle.service_levels.proofs.meshes.meshes_from.Goals as goal

pub returns-in_err-readable : goal.returns-in_err-readable
unfolding answer_of meshes_from
returns-in_err-readable c =
    let p = err_from_is_err_and c.from_residual.result c.from_residual.ensures.1 in
    rw (p.1, p.2) (unread c.args.grid.now _ c.in_err-readable.ensures)

pub returns-in_err-level : goal.returns-in_err-level
unfolding answer_of meshes_from
returns-in_err-level c =
    let p = err_from_is_err_and c.from_residual-in_err-level.result c.from_residual-in_err-level.ensures.1 in
    let (is_grid, allowed) = read _ c.in_ok-readable.ensures in
    let (above, refusal) = c.in_err-level.ensures in
    rw (p.1, p.2, refusal) (simp (is_grid, allowed, lt-leb c.args.level 14 (omega arith)))

pub count_from-requires : goal.count_from-requires
count_from-requires c = eqb-true _ _ (read c.args.grid.now c.in_ok-readable.ensures).0

pub returns : goal.returns
unfolding answer_of meshes_from
returns c =
    let (is_grid, allowed) = read _ c.in_ok-readable.ensures in
    let level = c.in_ok-level.ensures in
    simp (is_grid, allowed, le-leb c.args.level 14 (omega (arith, level, c.in_ok-level.level.in_range)))
    (ap value (c.count_from.ensures ∙ ap (λ level. count_to c.args.grid.now level meshes) level))
