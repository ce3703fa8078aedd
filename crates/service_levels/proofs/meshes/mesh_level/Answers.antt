-- The refusals in their order; then the half of the byte in which the mesh stands. Assumes nothing.
use mathlib.Core.Path.{◌∙◌}
use native.Mathlib.Omega.{arith}
use borrow.Author.Tests.{eq-eqb, ne_eqb, eqb-true}
use Rattle.std.proofs.lemmas.Result.{err_from_is_err_and}
use Rattle.text.specs.DataBlock.{odd_level, even_level}
use Rattle.service_levels.specs.Meshes.{level_of, mesh_level}
use Rattle.service_levels.specs.Returned.{answer_of}
use Rattle.service_levels.proofs.Counting.{no_mesh, mesh_in}
use Rattle.service_levels.proofs.Reading.{read, unread}
use Rattle.service_levels.proofs.meshes.mesh_level.Goals as goal

pub returns-in_err-readable : goal.returns-in_err-readable
unfolding answer_of mesh_level
returns-in_err-readable c =
    let p = err_from_is_err_and c.from_residual.result c.from_residual.ensures.1 in
    rw (p.1, p.2) (unread c.args.grid.now _ c.in_err-readable.ensures)

pub returns-then-mesh : goal.returns-then-mesh
unfolding answer_of mesh_level
returns-then-mesh c = simp ((read _ c.in_ok-readable.ensures).0, (read _ c.in_ok-readable.ensures).1, no_mesh c.args.mesh ∙ c.if-mesh.true)

pub bounds-grid-mesh : goal.bounds-grid-mesh
bounds-grid-mesh c = omega (arith, mesh_in c.args.mesh c.if-mesh.false, eqb-true _ _ (read c.args.grid.now c.in_ok-readable.ensures).0)

pub returns-then-mesh-eq1 : goal.returns-then-mesh-eq1
unfolding answer_of mesh_level level_of odd_level
returns-then-mesh-eq1 c =
    simp ((read _ c.in_ok-readable.ensures).0, (read _ c.in_ok-readable.ensures).1, no_mesh c.args.mesh ∙ c.if-mesh.false, eq-eqb _ _ c.if-mesh-eq1.true)

pub returns : goal.returns
unfolding answer_of mesh_level level_of even_level
returns c =
    simp ((read _ c.in_ok-readable.ensures).0, (read _ c.in_ok-readable.ensures).1, no_mesh c.args.mesh ∙ c.if-mesh.false, ne_eqb _ _ c.if-mesh-eq1.false)
