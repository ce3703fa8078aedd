-- A grid whose levels can be read, and one whose levels cannot. Assumes nothing.
use mathlib.Core.Path.{◌≡◌}
use mathlib.Core.Bool.{true, not, cond}
use mathlib.Core.List.{List}
use Prim.Native.Nat.{ℕ}
use Rattle.std.specs.Prelude.{Ok, Err}
use Rattle.refusals.specs.declared.refusal.Refusal.{Refusal}
use Rattle.refusals.specs.Rows.{row_of}
use Rattle.general_laws.proofs.Tests.{by_test}
use Rattle.service_levels.specs.Meshes.{ServiceAnswer, refused, is_grid, has_no_level_15}
use Rattle.service_levels.specs.Returned.{readable}

pub read : (grid : List ℕ) {u : Unit {0}} → Ok u ≡ readable grid → (is_grid grid ≡ true) × (has_no_level_15 grid ≡ true)
unfolding readable
read grid h =
    by_test (is_grid grid)
    (λ p. by_test (has_no_level_15 grid) (λ q. (p, q)) (λ q. let h' = rw (p, q) at h in cc))
    (λ p. let h' = rw p at h in cc)

pub unread : (grid : List ℕ) {refusal : Refusal} (read : ServiceAnswer) → Err refusal ≡ readable grid
    → refused (row_of refusal) ≡ cond (not (is_grid grid)) (refused 42) (cond (not (has_no_level_15 grid)) (refused 43) read)
unfolding readable
unread grid read h =
    by_test (is_grid grid)
    (λ p. by_test (has_no_level_15 grid) (λ q. let h' = rw (p, q) at h in cc) (λ q. let h' = rw (p, q) at h in rw (p, q) cc))
    (λ p. let h' = rw p at h in rw p cc)
