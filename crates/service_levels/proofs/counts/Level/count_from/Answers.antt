-- Level 0; above it the meshes of the stretches so far are counted. Assumes nothing.
use mathlib.Core.Path.{◌≡◌, refl, sym, ap, ◌∙◌}
use mathlib.Core.List.{List, []}
use Prim.Native.Nat.{ℕ, ◌+◌, ◌*◌, ◌/◌, ◌<◌}
use native.Mathlib.Omega.{arith}
use lib.ListN.{length, get_or}
use Rattle.std.specs.Simd.{first_chunks}
use Rattle.service_levels.specs.Meshes.{count_to, meshes}
use Rattle.service_levels.proofs.Counting.{all_at_0, length_chunks, stretch_on, count_most}
use Rattle.service_levels.proofs.counts.Level.count_from.Goals as goal

pub loop-stretch-init : goal.loop-stretch-init
unfolding count_to
loop-stretch-init c = refl

pub returns-then-self-eq0 : goal.returns-then-self-eq0
returns-then-self-eq0 c =
    let grid = c.args.grid.now in
    sym (ap (λ level. count_to grid level meshes) c.if-self-eq0.true ∙ all_at_0 grid meshes)

-- the stretch that a turn counts: those before it and it are counted
module _ (grid : List ℕ) (level k n : ℕ) {stretches : List (List ℕ)} (e : stretches ≡ first_chunks 160 (length grid / 160) grid) (l : k < length stretches) where
  counted :
      n ≡ count_to (get_or stretches k []) level (2 * length (get_or stretches k []))
      → count_to grid level (2 * (160 * k)) + n ≡ count_to grid level (2 * (160 * (k + 1)))
  counted f =
      let small : k < length grid / 160 = omega (arith, ap length e, length_chunks 160 (length grid / 160) grid) in
      ap (λ m. count_to grid level (2 * (160 * k)) + m) (f ∙ ap (λ s. count_to (get_or s k []) level (2 * length (get_or s k []))) e)
      ∙ stretch_on 160 (length grid / 160) k grid [] level small (omega arith)

pub overflow_add-count : goal.overflow_add-count
overflow_add-count c =
    let grid = c.args.grid.now in
    let level = c.args.self.number in
    let k = c.loop-stretch.stretch-index in
    let on = counted grid level k _ c.as_chunks.ensures.front c.loop-stretch-test.true c.count_past_dry-count.ensures in
    omega (arith, on, c.loop-stretch.invariant, count_most grid level (2 * (160 * (k + 1))), c.requires, c.as_chunks.ensures.front_len)

pub loop-stretch-preserved : goal.loop-stretch-preserved
loop-stretch-preserved c =
    rw c.loop-stretch.invariant
    (counted c.args.grid.now c.args.self.number c.loop-stretch.stretch-index _ c.as_chunks.ensures.front c.loop-stretch-test.true c.count_past_dry-count.ensures)
