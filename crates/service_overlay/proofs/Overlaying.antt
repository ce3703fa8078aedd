-- Two grids laid over each other, byte by byte into a third, and the tests of three lengths. Assumes nothing.
use mathlib.Core.Path.{◌≡◌, refl, sym, ap, ◌∙◌}
use mathlib.Core.Bool.{Bool, true, false, not, ◌&&◌, ◌||◌}
use mathlib.Core.List.{List, ◌++◌, append-nil}
use Prim.Native.Nat.{ℕ, ◌+◌, ◌≤◌, ◌<◌}
use native.Mathlib.Nat.{zero-add}
use native.Mathlib.Omega.{arith}
use lib.ListN.{length, set, take, drop}
use lib.Seq.{sets, sets-eq, take_all, drop-length}
use Rattle.general_laws.specs.Bytes.{◌!◌}
use Rattle.general_laws.proofs.Lists.{sets_on}
use Rattle.service_levels.specs.Meshes.{is_grid}
use Rattle.service_overlay_spec.specs.Overlay.{higher_byte, higher}
use Rattle.service_overlay_spec.proofs.Laws.{length_higher, higher_at}

-- put into a third: the bytes so far, and all of them
module _ (a b c : List ℕ) (p : length a ≡ length c) (q : length b ≡ length c) where
  pub overlay_on : (i : ℕ) → i < length c
      → set (sets c 0 (take i (higher a b))) i (higher_byte (a ! i) (b ! i)) ≡ sets c 0 (take (i + 1) (higher a b))
  overlay_on i h =
      let l : i < length (higher a b) = omega (arith, length_higher a b (p ∙ sym q)) in
      rw (← higher_at a b i (omega arith) (omega arith))
      (ap (λ k. set (sets c 0 (take i (higher a b))) k (higher a b ! i)) (sym (zero-add i)) ∙ sets_on (higher a b) i l c 0)

  pub overlay_all : (i : ℕ) → length c ≤ i → sets c 0 (take i (higher a b)) ≡ higher a b
  overlay_all i h =
      let l : length (higher a b) ≡ length c = length_higher a b (p ∙ sym q) ∙ p in
      ap (sets c 0) (take_all i (higher a b) (omega arith))
      ∙ sets-eq (higher a b) c 0 (omega arith)
      ∙ ap (λ k. higher a b ++ drop k c) (zero-add (length (higher a b)) ∙ l)
      ∙ ap (λ k. higher a b ++ k) (drop-length c)
      ∙ append-nil (higher a b)

-- three grids, by the tests of the code
pub no_grids : (a b c : List ℕ) → not (is_grid a && is_grid b && is_grid c) ≡ ((not (is_grid a) || not (is_grid b)) || not (is_grid c))
no_grids a b c = not_all (is_grid a) (is_grid b) (is_grid c)
  where
    not_all : (x y z : Bool) → not (x && y && z) ≡ ((not x || not y) || not z)
    not_all false y z = refl
    not_all true false z = refl
    not_all true true z = refl
