-- A caller's tree of overlay calls of the code, by the contract of overlay alone, and what it comes to (Request 110). src/
-- shows by a call that this is the contract. The theorem is `code_order_of_overlaying`: `CodeOrder` holds of every such
-- tree. Assumes nothing.
use Rattle.std.specs.Prelude.{◌≡◌, ◌≢◌, ◌⊎◌, false, ℕ, Result}
use mathlib.Core.List.{List, [], ◌∷◌, ◌++◌, map, Perm}
use Rattle.refusals.specs.declared.refusal.Refusal.{Refusal}
use Rattle.service_levels.specs.Meshes.{done}
use Rattle.service_overlay_spec.specs.Overlay.{OverlayOutcome, overlaid}
use Rattle.service_overlay_spec.specs.Order.{is_grid_without_level15, ◌∈◌, AllWithoutLevel15, AllRightLength, HighestOf, OverlayCall, outcome, RefusedWith, CallTree, arrived, laid, grid_left, calls_of, grids_of, thirds_of, SameGrids}
use Rattle.service_overlay.specs.Returned.{outcome_of}

-- The contract of overlay: what a call returned, and the third grid at its exit. Request 110
abbrev pub EnsuredOverlay : List ℕ → List ℕ → List ℕ → Result Unit Refusal → List ℕ → Type 0
EnsuredOverlay first second third r exit = outcome_of r exit ≡ overlaid first second third

-- A caller's tree of calls: the grid that it left, and what each call returned and left. A call is lent the two grids that
-- its branches left, which nobody has written since, and a third. Request 110
pub data Called : CallTree → List ℕ → List OverlayOutcome → Type 0 where
  as_arrived : (grid : List ℕ) → Called (arrived grid) grid []
  as_laid : {t u : CallTree} {first second : List ℕ} {made others : List OverlayOutcome} → Called t first made → Called u second others
      → (third : List ℕ) (r : Result Unit Refusal) (exit : List ℕ) → EnsuredOverlay first second third r exit
      → Called (laid t u third) exit (made ++ (others ++ (outcome_of r exit ∷ [])))

-- Every call was done. Request 110
abbrev pub AllDone : List OverlayOutcome → Type 0
AllDone made = (o : OverlayOutcome) → o ∈ made → o.answer ≡ done

-- What it comes to. Request 110
pub record CodeOrder (t : CallTree) (grid : List ℕ) (made : List OverlayOutcome) : Type 0 where
  -- It left the definition's grid, and each call returned and left what the definition's does: so what OverlayClaim says
  -- of t is said of it
  pub left : grid ≡ grid_left t
  pub outcomes : made ≡ map outcome (calls_of t)
  -- Over intensity grids without level 15, into third grids of 20,000 bytes, every call was done, and every caller's tree
  -- over the same grids in another order, any permutation, and with any grouping left the same grid
  pub any_order : AllWithoutLevel15 (grids_of t) → AllRightLength (thirds_of t)
      → {u : CallTree} {other : List ℕ} {others : List OverlayOutcome} → Called u other others → AllRightLength (thirds_of u) → Perm (grids_of t) (grids_of u)
      → AllDone made × (grid ≡ other)
  -- The answers tell: told done by every call, a caller holds the highest levels of the grids; two who laid the same grids,
  -- in whatever order and grouping, hold the same grid; and one who made a call laid such grids into such third grids
  pub highest : AllDone made → HighestOf (grids_of t) grid
  pub same : AllDone made → {u : CallTree} {other : List ℕ} {others : List OverlayOutcome} → Called u other others → AllDone others
      → SameGrids (grids_of t) (grids_of u) → grid ≡ other
  pub right_grids : made ≢ [] → AllDone made → AllWithoutLevel15 (grids_of t) × AllRightLength (thirds_of t)
  -- Where a grid has a wrong length or a level 15, some call was refused with 42 or 43, and left its third grid
  pub refusal : made ≢ [] → (wrong : List ℕ) → wrong ∈ grids_of t → is_grid_without_level15 wrong ≡ false
      → (c : OverlayCall) × (c ∈ calls_of t) × (outcome c ∈ made) × (RefusedWith 42 c ⊎ RefusedWith 43 c)
