-- The order of overlaying (Request 110): grids laid over one another by overlay calls, in any order and any grouping. The
-- claim, OverlayClaim, stands at the end; theorem `overlay_claim`, proofs/Theorem. Assumes nothing.
use Rattle.std.specs.Prelude.{◌≡◌, ◌≢◌, ◌⊎◌, ◌↔◌, ℕ, ◌≤◌, max, Bool, true, false, cond, ◌&&◌}
use mathlib.Core.List.{List, [], ◌∷◌, ◌++◌, map, Memᴰ, Perm}
use Rattle.text.specs.Part.{grid_length, zeros}
use Rattle.service_levels.specs.Meshes.{meshes, level_of, is_grid, has_no_level_15, done, refused}
use Rattle.service_overlay_spec.specs.Overlay.{OverlayOutcome, overlaid}

-- ---- Grids

-- An intensity grid without level 15. Request 110; Notice 49, 5(3)(3-1)
abbrev pub is_grid_without_level15 : List ℕ → Bool
is_grid_without_level15 grid = is_grid grid && has_no_level_15 grid

-- The all-zero grid. Request 110
abbrev pub zero_grid : List ℕ
zero_grid = zeros grid_length

infix 40 ◌∈◌
-- x is one of these
abbrev pub ◌∈◌ : {A : Type 0} → A → List A → Type 0
x ∈ xs = Memᴰ x xs

-- Each of these is an intensity grid without level 15. Request 110
abbrev pub AllWithoutLevel15 : List (List ℕ) → Type 0
AllWithoutLevel15 grids = (grid : List ℕ) → grid ∈ grids → is_grid_without_level15 grid ≡ true

-- Each of these has 20,000 bytes, whatever they are. Request 110
abbrev pub AllRightLength : List (List ℕ) → Type 0
AllRightLength grids = (grid : List ℕ) → grid ∈ grids → is_grid grid ≡ true

-- The highest level that a mesh has in any of these grids. Request 110; Notice 49, 4(1)(1-1)(d)(ウ)
unfoldable pub highest_level : List (List ℕ) → ℕ → ℕ
highest_level [] mesh = 0
highest_level (grid ∷ grids) mesh = max (level_of grid mesh) (highest_level grids mesh)

-- A grid has the highest level of these grids in every mesh. Request 110
abbrev pub HighestOf : List (List ℕ) → List ℕ → Type 0
HighestOf grids grid = (mesh : ℕ) → 1 ≤ mesh → mesh ≤ meshes → level_of grid mesh ≡ highest_level grids mesh

-- ---- Trees of calls

-- An overlay call: the two grids that it reads, and what the third holds before it. Request 110
pub record OverlayCall : Type 0 where
  pub first : List ℕ
  pub second : List ℕ
  pub third : List ℕ

-- the call on these grids. Request 110
abbrev pub call_on : List ℕ → List ℕ → List ℕ → OverlayCall
call_on first second third = record { first = first; second = second; third = third }

-- A call's answer, and the third grid after it. Request 110
abbrev pub outcome : OverlayCall → OverlayOutcome
outcome c = overlaid c.first c.second c.third

-- It is taken, and leaves an intensity grid without level 15, so that another call can follow. Request 110
abbrev pub TakenAndWithoutLevel15 : OverlayOutcome → Type 0
TakenAndWithoutLevel15 o = (o.answer ≡ done) × (is_grid_without_level15 o.grid ≡ true)

-- It is refused with this number, and leaves its third grid as it was. Request 110
abbrev pub RefusedWith : ℕ → OverlayCall → Type 0
RefusedWith n c = outcome c ≡ record { answer = refused n; grid = c.third }

-- A tree of overlay calls. Its leaves are grids as they arrived; a fork is a call, which lays what its two branches left
-- over each other into a third grid, of which the fork tells what it held before. Nobody writes a grid between its arrival,
-- or the call that left it, and the call that reads it. Request 110
pub data CallTree : Type 0 where
  arrived : List ℕ → CallTree
  laid : CallTree → CallTree → List ℕ → CallTree

-- The grid that a tree leaves: that which arrived, or the third grid after the call, taken or refused. Request 110
unfoldable pub grid_left : CallTree → List ℕ
grid_left (arrived grid) = grid
grid_left (laid t u third) = (outcome (call_on (grid_left t) (grid_left u) third)).grid

-- Its calls, in an order in which they can be made: each gets what those beneath it left. Request 110
unfoldable pub calls_of : CallTree → List OverlayCall
calls_of (arrived grid) = []
calls_of (laid t u third) = calls_of t ++ (calls_of u ++ (call_on (grid_left t) (grid_left u) third ∷ []))

-- The grids that it lays over one another, from left to right. Request 110
unfoldable pub grids_of : CallTree → List (List ℕ)
grids_of (arrived grid) = grid ∷ []
grids_of (laid t u third) = grids_of t ++ grids_of u

-- What its third grids held before. Request 110
unfoldable pub thirds_of : CallTree → List (List ℕ)
thirds_of (arrived grid) = []
thirds_of (laid t u third) = thirds_of t ++ (thirds_of u ++ (third ∷ []))

-- ---- Order and grouping make no difference

-- The same grids in whatever order, each at least once on both sides, all-zero grids aside. Request 110
pub record SameGrids (grids others : List (List ℕ)) : Type 0 where
  pub there : (grid : List ℕ) → grid ∈ grids → (grid ∈ others) ⊎ (grid ≡ zero_grid)
  pub back : (grid : List ℕ) → grid ∈ others → (grid ∈ grids) ⊎ (grid ≡ zero_grid)

-- What a tree comes to whose grids are intensity grids without level 15 and whose third grids have 20,000 bytes.
-- Request 110
pub record OrderOfOverlaying (t : CallTree) : Type 0 where
  -- Each call is taken, and leaves such a grid again; so does the tree
  pub taken : (c : OverlayCall) → c ∈ calls_of t → TakenAndWithoutLevel15 (outcome c)
  pub without_level15 : is_grid_without_level15 (grid_left t) ≡ true
  -- Mesh by mesh, it leaves the highest level of all its grids
  pub highest : HighestOf (grids_of t) (grid_left t)
  -- Every tree that lays the same grids, each at least once, in any order and with any grouping leaves the same grid;
  -- all-zero grids may be laid besides, or left out
  pub same_grids : (u : CallTree) → AllRightLength (thirds_of u) → SameGrids (grids_of t) (grids_of u) → grid_left t ≡ grid_left u
  -- a case of it: the same grids in another order, any permutation
  pub any_order : (u : CallTree) → AllRightLength (thirds_of u) → Perm (grids_of t) (grids_of u) → grid_left t ≡ grid_left u

-- ---- In the order of arrival

-- A grid that arrives, and what the third grid that it is laid into held before. Request 110
pub record Arrival : Type 0 where
  pub grid : List ℕ
  pub third : List ℕ

-- What has been laid so far is laid over each grid that arrives, as regional rooms do with up to twenty. Request 110
unfoldable pub in_order_of_arrival : CallTree → List Arrival → CallTree
in_order_of_arrival t [] = t
in_order_of_arrival t (next ∷ later) = in_order_of_arrival (laid t (arrived next.grid) next.third) later

-- A first grid, and those that arrive after it. Request 110
abbrev pub grids_arrived : List ℕ → List Arrival → List (List ℕ)
grids_arrived first later = first ∷ map (λ next. next.grid) later

-- What the third grids held before that they are laid into. Request 110
abbrev pub thirds_lent : List Arrival → List (List ℕ)
thirds_lent later = map (λ next. next.third) later

-- What grids laid in the order of arrival come to. Request 110
pub record OrderOfArrival (first : List ℕ) (later : List Arrival) : Type 0 where
  -- They make a tree over these grids and third grids, and all that is said of trees is said of it
  pub grids : grids_of (in_order_of_arrival (arrived first) later) ≡ grids_arrived first later
  pub thirds : thirds_of (in_order_of_arrival (arrived first) later) ≡ thirds_lent later
  -- so, of intensity grids without level 15: they leave the highest, and the same in whatever order they arrive
  pub highest : AllWithoutLevel15 (grids_arrived first later) → AllRightLength (thirds_lent later)
      → HighestOf (grids_arrived first later) (grid_left (in_order_of_arrival (arrived first) later))
  pub any_order : AllWithoutLevel15 (grids_arrived first later) → AllRightLength (thirds_lent later)
      → (other : List ℕ) (others : List Arrival) → AllRightLength (thirds_lent others) → Perm (grids_arrived first later) (grids_arrived other others)
      → grid_left (in_order_of_arrival (arrived first) later) ≡ grid_left (in_order_of_arrival (arrived other) others)

-- ---- Grids that cannot be laid: of a wrong length, or with a level 15

-- A call reads this grid. Request 110
abbrev pub Reads : List ℕ → OverlayCall → Type 0
Reads grid c = (c.first ≡ grid) ⊎ (c.second ≡ grid)

-- All three grids of a call have 20,000 bytes. Request 110
abbrev pub lengths_right : OverlayCall → Bool
lengths_right c = is_grid c.first && is_grid c.second && is_grid c.third

-- The tree has a call of this sort, and of each such call of the tree this holds. Request 110
abbrev pub SomeAndEachCall : CallTree → (OverlayCall → Type 0) → (OverlayCall → Type 0) → Type 0
SomeAndEachCall t Which Holds = ((c : OverlayCall) × (c ∈ calls_of t) × Which c) × ((c : OverlayCall) → c ∈ calls_of t → Which c → Holds c)

-- What becomes of a tree of one call or more where a grid cannot be laid: whoever looks at each answer sees it.
-- Request 110
pub record RefusedCalls (t : CallTree) : Type 0 where
  -- A grid of a wrong length: each call that reads it is refused with 42
  pub wrong_length : (grid : List ℕ) → grid ∈ grids_of t → is_grid grid ≡ false → SomeAndEachCall t (Reads grid) (RefusedWith 42)
  -- A grid with level 15: each call that reads it is refused with 43, or with 42 where one of its own lengths is wrong;
  -- so with 43 where all lengths in the tree are right
  pub level15 : (grid : List ℕ) → grid ∈ grids_of t → has_no_level_15 grid ≡ false
      → SomeAndEachCall t (Reads grid) (λ c. RefusedWith (cond (lengths_right c) 43 42) c)
  pub only43 : AllRightLength (grids_of t) → AllRightLength (thirds_of t)
      → (grid : List ℕ) → grid ∈ grids_of t → has_no_level_15 grid ≡ false → SomeAndEachCall t (Reads grid) (RefusedWith 43)
  -- A third grid of a wrong length: each call into it is refused with 42
  pub wrong_third : (third : List ℕ) → third ∈ thirds_of t → is_grid third ≡ false → SomeAndEachCall t (λ c. c.third ≡ third) (RefusedWith 42)
  -- So every call is done exactly where all grids can be laid, and all third grids have their length
  pub exactly : ((c : OverlayCall) → c ∈ calls_of t → (outcome c).answer ≡ done) ↔ (AllWithoutLevel15 (grids_of t) × AllRightLength (thirds_of t))

-- ---- Two and three grids

-- The laws that the request names, of calls on intensity grids without level 15 (a, b, c) into third grids of 20,000
-- bytes. Request 110
pub record OverlayLaws : Type 0 where
  -- a over b is b over a
  pub order : (a b x y : List ℕ) → AllWithoutLevel15 (a ∷ b ∷ []) → AllRightLength (x ∷ y ∷ [])
      → TakenAndWithoutLevel15 (overlaid a b x) × (overlaid a b x ≡ overlaid b a y)
  -- Grouping makes no difference
  pub grouping : (a b c w x y z : List ℕ) → AllWithoutLevel15 (a ∷ b ∷ c ∷ []) → AllRightLength (w ∷ x ∷ y ∷ z ∷ [])
      → TakenAndWithoutLevel15 (overlaid a b w) × TakenAndWithoutLevel15 (overlaid (overlaid a b w).grid c x) × TakenAndWithoutLevel15 (overlaid b c y)
      × (overlaid (overlaid a b w).grid c x ≡ overlaid a (overlaid b c y).grid z)
  -- A grid over itself is that grid
  pub itself : (a third : List ℕ) → is_grid_without_level15 a ≡ true → is_grid third ≡ true → overlaid a a third ≡ record { answer = done; grid = a }
  -- The all-zero grid changes nothing, on either side
  pub over_zero : (a third : List ℕ) → is_grid_without_level15 a ≡ true → is_grid third ≡ true → overlaid a zero_grid third ≡ record { answer = done; grid = a }
  pub zero_over : (a third : List ℕ) → is_grid_without_level15 a ≡ true → is_grid third ≡ true → overlaid zero_grid a third ≡ record { answer = done; grid = a }

-- ---- The claim

-- The order of overlaying, entire: of any number of grids, in any tree of calls. Request 110
pub record OverlayClaim : Type 0 where
  -- Order and grouping make no difference, for all intensity grids without level 15
  pub order : (t : CallTree) → AllWithoutLevel15 (grids_of t) → AllRightLength (thirds_of t) → OrderOfOverlaying t
  -- So it is in the order of arrival
  pub arrival : (first : List ℕ) (later : List Arrival) → OrderOfArrival first later
  -- The cases of two and three grids
  pub laws : OverlayLaws
  -- Where a grid cannot be laid, calls are refused; for every tree of one call or more
  pub refusal : (t : CallTree) → calls_of t ≢ [] → RefusedCalls t
