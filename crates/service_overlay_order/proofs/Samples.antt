-- Three grids laid over one another in three ways, a grid over itself and the all-zero one, and trees in which a grid cannot be laid,
-- computed by the checker (Request 110). Assumes nothing.
use mathlib.Core.Path.{◌≡◌, refl}
use mathlib.Core.List.{List, [], ◌∷◌, ◌++◌, map}
use Prim.Native.Nat.{ℕ}
use lib.ListN.{replicate}
use Rattle.general_laws.specs.Bytes.{every}
use Rattle.text.specs.DataBlock.{odd_level, even_level, is_intensity_byte}
use Rattle.text.specs.Part.{zeros}
use Rattle.service_levels.specs.Meshes.{ServiceAnswer, done, refused}
use Rattle.service_overlay_spec.specs.Overlay.{higher_byte, higher, overlaid}
use Rattle.service_overlay_spec.specs.Order.{zero_grid, outcome, CallTree, arrived, laid, grid_left, calls_of, in_order_of_arrival}

-- levels 1 and 14, then 3 and 0; 4 and 2; 0 and 0, then 14 and 1; mesh by mesh the highest of the three
pub a : List ℕ
a = replicate 10000 0x1E ++ replicate 10000 0x30

pub b : List ℕ
b = replicate 20000 0x42

pub c : List ℕ
c = replicate 5000 0x00 ++ replicate 15000 0xE1

pub highest : List ℕ
highest = replicate 5000 0x4E ++ (replicate 5000 0xEE ++ replicate 10000 0xE2)

-- what third grids held before: level 15 in every mesh, which is not read, and an older picture
pub full : List ℕ
full = replicate 20000 0xFF

pub older : List ℕ
older = replicate 20000 0x77

-- grids that cannot be laid: level 15 in the last odd mesh; a byte too few
pub with15 : List ℕ
with15 = replicate 19999 0x00 ++ (0xF0 ∷ [])

pub short : List ℕ
short = replicate 19999 0x00

-- x over y, and that over z; x over what y over z leaves
pub in_order : List ℕ → List ℕ → List ℕ → CallTree
in_order x y z = in_order_of_arrival (arrived x) (record { grid = y; third = full } ∷ record { grid = z; third = older } ∷ [])

pub last_two_first : List ℕ → List ℕ → List ℕ → CallTree
last_two_first x y z = laid (arrived x) (laid (arrived y) (arrived z) older) full

pub answers : CallTree → List ServiceAnswer
answers t = map (λ call. (outcome call).answer) (calls_of t)

pub record OverlaySamples : Type 0 where
  pub abc : grid_left (in_order a b c) ≡ highest
  pub cab : grid_left (in_order c a b) ≡ highest
  pub b_ca : grid_left (last_two_first b c a) ≡ highest
  pub taken : answers (last_two_first b c a) ≡ done ∷ done ∷ []
  pub itself : overlaid a a full ≡ record { answer = done; grid = a }
  pub over_zero : overlaid a zero_grid full ≡ record { answer = done; grid = a }
  pub zero_over : overlaid zero_grid a full ≡ record { answer = done; grid = a }
  -- the call that reads the grid is refused, and leaves its third; the call above it is taken, and lays the older picture
  pub level_15 : answers (last_two_first a with15 c) ≡ refused 43 ∷ done ∷ []
  pub level_15_left : grid_left (last_two_first a with15 c) ≡ replicate 10000 0x7E ++ replicate 10000 0x77
  pub too_short : answers (last_two_first a short c) ≡ refused 42 ∷ done ∷ []
  pub third_too_short : overlaid a b short ≡ record { answer = refused 42; grid = short }

pub overlay_samples : OverlaySamples
unfolding a b c highest full older with15 short in_order last_two_first answers zeros grid_left calls_of in_order_of_arrival overlaid higher higher_byte every is_intensity_byte odd_level even_level
overlay_samples =
    record {
      abc = refl;
      cab = refl;
      b_ca = refl;
      taken = refl;
      itself = refl;
      over_zero = refl;
      zero_over = refl;
      level_15 = refl;
      level_15_left = refl;
      too_short = refl;
      third_too_short = refl;
    }
