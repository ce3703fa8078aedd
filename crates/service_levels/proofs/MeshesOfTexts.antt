-- Whose level a mesh has: data text k has meshes 4,000 × (k − 1) + 1 to 4,000 × k, two in each byte of its payload, the odd number in
-- the high four bits. Assumes nothing.
use mathlib.Core.Path.{◌≡◌, ap, ◌∙◌}
use mathlib.Core.Bool.{true}
use mathlib.Core.List.{List, ◌∷◌, ◌++◌}
use Prim.Native.Nat.{ℕ, suc, ◌+◌, ◌*◌, ◌-◌, ◌<◌}
use native.Mathlib.Omega.{arith}
use lib.ListN.{length}
use Rattle.general_laws.specs.Bytes.{◌!◌}
use Rattle.text.specs.Kinds.{data_block_length}
use Rattle.text.specs.DataBlock.{odd_level, even_level, odd_mesh, even_mesh, payload_of}
use Rattle.text.specs.Part.{Part, start_part, is_part, grid_of}
use Rattle.text_laws.proofs.Parts.{grid_place}
use Rattle.service_levels.specs.Meshes.{level_of}
use Rattle.service_levels.proofs.Counting.{odd, even}

-- by its place in the grid
module _ (grid : List ℕ) (k i : ℕ) where
  odd_level_lem : level_of grid (odd_mesh (suc k) i) ≡ odd_level (grid ! (2000 * k + i))
  unfolding odd_mesh
  odd_level_lem =
      let here : 4000 * (suc k - 1) + (2 * i + 1) ≡ suc (2 * (2000 * k + i)) = omega arith in
      ap (level_of grid) here ∙ odd grid (2000 * k + i)

  even_level_lem : level_of grid (even_mesh (suc k) i) ≡ even_level (grid ! (2000 * k + i))
  unfolding even_mesh
  even_level_lem =
      let here : 4000 * (suc k - 1) + (2 * i + 2) ≡ suc (suc (2 * (2000 * k + i))) = omega arith in
      ap (level_of grid) here ∙ even grid (2000 * k + i)

-- by the intensity part's data text and the byte of its payload
pub text_levels : (p : Part) → is_part p ≡ true → start_part p.start ≡ 1
    → (earlier : List (List ℕ)) (block : List ℕ) (later : List (List ℕ)) → p.datas ≡ earlier ++ (block ∷ later) → (i : ℕ) → i < 2000
    → let k = suc (length earlier) in
    (level_of (grid_of p) (odd_mesh k i) ≡ odd_level (payload_of block ! i)) × (level_of (grid_of p) (even_mesh k i) ≡ even_level (payload_of block ! i))
unfolding data_block_length
text_levels p h one earlier block later e i small =
    let long : data_block_length (start_part p.start) ≡ 2003 = ap data_block_length one in
    let place : 2000 * length earlier + i ≡ length earlier * (data_block_length (start_part p.start) - 3) + i = rw long (omega arith) in
    let here : grid_of p ! (2000 * length earlier + i) ≡ payload_of block ! i =
    ap (λ j. grid_of p ! j) place ∙ grid_place p h earlier block later e i (rw long small) in
    (odd_level_lem (grid_of p) (length earlier) i ∙ ap odd_level here, even_level_lem (grid_of p) (length earlier) i ∙ ap even_level here)
