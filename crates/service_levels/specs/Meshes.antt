-- Levels of an intensity grid, mesh by mesh, and what the services say of them: 01's section "Services". Assumes
-- nothing.
use Rattle.std.specs.Prelude.{ℕ, zero, suc, ◌+◌, ◌-◌, ◌/◌, ◌%◌, Bool, cond, not, ◌&&◌, List, eqb, leb, length}
use Rattle.general_laws.specs.Bytes.{◌!◌, every}
use Rattle.text.specs.DataBlock.{odd_level, even_level, is_intensity_byte}
use Rattle.text.specs.Part.{grid_length}

-- 40,000 meshes, numbered from 1
abbrev pub meshes : ℕ
meshes = 40000

-- The level of a mesh: two meshes a byte, the odd number in the high four bits. Notice 49, 4(1)(1-1)(d)(ウ)
unfoldable pub level_of : List ℕ → ℕ → ℕ
level_of grid mesh = cond (eqb (mesh % 2) 1) (odd_level (grid ! ((mesh - 1) / 2))) (even_level (grid ! ((mesh - 1) / 2)))

-- how many of the first n meshes are at or above a level. Notice 49, 5(3)(3-1)
unfoldable pub count_to : List ℕ → ℕ → ℕ → ℕ
count_to grid level zero = 0
count_to grid level (suc n) = count_to grid level n + cond (leb level (level_of grid (suc n))) 1 0

-- row 42: the length of a grid
abbrev pub is_grid : List ℕ → Bool
is_grid grid = eqb (length grid) grid_length

-- row 43: no level 15 in it. Notice 49, 5(3)(3-1)
abbrev pub has_no_level_15 : List ℕ → Bool
has_no_level_15 grid = every is_intensity_byte grid

-- row 41: a mesh number
abbrev pub is_mesh : ℕ → Bool
is_mesh mesh = leb 1 mesh && leb mesh meshes

-- row 41: a level. Notice 49, 5(3)(3-1)
abbrev pub is_level : ℕ → Bool
is_level level = leb level 14

-- What a service answers: its value, or that it is done, or a refusal (41 to 43), which carries no value
pub data ServiceAnswer : Type 0 where
  value : ℕ → ServiceAnswer
  done : ServiceAnswer
  refused : ℕ → ServiceAnswer

-- The level of a mesh; refusals in the order 42, 43, 41. Notice 49, 4(1)(1-1)(d)(ウ)
unfoldable pub mesh_level : List ℕ → ℕ → ServiceAnswer
mesh_level grid mesh =
    cond (not (is_grid grid)) (refused 42)
    (cond (not (has_no_level_15 grid)) (refused 43)
    (cond (not (is_mesh mesh)) (refused 41) (value (level_of grid mesh))))

-- How many of the 40,000 meshes are at or above a level. Notice 49, 5(3)(3-1)
unfoldable pub meshes_from : List ℕ → ℕ → ServiceAnswer
meshes_from grid level =
    cond (not (is_grid grid)) (refused 42)
    (cond (not (has_no_level_15 grid)) (refused 43)
    (cond (not (is_level level)) (refused 41) (value (count_to grid level meshes))))
