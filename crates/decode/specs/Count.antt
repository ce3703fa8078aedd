-- What the program counts: meshes at one level. Assumes nothing.
use Rattle.std.specs.Prelude.{ℕ, zero, suc, ◌+◌, cond, not, List, count_by, eqb}
use Rattle.service_levels.specs.Meshes.{ServiceAnswer, value, refused, level_of, meshes, is_grid, has_no_level_15, is_level}

-- How many bytes equal a value; in echo top and quality each byte is a mesh. Notice 49, 4(1)(1-2)(d)(ウ), 4(2)(d)(ウ)
abbrev pub count_of : List ℕ → ℕ → ℕ
count_of bytes x = count_by (λ b. eqb b x) bytes

-- how many of the first n meshes of an intensity grid are at a level. Notice 49, 5(3)(3-1)
unfoldable pub count_at : List ℕ → ℕ → ℕ → ℕ
count_at grid level zero = 0
count_at grid level (suc n) = count_at grid level n + cond (eqb (level_of grid (suc n)) level) 1 0

-- How many of the 40,000 meshes are at a level; refusals in the order 42, 43, 41. Notice 49, 5(3)(3-1)
unfoldable pub meshes_at : List ℕ → ℕ → ServiceAnswer
meshes_at grid level =
    cond (not (is_grid grid)) (refused 42)
    (cond (not (has_no_level_15 grid)) (refused 43)
    (cond (not (is_level level)) (refused 41) (value (count_at grid level meshes))))
