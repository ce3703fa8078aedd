-- Two intensity grids laid over each other, mesh by mesh the higher level: 01's section "Services". Assumes nothing.
use Rattle.std.specs.Prelude.{ℕ, ◌+◌, ◌*◌, max, cond, not, ◌&&◌, List, [], ◌∷◌}
use Rattle.text.specs.DataBlock.{odd_level, even_level}
use Rattle.service_levels.specs.Meshes.{is_grid, has_no_level_15, ServiceAnswer, done, refused}

-- mesh by mesh the higher level, byte by byte; proofs/Laws has it mesh by mesh (mesh-higher). Notice 49,
-- 4(1)(1-1)(d)(ウ)
unfoldable pub higher_byte : ℕ → ℕ → ℕ
higher_byte a b = max (odd_level a) (odd_level b) * 16 + max (even_level a) (even_level b)

unfoldable pub higher : List ℕ → List ℕ → List ℕ
higher [] ys = []
higher (x ∷ xs) [] = []
higher (x ∷ xs) (y ∷ ys) = higher_byte x y ∷ higher xs ys

-- Two grids laid over each other into a third, which any refusal leaves as it was. Notice 49, 4(1)(1-1)(d)(ウ)
pub record OverlayOutcome : Type 0 where
  pub answer : ServiceAnswer
  pub grid : List ℕ

-- rows 42 and 43, and else mesh by mesh the higher. Notice 49, 4(1)(1-1)(d)(ウ)
unfoldable pub overlaid : List ℕ → List ℕ → List ℕ → OverlayOutcome
overlaid a b c =
    cond (not (is_grid a && is_grid b && is_grid c)) (record { answer = refused 42; grid = c })
    (cond (not (has_no_level_15 a && has_no_level_15 b)) (record { answer = refused 43; grid = c })
    (record { answer = done; grid = higher a b }))
