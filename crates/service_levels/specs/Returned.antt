-- What the services' code returned, in the terms of their definitions. Assumes nothing.
use Rattle.std.specs.Prelude.{ℕ, List, cond, not, Result, Ok, Err}
use Rattle.refusals.specs.declared.refusal.Refusal.{Refusal}
use Rattle.refusals.specs.declared.refusal.Refusal.TheVariants.{GridLength, Level15}
use Rattle.refusals.specs.Rows.{row_of}
use Rattle.service_levels.specs.Meshes.{ServiceAnswer, value, refused, is_grid, has_no_level_15}

-- 01's numbers: a value, or the row of a refusal
unfoldable pub answer_of : Result ℕ Refusal → ServiceAnswer
answer_of (Ok n) = value n
answer_of (Err refusal) = refused (row_of refusal)

-- whether levels can be read off a grid, and why not: its length (row 42), then a level 15 in it (row 43).
-- Notice 49, 5(3)(3-1)
unfoldable pub readable : List ℕ → Result Unit Refusal
readable grid =
    cond (not (is_grid grid)) (Err GridLength)
    (cond (not (has_no_level_15 grid)) (Err Level15) (Ok tt))
