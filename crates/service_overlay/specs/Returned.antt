-- What an overlay call of the code returned, in the terms of its definition. Assumes nothing.
use Rattle.std.specs.Prelude.{ℕ, List, Result, Ok, Err}
use Rattle.refusals.specs.declared.refusal.Refusal.{Refusal}
use Rattle.refusals.specs.Rows.{row_of}
use Rattle.service_levels.specs.Meshes.{done, refused}
use Rattle.service_overlay_spec.specs.Overlay.{OverlayOutcome}

-- done, or the row of a refusal, with the third grid at the call's exit
unfoldable pub outcome_of : Result Unit Refusal → List ℕ → OverlayOutcome
outcome_of (Ok tt) grid = record { answer = done; grid = grid }
outcome_of (Err refusal) grid = record { answer = refused (row_of refusal); grid = grid }
