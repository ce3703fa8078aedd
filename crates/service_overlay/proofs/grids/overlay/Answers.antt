-- The refusals in their order, which leave the third grid as it was; then the higher levels. Assumes nothing.
use mathlib.Core.Path.{sym, ap₂, ◌∙◌}
use mathlib.Core.Bool.{◌&&◌}
use Rattle.service_overlay_spec.specs.Overlay.{overlaid}
use Rattle.service_overlay.specs.Returned.{outcome_of}
use Rattle.text_laws.proofs.Payload.{intensity_is_payload}
use Rattle.service_overlay.proofs.Overlaying.{no_grids}
use Rattle.service_overlay.proofs.grids.overlay.Goals as goal

pub returns-then-first-second : goal.returns-then-first-second
unfolding outcome_of overlaid
returns-then-first-second c =
    let a = c.args in
    simp (no_grids a.first.now a.second.now a.third.now ∙ c.if-first-second.true)

pub returns-then-not-are_payload_bytes : goal.returns-then-not-are_payload_bytes
unfolding outcome_of overlaid
returns-then-not-are_payload_bytes c =
    let a = c.args in
    simp (
      no_grids a.first.now a.second.now a.third.now ∙ c.if-first-second.false,
      ap₂ (λ x y. x && y) (intensity_is_payload _ ∙ sym c.are_payload_bytes.ensures) (intensity_is_payload _ ∙ sym c.are_payload_bytes-2.ensures) ∙ c.if-not-are_payload_bytes.true,
    )

pub returns : goal.returns
unfolding outcome_of overlaid
returns c =
    let a = c.args in
    simp (
      no_grids a.first.now a.second.now a.third.now ∙ c.if-first-second.false,
      ap₂ (λ x y. x && y) (intensity_is_payload _ ∙ sym c.are_payload_bytes.ensures) (intensity_is_payload _ ∙ sym c.are_payload_bytes-2.ensures) ∙ c.if-not-are_payload_bytes.false,
      c.overlay_bytes.ensures,
    )
