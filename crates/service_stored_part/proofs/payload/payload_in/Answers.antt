-- The text is there, or not. Assumes nothing.
use mathlib.Core.Path.{sym, ◌∙◌}
use native.Mathlib.Omega.{arith}
use Rattle.service_stored_part.proofs.PayloadPlaces.{long, none, payload_place, damaged}
use Rattle.service_stored_part.proofs.payload.payload_in.Goals as goal

pub returns-then-not-is_undamaged_part : goal.returns-then-not-is_undamaged_part
returns-then-not-is_undamaged_part c = damaged _ _ (sym c.is_undamaged_part.ensures ∙ c.if-not-is_undamaged_part.true)

pub bounds-part-7 : goal.bounds-part-7
bounds-part-7 c = omega (arith, long _ (sym c.is_undamaged_part.ensures ∙ c.if-not-is_undamaged_part.false))

pub bounds-part-9 : goal.bounds-part-9
bounds-part-9 c = omega (arith, long _ (sym c.is_undamaged_part.ensures ∙ c.if-not-is_undamaged_part.false))

pub returns-then-k-last : goal.returns-then-k-last
returns-then-k-last c =
    none _ (sym c.is_undamaged_part.ensures ∙ c.if-not-is_undamaged_part.false) c.part_of_kind-number.ensures c.no_echo_of.ensures c.data_texts-last.ensures _ c.if-k-last.true

-- behind the last test, the text is there
pub payload_at-requires : goal.payload_at-requires
payload_at-requires c =
    payload_place _ (sym c.is_undamaged_part.ensures ∙ c.if-not-is_undamaged_part.false) c.part_of_kind-number.ensures c.no_echo_of.ensures
    c.data_texts-last.ensures c.data_block_length.ensures c.args.k c.if-k-last.false
