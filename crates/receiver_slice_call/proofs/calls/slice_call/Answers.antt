-- Refusals 1 and 2, or the run of the bytes. Assumes nothing.
use mathlib.Core.Path.{refl, sym, ◌∙◌}
use native.Mathlib.Omega.{arith}
use borrow.Author.Tests.{eq-eqb, ne_eqb}
use Rattle.receiver_spec.specs.Calls.{slice_call}
use Rattle.receiver_bytes_seen.specs.Behind.{seen_after}
use Rattle.receiver_byte_call.specs.Returned.{returned, reply_of}
use Rattle.receiver_stretches.proofs.Laws.{sliced}
use Rattle.receiver_slice_call.proofs.calls.slice_call.Goals as goal

pub returns-then-grid-ne20000 : goal.returns-then-grid-ne20000
unfolding returned slice_call reply_of seen_after
returns-then-grid-ne20000 c = rw c.refused.ensures (record {
  grid_after = simp (ne_eqb _ _ c.if-grid-ne20000.true);
  seen_value = refl;
})

pub returns-then-not-is_possible : goal.returns-then-not-is_possible
unfolding returned slice_call reply_of seen_after
returns-then-not-is_possible c =
    rw c.refused-then-not-is_possible.ensures (record {
      grid_after = simp (eq-eqb _ _ c.if-grid-ne20000.false, sym c.is_possible.ensures ∙ c.if-not-is_possible.true);
      seen_value = refl;
    })

pub returns : goal.returns
returns c =
    let a = c.args in
    let e = sliced a.state a.grid.now a.bytes.now (λ j. omega (arith, c.type_inv.bytes j)) c.if-grid-ne20000.false
    (sym c.is_possible.ensures ∙ c.if-not-is_possible.false) _ _ c.take_bytes.ensures in
    record { grid_after = e.0; seen_value = e.1 }

pub take_bytes-requires : goal.take_bytes-requires
take_bytes-requires c = c.if-grid-ne20000.false
