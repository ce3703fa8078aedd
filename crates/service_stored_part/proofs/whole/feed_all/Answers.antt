-- Each call takes a byte at least, and state, grid and last answer are those of the bytes so far. Assumes nothing.
use mathlib.Core.Path.{◌≡◌, sym, ap, ◌∙◌}
use mathlib.Core.Bool.{Bool, false}
use mathlib.Core.List.{List}
use Prim.Native.Nat.{ℕ, ◌≤◌}
use native.Mathlib.Omega.{arith}
use lib.Dec.{eqb}
use lib.ListN.{length, length-drop}
use borrow.Author.Tests.{eqb-true, eqb-false}
use Rattle.general_laws.proofs.Lists.{rest_is}
use Rattle.service_stored_part.proofs.Feeding.{begins, some, within, goes_on, ended}
use Rattle.service_stored_part.proofs.whole.feed_all.Goals as goal

-- bytes are left
kept : (rest : List ℕ) {empty : Bool} → empty ≡ eqb (length rest) 0 → empty ≡ false → 1 ≤ length rest
kept rest e f = omega (arith, eqb-false _ _ (sym e ∙ f))

pub loop-rest-init : goal.loop-rest-init
loop-rest-init c = begins _ _ _ c.fresh_for_all.ensures c.requires

pub slice_bounds-rest-count : goal.slice_bounds-rest-count
slice_bounds-rest-count c = within c.loop-rest.invariant c.slice_call-call.result _ c.slice_call-call.ensures.grid_after

pub slice_bounds-rest-start : goal.slice_bounds-rest-start
slice_bounds-rest-start c = within c.loop-rest.invariant c.slice_call-call.result _ c.slice_call-call.ensures.grid_after

pub loop-rest-preserved : goal.loop-rest-preserved
loop-rest-preserved c =
    goes_on c.loop-rest.invariant c.slice_call-call.result _ c.slice_call-call.ensures.grid_after (kept c.loop-rest.rest.now c.is_empty.ensures c.loop-rest-test.true)
    (rest_is c.loop-rest.rest.now c.slice_call-call.result.count)

pub loop-rest-smaller : goal.loop-rest-smaller
loop-rest-smaller c =
    let rest = c.loop-rest.rest.now in
    let n = c.slice_call-call.result.count in
    omega (
      arith,
      some c.loop-rest.invariant c.slice_call-call.result _ c.slice_call-call.ensures.grid_after (kept c.loop-rest.rest.now c.is_empty.ensures c.loop-rest-test.true),
      within c.loop-rest.invariant c.slice_call-call.result _ c.slice_call-call.ensures.grid_after,
      ap length (rest_is rest n),
      length-drop n rest,
    )

pub returns : goal.returns
returns c =
    let e = ended c.loop-rest.invariant (eqb-true _ _ (sym c.is_empty.ensures ∙ c.loop-rest-test.false)) in
    record { state_value = e.0; answer_value = e.1 }
