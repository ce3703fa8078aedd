-- What programs and other crates may rest on: laws of a slice call by its contract. Everything else in proofs/ is this crate's own affair.
use mathlib.Core.Path.{◌≡◌, sym, subst}
use mathlib.Core.List.{List}
use Prim.Native.Nat.{ℕ, ◌-◌, ◌≤◌}
use native.Mathlib.Omega.{arith}
use lib.ListN.{length, take, drop, length-take}
use Rattle.receiver_spec.specs.State
use Rattle.receiver_spec.specs.Calls.{CallOutcome, slice_call}
use Rattle.receiver_spec.proofs.Laws.{slice_count_most}
use Rattle.receiver_byte_call.specs.Returned.{returned}
use Rattle.receiver_byte_call.specs.declared.calls.CallResult.{CallResult}

-- the count is at most the slice's length
pub count_most :
    (r : CallResult) (h : List ℕ) (s : Rattle.receiver_spec.specs.State.State) (g bytes : List ℕ) → returned r h ≡ slice_call s g bytes
    → r.count ≤ length bytes
unfolding returned
count_most r h s g bytes e = subst (λ (o : CallOutcome). o.count ≤ length bytes) (sym e) (slice_count_most s g bytes)

-- where the slice is what stands in other bytes from a place on, it is at most what is left of them
pub count_behind :
    (r : CallResult) (h : List ℕ) (s : Rattle.receiver_spec.specs.State.State) (g bytes : List ℕ) (at : ℕ)
    → returned r h ≡ slice_call s g (take (length bytes - at) (drop at bytes)) → r.count ≤ length bytes - at
count_behind r h s g bytes at e =
    omega (arith, count_most r h s g (take (length bytes - at) (drop at bytes)) e, length-take (length bytes - at) (drop at bytes))
