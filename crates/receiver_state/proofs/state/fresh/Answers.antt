-- No byte is seen, the marks are those of the call, and all else is 0. Assumes nothing.
use mathlib.Core.Path.{refl, ap}
use mathlib.Core.List.{[]}
use Rattle.receiver_spec.specs.State.{dropped}
use Rattle.receiver_bytes_seen.specs.AsNumber.{seen_of}
use Rattle.receiver_state.proofs.state.fresh.Goals as goal

pub returns : goal.returns
unfolding seen_of
returns c = record {
  result_value = ap (λ m. dropped m []) c.marks_from.ensures;
  seen_value = refl;
}
