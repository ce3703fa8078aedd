-- The last answer, the header and the kind of the end text decide. Assumes nothing.
use mathlib.Core.Path.{refl, ap, ap₂, ◌∙◌}
use mathlib.Core.Bool.{◌&&◌}
use native.Mathlib.Omega.{arith}
use lib.Dec.{eqb}
use lib.ListN.{length}
use Rattle.text.specs.Kinds.{part_length}
use Rattle.text.specs.Part.{zeros}
use Rattle.receiver_spec.specs.State.{State}
use Rattle.service_stored_part.proofs.OnePart.{decided, too_short}
use Rattle.service_stored_part.proofs.whole.is_undamaged_part.Goals as goal

pub returns-then-bytes-lt80 : goal.returns-then-bytes-lt80
returns-then-bytes-lt80 c = too_short c.args.bytes.now (omega (arith, c.if-bytes-lt80.true))

pub feed_all-fed-requires : goal.feed_all-fed-requires
unfolding zeros
feed_all-fed-requires c = refl

pub returns : goal.returns
returns c =
    let bytes = c.args.bytes.now in
    ap₂ (λ t n. t && eqb (length bytes) n) (c.is_complete.ensures ∙ ap (λ a. eqb a 3) c.feed_all-fed.ensures.answer_value)
    (c.part_length.ensures ∙ ap₂ part_length c.part_of_kind-part.ensures (ap (λ (s : State). s.header.noecho) c.feed_all-fed.ensures.state_value))
    ∙ decided bytes (omega (arith, c.if-bytes-lt80.false))
