-- The two rules of the definition, from the calls. Assumes nothing.
use mathlib.Core.Path.{ap₂}
use mathlib.Core.Bool.{◌&&◌}
use lib.Dec.{eqb}
use lib.ListN.{length}
use Rattle.writer_spec.specs.Written.{is_payload}
use Rattle.writer.proofs.data.is_payload.Goals as goal

pub returns : goal.returns
unfolding is_payload
returns c =
    ap₂ (λ n kept. eqb (length c.args.payload.now) n && kept) c.payload_length.ensures c.are_payload_bytes-kept.ensures
