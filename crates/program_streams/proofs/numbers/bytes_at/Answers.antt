-- One byte more stands there. Assumes nothing.
use Rattle.std.proofs.Common.{◌<◌, ◌≢◌, length, arith, get_or-set_other, get_or-set_same, below_more, rules}
use Rattle.program_streams.proofs.numbers.bytes_at.Goals as goal

pub loop-k-preserved : goal.loop-k-preserved
loop-k-preserved g c =
    let lt : c.loop-k.k < length c.loop-k.b-items = omega arith in
    record {
      long = search rules;
      same = below_more _ _
          (λ k h. let ne : k ≢ c.loop-k.k = omega arith in rw get_or-set_other (c.loop-k.invariant.same k h))
          (rw get_or-set_same c.byte_at.ensures);
    }
