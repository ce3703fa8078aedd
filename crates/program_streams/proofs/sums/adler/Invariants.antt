-- The two sums of the bytes so far, side by side. Assumes nothing.
use Rattle.std.proofs.Common.{◌≡◌, ℕ, ◌+◌, ◌*◌, ◌<◌, List, take}
use Rattle.program_streams.specs.Sums
use Rattle.program_streams.proofs.sums.adler.Given as goal

pub record SumsSoFar (bytes : List ℕ) (low high : ℕ) : Type 0 where
  pub sum : high * 65536 + low ≡ Sums.adler bytes
  pub low_bound : low < 65521
  pub high_bound : high < 65521

abbrev pub invariant-loop-b : goal.invariant-loop-b
invariant-loop-b l = SumsSoFar (take l.b-index l.bytes) l.low l.high
