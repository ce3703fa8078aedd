-- The bytes gone past are those that stand there. Assumes nothing.
use Rattle.std.proofs.Common.{◌≡◌, ℕ, ◌<◌, get_or, length}
use Rattle.program_streams.proofs.numbers.bytes_at.Given as goal

abbrev pub invariant-loop-k : goal.invariant-loop-k
invariant-loop-k g l = record {
  long : length l.b-items ≡ g.row.N;
  same : (k : ℕ) → k < l.k → get_or l.b-items k 0 ≡ get_or l.rest k 0;
}
