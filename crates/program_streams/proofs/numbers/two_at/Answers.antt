-- The number is read off the two bytes. Assumes nothing.
use Rattle.std.proofs.Common.{lit<}
use Rattle.program_streams.proofs.numbers.two_at.Goals as goal

pub returns : goal.returns
returns c = rw (← c.bytes_at.ensures 0 (lit< tt), ← c.bytes_at.ensures 1 (lit< tt)) c.from_be_bytes.ensures
