-- The number is read off the eight bytes. Assumes nothing.
use Rattle.std.proofs.Common.{lit<, rules}
use Rattle.program_streams.proofs.numbers.minute_at.Goals as goal

pub returns : goal.returns
returns c =
    let at = c.bytes_at.ensures in
    let read = rw (at 0 (lit< tt), at 1 (lit< tt), at 2 (lit< tt), at 3 (lit< tt), at 4 (lit< tt), at 5 (lit< tt), at 6 (lit< tt), at 7 (lit< tt)) at c.from_be_bytes.ensures in
    search rules
