-- The bytes of one read more are those that the listener takes next. Assumes nothing.
use Rattle.std.proofs.Common.{take, ◌++◌}
use Rattle.std.proofs.KnownBytes.{Appends-trans, Consumes-trans}
use Rattle.program_streams.proofs.reading.feed_all.Goals as goal

pub loop-preserved : goal.loop-preserved
loop-preserved g c =
    let so_far = c.loop.invariant in (
      so_far.0 ++ take c.in_ok-count.count c.read.new.buf,
      Consumes-trans _ _ _ _ _ so_far.1 c.in_ok-count.ensures.bytes.0,
      Appends-trans _ _ _ _ _ so_far.2 c.in_ok-take.ensures,
    )

pub returns-then-not-branch : goal.returns-then-not-branch
returns-then-not-branch g c =
    let so_far = c.loop.invariant in (
      so_far.0 ++ take c.in_ok-count.count c.read.new.buf,
      Consumes-trans _ _ _ _ _ so_far.1 c.in_ok-count.ensures.bytes.0,
      Appends-trans _ _ _ _ _ so_far.2 c.in_ok-take.ensures,
    )
