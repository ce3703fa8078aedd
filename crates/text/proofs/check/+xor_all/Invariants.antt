-- The measure is the slice's length. Assumes nothing.
use Rattle.std.proofs.Common.{length}
use Rattle.text.proofs.check.+xor_all.Given as goal

abbrev pub decreases-xor_all : goal.decreases-xor_all
decreases-xor_all l = length l.block.now
