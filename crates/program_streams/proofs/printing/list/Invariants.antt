-- So far the bytes gone past are printed. Assumes nothing.
use Rattle.std.proofs.Common.{take}
use Rattle.std.specs.Io.KnownBytes.{Appends}
use Rattle.program_streams.specs.Printed.{spaced_numbers}
use Rattle.program_streams.proofs.printing.list.Given as goal

abbrev pub invariant-loop-b : goal.invariant-loop-b
invariant-loop-b g l = Appends (g.W.Write.contents l.initial.out) (g.W.Write.contents l.out) (spaced_numbers (take l.b-index l.l))
