-- The highest mode is the larger of what the loop has found and the highest of what is left. Assumes nothing.
use mathlib.Core.Path.{◌≡◌}
use Prim.Native.Nat.{max}
use lib.ListN.{drop}
use Rattle.text.specs.EndBlock.{highest}
use Rattle.text_status.proofs.status.highest_mode.Given as goal

abbrev pub invariant-loop-m : goal.invariant-loop-m
invariant-loop-m l = max l.high (highest (drop l.m-index l.fn.modes)) ≡ highest l.fn.modes
