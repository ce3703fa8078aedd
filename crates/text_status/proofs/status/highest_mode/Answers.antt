-- The highest mode is the larger of what the loop has found and the highest of what is left. Assumes nothing.
use mathlib.Core.Path.{◌≡◌, sym, ◌∙◌}
use mathlib.Core.List.{List}
use Prim.Native.Nat.{ℕ, suc, ◌+◌, ◌<◌, ◌≤◌, max}
use native.Mathlib.Nat.{max-zero}
use native.Mathlib.Numerals.{add-one}
use native.Mathlib.Omega.{arith}
use lib.ListN.{length, drop, drop_of_length-le}
use lib.Seq.{drop-cons}
use borrow.Author.Rules.{rules}
use Rattle.text.specs.EndBlock.{highest}
use Rattle.general_laws.specs.Bytes.{◌!◌}
use Rattle.text_status.proofs.status.highest_mode.Goals as goal

max_assoc : (a b c : ℕ) → max (max a b) c ≡ max a (max b c)
max_assoc a b c = omega arith

-- one mode more, and none left
turn :
    (ms : List ℕ) (high i : ℕ) → i < length ms →
    max (max high (ms ! i)) (highest (drop (i + 1) ms)) ≡ max high (highest (drop i ms))
unfolding highest
turn ms high i h = rw (add-one, drop-cons ms i 0) (max_assoc high (ms ! i) (highest (drop (suc i) ms)))

over : (ms : List ℕ) (high i : ℕ) → length ms ≤ i → max high (highest (drop i ms)) ≡ high
unfolding highest
over ms high i h = rw (drop_of_length-le ms h) (max-zero high)

pub loop-m-preserved : goal.loop-m-preserved
loop-m-preserved c =
    let at = c.loop-m in
    let larger : c.max-high.result ≡ max at.high (c.args.modes ! at.m-index) = search rules in
    rw larger (turn c.args.modes at.high at.m-index (search rules) ∙ at.invariant)

pub returns : goal.returns
returns c =
    let at = c.loop-m in
    sym (over c.args.modes at.high at.m-index (search rules)) ∙ at.invariant
