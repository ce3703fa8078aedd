-- The loop has found the right byte for each radar below i; all eight are behind it. Assumes nothing.
use mathlib.Core.Path.{sym, ◌∙◌}
use native.Mathlib.Omega.{arith}
use borrow.Author.Count.{below_more}
use Rattle.general_laws.proofs.Places.{places_true, places_false}
use Rattle.text_end_block.proofs.read.are_mode_bytes.Goals as goal

pub returns-then-not-is_mode_byte : goal.returns-then-not-is_mode_byte
returns-then-not-is_mode_byte c =
    sym (
    places_false _ 0 8 c.loop-i.i (omega arith) (omega arith)
    (sym c.is_mode_byte.ensures ∙ c.if-not-is_mode_byte.true))

pub loop-i-preserved : goal.loop-i-preserved
loop-i-preserved c =
    let right = sym c.is_mode_byte.ensures ∙ c.if-not-is_mode_byte.false in
    below_more _ _ c.loop-i.invariant right

pub returns : goal.returns
returns c = sym (places_true _ 0 8 (λ k l m. c.loop-i.invariant k (omega arith)))
