-- Each way out is a case of the rule by numbers. Assumes nothing.
use mathlib.Core.Bool.{and-false}
use borrow.Author.Tests.{eq-eqb, ne_eqb}
use Rattle.receiver_bytes_seen.proofs.AsNumber.{opening_by_number}
use Rattle.receiver_bytes_seen.proofs.seen.ends_opening.Goals as goal

pub returns-then-b-ne253 : goal.returns-then-b-ne253
returns-then-b-ne253 c = simp (opening_by_number, ne_eqb _ _ c.if-b-ne253.true)

pub returns-then-count-ne5 : goal.returns-then-count-ne5
returns-then-count-ne5 c = simp (opening_by_number, ne_eqb _ _ c.if-count-ne5.true, and-false)

pub returns : goal.returns
returns c = simp (opening_by_number, eq-eqb _ _ c.if-b-ne253.false, eq-eqb _ _ c.if-count-ne5.false)
