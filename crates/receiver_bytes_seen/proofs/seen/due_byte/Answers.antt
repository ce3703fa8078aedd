-- Each way out is a case of the rule by numbers. Assumes nothing.
use Rattle.receiver_bytes_seen.proofs.AsNumber.{due_by_number}
use Rattle.receiver_bytes_seen.proofs.seen.due_byte.Goals as goal

pub returns-then-count-seen : goal.returns-then-count-seen
returns-then-count-seen c = simp (due_by_number, c.if-count-seen.true)

pub returns-then-count-seen-2 : goal.returns-then-count-seen-2
returns-then-count-seen-2 c = simp (due_by_number, c.if-count-seen.false, c.if-count-seen-2.true)

pub returns-then-count-seen-3 : goal.returns-then-count-seen-3
returns-then-count-seen-3 c = simp (due_by_number, c.if-count-seen.false, c.if-count-seen-2.false, c.if-count-seen-3.true)

pub returns : goal.returns
returns c = simp (due_by_number, c.if-count-seen.false, c.if-count-seen-2.false, c.if-count-seen-3.false)
