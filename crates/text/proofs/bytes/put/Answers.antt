-- Bytes that fit replace as many at their place; where they do not, the output stays. Assumes nothing.
use Rattle.std.proofs.Common.{◌≡◌, ◌+◌, ◌-◌, ◌≤◌, length, arith, ap, ◌∙◌, drop, take, ◌++◌, List, ℕ}
use Rattle.std.proofs.lemmas.List.{drop-drop, append_assoc}
use Rattle.std.proofs.lemmas.List.Edits.{sets-eq}
use borrow.Author.Tests.{le-leb, lt-leb}
use Rattle.general_laws.specs.Bytes.{put_at}
use Rattle.general_laws.proofs.Lists.{width}
use Rattle.text.proofs.bytes.put.Goals as goal

pub returns-then-end-output : goal.returns-then-end-output
unfolding put_at
returns-then-end-output c =
    let a = c.args in
    let at_end : c.saturating_add-end.result ≡ a.at + length a.bytes.now = omega (arith, c.well_formed) in
    let fits : a.at + length a.bytes.now ≤ length a.output.now = omega arith in
    rw (le-leb (a.at + length a.bytes.now) (length a.output.now) fits, sets-eq a.bytes.now a.output.now a.at fits, append_assoc (take a.at a.output.now), c.copy_from_slice.ensures.after)
    (ap (λ (behind : List ℕ). take a.at a.output.now ++ (a.bytes.now ++ behind))
    (ap (λ k. drop k (drop a.at a.output.now)) (ap (λ n. n - a.at) at_end ∙ width a.at (length a.bytes.now)) ∙ drop-drop (length a.bytes.now) a.at a.output.now))

pub returns-else-end-output : goal.returns-else-end-output
unfolding put_at
returns-else-end-output c =
    let a = c.args in
    rw (lt-leb (a.at + length a.bytes.now) (length a.output.now) (omega (arith, c.well_formed)))
