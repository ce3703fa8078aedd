-- What a possible state says of place and kind keeps the difference in range. Assumes nothing.
use mathlib.Core.Path.{◌≡◌, refl, sym, ap, ◌∙◌}
use mathlib.Core.Bool.{Bool, true, false, cond, ◌||◌}
use Prim.Native.Nat.{ℕ, ◌≤◌}
use native.Mathlib.Omega.{arith}
use lib.Dec.{eqb}
use borrow.Author.Tests.{eqb-false}
use Rattle.text.specs.Kinds.{block_length}
use Rattle.general_laws.proofs.Tests.{neither}
use Rattle.text_laws.proofs.KindTable.{block_most}
use Rattle.receiver_spec.proofs.Laws.{place_in_text}
use Rattle.service_bytes_left.specs.BytesLeft.{LeftAnswer, left, rest_length, bytes_left, answer_of}
use Rattle.service_bytes_left.proofs.left.bytes_left.Goals as goal

pub returns-then-not-is_possible : goal.returns-then-not-is_possible
unfolding bytes_left answer_of
returns-then-not-is_possible c = rw (sym c.is_possible.ensures ∙ c.if-not-is_possible.true)

-- between texts, or with the kind unread, whichever it is
none_left : (between unread : Bool) (n : LeftAnswer) → between || unread ≡ true → left 0 ≡ cond between (left 0) (cond unread (left 0) n)
none_left true unread n h = refl
none_left false true n h = refl
none_left false false n h = absurd (cc)

pub returns-then-f : goal.returns-then-f
unfolding bytes_left answer_of
returns-then-f c =
    let f = c.args.state.frame in
    rw (sym c.is_possible.ensures ∙ c.if-not-is_possible.false) (none_left (eqb f.place 0) (eqb f.kind 0) _ c.if-f.true)

-- whatever the kind, a block's length leaves room for three bytes more
short : (r k : ℕ) → r ≡ block_length k → r ≤ 2003
short r k e = omega (arith, e, block_most k)

pub overflow_add-result : goal.overflow_add-result
overflow_add-result c = omega (arith, short _ _ c.block_length.ensures)

pub overflow_sub-result : goal.overflow_sub-result
overflow_sub-result c =
    let f = c.args.state.frame in
    omega (
      arith,
      c.block_length.ensures,
      place_in_text _ (sym c.is_possible.ensures ∙ c.if-not-is_possible.false) (eqb-false f.kind 0 (neither _ _ c.if-f.false).1),
    )

pub returns : goal.returns
unfolding bytes_left rest_length answer_of
returns c =
    let f = c.args.state.frame in
    let (within, read) = neither (eqb f.place 0) (eqb f.kind 0) c.if-f.false in
    rw (sym c.is_possible.ensures ∙ c.if-not-is_possible.false, within, read) (ap left (omega (arith, c.block_length.ensures)))
