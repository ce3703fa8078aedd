-- By whether a part is open, or a text is under way. Assumes nothing.
use mathlib.Core.Path.{◌≡◌, refl, sym, ap, ◌∙◌}
use mathlib.Core.Bool.{true, false}
use mathlib.Core.List.{List}
use Prim.Native.Nat.{ℕ}
use native.Mathlib.Omega.{arith}
use lib.Dec.{eqb, ltb}
use lib.ListN.{length}
use borrow.Author.Tests.{ltb-false}
use Rattle.std.specs.Prelude.{unwrap_or}
use Rattle.std.specs.List.{position, position_or_len}
use Rattle.std.proofs.lemmas.List.Recursion.{is_position_or_len}
use Rattle.general_laws.proofs.Tests.{by_test}
use Rattle.text.specs.Text.{FD}
use Rattle.receiver_state.specs.declared.state.State.{State}
use Rattle.receiver_stretch_start_end.specs.Ahead.{is_idle, is_gap, idle_length, due_length, wait_length}
use Rattle.receiver_stretch_start_end.proofs.BetweenTexts.{idle_most}
use Rattle.receiver_stretch_start_end.proofs.between.wait_length.Goals as goal

until : (xs : List ℕ) → idle_length xs ≡ position_or_len (λ b. eqb b FD) xs
unfolding idle_length
until = is_position_or_len idle_length (λ b. eqb b FD) refl (λ b xs. by_test (eqb b FD) (λ t. rw t) (λ t. rw t (omega arith)))

next : (xs : List ℕ) → unwrap_or (position (λ b. eqb b FD) xs) (length xs) ≡ idle_length xs
next xs =
    by_test (ltb (position_or_len (λ b. eqb b FD) xs) (length xs)) (λ t. rw t (sym (until xs)))
    (λ t. rw t (omega (arith, until xs, idle_most xs, ltb-false (position_or_len (λ b. eqb b FD) xs) (length xs) t)))

module _ (s : State) (bytes : List ℕ) where
  idle : is_idle s.frame ≡ true → wait_length s bytes ≡ idle_length bytes
  unfolding wait_length
  idle t = rw t

  gap : is_idle s.frame ≡ false → is_gap s.frame ≡ true → wait_length s bytes ≡ due_length s.seen s.frame.count bytes
  unfolding wait_length
  gap f t = rw (f, t)

  neither : is_idle s.frame ≡ false → is_gap s.frame ≡ false → wait_length s bytes ≡ 0
  unfolding wait_length
  neither f e = rw (f, e)

pub returns-then-is_idle : goal.returns-then-is_idle
returns-then-is_idle c =
    let bytes = c.args.bytes.now in
    c.unwrap_or.ensures ∙ ap (λ r. unwrap_or r (length bytes)) c.next_fd.ensures ∙ next bytes ∙ sym (idle c.args.s bytes (sym c.is_idle.ensures ∙ c.if-is_idle.true))

pub returns-then-is_gap : goal.returns-then-is_gap
returns-then-is_gap c =
    c.due_length.ensures ∙ sym (gap c.args.s c.args.bytes.now (sym c.is_idle.ensures ∙ c.if-is_idle.false) (sym c.is_gap.ensures ∙ c.if-is_gap.true))

pub returns : goal.returns
returns c =
    sym (neither c.args.s c.args.bytes.now (sym c.is_idle.ensures ∙ c.if-is_idle.false) (sym c.is_gap.ensures ∙ c.if-is_gap.false))
