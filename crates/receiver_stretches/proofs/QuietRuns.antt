-- Bytes that `receiver_spec`'s machine answers 0 are a stretch of the code's. Assumes nothing.
use mathlib.Core.Path.{◌≡◌, ap, ◌∙◌, subst}
use mathlib.Core.Bool.{true}
use mathlib.Core.List.{List}
use Prim.Native.Nat.{ℕ, suc, ◌+◌}
use native.Mathlib.Nat.{add-zero}
use native.Mathlib.Omega.{arith}
use lib.ListN.{length}
use borrow.Author.Tests.{eq-eqb}
use Rattle.receiver_spec.proofs.Laws.{Machine, Out, answering, move, AllQuiet, quiet_none, quiet_byte, radar, machine, out, step_is_move, step_marks}
use Rattle.receiver_state.specs.Meaning.{state_of, applied}
use Rattle.receiver_decisions.specs.Decisions.{frame, meaning}
use Rattle.receiver_step.specs.Decide.{decide}
use Rattle.receiver_state.specs.declared.state.State.{State}
use Rattle.receiver_spec.specs.Receiver.{Step}
use Rattle.receiver_bytes_seen.specs.Behind.{seen_after, count_after}
use Rattle.receiver_byte_call.specs.Returned.{is_quiet}
use Rattle.receiver_stretches.specs.Run.{passed, run}
use Rattle.receiver_byte_call.proofs.Laws.{decide_facts, same_step}
use Rattle.general_laws.proofs.Lists.{Bytes}

module _ (marks : ℕ) where
  -- the code's state for a machine: it holds the bytes seen as a number and their count, and the marks
  abbrev pub state_of_machine : ℕ → ℕ → ℕ → Machine (radar marks) → State
  state_of_machine keeps seen count m =
      record {
        seen = seen;
        frame = frame m.place m.kind m.picture m.part m.due m.check count;
        header = m.held.header;
        modes = m.held.modes;
        digits = m.held.digits;
        marks = keeps;
      }

  -- they are passed
  pub quiet_passed :
      {m n : Machine (radar marks)} {xs : List ℕ} (s : State) (g : List ℕ) (j : ℕ) → AllQuiet (radar marks) m xs n → s.marks ≡ marks → machine marks (state_of s) g ≡ m → Bytes xs
      → run s g xs j ≡ passed (state_of_machine s.marks (seen_after s.seen xs) (count_after s.frame.count xs) n) n.held.grid (j + length xs)
  unfolding run seen_after count_after
  quiet_passed s g j quiet_none k e small =
      subst (λ (t : Machine (radar marks)). passed s g j ≡ passed (state_of_machine s.marks s.seen s.frame.count t) t.held.grid (j + 0)) e (rw add-zero)
  quiet_passed {n} s g j (quiet_byte {n = o} {b} {bytes = xs} p r) k e small =
      let (quiet, reply, seen, count) = decide_facts s b in
      let step_is = same_step s g b (small 0) in
      let kept : (decide s b).next.marks ≡ s.marks = ap (λ (o : Step). o.state.marks) step_is ∙ step_marks (state_of s) g b in
      let moved : out marks (meaning g b (decide s b)) ≡ answering (radar marks) 0 o =
      ap (out marks) step_is ∙ step_is_move marks (state_of s) g b k ∙ ap (λ t. move (radar marks) t b) e ∙ p in
      let q : is_quiet (decide s b).answer ≡ true = quiet ∙ eq-eqb _ _ (ap (λ (t : Out (radar marks)). t.answer) moved) in
      let far : j + 1 + length xs ≡ j + suc (length xs) = omega arith in
      rw q
      (quiet_passed (decide s b).next (applied g (decide s b).effect b) (j + 1) r (kept ∙ k) (ap (λ (t : Out (radar marks)). t.machine) moved) (λ i. small (suc i))
      ∙ rw (seen, count, far, kept))
