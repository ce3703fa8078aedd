-- The bytes between texts are passed, and the text behind them. Assumes nothing.
use mathlib.Core.Path.{◌≡◌, sym, ap, ◌∙◌, subst₂}
use mathlib.Core.List.{List}
use Prim.Native.Nat.{ℕ, ◌+◌, ◌≤◌}
use native.Mathlib.Omega.{arith}
use lib.ListN.{length, take, drop, length-drop}
use lib.Seq.{take-add}
use borrow.Author.Rules.{rules}
use Rattle.receiver_state.specs.declared.state.State.{State}
use Rattle.receiver_stretches.specs.declared.stretch.StretchResult.{StretchResult}
use Rattle.receiver_stretches.specs.Run.{passed, run, Passes}
use Rattle.receiver_stretches.proofs.Laws.{passed_count, passed_on, passed_after}
use Rattle.general_laws.proofs.Lists.{taken_most, rest_is}
use Rattle.receiver_stretch_start_end.specs.Ahead.{wait_length, waited_for, Waited, text_ahead, edge_ahead}
use Rattle.receiver_stretch_start_end.proofs.ahead.edge_ahead.Goals as goal

module _ (s : State) (bytes : List ℕ) {first second : StretchResult} (waited : Waited s (wait_length s bytes) bytes first) (rest : List ℕ) (e : rest ≡ drop first.at bytes)
    (text : Passes first.state (take (text_ahead first.state rest) rest) second) where
  abbrev n : ℕ
  n = wait_length s bytes

  abbrev here : State
  here = waited_for s (take n bytes)

  behind : (g : List ℕ) → run here g (take (text_ahead here (drop n bytes)) (drop n bytes)) 0 ≡ passed second.state g second.at
  behind g =
      sym
      (subst₂ (λ (t : State) xs. passed second.state g second.at ≡ run t g (take (text_ahead t xs) xs) 0) waited.state_is (e ∙ ap (λ i. drop i bytes) waited.long) (text g))

  all : (g : List ℕ) → passed second.state g (first.at + second.at) ≡ run s g (take (edge_ahead s bytes) bytes) 0
  unfolding edge_ahead
  all g =
      let m = text_ahead here (drop n bytes) in
      let xs = take n bytes in
      let front : run s g xs 0 ≡ passed here g first.at = sym (waited.runs g) ∙ ap (λ t. passed t g first.at) waited.state_is in
      sym
      (ap (λ ys. run s g ys 0) (take-add n m bytes)
      ∙ passed_on s g xs (take m (drop n bytes)) 0 front
      ∙ passed_after here g (take m (drop n bytes)) first.at (behind g))

  short : first.at + second.at ≤ length bytes
  short =
      let m = text_ahead here (drop n bytes) in
      omega (
        arith,
        waited.long,
        waited.inside,
        passed_count here bytes (take m (drop n bytes)) 0 (behind bytes),
        taken_most m (drop n bytes),
        length-drop n bytes,
      )

pub overflow_add-result : goal.overflow_add-result
overflow_add-result c =
    let a = c.args in
    omega (
      arith,
      short a.s a.bytes.now c.wait_run-waited.ensures _ (rest_is a.bytes.now c.wait_run-waited.result.at) c.text_ahead-text.ensures,
      c.well_formed,
    )

pub returns : goal.returns
returns c =
    let a = c.args in
    all a.s a.bytes.now c.wait_run-waited.ensures _ (rest_is a.bytes.now c.wait_run-waited.result.at) c.text_ahead-text.ensures

pub slice_bounds-text_ahead-count : goal.slice_bounds-text_ahead-count
slice_bounds-text_ahead-count c = search (rules, c.wait_run-waited.ensures.inside, c.wait_run-waited.ensures.long)
