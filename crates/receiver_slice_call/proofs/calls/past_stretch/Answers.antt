-- Each way out is a case of the definition. Assumes nothing.
use mathlib.Core.Path.{◌≡◌}
use mathlib.Core.Bool.{true, false}
use mathlib.Core.List.{List}
use Prim.Native.Nat.{ℕ}
use lib.Dec.{eqb}
use lib.ListN.{take}
use borrow.Author.Tests.{eq-eqb, ne_eqb}
use Rattle.receiver_state.specs.declared.state.State.{State}
use Rattle.receiver_stretches.specs.declared.stretch.StretchResult.{StretchResult}
use Rattle.receiver_stretches.specs.Run.{run, after_stretch}
use Rattle.receiver_stretch_payload.specs.Ahead.{payload_ahead}
use Rattle.receiver_stretch_start_end.specs.Ahead.{edge_ahead}
use Rattle.receiver_slice_call.specs.Stretch.{stretch}
use Rattle.receiver_slice_call.proofs.calls.past_stretch.Goals as goal

module _ (s : State) (g bytes : List ℕ) {r : StretchResult} {h : List ℕ} where
  at_edge : eqb s.frame.place 0 ≡ true → after_stretch r h ≡ run s g (take (edge_ahead s bytes) bytes) 0 → after_stretch r h ≡ run s g (take (stretch s g bytes) bytes) 0
  unfolding stretch
  at_edge t e = rw t e

  within : eqb s.frame.place 0 ≡ false → after_stretch r h ≡ run s g (take (payload_ahead s g bytes) bytes) 0 → after_stretch r h ≡ run s g (take (stretch s g bytes) bytes) 0
  unfolding stretch
  within t e = rw t e

pub returns-then-f-eq0 : goal.returns-then-f-eq0
returns-then-f-eq0 c =
    let a = c.args in
    at_edge a.s a.grid.now a.bytes.now (eq-eqb _ _ c.if-f-eq0.true) (c.edge_ahead.ensures a.grid.now)

pub returns : goal.returns
returns c =
    let a = c.args in
    within a.s a.grid.now a.bytes.now (ne_eqb _ _ c.if-f-eq0.false) c.payload_ahead.ensures
