-- The bytes so far, in stretches and one by one, are all answered 0. Assumes nothing.
use mathlib.Core.Path.{◌≡◌, sym, ◌∙◌}
use mathlib.Core.List.{List}
use Prim.Native.Nat.{ℕ, ◌-◌, ◌≤◌}
use native.Mathlib.Omega.{arith}
use lib.ListN.{length, take, drop}
use Rattle.general_laws.proofs.Lists.{rest_is}
use Rattle.receiver_state.specs.declared.state.State.{State}
use Rattle.receiver_stretches.specs.declared.stretch.StretchResult.{StretchResult}
use Rattle.receiver_stretches.specs.Run.{run, after_stretch}
use Rattle.receiver_stretches.proofs.Laws.{RunsTo, runs_to_none, stretch_inside, runs_to_stretch, runs_to_byte, runs_to_stop, runs_to_all}
use Rattle.receiver_slice_call.specs.Stretch.{stretch}
use Rattle.receiver_slice_call.proofs.calls.take_bytes.Goals as goal

-- the stretch that stands at the front of the rest
inside : (t : State) (h rest : List ℕ) {r : StretchResult} {k : List ℕ} → after_stretch r k ≡ run t h (take (stretch t h rest) rest) 0 → r.at ≤ length rest
inside t h rest {r} e = stretch_inside t r.state h rest (stretch t h rest) e

on : {s t : State} {g bytes h k : List ℕ} (rest : List ℕ) {r : StretchResult} → RunsTo s g bytes t h rest
    → after_stretch r k ≡ run t h (take (stretch t h rest) rest) 0 → RunsTo s g bytes r.state k (take (length rest - r.at) (drop r.at rest))
on {t = t} {h = h} rest {r} before e = runs_to_stretch (stretch t h rest) _ before e (rest_is rest r.at)

pub slice_bounds-rest-count : goal.slice_bounds-rest-count
slice_bounds-rest-count c = inside c.args.state c.args.grid.now c.args.bytes.now c.past_stretch-first.ensures

pub slice_bounds-rest-start : goal.slice_bounds-rest-start
slice_bounds-rest-start c = inside c.args.state c.args.grid.now c.args.bytes.now c.past_stretch-first.ensures

pub loop-b-init : goal.loop-b-init
loop-b-init c = on c.args.bytes.now (runs_to_none c.args.state c.args.grid.now c.args.bytes.now c.requires) c.past_stretch-first.ensures

pub returns-then-not-is_quiet : goal.returns-then-not-is_quiet
returns-then-not-is_quiet c =
    runs_to_stop c.loop-b.invariant c.in-Some.ensures.cases.0 c.decide-d.ensures c.apply.ensures
    (sym c.is_quiet.ensures ∙ c.if-not-is_quiet.true)

pub slice_bounds-rest-count-then-f : goal.slice_bounds-rest-count-then-f
slice_bounds-rest-count-then-f c =
    inside c.decide-d.result.next c.apply.new.grid c.in-Some.behind.now c.past_stretch-on.ensures

pub slice_bounds-rest-start-then-f : goal.slice_bounds-rest-start-then-f
slice_bounds-rest-start-then-f c =
    inside c.decide-d.result.next c.apply.new.grid c.in-Some.behind.now c.past_stretch-on.ensures

pub loop-b-preserved-then-f : goal.loop-b-preserved-then-f
loop-b-preserved-then-f c =
    on c.in-Some.behind.now (runs_to_byte c.loop-b.invariant c.in-Some.ensures.cases.0 c.decide-d.ensures c.apply.ensures (sym c.is_quiet.ensures ∙ c.if-not-is_quiet.false)) c.past_stretch-on.ensures

pub loop-b-preserved : goal.loop-b-preserved
loop-b-preserved c =
    runs_to_byte c.loop-b.invariant c.in-Some.ensures.cases.0 c.decide-d.ensures c.apply.ensures (sym c.is_quiet.ensures ∙ c.if-not-is_quiet.false)

pub returns : goal.returns
returns c = runs_to_all c.loop-b.rest.now c.loop-b.invariant c.in_default.ensures.cases
