-- The refusals as the definition has them; a payload byte by its law; else the decision is the step. Assumes nothing.
use mathlib.Core.Path.{◌≡◌, refl, sym, ◌∙◌, subst}
use mathlib.Core.Bool.{Bool, true}
use mathlib.Core.List.{List, [], ◌∷◌}
use Prim.Native.Nat.{ℕ, ◌+◌, ◌*◌, ◌-◌, ◌<◌}
use native.Mathlib.Omega.{arith}
use lib.ListN.{length, set}
use borrow.Author.Rules.{rules}
use borrow.Author.Tests.{eq-eqb}
use Rattle.text.specs.Part.{grid_length}
use Rattle.receiver_spec.specs.State.{is_possible}
use Rattle.receiver_spec.specs.Receiver.{◌⊕◌}
use Rattle.receiver_spec.specs.Calls.{byte_call}
use Rattle.receiver_bytes_seen.specs.AsNumber.{push_seen}
use Rattle.receiver_state.specs.Meaning.{state_of, applied_to}
use Rattle.receiver_step.specs.Decide.{decide}
use Rattle.receiver_state.specs.declared.state.State.{State}
use Rattle.receiver_decisions.specs.declared.decision.Decision.{Decision}
use Rattle.receiver_state.specs.declared.answer.Answer.TheVariants.{Quiet}
use Rattle.receiver_byte_call.specs.Returned.{returned}
use Rattle.receiver_bytes_seen.specs.Behind.{seen_after}
use Rattle.receiver_byte_call.specs.InPayload.{advanced_state, is_payload_here}
use Rattle.receiver_byte_call.proofs.Decisions.{decide_facts, same_step, applied_here}
use Rattle.receiver_byte_call.proofs.PayloadByte.{PayloadByte, payload_byte_has, short_here, possible_here, decide_here}
use Rattle.receiver_byte_call.proofs.calls.byte_call.Goals as goal

-- a byte that is taken
taken : (s : State) (g : List ℕ) (b : ℕ) → b < 256 → length g ≡ grid_length → is_possible (state_of s) ≡ true
    → returned (record { state = (decide s b).next; answer = (decide s b).answer; count = 1 }) (applied_to g (decide s b).effect b)
    ≡ byte_call (state_of s) g b
unfolding returned byte_call
taken s g b h long possible =
    let (quiet, reply, seen, count) = decide_facts s b in
    rw (eq-eqb _ _ long, possible, applied_here g (decide s b).effect b long, reply, ← same_step s g b h)

-- a payload byte, under the names that the code has for the state after it
entered :
    (s : State) (g : List ℕ) (b : ℕ) {t : State} {seen : ℕ} → b < 256 → length g ≡ grid_length → is_payload_here s.frame s.marks s.digits b ≡ true
    → seen ≡ push_seen s.seen b → t ≡ advanced_state s (s.frame.place + 1) (s.frame.check ⊕ b) seen 5
    → (returned (record { state = t; answer = Quiet; count = 1 }) (set g (2000 * (s.frame.due - 1) + (s.frame.place - 3)) b) ≡ byte_call (state_of s) g b)
    × (t.seen ≡ seen_after s.seen (b ∷ []))
unfolding seen_after advanced_state
entered s g b h long here m e =
    let has = payload_byte_has s.frame s.marks s.digits b here in
    rw (e, m) (
      subst (λ (d : Decision). returned (record { state = d.next; answer = d.answer; count = 1 }) (applied_to g d.effect b) ≡ byte_call (state_of s) g b)
          (decide_here s b has) (taken s g b h long (possible_here s b has)),
      refl,
    )

-- where the test of the code says so, the byte is payload, and its place is within the grid
module _ (s : State) (b : ℕ) {r : Bool} (e : r ≡ is_payload_here s.frame s.marks s.digits b) (t : r ≡ true) where
  payload : PayloadByte s.frame s.marks s.digits b
  payload = payload_byte_has s.frame s.marks s.digits b (sym e ∙ t)

  short : s.frame.place < 2003
  short = short_here s.frame s.marks s.digits b payload

pub overflow_sub-grid : goal.overflow_sub-grid
overflow_sub-grid c =
    let has = payload c.args.state c.args.b c.is_payload_here.ensures c.if-is_payload_here.true in omega (arith, has.begun)

pub overflow_sub-grid-then-is_payload_here : goal.overflow_sub-grid-then-is_payload_here
overflow_sub-grid-then-is_payload_here c =
    let has = payload c.args.state c.args.b c.is_payload_here.ensures c.if-is_payload_here.true in omega (arith, has.past)

pub bounds-grid-f : goal.bounds-grid-f
bounds-grid-f c =
    let has = payload c.args.state c.args.b c.is_payload_here.ensures c.if-is_payload_here.true in
    omega (arith, has.begun, has.ten, has.past, short c.args.state c.args.b c.is_payload_here.ensures c.if-is_payload_here.true, c.if-grid-ne20000.false)

pub overflow_add-f : goal.overflow_add-f
overflow_add-f c = omega (arith, short c.args.state c.args.b c.is_payload_here.ensures c.if-is_payload_here.true)

pub returns-then-is_payload_here : goal.returns-then-is_payload_here
unfolding ◌⊕◌
returns-then-is_payload_here c =
    let a = c.args in
    let e = entered a.state a.grid.now a.b (search rules) c.if-grid-ne20000.false (sym c.is_payload_here.ensures ∙ c.if-is_payload_here.true) c.pushed.ensures c.advanced_state.ensures in
    record { grid_after = e.0; seen_value = e.1 }

pub returns : goal.returns
unfolding seen_after
returns c =
    let a = c.args in
    let d = c.decide-d.ensures in
    let possible = ((sym c.is_possible.ensures) ∙ c.if-not-is_possible.false) in record {
      grid_after = rw (c.apply.ensures, d) (taken a.state a.grid.now a.b (search rules) c.if-grid-ne20000.false possible);
      seen_value = rw d (decide_facts a.state a.b).2;
    }
