-- Demand 3 of the code: a caller's list of calls comes to what the definition's list of the same calls comes to, in every field.
-- Assumes nothing.
use mathlib.Core.Path.{◌≡◌, refl, sym, ap, ap₂, ◌∙◌}
use mathlib.Core.List.{List, [], ◌∷◌, ◌++◌, append-nil}
use Prim.Native.Nat.{ℕ, ◌≤◌}
use native.Mathlib.Omega.{arith}
use lib.ListN.{length, take, length-append}
use Rattle.text.specs.Part.{StartText}
use Rattle.text_laws.proofs.Framing.{text_length_lem}
use Rattle.receiver_spec.specs.State as Spec
use Rattle.receiver_spec.specs.Calls.{CallOutcome, refused, number, Request, byte, slice, Call, on_grid, elsewhere, ask, bytes_of, spread, After, start, add, next, after, received}
use Rattle.receiver_spec.specs.Demand3.{Marked}
use Rattle.receiver_spec.proofs.Laws.{demand_3, after_last}
use Rattle.receiver_bytes_seen.specs.Behind.{seen_after}
use Rattle.receiver_bytes_seen.proofs.Laws.{length_seen, seen_append, forgets}
use Rattle.receiver_state.specs.Meaning.{state_of, number_of}
use Rattle.receiver_state.specs.declared.state.State.{State}
use Rattle.receiver_byte_call.specs.Returned.{returned}
use Rattle.receiver_byte_call.specs.declared.calls.CallResult.{CallResult}
use Rattle.receiver_byte_call.proofs.Laws.{number_same}
use Rattle.receiver_demand_3.specs.CodeCalls.{Ensured, Called, begin, more, other, outcome_at, outcomes_from, CodeWayBack, CodeDemand3}

-- the contract of a call, as the definition's `ask`
asked : (r : Request) (s : State) (g : List ℕ) (result : CallResult) (exit : List ℕ) → Ensured r s g result exit
    → (returned result exit ≡ ask (state_of s) g r) × (result.state.seen ≡ seen_after s.seen (take result.count (bytes_of r)))
unfolding ask
asked (byte b) s g result exit e = e
asked (slice bytes) s g result exit e = e

on_grid_lem : (a : After) (r : Request) → next a (on_grid r) ≡ add a r (ask a.state a.grid r)
unfolding next
on_grid_lem a r = refl

outcomes_last : (calls : List Call) (c : Call) (a : After) → outcomes_from a (calls ++ (c ∷ [])) ≡ outcomes_from a calls ++ (outcome_at (after a calls) c ∷ [])
unfolding outcomes_from after
outcomes_last [] c a = refl
outcomes_last (d ∷ calls) c a = ap (λ t. outcome_at a d ∷ t) (outcomes_last calls c (next a d))

-- two states of the code that mean the same and hold the bytes seen by the same number are the same: so after the way back two callers
-- that took the same bytes from the start text on have the same state, in every field
pub same_state : (s t : State) → state_of s ≡ state_of t → s.seen ≡ t.seen → s ≡ t
same_state s t e v =
    let count : s.frame.count ≡ t.frame.count =
    sym (length_seen s.seen s.frame.count) ∙ ap (λ (z : Spec.State). length z.seen) e ∙ length_seen t.seen t.frame.count in
    λ i. record {
      seen = v i;
      frame = record { place = (e i).place; kind = (e i).kind; picture = (e i).picture; part = (e i).part; due = (e i).due; check = (e i).check; count = count i };
      header = (e i).header;
      modes = (e i).modes;
      digits = (e i).digits;
      marks = (e i).marks;
    }

module _ (asked_for : ℕ) where
  -- What a caller's list of calls comes to: what the definition's list of the same calls does
  record Comes (calls : List Call) (s : State) (g taken said : List ℕ) (made : List CallOutcome) : Type 0 where
    outcomes : made ≡ outcomes_from (start asked_for) calls
    state : state_of s ≡ (received asked_for calls).state
    grid : g ≡ (received asked_for calls).grid
    bytes : taken ≡ (received asked_for calls).taken
    answers : said ≡ (received asked_for calls).said
    seen : s.seen ≡ seen_after 0 taken

  -- one call more on the list's grid
  on_list : (calls : List Call) (s : State) (g taken said : List ℕ) (made : List CallOutcome) → Comes calls s g taken said made
      → (r : Request) (result : CallResult) (exit : List ℕ) → Ensured r s g result exit
      → Comes (calls ++ (on_grid r ∷ [])) result.state exit (taken ++ take result.count (bytes_of r)) (said ++ spread result.count (number_of result.answer))
      (made ++ (returned result exit ∷ []))
  unfolding returned
  on_list calls s g taken said made ih r result exit e =
      record {
        outcomes = ap₂ (λ t o. t ++ (o ∷ [])) ih.outcomes outcome ∙ sym (outcomes_last calls (on_grid r) (start asked_for));
        state = sym (ap (λ (z : After). z.state) here);
        grid = sym (ap (λ (z : After). z.grid) here);
        bytes = ap (λ t. t ++ take result.count (bytes_of r)) ih.bytes ∙ sym (ap (λ (z : After). z.taken) here);
        answers =
            ap₂ (λ t n. t ++ spread result.count n) ih.answers (sym (number_same result.answer)) ∙ sym (ap (λ (z : After). z.said) here);
        seen =
            (asked r s g result exit e).1 ∙ ap (λ v. seen_after v (take result.count (bytes_of r))) ih.seen
            ∙ sym (seen_append 0 taken (take result.count (bytes_of r)));
      }
    where
      outcome : returned result exit ≡ ask (received asked_for calls).state (received asked_for calls).grid r
      outcome = (asked r s g result exit e).0 ∙ ap₂ (λ t h. ask t h r) ih.state ih.grid

      here : received asked_for (calls ++ (on_grid r ∷ [])) ≡ add (received asked_for calls) r (returned result exit)
      here = after_last calls (on_grid r) (start asked_for) ∙ on_grid_lem (received asked_for calls) r ∙ ap (add (received asked_for calls) r) (sym outcome)

  -- one lent another grid: refused with 1, it leaves all as it was
  elsewhere_on : (calls : List Call) (s : State) (g taken said : List ℕ) (made : List CallOutcome) → Comes calls s g taken said made
      → (r : Request) (grid : List ℕ) (n : length grid ≡ Rattle.text.specs.Part.grid_length → ⊥) (result : CallResult) (exit : List ℕ) → Ensured r s grid result exit
      → Comes (calls ++ (elsewhere r grid n ∷ [])) result.state g (taken ++ take result.count (bytes_of r)) (said ++ spread result.count (number_of result.answer))
      (made ++ (returned result exit ∷ []))
  unfolding returned
  elsewhere_on calls s g taken said made ih r grid n result exit e =
      record {
        outcomes = ap₂ (λ t o. t ++ (o ∷ [])) ih.outcomes outcome ∙ sym (outcomes_last calls (elsewhere r grid n) (start asked_for));
        state = ap (λ (o : CallOutcome). o.state) (outcome ∙ left) ∙ sym (ap (λ (z : After). z.state) here);
        grid = ih.grid ∙ sym (ap (λ (z : After). z.grid) here);
        bytes = ap (λ m. taken ++ take m (bytes_of r)) none ∙ append-nil taken ∙ ih.bytes ∙ sym (ap (λ (z : After). z.taken) here);
        answers =
            ap (λ m. said ++ spread m (number_of result.answer)) none ∙ append-nil said ∙ ih.answers ∙ sym (ap (λ (z : After). z.said) here);
        seen =
            (asked r s grid result exit e).1 ∙ ap (λ v. seen_after v (take result.count (bytes_of r))) ih.seen
            ∙ sym (seen_append 0 taken (take result.count (bytes_of r)));
      }
    where
      each : (ask (received asked_for calls).state grid r ≡ record { reply = refused 1; count = 0; state = (received asked_for calls).state; grid = grid })
          × (number (ask (received asked_for calls).state grid r).reply ≡ 1) × (received asked_for (calls ++ (elsewhere r grid n ∷ [])) ≡ received asked_for calls)
      each = (demand_3 asked_for (calls ++ (elsewhere r grid n ∷ []))).each calls (elsewhere r grid n) [] refl

      outcome : returned result exit ≡ ask (received asked_for calls).state grid r
      outcome = (asked r s grid result exit e).0 ∙ ap (λ t. ask t grid r) ih.state

      left : ask (received asked_for calls).state grid r ≡ record { reply = refused 1; count = 0; state = (received asked_for calls).state; grid = grid }
      left = each.0

      none : result.count ≡ 0
      none = ap (λ (o : CallOutcome). o.count) (outcome ∙ left)

      here : received asked_for (calls ++ (elsewhere r grid n ∷ [])) ≡ received asked_for calls
      here = each.2

  comes : {calls : List Call} {s : State} {g taken said : List ℕ} {made : List CallOutcome} → Called asked_for calls s g taken said made → Comes calls s g taken said made
  unfolding start after seen_after outcomes_from
  comes (begin s (e, z)) = record { outcomes = refl; state = e; grid = refl; bytes = refl; answers = refl; seen = z }
  comes (more {calls} {s} {g} {taken} {said} {made} before r result exit e) = on_list calls s g taken said made (comes before) r result exit e
  comes (other {calls} {s} {g} {taken} {said} {made} before r grid n result exit e) = elsewhere_on calls s g taken said made (comes before) r grid n result exit e

  -- ---- the way back, in every field of the code's state

  back : {calls : List Call} {s : State} {g taken said : List ℕ} {made : List CallOutcome} → Comes calls s g taken said made
      → (before text rest : List ℕ) (u : StartText text) → Marked asked_for u.block → taken ≡ before ++ (text ++ rest) → CodeWayBack asked_for s g text rest
  back {calls} {s} {g} {taken} x before text rest u hm e =
      let here = (demand_3 asked_for calls).way_back calls [] (sym (append-nil calls)) before text rest u hm (sym x.bytes ∙ e) in
      let long : 5 ≤ length (text ++ rest) = omega (arith, length-append text rest, ap length u.framed, text_length_lem u.block) in
      record {
        state = x.state ∙ here.state;
        seen = x.seen ∙ ap (seen_after 0) e ∙ seen_append 0 before (text ++ rest) ∙ forgets (seen_after 0 before) 0 (text ++ rest) long;
        grid = x.grid ∙ here.grid;
      }

  pub same_back : {s t : State} {g h text rest : List ℕ} → CodeWayBack asked_for s g text rest → CodeWayBack asked_for t h text rest → (s ≡ t) × (g ≡ h)
  same_back {s} {t} x y = (same_state s t (x.state ∙ sym y.state) (x.seen ∙ sym y.seen), x.grid ∙ sym y.grid)

  -- The theorem
  pub code_demand_3 :
      {calls : List Call} {s : State} {g taken said : List ℕ} {made : List CallOutcome} → Called asked_for calls s g taken said made
      → CodeDemand3 asked_for calls s g taken said made
  code_demand_3 {calls} c =
      let x = comes c in
      record {
        outcomes = x.outcomes;
        state = x.state;
        grid = x.grid;
        bytes = x.bytes;
        answers = x.answers;
        seen = x.seen;
        way_back = back x;
        demand = demand_3 asked_for calls;
      }
