-- Complete is rewritten, of calls: what a call answered 3 returned and left is handed to the writer. Assumes nothing.
use mathlib.Core.Path.{◌≡◌, refl, sym, ap, ap₂, ◌∙◌}
use mathlib.Core.List.{List, [], ◌∷◌, ◌++◌, append_assoc}
use Prim.Native.Nat.{ℕ, suc, ◌+◌, ◌-◌, ◌≤◌}
use native.Mathlib.Omega.{arith}
use lib.ListN.{length, get_or, take, length-append}
use lib.Seq.{take-suc, length-take-le, get_or-append-add}
use Rattle.general_laws.specs.Bytes.{◌!◌}
use Rattle.general_laws.proofs.Lists.{at_least_one}
use Rattle.text.specs.Kinds.{payload_length}
use Rattle.text.specs.Part.{UndamagedPart, part_header, part_modes}
use Rattle.text.specs.WriterInput.{writer_header_of}
use Rattle.text.specs.declared.header.Header.{Header}
use Rattle.receiver_spec.specs.State.{fresh, empty_grid}
use Rattle.receiver_spec.specs.Calls.{part_complete, number, CallOutcome, Request, byte, slice, Call, on_grid, ask, bytes_of, spread, After, start, add, next, received}
use Rattle.receiver_spec.specs.Demand3.{EndsUndamaged}
use Rattle.receiver_spec.proofs.Laws.{demand_3, held_then, after_last, calls_stepped, answers_long, spread_last}
use Rattle.writer_spec.specs.Written.{writes}
use Rattle.writer_spec.specs.Demand2.{held_part, held_payload, Relayed}
use Rattle.writer_spec.proofs.ReadsBack.{reads_back_lem}
use Rattle.writer_spec.proofs.Rewriting.{rewritten}

one_more : (n : ℕ) → 1 ≤ n → suc (n - 1) ≡ n
one_more n l = omega arith

module _ (asked : ℕ) (calls : List Call) (r : Request) (complete : number (ask (received asked calls).state (received asked calls).grid r).reply ≡ 3) where
  abbrev a : After
  a = received asked calls

  abbrev list : List Call
  list = calls ++ (on_grid r ∷ [])

  abbrev outcome : CallOutcome
  outcome = ask a.state a.grid r

  here : received asked list ≡ add a r outcome
  unfolding next
  here = after_last calls (on_grid r) (start asked)

  -- a byte was taken, and no more than there are
  some_taken : (1 ≤ outcome.count) × (outcome.count ≤ length (bytes_of r))
  some_taken = counts r complete (received asked (calls ++ (on_grid r ∷ []))) ((demand_3 asked list).each calls (on_grid r) [] refl)
    where
      counts : (r : Request) → number (ask a.state a.grid r).reply ≡ 3
          → (z : After) → Rattle.receiver_spec.specs.Demand3.CallMade a (on_grid r) z → (1 ≤ (ask a.state a.grid r).count) × ((ask a.state a.grid r).count ≤ length (bytes_of r))
      counts (byte b) e z (made, told, here) = let one : (ask a.state a.grid (byte b)).count ≡ 1 = ap (λ (o : CallOutcome). o.count) made in (omega (arith, one), omega (arith, one))
      counts (slice bytes) e z (made, here) =
          (at_least_one _ (λ none. omega (arith, ap number (made.none none), e)), made.within)

  abbrev n : ℕ
  n = outcome.count - 1

  abbrev front : List ℕ
  front = a.taken ++ take n (bytes_of r)

  abbrev last : ℕ
  last = get_or (bytes_of r) n 0

  taken_is : (received asked list).taken ≡ front ++ (last ∷ [])
  taken_is =
      let (some, most) = some_taken in
      ap (λ (z : After). z.taken) here
      ∙ ap (λ t. a.taken ++ t) (ap (λ m. take m (bytes_of r)) (sym (one_more outcome.count some)) ∙ take-suc (bytes_of r) n 0 (omega (arith, some, most)))
      ∙ sym (append_assoc a.taken (take n (bytes_of r)) (last ∷ []))

  -- the last byte taken was answered 3
  last_said : (received asked list).said ! length front ≡ 3
  last_said =
      let (some, most) = some_taken in
      let same : length a.said ≡ length a.taken = ap length (calls_stepped asked calls).said ∙ answers_long a.taken (fresh asked) empty_grid in
      let place : length front ≡ length a.said + n = length-append a.taken (take n (bytes_of r)) ∙ omega (arith, same, length-take-le n (bytes_of r) (omega (arith, some, most))) in
      ap₂ (λ (t : List ℕ) i. t ! i) (ap (λ (z : After). z.said) here) place
      ∙ get_or-append-add a.said (spread outcome.count (number outcome.reply)) n 0
      ∙ ap₂ (λ m k. spread m k ! n) (sym (one_more outcome.count some)) complete
      ∙ spread_last n 3

  ends : EndsUndamaged asked (front ++ (last ∷ []))
  ends = ((demand_3 asked list).complete front last [] taken_is).0 last_said

  abbrev u : UndamagedPart ends.part
  u = ends.whole

  split : (received asked list).taken ≡ ends.before ++ ends.part
  split = taken_is ∙ ends.split

  tells : outcome.reply ≡ part_complete (held_part u.part)
  tells = (demand_3 asked list).complete_tells calls r [] refl complete ends.before ends.part u split

  abbrev p : ℕ
  p = held_part u.part

  -- what is held is the part's
  handed : writes p (writer_header_of (received asked list).state.header) (received asked list).state.modes (take (payload_length p) (received asked list).grid)
      ≡ writes p (writer_header_of (part_header u.part)) (part_modes u.part) (held_payload u.part)
  handed =
      let (header, modes, grid) = held_then asked list ends.before ends.part u ends.marked split in
      ap₂ (λ (h : Header) m. writes p (writer_header_of h) m (take (payload_length p) (received asked list).grid)) header modes
      ∙ ap (λ g. writes p (writer_header_of (part_header u.part)) (part_modes u.part) (take (payload_length p) g)) grid

  pub relay : Relayed asked calls r
  relay =
      record {
        before = ends.before;
        bytes = ends.part;
        split = split;
        whole = u;
        tells = tells;
        taken = λ output room. ap (λ f. f output) handed ∙ (reads_back_lem _ _ _ _ (rewritten ends.part u).taken).placed output room;
        rewritten = rewritten ends.part u;
      }
