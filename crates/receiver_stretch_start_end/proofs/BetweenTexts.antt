-- Bytes between texts, as a stretch takes them. Assumes nothing.
use mathlib.Core.Path.{◌≡◌, refl, sym, ap, ap₂, ◌∙◌}
use mathlib.Core.Logic.{◌⊎◌, inl, inr, ◌≢◌}
use mathlib.Core.Bool.{true, false, not, ◌||◌}
use mathlib.Core.List.{List, [], ◌∷◌}
use Prim.Native.Nat.{ℕ, suc, ◌+◌, ◌≤◌, ◌<◌}
use native.Mathlib.Nat.{add-zero}
use native.Mathlib.Omega.{arith}
use lib.Dec.{eqb}
use lib.ListN.{length, get_or, take, drop}
use lib.Seq.{length-take-le}
use borrow.Author.Tests.{eqb-true, eqb-false, eq-eqb, ne_eqb, not-true, not-false}
use Rattle.text.specs.Text.{FD}
use Rattle.general_laws.proofs.Lists.{from_on}
use Rattle.general_laws.proofs.Tests.{by_test, and_split, neither}
use Rattle.receiver_spec.specs.Seen.{due_byte}
use Rattle.receiver_spec.proofs.Laws.{only_fd}
use Rattle.receiver_bytes_seen.specs.AsNumber.{seen_of, push_seen, push_count}
use Rattle.receiver_bytes_seen.specs.Behind.{seen_after, count_after}
use Rattle.receiver_state.specs.Meaning.{applied}
use Rattle.receiver_state.specs.declared.state.State.{State}
use Rattle.receiver_state.specs.declared.answer.Answer.TheVariants.{Quiet}
use Rattle.receiver_state.specs.declared.grid.Effect.TheVariants.{Keep}
use Rattle.receiver_decisions.specs.Decisions.{goes_on}
use Rattle.receiver_step.specs.Decide.{gap_decided, pushed_state, decide}
use Rattle.receiver_byte_call.specs.Returned.{is_quiet}
use Rattle.receiver_byte_call.specs.InPayload.{advanced_state}
use Rattle.receiver_byte_call.proofs.Laws.{advanced_first}
use Rattle.receiver_stretches.specs.declared.stretch.StretchResult.{StretchResult}
use Rattle.receiver_stretches.specs.Run.{passed, run}
use Rattle.receiver_stretch_start_end.specs.Ahead.{is_idle, is_gap, idle_length, due_length, wait_length, seen_on, waited_for, Waited}

-- what an idle frame has, and one with a part open: nothing but part, due text and the count of bytes seen
module _ (s : State) where
  pub idle_has : is_idle s.frame ≡ true
      → (s.frame.place ≡ 0) × (s.frame.part ≡ 0) × (s.frame.kind ≡ 0) × (s.frame.picture ≡ 0) × (s.frame.due ≡ 0) × (s.frame.check ≡ 0)
  unfolding is_idle
  idle_has h =
      let f = s.frame in
      let (h1, check) = and_split _ _ h in
      let (h2, due) = and_split _ _ h1 in
      let (h3, picture) = and_split _ _ h2 in
      let (h4, kind) = and_split _ _ h3 in
      let (place, part) = and_split _ _ h4 in (
        eqb-true f.place 0 place,
        eqb-true f.part 0 part,
        eqb-true f.kind 0 kind,
        eqb-true f.picture 0 picture,
        eqb-true f.due 0 due,
        eqb-true f.check 0 check,
      )

  pub gap_has : is_gap s.frame ≡ true
      → (s.frame.place ≡ 0) × (s.frame.part ≢ 0) × (s.frame.kind ≡ 0) × (s.frame.picture ≡ 0) × (s.frame.check ≡ 0)
  unfolding is_gap
  gap_has h =
      let f = s.frame in
      let (h1, check) = and_split _ _ h in
      let (h2, picture) = and_split _ _ h1 in
      let (h3, kind) = and_split _ _ h2 in
      let (place, part) = and_split _ _ h3 in (
        eqb-true f.place 0 place,
        eqb-false f.part 0 (not-true _ part),
        eqb-true f.kind 0 kind,
        eqb-true f.picture 0 picture,
        eqb-true f.check 0 check,
      )

-- nothing is under way, and a byte is free, or the due one
pub record Free (s : State) (seen count b : ℕ) : Type 0 where
  pub place : s.frame.place ≡ 0
  pub kind : s.frame.kind ≡ 0
  pub picture : s.frame.picture ≡ 0
  pub check : s.frame.check ≡ 0
  pub free : ((s.frame.part ≡ 0) × (s.frame.due ≡ 0)) ⊎ ((s.frame.part ≢ 0) × (b ≡ due_byte (seen_of seen count)))

pub idle_free : (s : State) (seen count b : ℕ) → is_idle s.frame ≡ true → Free s seen count b
idle_free s seen count b h =
    let (place, part, kind, picture, due, check) = idle_has s h in
    record { place = place; kind = kind; picture = picture; check = check; free = inl (part, due) }

pub gap_free : (s : State) (seen count b : ℕ) → is_gap s.frame ≡ true → b ≡ due_byte (seen_of seen count) → Free s seen count b
gap_free s seen count b h e =
    let (place, part, kind, picture, check) = gap_has s h in
    record { place = place; kind = kind; picture = picture; check = check; free = inr (part, e) }

-- such a byte, where it ends no opening
between_step : (s : State) (seen count b : ℕ) → eqb b FD ≡ false → Free s seen count b
    → decide (seen_on s seen count) b ≡ record { next = seen_on s (push_seen seen b) (push_count count); answer = Quiet; effect = Keep }
unfolding decide pushed_state gap_decided goes_on advanced_state
between_step s seen count b e h = go h.free
  where
    go : ((s.frame.part ≡ 0) × (s.frame.due ≡ 0)) ⊎ ((s.frame.part ≢ 0) × (b ≡ due_byte (seen_of seen count)))
        → decide (seen_on s seen count) b ≡ record { next = seen_on s (push_seen seen b) (push_count count); answer = Quiet; effect = Keep }
    go (inl (part, due)) =
        simp (only_fd (seen_of seen count) b (eqb-false b FD e), h.place, h.kind, h.picture, h.check, part, due)
    go (inr (part, due)) =
        simp (only_fd (seen_of seen count) b (eqb-false b FD e), h.place, h.kind, h.picture, h.check, ne_eqb s.frame.part 0 part, eq-eqb b (due_byte (seen_of seen count)) due)

-- ---- bytes that are all free

-- each of them, one behind the other
pub data AllFree (s : State) : ℕ → ℕ → List ℕ → Type 0 where
  free_none : {v n : ℕ} → AllFree s v n []
  free_more : {v n b : ℕ} {xs : List ℕ} → eqb b FD ≡ false → Free s v n b → AllFree s (push_seen v b) (push_count n) xs → AllFree s v n (b ∷ xs)

free_passed :
    {s : State} {v n : ℕ} {xs : List ℕ} (g : List ℕ) (i : ℕ) → AllFree s v n xs
    → run (seen_on s v n) g xs i ≡ passed (seen_on s (seen_after v xs) (count_after n xs)) g (i + length xs)
unfolding run is_quiet applied seen_after count_after
free_passed g i free_none = rw (add-zero i)
free_passed {s} {v} {n} g i (free_more {b = b} {xs = xs} e f r) =
    let far : i + 1 + length xs ≡ i + suc (length xs) = omega arith in
    rw (between_step s v n b e f) (free_passed g (i + 1) r ∙ rw far)

-- between parts, up to the next `FD`
module _ (s : State) (h : is_idle s.frame ≡ true) where
  idle_all : (v n : ℕ) (bytes : List ℕ) → AllFree s v n (take (idle_length bytes) bytes)
  unfolding idle_length
  idle_all v n [] = free_none
  idle_all v n (b ∷ bytes) =
      by_test (eqb b FD) (λ t. rw t free_none) (λ t. rw t (free_more t (idle_free s v n b h) (idle_all (push_seen v b) (push_count n) bytes)))

pub idle_most : (bytes : List ℕ) → idle_length bytes ≤ length bytes
unfolding idle_length
idle_most [] = omega arith
idle_most (b ∷ bytes) = by_test (eqb b FD) (λ t. rw t (omega arith)) (λ t. rw t (omega (arith, idle_most bytes)))

-- in an open part, as far as each is due
module _ (s : State) (h : is_gap s.frame ≡ true) where
  due_all : (v n : ℕ) (bytes : List ℕ) → AllFree s v n (take (due_length v n bytes) bytes)
  unfolding due_length
  due_all v n [] = free_none
  due_all v n (b ∷ bytes) =
      by_test (eqb b FD || not (eqb b (due_byte (seen_of v n)))) (λ t. rw t free_none)
      (λ t.
      let (other, due) = neither (eqb b FD) (not (eqb b (due_byte (seen_of v n)))) t in
      rw t (free_more other (gap_free s v n b h (eqb-true _ _ (not-false _ due))) (due_all (push_seen v b) (push_count n) bytes)))

due_most : (v n : ℕ) (bytes : List ℕ) → due_length v n bytes ≤ length bytes
unfolding due_length
due_most v n [] = omega arith
due_most v n (b ∷ bytes) =
    by_test (eqb b FD || not (eqb b (due_byte (seen_of v n)))) (λ t. rw t (omega arith))
    (λ t. rw t (omega (arith, due_most (push_seen v b) (push_count n) bytes)))

-- either
module _ (s : State) (bytes : List ℕ) where
  wait_free : (wait_length s bytes ≤ length bytes) × AllFree s s.seen s.frame.count (take (wait_length s bytes) bytes)
  unfolding wait_length
  wait_free =
      by_test (is_idle s.frame) (λ t. rw t (idle_most bytes, idle_all s t s.seen s.frame.count bytes))
      (λ f. rw f
      (by_test (is_gap s.frame) (λ t. rw t (due_most s.seen s.frame.count bytes, due_all s t s.seen s.frame.count bytes)) (λ t. rw t (omega arith, free_none))))

  pub wait_most : wait_length s bytes ≤ length bytes
  wait_most = wait_free.0

  pub waited : {r : StretchResult} → r.at ≡ wait_length s bytes → r.state ≡ waited_for s (take r.at bytes) → Waited s (wait_length s bytes) bytes r
  waited {r} e q =
      let xs = take (wait_length s bytes) bytes in
      let state : r.state ≡ waited_for s xs = q ∙ ap (λ i. waited_for s (take i bytes)) e in
      let long : r.at ≡ 0 + length xs = omega (arith, e, length-take-le (wait_length s bytes) bytes wait_free.0) in
      record {
        long = e;
        inside = wait_free.0;
        state_is = state;
        runs = λ g. ap₂ (λ (t : State) i. passed t g i) state long ∙ sym (free_passed g 0 wait_free.1) ∙ ap (λ (t : State). run t g xs 0) (advanced_first s);
      }

-- ---- how far the due bytes go

module _ (bytes : List ℕ) (i v n seen count : ℕ) (before : due_length v n bytes ≡ i + due_length seen count (drop i bytes)) where
  here : i < length bytes → drop i bytes ≡ get_or bytes i 0 ∷ drop (i + 1) bytes
  here l = from_on bytes i (i + 1) refl (omega (arith, l))

  pub due_on : {more counted : ℕ} → i < length bytes → (eqb (get_or bytes i 0) FD || not (eqb (get_or bytes i 0) (due_byte (seen_of seen count)))) ≡ false
      → more ≡ push_seen seen (get_or bytes i 0) → counted ≡ push_count count → due_length v n bytes ≡ i + 1 + due_length more counted (drop (i + 1) bytes)
  unfolding due_length
  due_on l t m c = before ∙ ap (λ xs. i + due_length seen count xs) (here l) ∙ rw (t, m, c) (omega arith)

  pub due_stop : i < length bytes → (eqb (get_or bytes i 0) FD || not (eqb (get_or bytes i 0) (due_byte (seen_of seen count)))) ≡ true → due_length v n bytes ≡ i
  unfolding due_length
  due_stop l t = before ∙ ap (λ xs. i + due_length seen count xs) (here l) ∙ rw t (add-zero i)

  pub due_end : drop i bytes ≡ [] → due_length v n bytes ≡ i
  unfolding due_length
  due_end e = before ∙ ap (λ xs. i + due_length seen count xs) e ∙ add-zero i
