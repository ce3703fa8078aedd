-- The bytes of a slice, one by one, in the code's terms; and that this is `receiver_spec`'s feed. Assumes nothing.
use mathlib.Core.Path.{◌≡◌, refl, sym, ap, ap₂, ◌∙◌, subst}
use mathlib.Core.Bool.{true, false}
use mathlib.Core.List.{List, [], ◌∷◌, ◌++◌}
use Prim.Native.Nat.{ℕ, zero, suc, ◌+◌, ◌-◌, ◌≤◌, ◌<◌}
use native.Mathlib.Nat.{add-zero, zero-add}
use native.Mathlib.Omega.{arith}
use lib.ListN.{length, drop, take, length-set, take-append-drop, length-drop}
use Rattle.receiver_spec.specs.Calls.{CallOutcome, feed, slice_call, answered}
use Rattle.receiver_spec.specs.State.{is_possible}
use borrow.Author.Tests.{eq-eqb}
use Rattle.receiver_byte_call.specs.declared.calls.CallResult.{CallResult}
use Rattle.general_laws.proofs.Tests.{by_test, never}
use Rattle.receiver_state.specs.Meaning.{state_of, applied, number_of, applied_to}
use Rattle.receiver_step.specs.Decide.{decide}
use Rattle.receiver_state.specs.declared.state.State.{State}
use Rattle.receiver_decisions.specs.declared.decision.Decision.{Decision}
use Rattle.text_laws.proofs.Parts.{zeros_long}
use Rattle.receiver_state.specs.declared.grid.Effect.{Effect}
use Rattle.receiver_state.specs.declared.grid.Effect.TheVariants.{Keep, Clear, Enter}
use Rattle.text.specs.Part.{grid_length}
use Rattle.receiver_byte_call.specs.Returned.{reply_of, returned, is_quiet}
use Rattle.receiver_bytes_seen.specs.Behind.{seen_after}
use Rattle.receiver_stretches.specs.Run.{RunOutcome, passed, run}
use Rattle.receiver_byte_call.proofs.Laws.{decide_facts, same_step, applied_here}
use Rattle.general_laws.proofs.Lists.{Bytes, taken_most}

-- one byte of it
module _ (s : State) (g bytes : List ℕ) (b i : ℕ) where
  run_quiet : is_quiet (decide s b).answer ≡ true → run s g (b ∷ bytes) i ≡ run (decide s b).next (applied g (decide s b).effect b) bytes (i + 1)
  unfolding run
  run_quiet q = rw q

  run_stop : is_quiet (decide s b).answer ≡ false
      → run s g (b ∷ bytes) i
      ≡ record {
        result = record { state = (decide s b).next; answer = (decide s b).answer; count = i + 1 };
        grid = applied g (decide s b).effect b;
      }
  unfolding run
  run_stop q = rw q

-- a result after i bytes more
abbrev pub plus : ℕ → CallOutcome → CallOutcome
plus i r = record { reply = r.reply; count = i + r.count; state = r.state; grid = r.grid }

-- a result with one byte more
abbrev counted : CallOutcome → CallOutcome
counted r = record { reply = r.reply; count = suc r.count; state = r.state; grid = r.grid }

later : (i : ℕ) (r : CallOutcome) → plus (i + 1) r ≡ plus i (counted r)
later i r = ap (λ n. record { reply = r.reply; count = n; state = r.state; grid = r.grid }) (omega arith)

-- one byte of `feed`, by whether its decision is quiet
module _ (s : State) (g : List ℕ) (b : ℕ) (bytes : List ℕ) (small : b < 256) where
  feed_quiet : is_quiet (decide s b).answer ≡ true
      → feed (state_of s) g (b ∷ bytes) ≡ counted (feed (state_of (decide s b).next) (applied g (decide s b).effect b) bytes)
  unfolding feed
  feed_quiet q = rw (← same_step s g b small, sym (decide_facts s b).0 ∙ q)

  feed_stop : is_quiet (decide s b).answer ≡ false
      → feed (state_of s) g (b ∷ bytes)
      ≡ record {
        reply = answered s.frame.part (number_of (decide s b).answer);
        count = 1;
        state = state_of (decide s b).next;
        grid = applied g (decide s b).effect b;
      }
  unfolding feed
  feed_stop q = rw (← same_step s g b small, sym (decide_facts s b).0 ∙ q)

pub run_means : (s : State) (g bytes : List ℕ) (i : ℕ) → Bytes bytes
    → returned (run s g bytes i).result (run s g bytes i).grid ≡ plus i (feed (state_of s) g bytes)
unfolding run feed returned reply_of
run_means s g [] i small = rw add-zero
run_means s g (b ∷ bytes) i small =
    by_test (is_quiet (decide s b).answer)
    (λ q. rw (feed_quiet s g b bytes (small 0) q, q)
    (run_means (decide s b).next (applied g (decide s b).effect b) bytes (i + 1) (λ j. small (suc j)) ∙ later i _))
    (λ q. rw (feed_stop s g b bytes (small 0) q, q, (decide_facts s b).1))

pub run_seen : (s : State) (g bytes : List ℕ) (i : ℕ) → Bytes bytes
    → (run s g bytes i).result.state.seen ≡ seen_after s.seen (take (feed (state_of s) g bytes).count bytes)
unfolding run feed seen_after
run_seen s g [] i small = refl
run_seen s g (b ∷ bytes) i small =
    let seen = (decide_facts s b).2 in
    by_test (is_quiet (decide s b).answer)
    (λ q. rw (feed_quiet s g b bytes (small 0) q, q)
    (run_seen (decide s b).next (applied g (decide s b).effect b) bytes (i + 1) (λ j. small (suc j)) ∙ rw seen))
    (λ q. rw (feed_stop s g b bytes (small 0) q, q) seen)

-- ---- bytes that are all answered 0

not_stopped : {r : RunOutcome} {t : State} {h : List ℕ} {n : ℕ} → is_quiet r.result.answer ≡ false → r ≡ passed t h n → ⊥
unfolding is_quiet
not_stopped f e = never f (ap (λ (r : RunOutcome). is_quiet r.result.answer) e)

-- they are counted, and the bytes behind them go on from there
pub passed_count : (s : State) (g xs : List ℕ) (i : ℕ) {t : State} {h : List ℕ} {n : ℕ} → run s g xs i ≡ passed t h n → n ≡ i + length xs
unfolding run
passed_count s g [] i e = sym (ap (λ (r : RunOutcome). r.result.count) e) ∙ sym (add-zero i)
passed_count s g (b ∷ xs) i {n} e =
    by_test (is_quiet (decide s b).answer)
    (λ q. omega (arith, passed_count (decide s b).next (applied g (decide s b).effect b) xs (i + 1) (rw q at e)))
    (λ q. absurd (not_stopped q (rw q at e)))

pub passed_on : (s : State) (g xs ys : List ℕ) (i : ℕ) {t : State} {h : List ℕ} {n : ℕ} → run s g xs i ≡ passed t h n → run s g (xs ++ ys) i ≡ run t h ys n
unfolding run
passed_on s g [] ys i e = ap (λ (r : RunOutcome). run r.result.state r.grid ys r.result.count) e
passed_on s g (b ∷ xs) ys i e =
    by_test (is_quiet (decide s b).answer)
    (λ q. rw q (passed_on (decide s b).next (applied g (decide s b).effect b) xs ys (i + 1) (rw q at e)))
    (λ q. absurd (not_stopped q (rw q at e)))

-- i bytes more before them
abbrev after : ℕ → RunOutcome → RunOutcome
after i r = record { result = record { state = r.result.state; answer = r.result.answer; count = i + r.result.count }; grid = r.grid }

run_after : (s : State) (g xs : List ℕ) (i j : ℕ) → run s g xs (i + j) ≡ after i (run s g xs j)
unfolding run
run_after s g [] i j = refl
run_after s g (b ∷ xs) i j =
    by_test (is_quiet (decide s b).answer)
    (λ q. rw (q, next) (run_after (decide s b).next (applied g (decide s b).effect b) xs i (j + 1)))
    (λ q. rw (q, next))
  where
    next : i + j + 1 ≡ i + (j + 1)
    next = omega arith

pub passed_after : (s : State) (g xs : List ℕ) (i : ℕ) {t : State} {h : List ℕ} {n : ℕ} → run s g xs 0 ≡ passed t h n → run s g xs i ≡ passed t h (i + n)
passed_after s g xs i e = ap (run s g xs) (sym (add-zero i)) ∙ run_after s g xs i 0 ∙ ap (after i) e

-- a grid of 20,000 bytes stays one
length_applied : (g : List ℕ) (e : Effect) (b : ℕ) → length g ≡ grid_length → length (applied g e b) ≡ grid_length
unfolding applied
length_applied g Keep b h = h
length_applied g Clear b h = zeros_long grid_length
length_applied g (Enter i) b h = length-set g i b ∙ h

pub run_long : (s : State) (g xs : List ℕ) (i : ℕ) → length g ≡ grid_length → length (run s g xs i).grid ≡ grid_length
unfolding run
run_long s g [] i h = h
run_long s g (b ∷ xs) i h =
    by_test (is_quiet (decide s b).answer)
    (λ q. rw q (run_long (decide s b).next (applied g (decide s b).effect b) xs (i + 1) (length_applied g (decide s b).effect b h)))
    (λ q. rw q (length_applied g (decide s b).effect b h))

-- ---- the bytes of a slice, in stretches and one by one

drop_taken : (n : ℕ) (xs : List ℕ) → drop (length (take n xs)) xs ≡ drop n xs
drop_taken zero xs = refl
drop_taken (suc n) [] = refl
drop_taken (suc n) (x ∷ xs) = drop_taken n xs

-- the bytes of a slice before its rest are each answered 0, and they led to this state and grid
pub record RunsTo (s : State) (g bytes : List ℕ) (t : State) (h rest : List ℕ) : Type 0 where
  pub runs : run s g bytes 0 ≡ run t h rest (length bytes - length rest)
  pub inside : length rest ≤ length bytes
  pub long : length h ≡ grid_length

pub runs_to_none : (s : State) (g bytes : List ℕ) → length g ≡ grid_length → RunsTo s g bytes s g bytes
runs_to_none s g bytes h =
    let none : 0 ≡ length bytes - length bytes = omega arith in
    record { runs = ap (run s g bytes) none; inside = omega arith; long = h }

-- a stretch more, and a byte more, under the names that the code has for its decision and the grid
pub stretch_inside : (t u : State) (h rest : List ℕ) {k : List ℕ} {at : ℕ} (n : ℕ) → passed u k at ≡ run t h (take n rest) 0 → at ≤ length rest
stretch_inside t u h rest n e = omega (arith, passed_count t h (take n rest) 0 (sym e), taken_most n rest)

pub runs_to_stretch :
    {s t u : State} {g bytes h rest k : List ℕ} {at : ℕ} (n : ℕ) (xs : List ℕ) → RunsTo s g bytes t h rest → passed u k at ≡ run t h (take n rest) 0
    → xs ≡ drop at rest → RunsTo s g bytes u k xs
runs_to_stretch {t = t} {u = u} {bytes = bytes} {h = h} {rest = rest} {k = k} {at = at} n xs before e q =
    let ys = take n rest in
    let j = length bytes - length rest in
    let count : at ≡ 0 + length ys = passed_count t h ys 0 (sym e) in
    let left : drop n rest ≡ xs = sym (drop_taken n rest) ∙ ap (λ m. drop m rest) (sym (count ∙ zero-add (length ys))) ∙ sym q in
    let size : length xs ≡ length rest - at = ap length q ∙ length-drop at rest in
    let most : at ≤ length rest = stretch_inside t u h rest n e in
    let place : j + at ≡ length bytes - length xs = omega (arith, before.inside, size, most) in
    record {
      runs =
          before.runs
          ∙ ap (λ zs. run t h zs j) (sym (take-append-drop n rest))
          ∙ passed_on t h ys (drop n rest) j (passed_after t h ys j (sym e))
          ∙ ap₂ (run u k) left place;
      inside = omega (arith, before.inside, size);
      long = ap (λ (r : RunOutcome). length r.grid) e ∙ run_long t h ys 0 before.long;
    }

module _ {s t : State} {g bytes h rest k behind : List ℕ} {b : ℕ} {d : Decision} (before : RunsTo s g bytes t h rest) (r : rest ≡ b ∷ behind)
    (e : d ≡ decide t b) (f : k ≡ applied_to h d.effect b) where
  here : k ≡ applied h d.effect b
  here = f ∙ applied_here h d.effect b before.long

  size : length rest ≡ suc (length behind)
  size = ap length r

  place : length bytes - length rest + 1 ≡ length bytes - length behind
  place = omega (arith, before.inside, size)

  pub runs_to_byte : is_quiet d.answer ≡ true → RunsTo s g bytes d.next k behind
  runs_to_byte q =
      record {
        runs =
            before.runs
            ∙ ap (λ zs. run t h zs (length bytes - length rest)) r
            ∙ run_quiet t h behind b (length bytes - length rest) (ap (λ (x : Decision). is_quiet x.answer) (sym e) ∙ q)
            ∙ rw (place, here, e);
        inside = omega (arith, before.inside, size);
        long = ap length here ∙ length_applied h d.effect b before.long;
      }

  -- where it ends: a byte that is answered other than 0
  pub runs_to_stop : is_quiet d.answer ≡ false
      → record { result = record { state = d.next; answer = d.answer; count = length bytes - length behind }; grid = k } ≡ run s g bytes 0
  runs_to_stop q =
      sym
      (before.runs
      ∙ ap (λ zs. run t h zs (length bytes - length rest)) r
      ∙ run_stop t h behind b (length bytes - length rest) (ap (λ (x : Decision). is_quiet x.answer) (sym e) ∙ q)
      ∙ rw (place, here, e))

-- or none left
pub runs_to_all : {s t : State} {g h bytes : List ℕ} → (rest : List ℕ) → RunsTo s g bytes t h rest → length rest ≡ 0 → passed t h (length bytes) ≡ run s g bytes 0
unfolding run
runs_to_all {t = t} {h} {bytes} [] before l =
    let none : length bytes - 0 ≡ length bytes = omega arith in
    sym (before.runs ∙ ap (passed t h) none)
runs_to_all (x ∷ rest) before l = absurd (omega arith)

-- the run of all bytes is the slice call
module _ (s : State) (g bytes : List ℕ) (small : Bytes bytes) (long : length g ≡ grid_length) (possible : is_possible (state_of s) ≡ true) where
  abbrev pub Sliced : CallResult → List ℕ → Type 0
  Sliced r h = (returned r h ≡ slice_call (state_of s) g bytes) × (r.state.seen ≡ seen_after s.seen (take r.count bytes))

  pub sliced : (r : CallResult) (h : List ℕ) → record { result = r; grid = h } ≡ run s g bytes 0 → Sliced r h
  unfolding slice_call returned
  sliced r h e =
      let means : returned r h ≡ feed (state_of s) g bytes =
      subst (λ (q : RunOutcome). returned q.result q.grid ≡ plus 0 (feed (state_of s) g bytes)) (sym e) (run_means s g bytes 0 small) ∙ rw zero-add in (
        means ∙ rw (eq-eqb _ _ long, possible),
        subst (λ (q : RunOutcome). q.result.state.seen ≡ seen_after s.seen (take (feed (state_of s) g bytes).count bytes)) (sym e) (run_seen s g bytes 0 small)
            ∙ ap (λ (q : CallOutcome). seen_after s.seen (take q.count bytes)) (sym means),
      )
