-- Lists of calls are runs of steps: state and grid after the calls, and the answers that they gave, are those of the bytes taken, step by step.
-- Assumes nothing.
use mathlib.Core.Path.{◌≡◌, refl, sym, ap, ap₂, ◌∙◌, subst}
use mathlib.Core.Logic.{◌≢◌}
use mathlib.Core.List.{List, [], ◌∷◌, ◌++◌, append_assoc, append-nil, map}
use mathlib.Core.Bool.{true, not}
use Prim.Native.Nat.{ℕ, zero, suc, ◌-◌, ◌≤◌}
use native.Mathlib.Omega.{arith}
use lib.Dec.{eqb}
use lib.ListN.{length, take}
use borrow.Author.Tests.{eqb-true, eqb-false, eq-eqb, ne_eqb}
use Rattle.general_laws.specs.Bytes.{◌!◌}
use Rattle.text.specs.Part.{grid_length}
use Rattle.general_laws.proofs.Tests.{by_if}
use Rattle.receiver_spec.specs.State.{State, fresh, empty_grid, is_possible}
use Rattle.receiver_spec.specs.Receiver.{step}
use Rattle.receiver_spec.specs.Calls.{Reply, quiet, number, answered, CallOutcome, refuses, judged, byte_call, feed, slice_call, Request, byte, slice, Call, on_grid, elsewhere, ask, spread, After, start, add, next, after, received, singly, answers_of, state_after, grid_after}
use Rattle.receiver_spec.specs.Demand3.{says_nothing, SliceTaken}
use Rattle.receiver_spec.proofs.Answers.{step_told}
use Rattle.receiver_spec.proofs.Possible.{Possible, possible_keeps, step_kept, fresh_possible, grid_long}

-- ---- single calls

-- a call that is not refused
pub not_refused : (s : State) (g : List ℕ) (outcome : CallOutcome) → Possible s → length g ≡ grid_length → judged s g outcome ≡ outcome
not_refused s g outcome p l = rw (eq-eqb (length g) grid_length l, possible_keeps s p)

pub wrong_grid : (s : State) (g : List ℕ) (r : Request) → length g ≢ grid_length → ask s g r ≡ refuses 1 s g
unfolding ask byte_call slice_call
wrong_grid s g (byte b) n = rw (ne_eqb (length g) grid_length n)
wrong_grid s g (slice bytes) n = rw (ne_eqb (length g) grid_length n)

pub byte_taken : (s : State) (g : List ℕ) (b : ℕ) → Possible s → length g ≡ grid_length
    → ask s g (byte b) ≡ record { reply = answered s.part (step s g b).answer; count = 1; state = (step s g b).state; grid = (step s g b).grid }
unfolding ask byte_call
byte_taken s g b p l = not_refused s g _ p l

-- a reply has its answer's number
pub number_answered : (part n : ℕ) → number (answered part n) ≡ n
unfolding answered
number_answered part n =
    by_if (λ r. number r ≡ n) (eqb n 0) (λ e. sym (eqb-true n 0 e))
    (λ _. by_if (λ r. number r ≡ n) (eqb n 1) (λ e. sym (eqb-true n 1 e))
    (λ _. by_if (λ r. number r ≡ n) (eqb n 2) (λ e. sym (eqb-true n 2 e))
    (λ _. by_if (λ r. number r ≡ n) (eqb n 3) (λ e. sym (eqb-true n 3 e)) (λ _. refl))))

spread_suc : (n a : ℕ) → (n ≡ 0 → a ≡ 0) → spread (suc n) a ≡ 0 ∷ spread n a
spread_suc zero a h = rw (h refl)
spread_suc (suc n) a h = refl

-- the last of the answers that a call spreads over its bytes is its own
pub spread_last : (n a : ℕ) → spread (suc n) a ! n ≡ a
spread_last zero a = refl
spread_last (suc n) a = spread_last n a

quiet_answered : (part : ℕ) → quiet ≡ answered part 0
unfolding answered
quiet_answered part = refl

feed_none : (bytes : List ℕ) (s : State) (g : List ℕ) → (feed s g bytes).count ≡ 0 → (feed s g bytes).reply ≡ quiet
unfolding feed
feed_none [] s g e = refl
feed_none (b ∷ bytes) s g e =
    by_if (λ (f : CallOutcome). f.count ≡ 0 → f.reply ≡ quiet) (eqb (step s g b).answer 0) (λ _ h. absurd (omega arith)) (λ _ h. absurd (omega arith)) e

-- the part open before the last byte taken: of the rest, or of this one byte where no more are taken
last_part : (bytes : List ℕ) (s : State) (g : List ℕ) (b n : ℕ) (r : Reply) → (n ≡ 0 → r ≡ quiet)
    → r ≡ answered (state_after (step s g b).state (step s g b).grid (take (n - 1) bytes)).part (number r)
    → r ≡ answered (state_after s g (take (suc n - 1) (b ∷ bytes))).part (number r)
unfolding state_after answered
last_part bytes s g b zero r h e = rw (h refl)
last_part bytes s g b (suc n) r h e =
    let here : suc n - 1 ≡ n = omega arith in
    let later : suc n ≡ suc (suc n) - 1 = omega arith in
    subst (λ m. r ≡ answered (state_after s g (take m (b ∷ bytes))).part (number r)) later
    (subst (λ m. r ≡ answered (state_after (step s g b).state (step s g b).grid (take m bytes)).part (number r)) here e)

pub feed_taken : (bytes : List ℕ) (s : State) (g : List ℕ) → SliceTaken s g bytes (feed s g bytes)
unfolding feed answers_of state_after grid_after
feed_taken [] s g =
    record {
      is_answer = says_nothing;
      answer = quiet_answered s.part;
      within = omega arith;
      each = refl;
      all = λ _. refl;
      none = λ _. refl;
      some = λ l. absurd (omega arith);
      state = refl;
      grid = refl;
    }
feed_taken (b ∷ bytes) s g =
    let o = step s g b in
    let f = feed o.state o.grid bytes in
    let ih = feed_taken bytes o.state o.grid in
    by_if (SliceTaken s g (b ∷ bytes)) (eqb o.answer 0)
    (λ e. record {
      is_answer = ih.is_answer;
      answer = last_part bytes s g b f.count f.reply (feed_none bytes o.state o.grid) ih.answer;
      within = omega (arith, ih.within);
      each =
          ap₂ (λ x y. x ∷ y) (eqb-true _ _ e) ih.each
          ∙ sym (spread_suc f.count (number f.reply) (λ z. ap number (feed_none bytes o.state o.grid z)));
      all = λ z. ap suc (ih.all z);
      none = λ z. absurd (omega arith);
      some = λ _. omega arith;
      state = ih.state;
      grid = ih.grid;
    })
    (λ e. let n = number_answered s.part o.answer in
    record {
      is_answer = step_told s.part s g b;
      answer = ap (answered s.part) (sym n);
      within = omega arith;
      each = ap (λ x. x ∷ []) (sym n);
      all = λ z. absurd (eqb-false _ _ e (sym n ∙ z));
      none = λ z. absurd (omega arith);
      some = λ _. omega arith;
      state = refl;
      grid = refl;
    })

pub slice_taken : (s : State) (g bytes : List ℕ) → Possible s → length g ≡ grid_length → SliceTaken s g bytes (ask s g (slice bytes))
unfolding ask slice_call
slice_taken s g bytes p l = subst (SliceTaken s g bytes) (sym (not_refused s g (feed s g bytes) p l)) (feed_taken bytes s g)

-- whatever the state and the grid: no more bytes are taken than there are
pub slice_count_most : (s : State) (g bytes : List ℕ) → (slice_call s g bytes).count ≤ length bytes
unfolding slice_call
slice_count_most s g bytes =
    by_if (λ (o : CallOutcome). o.count ≤ length bytes) (not (eqb (length g) grid_length)) (λ _. omega arith)
    (λ _. by_if (λ (o : CallOutcome). o.count ≤ length bytes) (not (is_possible s)) (λ _. omega arith) (λ _. (feed_taken bytes s g).within))

-- ---- possible states and grids stay so

pub record PossibleOnGrid (s : State) (g : List ℕ) : Type 0 where
  pub possible : Possible s
  pub long : length g ≡ grid_length

pub sound_possible : {s : State} {g : List ℕ} → PossibleOnGrid s g → is_possible s ≡ true
sound_possible {s} h = possible_keeps s h.possible

pub steps_sound : (bytes : List ℕ) (s : State) (g : List ℕ) → PossibleOnGrid s g → PossibleOnGrid (state_after s g bytes) (grid_after s g bytes)
unfolding state_after grid_after
steps_sound [] s g h = h
steps_sound (b ∷ bytes) s g h =
    let (p, l) = step_kept s g b h.possible h.long in
    steps_sound bytes (step s g b).state (step s g b).grid (record { possible = p; long = l })

-- ---- lists of calls

-- from a to z bytes were taken, step by step
pub record Leads (a z : After) : Type 0 where
  pub bytes : List ℕ
  pub taken : z.taken ≡ a.taken ++ bytes
  pub said : z.said ≡ a.said ++ answers_of a.state a.grid bytes
  pub state : z.state ≡ state_after a.state a.grid bytes
  pub grid : z.grid ≡ grid_after a.state a.grid bytes

pub answers_append : (xs ys : List ℕ) (s : State) (g : List ℕ) → answers_of s g (xs ++ ys) ≡ answers_of s g xs ++ answers_of (state_after s g xs) (grid_after s g xs) ys
unfolding answers_of state_after grid_after
answers_append [] ys s g = refl
answers_append (x ∷ xs) ys s g = ap (λ t. (step s g x).answer ∷ t) (answers_append xs ys (step s g x).state (step s g x).grid)

pub state_append : (xs ys : List ℕ) (s : State) (g : List ℕ) → state_after s g (xs ++ ys) ≡ state_after (state_after s g xs) (grid_after s g xs) ys
unfolding state_after grid_after
state_append [] ys s g = refl
state_append (x ∷ xs) ys s g = state_append xs ys (step s g x).state (step s g x).grid

pub grid_append : (xs ys : List ℕ) (s : State) (g : List ℕ) → grid_after s g (xs ++ ys) ≡ grid_after (state_after s g xs) (grid_after s g xs) ys
unfolding state_after grid_after
grid_append [] ys s g = refl
grid_append (x ∷ xs) ys s g = grid_append xs ys (step s g x).state (step s g x).grid

leads_none : (a : After) → Leads a a
unfolding answers_of state_after grid_after
leads_none a = record { bytes = []; taken = sym (append-nil _); said = sym (append-nil _); state = refl; grid = refl }

leads_on : {a b c : After} → Leads a b → Leads b c → Leads a c
leads_on {a} {b} {c} x y =
    record {
      bytes = x.bytes ++ y.bytes;
      taken = y.taken ∙ ap (λ t. t ++ y.bytes) x.taken ∙ append_assoc a.taken x.bytes y.bytes;
      said =
          y.said ∙ ap₂ (λ t u. t ++ u) x.said (ap₂ (λ s g. answers_of s g y.bytes) x.state x.grid)
          ∙ append_assoc a.said (answers_of a.state a.grid x.bytes) _
          ∙ ap (λ t. a.said ++ t) (sym (answers_append x.bytes y.bytes a.state a.grid));
      state = y.state ∙ ap₂ (λ s g. state_after s g y.bytes) x.state x.grid ∙ sym (state_append x.bytes y.bytes a.state a.grid);
      grid = y.grid ∙ ap₂ (λ s g. grid_after s g y.bytes) x.state x.grid ∙ sym (grid_append x.bytes y.bytes a.state a.grid);
    }

leads_next : (a : After) (c : Call) → PossibleOnGrid a.state a.grid → Leads a (next a c)
unfolding next answers_of state_after grid_after
leads_next a (on_grid (byte b)) h =
    let e = byte_taken a.state a.grid b h.possible h.long in
    subst (λ (outcome : CallOutcome). Leads a (add a (byte b) outcome)) (sym e) (record { bytes = b ∷ []; taken = refl; said = ap (λ n. a.said ++ (n ∷ [])) (number_answered a.state.part (step a.state a.grid b).answer); state = refl; grid = refl })
leads_next a (on_grid (slice bytes)) h =
    let t = slice_taken a.state a.grid bytes h.possible h.long in
    record {
      bytes = take (ask a.state a.grid (slice bytes)).count bytes;
      taken = refl;
      said = ap (λ x. a.said ++ x) (sym t.each);
      state = t.state;
      grid = t.grid;
    }
leads_next a (elsewhere r other n) h =
    let e = wrong_grid a.state other r n in
    subst (λ (outcome : CallOutcome). Leads a (add a r (record { reply = outcome.reply; count = outcome.count; state = a.state; grid = a.grid }))) (sym e)
    (record { bytes = []; taken = refl; said = refl; state = refl; grid = refl })

leads_sound : {a z : After} → Leads a z → PossibleOnGrid a.state a.grid → PossibleOnGrid z.state z.grid
leads_sound {a} {z} x h = rw (x.state, x.grid) (steps_sound x.bytes a.state a.grid h)

leads_after : (calls : List Call) (a : After) → PossibleOnGrid a.state a.grid → Leads a (after a calls)
unfolding after
leads_after [] a h = leads_none a
leads_after (c ∷ calls) a h =
    let x = leads_next a c h in
    leads_on x (leads_after calls (next a c) (leads_sound x h))

-- ---- from the fresh state

pub fresh_sound : (n : ℕ) → PossibleOnGrid (fresh n) empty_grid
fresh_sound n = record { possible = fresh_possible n; long = grid_long }

pub record Stepped (n : ℕ) (calls : List Call) : Type 0 where
  pub said : (received n calls).said ≡ answers_of (fresh n) empty_grid (received n calls).taken
  pub state : (received n calls).state ≡ state_after (fresh n) empty_grid (received n calls).taken
  pub grid : (received n calls).grid ≡ grid_after (fresh n) empty_grid (received n calls).taken

pub calls_stepped : (n : ℕ) (calls : List Call) → Stepped n calls
unfolding start
calls_stepped n calls =
    let x = leads_after calls (start n) (fresh_sound n) in
    record {
      said = x.said ∙ ap (answers_of (fresh n) empty_grid) (sym x.taken);
      state = x.state ∙ ap (state_after (fresh n) empty_grid) (sym x.taken);
      grid = x.grid ∙ ap (grid_after (fresh n) empty_grid) (sym x.taken);
    }

pub calls_sound : (n : ℕ) (calls : List Call) → PossibleOnGrid (received n calls).state (received n calls).grid
calls_sound n calls = let x = calls_stepped n calls in rw (x.state, x.grid) (steps_sound (received n calls).taken (fresh n) empty_grid (fresh_sound n))

-- given one by one, all bytes are taken
next_byte : (a : After) (b : ℕ) → PossibleOnGrid a.state a.grid → (next a (on_grid (byte b))).taken ≡ a.taken ++ (b ∷ [])
unfolding next
next_byte a b h = ap (λ (outcome : CallOutcome). (add a (byte b) outcome).taken) (byte_taken a.state a.grid b h.possible h.long)

bytes_taken : (bytes : List ℕ) (a : After) → PossibleOnGrid a.state a.grid → (after a (map (λ b. on_grid (byte b)) bytes)).taken ≡ a.taken ++ bytes
unfolding after
bytes_taken [] a h = sym (append-nil _)
bytes_taken (b ∷ bytes) a h =
    bytes_taken bytes (next a (on_grid (byte b))) (leads_sound (leads_next a (on_grid (byte b)) h) h)
    ∙ ap (λ t. t ++ bytes) (next_byte a b h) ∙ append_assoc a.taken (b ∷ []) bytes

pub singly_taken : (n : ℕ) (bytes : List ℕ) → (singly n bytes).taken ≡ bytes
unfolding start
singly_taken n bytes = bytes_taken bytes (start n) (fresh_sound n)
