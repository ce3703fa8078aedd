-- Slice calls one after the other: state, grid and last answer are those of all bytes so far. Assumes nothing.
use mathlib.Core.Path.{◌≡◌, refl, sym, ap, ap₂, ◌∙◌, subst}
use mathlib.Core.List.{List, [], ◌∷◌, ◌++◌}
use Prim.Native.Nat.{ℕ, zero, suc, ◌+◌, ◌-◌, ◌≤◌}
use native.Mathlib.Omega.{arith}
use lib.Dec.{eqb}
use lib.ListN.{length, take, drop, length-drop}
use lib.Seq.{drop-drop, take_all, take-add, length-take-le, get_or-append-add}
use Rattle.general_laws.specs.Bytes.{◌!◌}
use Rattle.receiver_spec.specs.State
use Rattle.receiver_spec.specs.Receiver.{step}
use Rattle.receiver_spec.specs.Calls.{CallOutcome, feed, slice_call, ask, number, spread, answers_of, state_after, grid_after}
use Rattle.receiver_spec.specs.Demand3.{SliceTaken}
use Rattle.general_laws.proofs.Tests.{by_if}
use Rattle.receiver_spec.specs.Marks.{all_marks}
use Rattle.receiver_spec.proofs.Laws.{PossibleOnGrid, fresh_sound, steps_sound, not_refused, slice_taken, answers_append, state_append, grid_append, answers_long, spread_last}
use Rattle.receiver_state.specs.Meaning.{state_of, number_of}
use Rattle.receiver_state.specs.declared.state.State.{State}
use Rattle.receiver_byte_call.specs.Returned.{returned, reply_of}
use Rattle.receiver_byte_call.specs.declared.calls.CallResult.{CallResult}
use Rattle.receiver_byte_call.proofs.Laws.{number_same}

-- the fresh receiver with all twenty marks
abbrev pub fresh : Rattle.receiver_spec.specs.State.State
fresh = Rattle.receiver_spec.specs.State.fresh all_marks

abbrev pub empty_grid : List ℕ
empty_grid = Rattle.receiver_spec.specs.State.empty_grid

-- a call that is not refused takes a byte at least, where there is one
some_taken : (s : Rattle.receiver_spec.specs.State.State) (g bytes : List ℕ) → PossibleOnGrid s g → 1 ≤ length bytes → 1 ≤ (slice_call s g bytes).count
unfolding slice_call feed
some_taken s g [] h l = absurd (omega arith)
some_taken s g (b ∷ bytes) h l =
    rw (not_refused s g (feed s g (b ∷ bytes)) h.possible h.long)
    (by_if (λ (r : CallOutcome). 1 ≤ r.count) (eqb (step s g b).answer 0) (λ _. omega arith) (λ _. omega arith))

call_taken : (s : Rattle.receiver_spec.specs.State.State) (g bytes : List ℕ) → PossibleOnGrid s g → SliceTaken s g bytes (slice_call s g bytes)
unfolding ask
call_taken s g bytes h = slice_taken s g bytes h.possible h.long

-- the last byte that a call took has its answer
last_said : (n a : ℕ) → 1 ≤ n → spread n a ! (n - 1) ≡ a
last_said zero a l = absurd (omega arith)
last_said (suc n) a l = let e : suc n - 1 ≡ n = omega arith in ap (λ i. spread (suc n) a ! i) e ∙ spread_last n a

-- before the rest of the bytes
pub record FedUpTo (bytes : List ℕ) (s : State) (g : List ℕ) (answer : ℕ) (rest : List ℕ) : Type 0 where
  pub at : ℕ
  pub inside : at ≤ length bytes
  pub left : rest ≡ drop at bytes
  pub state : state_of s ≡ state_after fresh empty_grid (take at bytes)
  pub grid : g ≡ grid_after fresh empty_grid (take at bytes)
  pub said : answer ≡ answers_of fresh empty_grid (take at bytes) ! (at - 1)

pub begins : (bytes : List ℕ) (s : State) (g : List ℕ) → state_of s ≡ fresh → g ≡ empty_grid → FedUpTo bytes s g 0 bytes
unfolding state_after grid_after answers_of
begins bytes s g e f = record { at = 0; inside = omega arith; left = refl; state = e; grid = f; said = refl }

-- the grid keeps its length
pub long : {bytes : List ℕ} {s : State} {g : List ℕ} {answer : ℕ} {rest : List ℕ} → FedUpTo bytes s g answer rest → length g ≡ length empty_grid
long {bytes} h =
    ap length h.grid ∙ (steps_sound (take h.at bytes) fresh empty_grid (fresh_sound all_marks)).long ∙ sym (fresh_sound all_marks).long

-- one call more
module _ {bytes : List ℕ} {s : State} {g : List ℕ} {answer : ℕ} {rest : List ℕ} (h : FedUpTo bytes s g answer rest)
    (result : CallResult) (left : List ℕ) (e : returned result left ≡ slice_call (state_of s) g rest) where
  abbrev before : List ℕ
  before = take h.at bytes

  possible_on_grid : PossibleOnGrid (state_of s) g
  possible_on_grid = rw (h.state, h.grid) (steps_sound before fresh empty_grid (fresh_sound all_marks))

  taken : SliceTaken (state_of s) g rest (returned result left)
  taken = rw e (call_taken (state_of s) g rest possible_on_grid)

  pub some : 1 ≤ length rest → 1 ≤ result.count
  unfolding returned
  some l = subst (λ (r : CallOutcome). 1 ≤ r.count) (sym e) (some_taken (state_of s) g rest possible_on_grid l)

  pub within : result.count ≤ length rest
  unfolding returned
  within = taken.within

  split : take (h.at + result.count) bytes ≡ before ++ take result.count rest
  split = take-add h.at result.count bytes ∙ ap (λ t. before ++ take result.count t) (sym h.left)

  pub goes_on : {next : List ℕ} → 1 ≤ length rest → next ≡ drop result.count rest → FedUpTo bytes result.state left (number_of result.answer) next
  unfolding returned
  goes_on l q =
      record {
        at = h.at + result.count;
        inside = omega (arith, within, ap length h.left, length-drop h.at bytes, h.inside);
        left = q ∙ ap (drop result.count) h.left ∙ drop-drop result.count h.at bytes;
        state =
            taken.state ∙ ap₂ (λ t u. state_after t u (take result.count rest)) h.state h.grid
            ∙ sym (state_append before (take result.count rest) fresh empty_grid) ∙ ap (state_after fresh empty_grid) (sym split);
        grid =
            taken.grid ∙ ap₂ (λ t u. grid_after t u (take result.count rest)) h.state h.grid
            ∙ sym (grid_append before (take result.count rest) fresh empty_grid) ∙ ap (grid_after fresh empty_grid) (sym split);
        said =
            sym (number_same result.answer) ∙ sym (last_said result.count (number (reply_of result.answer)) (some l))
            ∙ ap (λ (t : List ℕ). t ! (result.count - 1)) (sym taken.each)
            ∙ ap₂ (λ t u. answers_of t u (take result.count rest) ! (result.count - 1)) h.state h.grid
            ∙ sym (get_or-append-add (answers_of fresh empty_grid before) (answers_of (state_after fresh empty_grid before) (grid_after fresh empty_grid before) (take result.count rest)) (result.count - 1) 0)
            ∙ ap₂ (λ (t : List ℕ) i. t ! i) (sym (answers_append before (take result.count rest) fresh empty_grid) ∙ ap (answers_of fresh empty_grid) (sym split)) (place l);
      }
    where
      place : 1 ≤ length rest → length (answers_of fresh empty_grid before) + (result.count - 1) ≡ h.at + result.count - 1
      place l = omega (arith, answers_long before fresh empty_grid, length-take-le h.at bytes h.inside, some l)

-- all bytes are taken
pub ended : {bytes : List ℕ} {s : State} {g : List ℕ} {answer : ℕ} {rest : List ℕ} → FedUpTo bytes s g answer rest → length rest ≡ 0
    → (state_of s ≡ state_after fresh empty_grid bytes) × (answer ≡ answers_of fresh empty_grid bytes ! (length bytes - 1))
ended {bytes} h l =
    let end : h.at ≡ length bytes = omega (arith, h.inside, ap length h.left, length-drop h.at bytes) in
    let all : take h.at bytes ≡ bytes = take_all h.at bytes (omega (arith, end)) in (
      h.state ∙ ap (state_after fresh empty_grid) all,
      h.said ∙ ap₂ (λ t i. answers_of fresh empty_grid t ! (i - 1)) all end,
    )
