-- What a caller's list of calls of the code is, in terms of the contracts of fresh, byte_call and slice_call alone,
-- and what it comes to. src/ shows by three calls that these are the contracts. Assumes nothing.
use Rattle.std.specs.Prelude.{◌≡◌, ◌≢◌, List, [], ◌∷◌, ◌++◌, ℕ, length, take}
use Rattle.text.specs.Part.{grid_length, StartText}
use Rattle.receiver_spec.specs.State.{fresh, empty_grid}
use Rattle.receiver_spec.specs.Calls.{CallOutcome, byte_call, slice_call, Request, byte, slice, Call, on_grid, elsewhere, ask, bytes_of, spread, After, start, next, received, singly}
use Rattle.receiver_spec.specs.Demand3.{Marked, Demand3}
use Rattle.receiver_bytes_seen.specs.Behind.{seen_after}
use Rattle.receiver_state.specs.Meaning.{state_of, number_of}
use Rattle.receiver_state.specs.declared.state.State.{State}
use Rattle.receiver_byte_call.specs.Returned.{returned}
use Rattle.receiver_byte_call.specs.declared.calls.CallResult.{CallResult}

-- The contract of fresh, asked for with the number n (Request 101)
abbrev pub EnsuredFresh : ℕ → State → Type 0
EnsuredFresh n s = (state_of s ≡ fresh n) × (s.seen ≡ 0)

-- The contracts of the byte call and of the slice call: what a call returned, and the grid at its exit
abbrev pub Ensured : Request → State → List ℕ → CallResult → List ℕ → Type 0
Ensured (byte b) s g r exit = (returned r exit ≡ byte_call (state_of s) g b) × (r.state.seen ≡ seen_after s.seen (take r.count (b ∷ [])))
Ensured (slice bytes) s g r exit = (returned r exit ≡ slice_call (state_of s) g bytes) × (r.state.seen ≡ seen_after s.seen (take r.count bytes))

-- A caller's list of calls: the state and the grid that the next call gets, the bytes taken in order and the answer
-- of each, and what each call returned and left. The first call gets the fresh state asked for with n and zeros, each
-- other the state that the last one returned and the grid that it left; a call lent a grid of another length leaves
-- the list's grid alone
pub data Called (n : ℕ) : List Call → State → List ℕ → List ℕ → List ℕ → List CallOutcome → Type 0 where
  begin : (s : State) → EnsuredFresh n s → Called n [] s empty_grid [] [] []
  more : {calls : List Call} {s : State} {g taken said : List ℕ} {made : List CallOutcome} → Called n calls s g taken said made
      → (r : Request) (result : CallResult) (exit : List ℕ) → Ensured r s g result exit
      → Called n (calls ++ (on_grid r ∷ [])) result.state exit (taken ++ take result.count (bytes_of r)) (said ++ spread result.count (number_of result.answer))
      (made ++ (returned result exit ∷ []))
  other : {calls : List Call} {s : State} {g taken said : List ℕ} {made : List CallOutcome} → Called n calls s g taken said made
      → (r : Request) (grid : List ℕ) (other : length grid ≢ grid_length) (result : CallResult) (exit : List ℕ) → Ensured r s grid result exit
      → Called n (calls ++ (elsewhere r grid other ∷ [])) result.state g (taken ++ take result.count (bytes_of r)) (said ++ spread result.count (number_of result.answer))
      (made ++ (returned result exit ∷ []))

-- What each call of the definition's list returned and left
abbrev pub outcome_at : After → Call → CallOutcome
outcome_at a (on_grid r) = ask a.state a.grid r
outcome_at a (elsewhere r grid n) = ask a.state grid r

unfoldable pub outcomes_from : After → List Call → List CallOutcome
outcomes_from a [] = []
outcomes_from a (c ∷ calls) = outcome_at a c ∷ outcomes_from (next a c) calls

-- After the last byte of a marked picture's start text: the code's state, in every field, and the grid are settled by the
-- marks and the bytes from that text's first on
pub record CodeWayBack (n : ℕ) (s : State) (g text rest : List ℕ) : Type 0 where
  pub state : state_of s ≡ (singly n (text ++ rest)).state
  pub seen : s.seen ≡ seen_after 0 (text ++ rest)
  pub grid : g ≡ (singly n (text ++ rest)).grid

-- Demand 3 of a caller's list of calls: each call returned and left what the definition's does, the list comes to
-- what the definition's comes to, the number that holds the bytes seen with it, and demand 3 holds of it
pub record CodeDemand3 (n : ℕ) (calls : List Call) (s : State) (g taken said : List ℕ) (made : List CallOutcome) : Type 0 where
  pub outcomes : made ≡ outcomes_from (start n) calls
  pub state : state_of s ≡ (received n calls).state
  pub grid : g ≡ (received n calls).grid
  pub bytes : taken ≡ (received n calls).taken
  pub answers : said ≡ (received n calls).said
  pub seen : s.seen ≡ seen_after 0 taken
  pub way_back : (before text rest : List ℕ) (u : StartText text) → Marked n u.block → taken ≡ before ++ (text ++ rest) → CodeWayBack n s g text rest
  pub demand : Demand3 n calls
