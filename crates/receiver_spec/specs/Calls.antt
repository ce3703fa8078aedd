-- The two receiving calls, and a list of calls. Assumes nothing.
use Rattle.std.specs.Prelude.{◌≢◌, ℕ, zero, suc, cond, not, List, [], ◌∷◌, ◌++◌, map, eqb, length, take}
use Rattle.text.specs.Part.{grid_length}
use Rattle.receiver_spec.specs.State.{State, fresh, empty_grid, is_possible}
use Rattle.receiver_spec.specs.Receiver.{step}

-- What a call returns. An answer: 0 quiet; 1 part begun; 2 data text taken; 3 complete, with the part's number (1
-- intensity, 2 echo top, 3 quality); 11 to 22 and 51, the row that dropped. Or a refusal, 1 or 2, which is thereby told
-- apart from answers 1 and 2
pub data Reply : Type 0 where
  quiet : Reply
  part_begun : Reply
  text_taken : Reply
  part_complete : ℕ → Reply
  part_dropped : ℕ → Reply
  refused : ℕ → Reply

-- 01's number of each
abbrev pub number : Reply → ℕ
number quiet = 0
number part_begun = 1
number text_taken = 2
number (part_complete part) = 3
number (part_dropped n) = n
number (refused n) = n

-- the reply that has an answer's number; the part is the one that was open before the byte, for at answer 3 none is
-- open from there
unfoldable pub answered : ℕ → ℕ → Reply
answered part n =
    cond (eqb n 0) quiet (cond (eqb n 1) part_begun (cond (eqb n 2) text_taken (cond (eqb n 3) (part_complete part) (part_dropped n))))

-- with the count of bytes taken, and the state and the grid that it leaves
pub record CallOutcome : Type 0 where
  pub reply : Reply
  pub count : ℕ
  pub state : State
  pub grid : List ℕ

-- a refusal: all unchanged, 0 taken
abbrev pub refuses : ℕ → State → List ℕ → CallOutcome
refuses n s g = record { reply = refused n; count = 0; state = s; grid = g }

-- Refusals 1 and 2 come first: the grid is not 20,000 bytes; the state is not possible
abbrev pub judged : State → List ℕ → CallOutcome → CallOutcome
judged s g taken = cond (not (eqb (length g) grid_length)) (refuses 1 s g) (cond (not (is_possible s)) (refuses 2 s g) taken)

-- The byte call. Notice 49, 4(1)(1-1), 4(1)(1-2), 4(2)
unfoldable pub byte_call : State → List ℕ → ℕ → CallOutcome
byte_call s g b =
    judged s g (record { reply = answered s.part (step s g b).answer; count = 1; state = (step s g b).state; grid = (step s g b).grid })

-- The bytes of a slice, up to and with the first that is answered other than 0
unfoldable pub feed : State → List ℕ → List ℕ → CallOutcome
feed s g [] = record { reply = quiet; count = 0; state = s; grid = g }
feed s g (b ∷ bytes) =
    let o = step s g b in
    let rest = feed o.state o.grid bytes in
    cond (eqb o.answer 0) (record { reply = rest.reply; count = suc rest.count; state = rest.state; grid = rest.grid })
    (record { reply = answered s.part o.answer; count = 1; state = o.state; grid = o.grid })

-- The slice call. Notice 49, 4(1)(1-1), 4(1)(1-2), 4(2)
unfoldable pub slice_call : State → List ℕ → List ℕ → CallOutcome
slice_call s g bytes = judged s g (feed s g bytes)

-- A call of a list: the byte call or the slice call, lent the list's grid or one of another length
pub data Request : Type 0 where
  byte : ℕ → Request
  slice : List ℕ → Request

pub data Call : Type 0 where
  on_grid : Request → Call
  elsewhere : Request → (grid : List ℕ) → length grid ≢ grid_length → Call

unfoldable pub ask : State → List ℕ → Request → CallOutcome
ask s g (byte b) = byte_call s g b
ask s g (slice bytes) = slice_call s g bytes

-- the bytes that a request holds
abbrev pub bytes_of : Request → List ℕ
bytes_of (byte b) = b ∷ []
bytes_of (slice bytes) = bytes

-- 01: the last byte that a call took has that call's answer; those that it took before have 0
abbrev pub spread : ℕ → ℕ → List ℕ
spread zero answer = []
spread (suc zero) answer = answer ∷ []
spread (suc (suc n)) answer = 0 ∷ spread (suc n) answer

-- What a list of calls has come to: state and grid, the bytes taken in order, and the answer of each
pub record After : Type 0 where
  pub state : State
  pub grid : List ℕ
  pub taken : List ℕ
  pub said : List ℕ

-- before the first call: the fresh state made from a number of marks (Request 101)
unfoldable pub start : ℕ → After
start marks = record { state = fresh marks; grid = empty_grid; taken = []; said = [] }

-- what a call returned and left, added to that
abbrev pub add : After → Request → CallOutcome → After
add a r outcome =
    record {
      state = outcome.state;
      grid = outcome.grid;
      taken = a.taken ++ take outcome.count (bytes_of r);
      said = a.said ++ spread outcome.count (number outcome.reply);
    }

-- one call more, which gets the state and grid that the last one returned and left;
-- after a call lent another grid the next one gets state and grid as they were before it
unfoldable pub next : After → Call → After
next a (on_grid r) = add a r (ask a.state a.grid r)
next a (elsewhere r other n) = add a r (record { reply = (ask a.state other r).reply; count = (ask a.state other r).count; state = a.state; grid = a.grid })

-- the calls of a list, one behind the other
unfoldable pub after : After → List Call → After
after a [] = a
after a (c ∷ calls) = after (next a c) calls

-- A list of calls starts from the fresh state and grid
abbrev pub received : ℕ → List Call → After
received marks calls = after (start marks) calls

-- a fresh receiver that is given bytes one by one with the byte call
abbrev pub singly : ℕ → List ℕ → After
singly marks bytes = received marks (map (λ b. on_grid (byte b)) bytes)

-- bytes from any state and grid: the answer of each, and the state and the grid after them
unfoldable pub answers_of : State → List ℕ → List ℕ → List ℕ
answers_of s g [] = []
answers_of s g (b ∷ bytes) = (step s g b).answer ∷ answers_of (step s g b).state (step s g b).grid bytes

unfoldable pub state_after : State → List ℕ → List ℕ → State
state_after s g [] = s
state_after s g (b ∷ bytes) = state_after (step s g b).state (step s g b).grid bytes

unfoldable pub grid_after : State → List ℕ → List ℕ → List ℕ
grid_after s g [] = g
grid_after s g (b ∷ bytes) = grid_after (step s g b).state (step s g b).grid bytes
