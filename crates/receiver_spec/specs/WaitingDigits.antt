-- Request 111: what refusal 2 asks of the digits of the time that wait in the state, and what calls leave of them. Assumes nothing.
use Rattle.std.specs.Prelude.{◌≡◌, ◌⊎◌, ◌≢◌, true, false, List, ℕ, ◌≤◌, ◌<◌, length}
use Rattle.general_laws.specs.Bytes.{◌!◌}
use Rattle.text.specs.Kinds.{is_start_kind}
use Rattle.text.specs.Part.{grid_length}
use Rattle.receiver_spec.specs.State.{State, no_digits, is_possible}
use Rattle.text_calendar_spec.specs.TimeDigits.{minute_in}
use Rattle.receiver_spec.specs.Contents.{with_digit}
use Rattle.receiver_spec.specs.Receiver.{step}
use Rattle.receiver_spec.specs.Calls.{Request, ask}

-- the same state with other digits
abbrev pub with_digits : State → List ℕ → State
with_digits s digits =
    record { seen = s.seen; place = s.place; kind = s.kind; picture = s.picture; part = s.part; due = s.due; check = s.check; header = s.header; modes = s.modes; digits = digits; marks = s.marks }

-- elsewhere than at places 9 to 23 of a start text
abbrev pub Elsewhere : State → Type 0
Elsewhere s = (is_start_kind s.kind ≡ false) ⊎ ((s.place < 9) ⊎ (23 < s.place))

pub record WaitingClaim : Type 0 where
  -- refusal 2 covers a digit above 9, and one that is not 0 elsewhere than at places 9 to 23 of a start text
  pub above : (s : State) (i : ℕ) → 9 < s.digits ! i → is_possible s ≡ false
  pub elsewhere : (s : State) (i : ℕ) → s.digits ! i ≢ 0 → Elsewhere s → is_possible s ≡ false
  -- and nothing more: there, whatever the digits are, those still to come too, the state is as possible as without them
  pub nothing_more : (s : State) → is_start_kind s.kind ≡ true → 9 ≤ s.place → s.place ≤ 23 → ((i : ℕ) → s.digits ! i ≤ 9)
      → is_possible s ≡ is_possible (with_digits s no_digits)
  -- byte 23, where it is taken: the digits, the last with them, give the header's minute, and are 0 from there on
  pub taken : (s : State) (g : List ℕ) (b : ℕ) → is_start_kind s.kind ≡ true → s.place ≡ 23 → (step s g b).answer ≡ 0
      → ((step s g b).state.place ≡ 24) × ((step s g b).state.digits ≡ no_digits) × ((step s g b).state.header.minute ≡ minute_in (with_digit s.digits 15 b))
  -- in every state that a call not refused with 1 or 2 returns, they are 0 elsewhere, and 9 at most
  pub returned : (s : State) (g : List ℕ) (r : Request) → is_possible s ≡ true → length g ≡ grid_length
      → ((i : ℕ) → (ask s g r).state.digits ! i ≤ 9) × (Elsewhere (ask s g r).state → (i : ℕ) → (ask s g r).state.digits ! i ≡ 0)
