-- The bytes of a slice, one by one, in the code's terms. Assumes nothing.
use Rattle.std.specs.Prelude.{◌≡◌, cond, List, [], ◌∷◌, ℕ, ◌+◌}
use Rattle.receiver_state.specs.Meaning.{applied}
use Rattle.receiver_state.specs.declared.state.State.{State}
use Rattle.receiver_state.specs.declared.answer.Answer.TheVariants.{Quiet}
use Rattle.receiver_step.specs.Decide.{decide}
use Rattle.receiver_byte_call.specs.Returned.{is_quiet}
use Rattle.receiver_byte_call.specs.declared.calls.CallResult.{CallResult}
use Rattle.receiver_stretches.specs.declared.stretch.StretchResult.{StretchResult}

-- a call's result and its grid
pub record RunOutcome : Type 0 where
  pub result : CallResult
  pub grid : List ℕ

-- n bytes that are all answered 0 lead to this state and grid
abbrev pub passed : State → List ℕ → ℕ → RunOutcome
passed t h n = record { result = record { state = t; answer = Quiet; count = n }; grid = h }

-- bytes from a state and a grid, up to and with the first that is answered other than 0; i bytes were taken before
unfoldable pub run : State → List ℕ → List ℕ → ℕ → RunOutcome
run s g [] i = passed s g i
run s g (b ∷ bytes) i =
    let d = decide s b in
    let h = applied g d.effect b in
    cond (is_quiet d.answer) (run d.next h bytes (i + 1))
    (record { result = record { state = d.next; answer = d.answer; count = i + 1 }; grid = h })

-- what a stretch came to, with the grid that it left
abbrev pub after_stretch : StretchResult → List ℕ → RunOutcome
after_stretch r h = passed r.state h r.at

-- a stretch of these bytes that leaves the grid alone, whatever it holds
abbrev pub Passes : State → List ℕ → StretchResult → Type 0
Passes s xs r = (g : List ℕ) → after_stretch r g ≡ run s g xs 0
