-- A block byte from byte 3 on, in the code's terms: whether it keeps its rule, and where it enters. Assumes nothing.
use Rattle.std.specs.Prelude.{ℕ, ◌+◌, ◌*◌, ◌-◌, Bool, cond, ◌&&◌, List, leb, ltb, Option, Some, None}
use Rattle.text.specs.Kinds.{is_start_kind, is_end_kind, text_number, block_length}
use Rattle.text.specs.declared.header.Header.{Header}
use Rattle.text_calendar_spec.specs.TimeDigits.{is_time, minute_in}
use Rattle.text.specs.StartBlock.{is_digit}
use Rattle.receiver_spec.specs.State.{no_digits}
use Rattle.receiver_spec.specs.Contents.{with_digit, takes_byte, with_minute, enter_header, enter_digits, enter_modes}
use Rattle.receiver_state.specs.declared.grid.Effect.{Effect}
use Rattle.receiver_state.specs.declared.grid.Effect.TheVariants.{Keep, Enter}
use Rattle.receiver_block_bytes.specs.declared.byte.Entered.{Entered}

-- within the block, from byte 3 on, and its rule is kept (01, row 18).
-- Notice 49, 4(1)(1-1)(c)(イ) to (エ), (d)(イ) and (ウ), 4(1)(1-2)(c)(エ) and (d)(ウ), 4(2)(c)(エ) and (d)(ウ)
unfoldable pub is_taken : ℕ → Header → List ℕ → ℕ → ℕ → Bool
is_taken kind h digits i b = leb 3 i && ltb i (block_length kind) && takes_byte kind h digits i b

abbrev pub leaves : Header → List ℕ → List ℕ → Effect → Entered
leaves h m digits e = record { header = h; modes = m; digits = digits; effect = e }

-- where it enters: header and waiting digits (Request 111), modes, or the grid, data text k from byte 2,000 × (k − 1).
-- Notice 49, 4(1)(1-1)(c)(イ) to (エ), (d)(イ), 4(1)(1-2)(c)(エ), 4(2)(c)(エ)
unfoldable pub enters : ℕ → Header → List ℕ → List ℕ → ℕ → ℕ → Entered
enters kind h m digits i b =
    cond (is_start_kind kind) (leaves (enter_header h digits i b) m (enter_digits digits i b) Keep)
    (cond (is_end_kind kind) (leaves h (enter_modes m i b) digits Keep)
    (leaves h m digits (Enter (2000 * (text_number kind - 1) + (i - 3)))))

-- a byte that keeps its rule enters; none where it does not.
-- Notice 49, 4(1)(1-1)(c)(イ) to (エ), (d)(イ) and (ウ), 4(1)(1-2)(c)(エ) and (d)(ウ), 4(2)(c)(エ) and (d)(ウ)
unfoldable pub entered : ℕ → Header → List ℕ → List ℕ → ℕ → ℕ → Option Entered
entered kind h m digits i b = cond (is_taken kind h digits i b) (Some (enters kind h m digits i b)) None

-- byte 23 of a start block, with which the time is whole: the digits that wait give the minute, or are no time (Request
-- 111). Notice 49, 4(1)(1-1)(c)(イ) and (d)(イ)
unfoldable pub time_entered : Header → List ℕ → List ℕ → ℕ → Option Entered
time_entered h m digits b =
    cond (is_digit b && is_time (with_digit digits 15 b))
    (Some (leaves (with_minute h (minute_in (with_digit digits 15 b))) m no_digits Keep))
    None
