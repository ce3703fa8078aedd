-- The places of the time in a start block. Assumes nothing.
use Rattle.std.specs.Prelude.{ℕ, Bool}
use Rattle.general_laws.specs.Bytes.{is_in}
use Rattle.text.specs.StartBlock.{digit_places, stop_places}
use Rattle.receiver_spec.specs.Contents.{index_in}

-- a stop stands at this place of the time. Notice 49, 4(1)(1-1)(c)(イ) and (d)(イ)
unfoldable pub is_stop : ℕ → Bool
is_stop i = is_in i stop_places

-- the number of the digit at a place. Notice 49, 4(1)(1-1)(c)(イ) and (d)(イ)
unfoldable pub digit_index : ℕ → ℕ
digit_index i = index_in i digit_places
