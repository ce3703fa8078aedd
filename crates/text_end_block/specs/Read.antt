-- What reading a whole end block gives: its modes, where the block keeps every rule. Assumes nothing.
use Rattle.std.specs.Prelude.{ℕ, cond, List, Option, Some, None}
use Rattle.text.specs.EndBlock.{is_end_block, modes_of}

-- an end block's modes, where it keeps every rule for these radars. Notice 49, 4(1)(1-1)(c)(ウ) and (d)(イ)
unfoldable pub end_read : List ℕ → List ℕ → Option (List ℕ)
end_read radars block = cond (is_end_block radars block) (Some (modes_of block)) None
