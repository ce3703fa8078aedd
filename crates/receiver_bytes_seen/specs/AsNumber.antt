-- The last bytes seen, as the code keeps them: the low bytes of one number. Assumes nothing.
use Rattle.std.specs.Prelude.{ℕ, zero, suc, ◌+◌, ◌*◌, ◌/◌, ◌%◌, cond, List, [], ◌∷◌, ltb}

-- the last bytes seen, newest first: the low bytes of a number, as many as the count says
unfoldable pub seen_of : ℕ → ℕ → List ℕ
seen_of seen zero = []
seen_of seen (suc count) = seen % 256 ∷ seen_of (seen / 256) count

-- one more; the oldest of five falls out
unfoldable pub push_seen : ℕ → ℕ → ℕ
push_seen seen b = seen % 4294967296 * 256 + b

unfoldable pub push_count : ℕ → ℕ
push_count count = cond (ltb count 5) (count + 1) 5
