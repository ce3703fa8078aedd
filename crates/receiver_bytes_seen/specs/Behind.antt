-- The last bytes seen behind many bytes, as the code keeps them: a number and their count. Assumes nothing.
use Rattle.std.specs.Prelude.{ℕ, List, [], ◌∷◌}
use Rattle.receiver_bytes_seen.specs.AsNumber.{push_seen, push_count}

-- the number that holds them
unfoldable pub seen_after : ℕ → List ℕ → ℕ
seen_after v [] = v
seen_after v (b ∷ bytes) = seen_after (push_seen v b) bytes

-- how many there are
unfoldable pub count_after : ℕ → List ℕ → ℕ
count_after n [] = n
count_after n (b ∷ bytes) = count_after (push_count n) bytes
