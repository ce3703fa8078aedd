-- The table has the digits' numbers, and 12 for the stops, at each of the 16 places. Assumes nothing.
use mathlib.Core.Path.{◌≡◌}
use mathlib.Core.List.{List, [], ◌∷◌}
use Prim.Native.Nat.{ℕ, ◌<◌}
use lib.ListN.{get_or}
use Rattle.general_laws.proofs.Computed.{same_numbers}
use Rattle.receiver_block_bytes.specs.Time.{digit_index}
use Rattle.receiver_block_bytes.proofs.time.digit_index.Goals as goal

abbrev numbers : List ℕ
numbers = 0 ∷ 1 ∷ 2 ∷ 3 ∷ 12 ∷ 4 ∷ 5 ∷ 12 ∷ 6 ∷ 7 ∷ 12 ∷ 8 ∷ 9 ∷ 12 ∷ 10 ∷ 11 ∷ []

rule : (i : ℕ) → i < 16 → get_or numbers i 0 ≡ digit_index i
unfolding digit_index
rule = same_numbers 16 (λ i. get_or numbers i 0) digit_index tt

pub returns : goal.returns
returns c = rule c.args.i c.requires
