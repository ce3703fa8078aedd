-- The digit enters at its number, which is below 12 at each of the 16 places that is no stop. Assumes nothing.
use mathlib.Core.Path.{◌≡◌}
use mathlib.Core.Bool.{false, ◌||◌}
use Prim.Native.Nat.{ℕ, ◌<◌}
use lib.Dec.{ltb}
use borrow.Author.Tests.{ltb-true}
use Rattle.general_laws.specs.Bytes.{is_in}
use Rattle.general_laws.proofs.Computed.{tabled}
use Rattle.receiver_block_bytes.specs.Time.{is_stop, digit_index}
use Rattle.receiver_block_bytes.proofs.time.with_digit.Goals as goal

below : (i : ℕ) → i < 16 → is_stop i ≡ false → digit_index i < 12
unfolding is_stop is_in digit_index
below i h s = ltb-true (digit_index i) 12 (rw s at (tabled (λ i. is_stop i || ltb (digit_index i) 12) 16 tt i h))

pub bounds-digits-digit_index : goal.bounds-digits-digit_index
bounds-digits-digit_index c =
    rw c.digit_index.ensures (below c.args.i c.requires.i_bound c.requires.i_value)

pub returns : goal.returns
unfolding digit_index
returns c = simp c.digit_index.ensures

pub digit_index-requires : goal.digit_index-requires
digit_index-requires c = c.requires.i_bound
