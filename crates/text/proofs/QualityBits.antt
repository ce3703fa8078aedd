-- Request 107: the sheet of the quality bits. Assumes nothing.
use mathlib.Core.Path.{◌≡◌}
use mathlib.Core.Bool.{not, ◌||◌}
use mathlib.Core.List.{List, [], ◌∷◌}
use Prim.Native.Nat.{ℕ, ◌<◌}
use Rattle.general_laws.specs.Bytes.{bit, every}
use Rattle.general_laws.proofs.Computed.{same_tests}
use Rattle.text.specs.DataBlock.{is_quality_byte}

-- the bits that name causes
abbrev causes : List ℕ
causes = 0 ∷ 1 ∷ 2 ∷ 3 ∷ 4 ∷ 5 ∷ 6 ∷ []

-- A byte is allowed where bit 7, "cause unknown", is not set, or stands alone
pub quality_bits : (b : ℕ) → b < 256 → is_quality_byte b ≡ (not (bit b 7) || every (λ k. not (bit b k)) causes)
unfolding is_quality_byte bit every
quality_bits = same_tests 256 is_quality_byte (λ b. not (bit b 7) || every (λ k. not (bit b k)) causes) tt
