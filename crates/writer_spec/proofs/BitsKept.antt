-- Which bits of status and mode bytes a rewritten part keeps: NO ECHO, and the bits of the mode; all others are 0. Assumes nothing.
use mathlib.Core.Path.{◌≡◌, refl, sym}
use mathlib.Core.Bool.{Bool, true, false, not, ◌&&◌, ◌||◌, true≢false}
use mathlib.Core.List.{List, [], ◌∷◌}
use Prim.Native.Nat.{ℕ, ◌<◌}
use lib.Dec.{eqb}
use Rattle.general_laws.specs.Bytes.{bit, is_in, every}
use Rattle.text.specs.StartBlock.{no_echo_of, mode_of, mode_byte, has_mode}
use Rattle.general_laws.proofs.Computed.{same_tests}
use Rattle.general_laws.proofs.Tests.{every_in}
use Rattle.writer_spec.specs.Written.{status_byte}
use Rattle.writer_spec.specs.Demand2.{plain_status, plain_mode}

abbrev bits : List ℕ
bits = 0 ∷ 1 ∷ 2 ∷ 3 ∷ 4 ∷ 5 ∷ 6 ∷ 7 ∷ []

all_bits : (k : ℕ) → k < 8 → is_in k bits ≡ true
unfolding is_in
all_bits = same_tests 8 (λ k. is_in k bits) (λ _. true) tt

-- two truth values are the same
abbrev alike : Bool → Bool → Bool
alike true t = t
alike false t = not t

alike_same : (s t : Bool) → alike s t ≡ true → s ≡ t
alike_same true true e = refl
alike_same true false e = sym e
alike_same false true e = e
alike_same false false e = refl

given : (a x : Bool) → a ≡ true → not a || x ≡ true → x ≡ true
given true x h e = e
given false x h e = absurd (true≢false (sym h))

-- a byte with a mode keeps bits 2, 4 and 6
abbrev mode_kept : ℕ → Bool
mode_kept b = not (has_mode b) || every (λ k. alike (bit (plain_mode b) k) (is_in k (2 ∷ 4 ∷ 6 ∷ []) && bit b k)) bits

mode_table : (b : ℕ) → b < 256 → mode_kept b ≡ true
unfolding has_mode mode_of mode_byte bit is_in every
mode_table = same_tests 256 mode_kept (λ _. true) tt

pub mode_bits_lem : (b : ℕ) → b < 256 → has_mode b ≡ true → (k : ℕ) → k < 8 → bit (plain_mode b) k ≡ (is_in k (2 ∷ 4 ∷ 6 ∷ []) && bit b k)
mode_bits_lem b small h k m =
    alike_same _ _ (every_in (λ k. alike (bit (plain_mode b) k) (is_in k (2 ∷ 4 ∷ 6 ∷ []) && bit b k)) bits k (given (has_mode b) _ h (mode_table b small)) (all_bits k m))

-- status 1 keeps bit 3, and none in quality
status_table : (e : Bool) → every (λ k. alike (bit (status_byte e) k) (eqb k 3 && e)) bits ≡ true
unfolding status_byte bit every
status_table true = refl
status_table false = refl

pub status_bits_lem : (p b k : ℕ) → k < 8 → bit (plain_status p b) k ≡ (eqb k 3 && (bit b 3 && not (eqb p 3)))
unfolding no_echo_of
status_bits_lem p b k m = alike_same _ _ (every_in (λ k. alike (bit (status_byte (bit b 3 && not (eqb p 3))) k) (eqb k 3 && (bit b 3 && not (eqb p 3)))) bits k (status_table (bit b 3 && not (eqb p 3))) (all_bits k m))
