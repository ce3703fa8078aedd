-- The laws of the exclusive or over a list. Assumes nothing.
use mathlib.Core.Path.{◌≡◌, refl, sym, ap, ◌∙◌}
use mathlib.Core.List.{List, [], ◌∷◌, ◌++◌}
use Prim.Native.Nat.{ℕ, suc, ◌<◌}
use native.Mathlib.Omega.{arith}
use lib.Bits.{bit_xor, xor_zero_l, xor_zero_r, xor_lt}
use lib.Dec.{lit<}
use lib.ListN.{length, get_or, take, drop, take-append-drop}
use Rattle.general_laws.proofs.Bits.{xor_assoc}
use Rattle.text.specs.Text.{xor_all}

-- joined lists
pub xor_all_append : (s t : List ℕ) → xor_all (s ++ t) ≡ bit_xor (xor_all s) (xor_all t)
unfolding xor_all
xor_all_append [] t = sym (xor_zero_l (xor_all t))
xor_all_append (b ∷ s) t = ap (bit_xor b) (xor_all_append s t) ∙ sym (xor_assoc b (xor_all s) (xor_all t))

pub xor_all_none : (s : List ℕ) → length s ≡ 0 → 0 ≡ xor_all s
unfolding xor_all
xor_all_none [] h = refl
xor_all_none (b ∷ s) h = absurd (omega arith)

pub xor_all_one : (s : List ℕ) → length s ≡ 1 → get_or s 0 0 ≡ xor_all s
unfolding xor_all
xor_all_one [] h = absurd (omega arith)
xor_all_one (b ∷ []) h = sym (xor_zero_r b)
xor_all_one (b ∷ a ∷ s) h = absurd (omega arith)

-- the two halves of a slice, the second from m on
pub xor_all_halves : (s : List ℕ) (m : ℕ) → bit_xor (xor_all (take m s)) (xor_all (drop m s)) ≡ xor_all s
xor_all_halves s m = rw (← xor_all_append, take-append-drop)

-- the exclusive or of bytes is a byte
pub xor_all_lt : (s : List ℕ) → ((i : ℕ) → get_or s i 0 < 256) → xor_all s < 256
unfolding xor_all
xor_all_lt [] h = lit< tt
xor_all_lt (b ∷ s) h = xor_lt 8 b (xor_all s) (h 0) (xor_all_lt s (λ i. h (suc i)))
