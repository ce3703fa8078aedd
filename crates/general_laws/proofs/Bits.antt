-- The laws of the exclusive or of two numbers. Assumes nothing.
use mathlib.Core.Path.{◌≡◌, refl, sym, ap, ap₂, ◌∙◌}
use Prim.Native.Nat.{ℕ, zero, suc, ◌+◌, ◌*◌, ◌/◌, ◌%◌, ◌<◌}
use native.Mathlib.Nat.{mod-lt}
use native.Mathlib.Omega.{arith}
use lib.Arith.{bin_ind}
use lib.Bits.{bit_xor, differ, xor_step, xor_self, xor_zero_l, xor_zero_r}
use lib.Dec.{lit<}

-- one binary digit
differ_lt : (x y : ℕ) → x < 2 → y < 2 → differ x y < 2
differ_lt zero y hx hy = hy
differ_lt (suc zero) zero hx hy = hx
differ_lt (suc zero) (suc zero) hx hy = omega arith
differ_lt (suc zero) (suc (suc y)) hx hy = absurd (omega arith)
differ_lt (suc (suc x)) y hx hy = absurd (omega arith)

differ_assoc : (x y z : ℕ) → x < 2 → y < 2 → z < 2 → differ (differ x y) z ≡ differ x (differ y z)
differ_assoc zero y z hx hy hz = refl
differ_assoc (suc zero) zero z hx hy hz = refl
differ_assoc (suc zero) (suc zero) zero hx hy hz = refl
differ_assoc (suc zero) (suc zero) (suc zero) hx hy hz = refl
differ_assoc (suc zero) (suc zero) (suc (suc z)) hx hy hz = absurd (omega arith)
differ_assoc (suc zero) (suc (suc y)) z hx hy hz = absurd (omega arith)
differ_assoc (suc (suc x)) y z hx hy hz = absurd (omega arith)

digit : (n : ℕ) → n % 2 < 2
digit n = mod-lt n (lit< tt)

-- all digits but the last, and the last
halves : (a b : ℕ) → bit_xor a b / 2 ≡ bit_xor (a / 2) (b / 2)
halves a b = rw (xor_step a b) (omega (arith, differ_lt (a % 2) (b % 2) (digit a) (digit b)))

last : (a b : ℕ) → bit_xor a b % 2 ≡ differ (a % 2) (b % 2)
last a b = rw (xor_step a b) (omega (arith, differ_lt (a % 2) (b % 2) (digit a) (digit b)))

pub xor_assoc : (a b c : ℕ) → bit_xor (bit_xor a b) c ≡ bit_xor a (bit_xor b c)
xor_assoc a =
    bin_ind (λ (n : ℕ). (b c : ℕ) → bit_xor (bit_xor n b) c ≡ bit_xor n (bit_xor b c)) (λ b c. refl)
    (λ n ih b c.
    xor_step (bit_xor n b) c
    ∙ ap₂ (λ (x y : ℕ). bit_xor x (c / 2) * 2 + differ y (c % 2)) (halves n b) (last n b)
    ∙ ap₂ (λ (x y : ℕ). x * 2 + y) (ih (b / 2) (c / 2)) (differ_assoc (n % 2) (b % 2) (c % 2) (digit n) (digit b) (digit c))
    ∙ sym (ap₂ (λ (x y : ℕ). bit_xor (n / 2) x * 2 + differ (n % 2) y) (halves b c) (last b c))
    ∙ sym (xor_step n (bit_xor b c))) a

pub xor_cancel_left : (a x y : ℕ) → bit_xor a x ≡ bit_xor a y → x ≡ y
xor_cancel_left a x y e = sym (back x) ∙ ap (bit_xor a) e ∙ back y
  where
    back : (n : ℕ) → bit_xor a (bit_xor a n) ≡ n
    back n = sym (xor_assoc a a n) ∙ ap (λ (z : ℕ). bit_xor z n) (xor_self a) ∙ xor_zero_l n

pub xor_cancel_right : (a x y : ℕ) → bit_xor x a ≡ bit_xor y a → x ≡ y
xor_cancel_right a x y e = sym (back x) ∙ ap (λ (z : ℕ). bit_xor z a) e ∙ back y
  where
    back : (n : ℕ) → bit_xor (bit_xor n a) a ≡ n
    back n = xor_assoc n a a ∙ ap (bit_xor n) (xor_self a) ∙ xor_zero_r n
