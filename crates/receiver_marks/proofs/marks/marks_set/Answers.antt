-- Of a number cut to its lowest bits, as many bits are set as those have, one by one. Assumes nothing.
use mathlib.Core.Path.{◌≡◌, sym, ap, ap₂, ◌∙◌}
use Prim.Native.Nat.{ℕ, zero, suc, ◌+◌, ◌*◌, ◌/◌, ◌%◌, ◌^◌, ◌<◌}
use native.Mathlib.Nat.{add_comm, mod-lt}
use native.Mathlib.Omega.{arith}
use lib.Count.{ones, ones_cat, ones-ones}
use lib.Pow.{split, field, mod-mod-pow, pow_pos}
use Rattle.receiver_spec.specs.Marks.{bits_below}
use Rattle.receiver_spec.proofs.Laws.{marks_claim}
use Rattle.receiver_marks.proofs.marks.marks_set.Goals as goal

one_bit : (b : ℕ) → b < 2 → ones b ≡ b
one_bit zero h = ones-ones 0
one_bit (suc zero) h = ones-ones 1
one_bit (suc (suc b)) h = absurd (omega arith)

count_low : (m k : ℕ) → ones (m % 2 ^ k) ≡ bits_below m k
count_low m zero = let z : m % 1 ≡ 0 = omega arith in ap ones z ∙ ones-ones 0
count_low m (suc k) =
    let next : suc k ≡ 1 + k = omega arith in
    let bit : m / 2 ^ k % 2 < 2 = omega arith in
    ap (λ (n : ℕ). ones (m % 2 ^ n)) next
    ∙ ap ones (sym (split (m % 2 ^ (1 + k)) k))
    ∙ ap₂ (λ (a r : ℕ). ones (a * 2 ^ k + r)) (field m 1 k) (mod-mod-pow m 1 k)
    ∙ ones_cat k (m / 2 ^ k % 2) (m % 2 ^ k) (mod-lt m (pow_pos k))
    ∙ ap₂ (λ (a n : ℕ). a + n) (one_bit (m / 2 ^ k % 2) bit) (count_low m k)
    ∙ add_comm (m / 2 ^ k % 2) (bits_below m k)

pub returns : goal.returns
returns c = count_low c.args.marks 20 ∙ sym (marks_claim.sum c.args.marks)
