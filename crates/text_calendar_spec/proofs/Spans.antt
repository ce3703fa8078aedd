-- Spans in a row, and the one in which a place lies. Assumes nothing.
use Prim.Native.Nat.{ℕ, zero, suc, ◌+◌, ◌*◌, ◌-◌, ◌<◌, ◌≤◌}
use mathlib.Core.Path.{◌≡◌, refl, ap, subst}
use mathlib.Core.Logic.{⊎_elim}
use mathlib.Core.Bool.{Bool, true, false, cond}
use native.Mathlib.Nat.{eq-or-lt_of_le, add-suc, add-zero, suc-mul}
use native.Mathlib.Omega.{arith}
use borrow.Author.Tests.{ltb-true, ltb-false}
use lib.Dec.{ltb}
use Rattle.text_calendar_spec.specs.Minutes.{together, span_from}

step_over : (k n : ℕ) → k + suc n ≡ suc k + n
step_over k n = omega arith

module _ (size : ℕ → ℕ) where
  -- more spans are no shorter
  pub more : (n k : ℕ) → together size k ≤ together size (k + n)
  unfolding together
  more zero k = rw add-zero (omega arith)
  more (suc n) k = let h : together size k ≤ together size (k + n) = more n k in rw add-suc (omega arith)

  pub ordered : (j k : ℕ) → j ≤ k → together size j ≤ together size k
  ordered j k l = let e : j + (k - j) ≡ k = omega arith in rw e at (more (k - j) j)

  -- a span that has begun at a place within the first n is one of these
  within_by : (n y d : ℕ) (t : Bool) → ltb y n ≡ t → together size y ≤ d → d < together size n → y < n
  within_by n y d true e l m = ltb-true y n e
  within_by n y d false e l m = absurd (omega (arith, ordered n y (ltb-false y n e)))

  pub within : (n y d : ℕ) → together size y ≤ d → d < together size n → y < n
  within n y d l m = within_by n y d (ltb y n) refl l m

  -- n spans of at most b each
  pub bounded : (b : ℕ) → ((i : ℕ) → size i ≤ b) → (k : ℕ) → together size k ≤ k * b
  unfolding together
  bounded b h zero = omega arith
  bounded b h (suc k) = rw suc-mul (omega (arith, bounded b h k, h k))

  -- the span that a place lies in is the one that is found
  found_by :
      (k d y rest : ℕ) (t : Bool) → ltb d (size k) ≡ t →
      k ≤ y → together size y ≤ together size k + d → together size k + d < together size (suc y) →
      (size k ≤ d → k < y → rest ≡ y) → cond t k rest ≡ y
  unfolding together
  found_by k d y rest true e l p q next =
      ⊎_elim (λ (g : k ≡ y). g)
      (λ (g : k < y). absurd (omega (arith, ltb-true d (size k) e, ordered (suc k) y g)))
      (eq-or-lt_of_le l)
  found_by k d y rest false e l p q next =
      let s : size k ≤ d = ltb-false d (size k) e in
      ⊎_elim (λ (g : k ≡ y). absurd (omega (arith, ap (λ (x : ℕ). together size (suc x)) g)))
      (λ (g : k < y). next s g)
      (eq-or-lt_of_le l)

  pub found :
      (n k d y : ℕ) → k ≤ y → y ≤ k + n → together size y ≤ together size k + d → together size k + d < together size (suc y) →
      span_from size n k d ≡ y
  unfolding span_from together
  found zero k d y l m p q = omega arith
  found (suc n) k d y l m p q =
      found_by k d y (span_from size n (suc k) (d - size k)) (ltb d (size k)) refl l p q
      (λ s g. found n (suc k) (d - size k) y g (omega arith) (omega arith) (omega arith))

  -- place p lies in span r, one of k to k + n
  pub record Lies (k n p r : ℕ) : Type 0 where
    pub from : k ≤ r
    pub to : r ≤ k + n
    pub low : together size r ≤ p
    pub high : p < together size (suc r)

  lies_by :
      (n k d p rest : ℕ) (t : Bool) → ltb d (size k) ≡ t → p ≡ together size k + d →
      (size k ≤ d → Lies (suc k) n p rest) → Lies k (suc n) p (cond t k rest)
  unfolding together
  lies_by n k d p rest true e q next =
      let l : d < size k = ltb-true d (size k) e in
      record { from = omega arith; to = omega arith; low = omega arith; high = omega arith }
  lies_by n k d p rest false e q next =
      let r = next (ltb-false d (size k) e) in
      record { from = omega (arith, r.from); to = omega (arith, r.to); low = r.low; high = r.high }

  -- the span that is found is one in which the place lies, where the spans reach that far
  pub lies : (n k d p : ℕ) → p ≡ together size k + d → p < together size (suc (k + n)) → Lies k n p (span_from size n k d)
  unfolding span_from together
  lies zero k d p e h = record { from = omega arith; to = omega arith; low = omega arith; high = rw add-zero at h }
  lies (suc n) k d p e h =
      lies_by n k d p (span_from size n (suc k) (d - size k)) (ltb d (size k)) refl e
      (λ s. lies n (suc k) (d - size k) p (omega arith) (subst (λ (x : ℕ). p < together size (suc x)) (step_over k n) h))
