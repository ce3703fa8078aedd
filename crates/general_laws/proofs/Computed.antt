-- A test computed at every number below n, and the laws that turn it into a fact at each. Assumes nothing.
use mathlib.Core.Path.{◌≡◌, refl, subst, sym}
use mathlib.Core.Logic.{⊎_elim}
use mathlib.Core.Bool.{Bool, true, false, ◌&&◌, beq}
use Prim.Native.Nat.{ℕ, zero, suc, ◌<◌}
use native.Mathlib.Nat.{not-suc-le-zero, le_of_suc-le-suc, eq-or-lt_of_le}
use lib.Dec.{T, eqb, eqb→eq}

-- the test passes at every number below n
abbrev pub all : ℕ → (ℕ → Bool) → Bool
all zero test = true
all (suc n) test = test n && all n test

first : (a b : Bool) → T (a && b) → T a
first true b t = tt
first false b t = t

second : (a b : Bool) → T (a && b) → T b
second true b t = t
second false b t = absurd t

pub at_each : (n : ℕ) (test : ℕ → Bool) → T (all n test) → (k : ℕ) → k < n → T (test k)
at_each zero test t k h = absurd (not-suc-le-zero h)
at_each (suc n) test t k h =
    ⊎_elim (λ e. subst (λ (m : ℕ). T (test m)) (sym e) (first (test n) (all n test) t))
    (λ l. at_each n test (second (test n) (all n test) t) k l)
    (eq-or-lt_of_le (le_of_suc-le-suc h))

-- two functions with the same value at every number below n, where `same` tests what is equal
agree :
    {A : Type 0} (same : A → A → Bool) → ((x y : A) → T (same x y) → x ≡ y) →
    (n : ℕ) (f g : ℕ → A) → T (all n (λ k. same (f k) (g k))) → (k : ℕ) → k < n → f k ≡ g k
agree same sound n f g t k h = sound (f k) (g k) (at_each n (λ k. same (f k) (g k)) t k h)

alike : (x y : Bool) → T (beq x y) → x ≡ y
alike true true t = refl
alike true false t = absurd t
alike false true t = absurd t
alike false false t = refl

pub same_numbers : (n : ℕ) (f g : ℕ → ℕ) → T (all n (λ k. eqb (f k) (g k))) → (k : ℕ) → k < n → f k ≡ g k
same_numbers = agree eqb eqb→eq

pub same_tests : (n : ℕ) (f g : ℕ → Bool) → T (all n (λ k. beq (f k) (g k))) → (k : ℕ) → k < n → f k ≡ g k
same_tests = agree beq alike

-- a test that is computed at each number below n
T_true : (t : Bool) → T t → t ≡ true
T_true true h = refl
T_true false h = absurd h

pub tabled : (test : ℕ → Bool) (n : ℕ) → T (all n test) → (i : ℕ) → i < n → test i ≡ true
tabled test n h i l = T_true (test i) (at_each n test h i l)
