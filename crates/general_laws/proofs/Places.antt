-- A list read off by its places, and a test of the byte at each. Assumes nothing.
use mathlib.Core.Path.{◌≡◌, refl, ap, ◌∙◌}
use mathlib.Core.Logic.{⊎_elim}
use mathlib.Core.Bool.{Bool, true, false, ◌&&◌, and-false}
use mathlib.Core.List.{List, [], ◌∷◌, map}
use Prim.Native.Nat.{ℕ, zero, suc, ◌+◌, ◌<◌, ◌≤◌}
use native.Mathlib.Nat.{eq-or-lt_of_le}
use native.Mathlib.Omega.{arith}
use lib.ListN.{length, drop, drop_of_length-le}
use lib.Seq.{drop-cons}
use Rattle.general_laws.specs.Bytes.{◌!◌, every}

-- the n places from i on
abbrev pub places : ℕ → ℕ → List ℕ
places i zero = []
places i (suc n) = i ∷ places (suc i) n

-- a test passes at every place, or fails at one
pub places_true :
    (test : ℕ → Bool) (i n : ℕ) → ((k : ℕ) → k < i + n → i ≤ k → test k ≡ true) →
    every test (places i n) ≡ true
unfolding every
places_true test i zero h = refl
places_true test i (suc n) h =
    rw (h i (omega arith) (omega arith)) (places_true test (suc i) n (λ k l m. h k (omega arith) (omega arith)))

pub places_false :
    (test : ℕ → Bool) (i n k : ℕ) → i ≤ k → k < i + n → test k ≡ false →
    every test (places i n) ≡ false
unfolding every
places_false test i zero k l m h = absurd (omega arith)
places_false test i (suc n) k l m h =
    ⊎_elim (λ (e : i ≡ k). rw (ap test e ∙ h))
    (λ (p : i < k). rw (places_false test (suc i) n k p (omega arith) h) (and-false (test i)))
    (eq-or-lt_of_le l)

-- a list of n bytes is the table of its places
from_place : (xs : List ℕ) (i n : ℕ) → length xs ≡ i + n → drop i xs ≡ map (λ k. xs ! k) (places i n)
from_place xs i zero h = drop_of_length-le xs {i = i} (omega arith)
from_place xs i (suc n) h = drop-cons xs i 0 (omega arith) ∙ ap (λ (l : List ℕ). xs ! i ∷ l) (from_place xs (suc i) n (omega arith))

pub by_place : (n : ℕ) (xs : List ℕ) → length xs ≡ n → xs ≡ map (λ k. xs ! k) (places 0 n)
by_place n xs h = from_place xs 0 n (omega arith)

every_map : (test : ℕ → Bool) (f : ℕ → ℕ) (xs : List ℕ) → every test (map f xs) ≡ every (λ x. test (f x)) xs
unfolding every
every_map test f [] = refl
every_map test f (x ∷ xs) = ap (λ (t : Bool). test (f x) && t) (every_map test f xs)

-- so what every byte passes is what the byte at every place passes
pub every_by_place :
    (test : ℕ → Bool) (n : ℕ) (xs : List ℕ) → length xs ≡ n → every test xs ≡ every (λ k. test (xs ! k)) (places 0 n)
every_by_place test n xs h = ap (every test) (by_place n xs h) ∙ every_map test (λ k. xs ! k) (places 0 n)
