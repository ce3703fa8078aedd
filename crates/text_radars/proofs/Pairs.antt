-- A test of two lists, place by place, as a loop over both makes it. Assumes nothing.
use mathlib.Core.Path.{◌≡◌, refl, sym, ap, ap₂, ◌∙◌}
use mathlib.Core.Logic.{◌⊎◌, inl, inr}
use mathlib.Core.Bool.{Bool, true, false, ◌&&◌}
use mathlib.Core.List.{List, [], ◌∷◌}
use Prim.Native.Nat.{ℕ, ◌-◌}
use native.Mathlib.Omega.{arith}
use lib.ListN.{length, drop}
use Rattle.general_laws.specs.Bytes.{◌!◌, every}
use Rattle.general_laws.proofs.Places.{places, by_place}

-- each pair passes, up to the end of the shorter list
abbrev pub pairs : (ℕ → ℕ → Bool) → List ℕ → List ℕ → Bool
pairs test [] ys = true
pairs test (x ∷ xs) [] = true
pairs test (x ∷ xs) (y ∷ ys) = test x y && pairs test xs ys

-- one turn of the loop: a pair that passes leaves the rest to say, one that does not settles it
turn :
    (test : ℕ → ℕ → Bool) (x y : ℕ) (xs ys zs ws : List ℕ) (t : Bool) → zs ≡ x ∷ xs → ws ≡ y ∷ ys → test x y ≡ t →
    (t && pairs test xs ys) ≡ pairs test zs ws
turn test x y xs ys zs ws t e f h = sym (ap₂ (pairs test) e f ∙ ap (λ (b : Bool). b && pairs test xs ys) h)

pub passed :
    (test : ℕ → ℕ → Bool) (x y : ℕ) (xs ys zs ws : List ℕ) → (zs ≡ x ∷ xs) × (ws ≡ y ∷ ys) → test x y ≡ true →
    pairs test xs ys ≡ pairs test zs ws
passed test x y xs ys zs ws e h = turn test x y xs ys zs ws true e.0 e.1 h

pub failed :
    (test : ℕ → ℕ → Bool) (x y : ℕ) (xs ys zs ws : List ℕ) → (zs ≡ x ∷ xs) × (ws ≡ y ∷ ys) → test x y ≡ false →
    false ≡ pairs test zs ws
failed test x y xs ys zs ws e h = turn test x y xs ys zs ws false e.0 e.1 h

-- and nothing is left where one list has ended
pub ended : (test : ℕ → ℕ → Bool) (xs ys : List ℕ) → (length xs ≡ 0) ⊎ (length ys ≡ 0) → true ≡ pairs test xs ys
ended test [] ys h = refl
ended test (x ∷ xs) [] h = refl
ended test (x ∷ xs) (y ∷ ys) (inl h) = absurd (omega arith)
ended test (x ∷ xs) (y ∷ ys) (inr h) = absurd (omega arith)

-- two lists of eight, and eight with the one behind each
pub of_eight :
    (test : ℕ → ℕ → Bool) (xs ys : List ℕ) → length xs ≡ 8 → length ys ≡ 8 →
    pairs test xs ys ≡ every (λ k. test (xs ! k) (ys ! k)) (places 0 8)
unfolding every
of_eight test xs ys p q = ap₂ (pairs test) (by_place 8 xs p) (by_place 8 ys q)

pub of_next :
    (test : ℕ → ℕ → Bool) (xs : List ℕ) → length xs ≡ 8 →
    pairs test xs (drop 1 xs) ≡ every (λ k. test (xs ! (k - 1)) (xs ! k)) (places 1 7)
unfolding every
of_next test xs p = ap (λ (zs : List ℕ). pairs test zs (drop 1 zs)) (by_place 8 xs p)
