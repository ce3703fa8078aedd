-- A list is as many zeros where each of its bytes is 0. Assumes nothing.
use Rattle.std.proofs.Common.{◌≡◌, ℕ, ◌&&◌, List, [], ◌∷◌, length, nat_eq, refl, ap, subst}
use Rattle.std.proofs.Math.ListN.{replicate}
use Rattle.std.specs.Cmp.Lexicographic.{pointwise}
use lib.Dec.{eqb}
use Rattle.general_laws.specs.Bytes.{every}

here : (xs : List ℕ) → pointwise nat_eq xs (replicate (length xs) 0) ≡ every (λ d. eqb d 0) xs
unfolding every
here [] = refl
here (x ∷ xs) = ap (λ t. eqb x 0 && t) (here xs)

pub all_zero : (n : ℕ) (xs : List ℕ) → length xs ≡ n → pointwise nat_eq xs (replicate n 0) ≡ every (λ d. eqb d 0) xs
all_zero n xs e = let P : ℕ → Type 0 = λ k. pointwise nat_eq xs (replicate k 0) ≡ every (λ d. eqb d 0) xs in subst P e (here xs)
