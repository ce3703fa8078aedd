-- A list that grows by one byte, or by more: tests, bytes put into a list. Assumes nothing.
use mathlib.Core.Path.{◌≡◌, refl, sym, ap, ◌∙◌}
use mathlib.Core.Bool.{Bool, ◌&&◌, and-true, and_assoc}
use mathlib.Core.List.{List, [], ◌∷◌, ◌++◌}
use Prim.Native.Nat.{ℕ, suc, ◌+◌, ◌-◌, ◌≤◌, ◌<◌, zero}
use native.Mathlib.Nat.{add-zero}
use native.Mathlib.Numerals.{add-one}
use native.Mathlib.Omega.{arith}
use lib.ListN.{length, get_or, set, take, drop, length-drop}
use lib.Seq.{sets, take-suc, take_all, length-take-le, drop-cons}
use borrow.Author.Tests.{le-leb}
use Rattle.general_laws.specs.Bytes.{every, put_at}

every_snoc : (test : ℕ → Bool) (xs : List ℕ) (x : ℕ) → every test (xs ++ (x ∷ [])) ≡ every test xs && test x
unfolding every
every_snoc test [] x = and-true (test x)
every_snoc test (y ∷ xs) x = ap (λ t. test y && t) (every_snoc test xs x) ∙ sym (and_assoc (test y) (every test xs) (test x))

-- one place further on
pub suc_add : (i n : ℕ) → suc i + n ≡ i + suc n
suc_add i n = omega arith

sets_snoc : (g : List ℕ) (i : ℕ) (xs : List ℕ) (x : ℕ) → sets g i (xs ++ (x ∷ [])) ≡ set (sets g i xs) (i + length xs) x
sets_snoc g i [] x = ap (λ k. set g k x) (sym (add-zero i))
sets_snoc g i (y ∷ xs) x = sets_snoc (set g i y) (suc i) xs x ∙ ap (λ k. set (sets (set g i y) (suc i) xs) k x) (suc_add i (length xs))

-- bytes put behind bytes that were put
pub sets_append : (g : List ℕ) (i : ℕ) (xs ys : List ℕ) → sets g i (xs ++ ys) ≡ sets (sets g i xs) (i + length xs) ys
sets_append g i [] ys = ap (λ k. sets g k ys) (sym (add-zero i))
sets_append g i (x ∷ xs) ys = sets_append (set g i x) (suc i) xs ys ∙ ap (λ k. sets (sets (set g i x) (suc i) xs) k ys) (suc_add i (length xs))

-- bytes that fit are put
pub put_fits : (output : List ℕ) (at : ℕ) (bytes : List ℕ) → at + length bytes ≤ length output → put_at output at bytes ≡ sets output at bytes
unfolding put_at
put_fits output at bytes h = rw (le-leb (at + length bytes) (length output) h)

-- how long the part of a slice from `from` to `from + n` is
pub width : (from n : ℕ) → from + n - from ≡ n
width from n = omega arith

module _ (bytes : List ℕ) (i : ℕ) (h : i < length bytes) where
  pub longer : take i bytes ++ (get_or bytes i 0 ∷ []) ≡ take (i + 1) bytes
  longer = sym (take-suc bytes i 0 h) ∙ ap (λ k. take k bytes) (sym (add-one i))

  pub every_on : (test : ℕ → Bool) → every test (take i bytes) && test (get_or bytes i 0) ≡ every test (take (i + 1) bytes)
  every_on test = sym (every_snoc test (take i bytes) (get_or bytes i 0)) ∙ ap (every test) longer

  pub sets_on : (g : List ℕ) (from : ℕ) → set (sets g from (take i bytes)) (from + i) (get_or bytes i 0) ≡ sets g from (take (i + 1) bytes)
  sets_on g from =
      ap (λ k. set (sets g from (take i bytes)) (from + k) (get_or bytes i 0)) (sym (length-take-le i bytes (omega arith)))
      ∙ sym (sets_snoc g from (take i bytes) (get_or bytes i 0))
      ∙ ap (sets g from) longer

-- the list from a byte on, whose next byte is at a given place
pub from_on : (bytes : List ℕ) (i j : ℕ) → i + 1 ≡ j → j ≤ length bytes → drop i bytes ≡ get_or bytes i 0 ∷ drop j bytes
from_on bytes i j e l = drop-cons bytes i 0 (omega arith) ∙ ap (λ k. get_or bytes i 0 ∷ drop k bytes) (sym (add-one i) ∙ e)

-- the bytes of a list are bytes
abbrev pub Bytes : List ℕ → Type 0
Bytes bytes = (j : ℕ) → get_or bytes j 0 < 256

pub taken_most : (n : ℕ) (xs : List ℕ) → length (take n xs) ≤ length xs
taken_most zero xs = omega arith
taken_most (suc n) [] = omega arith
taken_most (suc n) (x ∷ xs) = omega (arith, taken_most n xs)

-- the first bytes of a list of bytes are bytes
pub bytes_front : (n : ℕ) (xs : List ℕ) → Bytes xs → Bytes (take n xs)
bytes_front zero xs small j = omega arith
bytes_front (suc n) [] small j = omega arith
bytes_front (suc n) (x ∷ xs) small zero = small 0
bytes_front (suc n) (x ∷ xs) small (suc j) = bytes_front n xs (λ i. small (suc i)) j

-- all bytes from place i on
pub rest_is : (bytes : List ℕ) (i : ℕ) → take (length bytes - i) (drop i bytes) ≡ drop i bytes
rest_is bytes i = take_all (length bytes - i) (drop i bytes) (omega (arith, length-drop i bytes))

-- a count that is not 0
pub at_least_one : (n : ℕ) → (n ≡ 0 → ⊥) → 1 ≤ n
at_least_one zero f = absurd (f refl)
at_least_one (suc n) f = omega arith
