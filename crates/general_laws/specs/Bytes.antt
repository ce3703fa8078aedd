-- The few words on lists of bytes that the other definitions use. Assumes nothing.
use Rattle.std.specs.Prelude.{ℕ, ◌+◌, ◌/◌, ◌%◌, ◌^◌, Bool, true, false, cond, ◌&&◌, ◌||◌, List, [], ◌∷◌, eqb, leb, length, get_or}
use Rattle.std.proofs.lemmas.List.Edits.{sets}

infixl 90 ◌!◌
-- the byte at place i, counted from 0; 0 past the end
abbrev pub ◌!◌ : List ℕ → ℕ → ℕ
bytes ! i = get_or bytes i 0

-- bit k of a byte; bit 7 is the highest
unfoldable pub bit : ℕ → ℕ → Bool
bit b k = eqb (b / 2 ^ k % 2) 1

-- b is one of these bytes
unfoldable pub is_in : ℕ → List ℕ → Bool
is_in b [] = false
is_in b (x ∷ xs) = eqb b x || is_in b xs

-- each of these passes the test
unfoldable pub every : (ℕ → Bool) → List ℕ → Bool
every test [] = true
every test (x ∷ xs) = test x && every test xs

-- all of these rules are kept
unfoldable pub all_of : List Bool → Bool
all_of [] = true
all_of (rule ∷ rules) = rule && all_of rules

-- two lists hold the same bytes
unfoldable pub same : List ℕ → List ℕ → Bool
same [] [] = true
same [] (y ∷ ys) = false
same (x ∷ xs) [] = false
same (x ∷ xs) (y ∷ ys) = eqb x y && same xs ys

-- bytes put into a list from a place on; all as it was where they do not fit
unfoldable pub put_at : List ℕ → ℕ → List ℕ → List ℕ
put_at output at bytes = cond (leb (at + length bytes) (length output)) (sets output at bytes) output
