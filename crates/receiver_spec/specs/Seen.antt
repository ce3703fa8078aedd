-- The last bytes seen, newest first, and the opening among them. Assumes nothing.
use Rattle.std.specs.Prelude.{ℕ, zero, suc, Bool, cond, List, [], ◌∷◌, reverse, take}
use Rattle.general_laws.specs.Bytes.{◌!◌, same}
use Rattle.text.specs.Text.{LPAD, SYN, DLE, STX, FD, opening}

-- the last five bytes, with one more
abbrev pub push : List ℕ → ℕ → List ℕ
push seen b = take 5 (b ∷ seen)

-- the opening, newest byte first. Notice 49, 4(1)(1-1)(c)(ア)
abbrev pub opening_back : List ℕ
opening_back = FD ∷ STX ∷ DLE ∷ SYN ∷ SYN ∷ LPAD ∷ []

-- An opening is looked for among the last six bytes: it ends with the byte b after these. Notice 49, 4(1)(1-1)(c)(ア)
unfoldable pub ends_opening : List ℕ → ℕ → Bool
ends_opening seen b = same (b ∷ seen) opening_back

-- 01: the longest run, at the end of the bytes seen, with which an opening begins
abbrev pub run_of : ℕ → List ℕ → Bool
run_of n seen = same (take n seen) (reverse (take n opening))

abbrev pub longest_of : ℕ → List ℕ → ℕ
longest_of zero seen = 0
longest_of (suc n) seen = cond (run_of (suc n) seen) (suc n) (longest_of n seen)

-- 01: the opening's due byte is the one after that run. Notice 49, 4(1)(1-1)(c)(ア)
unfoldable pub due_byte : List ℕ → ℕ
due_byte seen = opening ! longest_of 5 seen
