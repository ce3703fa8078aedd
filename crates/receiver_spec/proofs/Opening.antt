-- When an opening ends, and which byte of it is due. Assumes nothing.
use mathlib.Core.Path.{◌≡◌, refl, ap}
use mathlib.Core.Logic.{◌≢◌}
use mathlib.Core.Bool.{true, false, and-false}
use mathlib.Core.List.{List, [], ◌∷◌, tail-eq_of_cons-eq}
use Prim.Native.Nat.{ℕ}
use lib.Dec.{eqb}
use borrow.Author.Tests.{ne_eqb}
use Rattle.general_laws.specs.Bytes.{◌!◌, same}
use Rattle.text.specs.Text.{LPAD, SYN, DLE, STX, FD}
use Rattle.general_laws.proofs.Tests.{by_test, same_eq}
use Rattle.receiver_spec.specs.Seen.{push, opening_back, ends_opening}

-- an opening ends with `FD`, and the byte before it is STX
pub only_fd : (w : List ℕ) (b : ℕ) → b ≢ FD → ends_opening w b ≡ false
unfolding ends_opening same
only_fd w b n = rw (ne_eqb b FD n)

pub only_stx : (y : ℕ) (w : List ℕ) (b : ℕ) → y ≢ STX → ends_opening (y ∷ w) b ≡ false
unfolding ends_opening same
only_stx y w b n = rw (ne_eqb y STX n) (and-false (eqb b FD))

-- the six bytes
pub opening_seen : (w : List ℕ) (b : ℕ) → ends_opening w b ≡ true → b ∷ w ≡ opening_back
unfolding ends_opening
opening_seen w b h = same_eq (b ∷ w) opening_back h

-- the bytes seen after more of them
abbrev pub pushes : List ℕ → List ℕ → List ℕ
pushes w [] = w
pushes w (x ∷ xs) = pushes (push w x) xs

-- after the five control bytes, after an opening, and after the block's first three bytes
abbrev pub seen_control : List ℕ
seen_control = STX ∷ DLE ∷ SYN ∷ SYN ∷ LPAD ∷ []

abbrev pub seen_opening : List ℕ
seen_opening = FD ∷ STX ∷ DLE ∷ SYN ∷ SYN ∷ []

abbrev pub seen_kind : ℕ → ℕ → List ℕ
seen_kind q k = k ∷ q ∷ FD ∷ STX ∷ DLE ∷ []

pub control_opens : ends_opening seen_control FD ≡ true
unfolding ends_opening same
control_opens = refl

-- a byte seen that is not the opening's at its place keeps it from ending
pub differs : (w : List ℕ) (b i : ℕ) → w ! i ≢ seen_control ! i → ends_opening w b ≡ false
differs w b i n =
    by_test (ends_opening w b) (λ e. absurd (n (ap (λ t. t ! i) (tail-eq_of_cons-eq (opening_seen w b e))))) (λ e. e)
