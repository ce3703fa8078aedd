-- Where a picture code stands in 01's list, as the code works it out, is where it stands. Assumes nothing.
use mathlib.Core.Path.{◌≡◌, sym, ap, ◌∙◌, subst}
use mathlib.Core.Bool.{Bool, true, cond, ◌&&◌}
use mathlib.Core.List.{[], ◌∷◌}
use Prim.Native.Nat.{ℕ, ◌/◌, ◌%◌, ◌^◌, ◌<◌}
use lib.Dec.{eqb, ltb}
use borrow.Author.Tests.{eqb-true, ltb-true}
use Rattle.general_laws.specs.Bytes.{bit, is_in, same}
use Rattle.text.specs.Pictures.{picture_codes, is_picture_code}
use Rattle.general_laws.proofs.Tests.{by_test, same_eq}
use Rattle.general_laws.proofs.Computed.{tabled}
use Rattle.receiver_spec.specs.Contents.{index_in}
use Rattle.receiver_spec.specs.Marks.{marked_among, marked_pictures, is_marked}
use Rattle.receiver_spec.proofs.Laws.{marked_at}
use Rattle.receiver_marks.specs.Places.{place_of, mark_of}

pub place_small : (code : ℕ) → code < 256 → place_of code < 20
unfolding place_of
place_small code l = ltb-true (place_of code) 20 (tabled (λ code. ltb (place_of code) 20) 256 tt code l)

-- of a listed code it is the place in the list
unfoldable right : ℕ → Bool
right code = cond (is_picture_code code) (eqb (place_of code) (index_in code picture_codes)) true

all_right : (code : ℕ) → code < 256 → right code ≡ true
unfolding right place_of is_picture_code picture_codes is_in
all_right code l = tabled right 256 tt code l

pub place_listed : (code : ℕ) → code < 256 → is_picture_code code ≡ true → place_of code ≡ index_in code picture_codes
unfolding right
place_listed code l h =
    eqb-true (place_of code) (index_in code picture_codes) (subst (λ t. cond t (eqb (place_of code) (index_in code picture_codes)) true ≡ true) h (all_right code l))

-- so a code is marked where it is listed and the bit at that place is set
pub marked_here : (marks code : ℕ) → code < 256 → is_marked marks code ≡ (is_picture_code code && eqb (marks / 2 ^ place_of code % 2) 1)
unfolding bit
marked_here marks code l =
    marked_at marks code
    ∙ by_test {P = (is_picture_code code && bit marks (index_in code picture_codes)) ≡ (is_picture_code code && eqb (marks / 2 ^ place_of code % 2) 1)} (is_picture_code code)
    (λ h. ap (λ n. is_picture_code code && bit marks n) (sym (place_listed code l h))) (λ h. rw h)

-- the mark of a listed picture marks that picture alone
unfoldable alone : ℕ → Bool
alone code = cond (is_picture_code code) (same (marked_pictures (mark_of code)) (code ∷ [])) true

all_alone : (code : ℕ) → code < 256 → alone code ≡ true
unfolding alone mark_of marked_pictures marked_among is_picture_code picture_codes is_in bit same
all_alone code l = tabled alone 256 tt code l

pub mark_alone : (code : ℕ) → code < 256 → is_picture_code code ≡ true → marked_pictures (mark_of code) ≡ code ∷ []
unfolding alone
mark_alone code l h = same_eq (marked_pictures (mark_of code)) (code ∷ []) (subst (λ t. cond t (same (marked_pictures (mark_of code)) (code ∷ [])) true ≡ true) h (all_alone code l))
