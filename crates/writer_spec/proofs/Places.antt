-- Lists that agree but at some places, and texts and parts with bytes put at places. Assumes nothing.
use mathlib.Core.Path.{◌≡◌, refl, sym, ap, ap₂, ◌∙◌}
use mathlib.Core.Logic.{◌≢◌}
use mathlib.Core.Bool.{false, ◌||◌, or_assoc}
use mathlib.Core.List.{List, [], ◌∷◌, ◌++◌, map}
use Prim.Native.Nat.{ℕ, zero, suc, ◌+◌, ◌≤◌, ◌<◌}
use native.Mathlib.Omega.{arith}
use lib.Dec.{eqb}
use lib.ListN.{length, set, take, drop, length-append, get_or-append}
use lib.Seq.{sets, sets-eq, length-sets, length-take-le, get_or-append-add, get_or-set_other, set-get_or}
use borrow.Author.Tests.{eqb-true, eqb-false, eq-eqb, ne_eqb}
use Rattle.general_laws.specs.Bytes.{◌!◌, is_in}
use Rattle.text.specs.Text.{control_a, control_b, text_of, check_byte}
use Rattle.text.specs.Part.{Part, texts_of, part_bytes}
use Rattle.general_laws.proofs.Places.{places}
use Rattle.general_laws.proofs.Tests.{by_test, neither}
use Rattle.text_laws.proofs.Framing.{text_length_lem}
use Rattle.text_laws.proofs.Openings.{block_at}

-- ---- places that are none of some

in_append : (i : ℕ) (js ks : List ℕ) → is_in i (js ++ ks) ≡ (is_in i js || is_in i ks)
unfolding is_in
in_append i [] ks = refl
in_append i (j ∷ js) ks = ap (λ t. eqb i j || t) (in_append i js ks) ∙ sym (or_assoc (eqb i j) (is_in i js) (is_in i ks))

not_that : (i j : ℕ) → is_in i (j ∷ []) ≡ false → i ≢ j
unfolding is_in
not_that i j h = eqb-false i j (neither (eqb i j) (is_in i []) h).0

eqb_shifted : (n i j : ℕ) → eqb (n + i) (n + j) ≡ eqb i j
eqb_shifted n i j =
    by_test (eqb i j) (λ e. eq-eqb (n + i) (n + j) (omega (arith, eqb-true i j e)) ∙ sym e)
    (λ e. ne_eqb (n + i) (n + j) (λ f. eqb-false i j e (omega arith)) ∙ sym e)

-- places counted from n on
pub in_shifted : (n i : ℕ) (js : List ℕ) → is_in (n + i) (map (λ j. n + j) js) ≡ is_in i js
unfolding is_in
in_shifted n i [] = refl
in_shifted n i (j ∷ js) = ap₂ (λ a b. a || b) (eqb_shifted n i j) (in_shifted n i js)

-- ---- one list behind another

-- they agree where the fronts do, and behind them where the ends do
pub append_agrees : (a b c d : List ℕ) → length a ≡ length b → (i : ℕ) → (i < length a → a ! i ≡ b ! i) → ((j : ℕ) → i ≡ length a + j → c ! j ≡ d ! j)
    → (a ++ c) ! i ≡ (b ++ d) ! i
append_agrees [] [] c d l i f g = g i (omega arith)
append_agrees [] (y ∷ b) c d l i f g = absurd (omega arith)
append_agrees (x ∷ a) [] c d l i f g = absurd (omega arith)
append_agrees (x ∷ a) (y ∷ b) c d l zero f g = f (omega arith)
append_agrees (x ∷ a) (y ∷ b) c d l (suc i) f g =
    append_agrees a b c d (omega arith) i (λ h. f (omega arith)) (λ j e. g j (omega arith))

-- ---- bytes put into a list

-- the others are as they were
sets_other : (xs : List ℕ) (n : ℕ) (vs : List ℕ) (i : ℕ) → is_in i (places n (length vs)) ≡ false → sets xs n vs ! i ≡ xs ! i
unfolding is_in
sets_other xs n [] i h = refl
sets_other xs n (v ∷ vs) i h =
    let (a, b) = neither (eqb i n) (is_in i (places (suc n) (length vs))) h in
    sets_other (set xs n v) (suc n) vs i b ∙ get_or-set_other xs n i v 0 (eqb-false i n a)

-- and these are there
pub sets_at : (xs : List ℕ) (n : ℕ) (vs : List ℕ) (i : ℕ) → n + length vs ≤ length xs → i < length vs → sets xs n vs ! (n + i) ≡ vs ! i
sets_at xs n vs i l h =
    let front : length (take n xs) ≡ n = length-take-le n xs (omega arith) in
    ap (λ t. t ! (n + i)) (sets-eq vs xs n l)
    ∙ get_or-append (take n xs ++ vs) (drop (n + length vs) xs) 0 (n + i) (omega (arith, length-append (take n xs) vs, front))
    ∙ ap (λ m. (take n xs ++ vs) ! (m + i)) (sym front)
    ∙ get_or-append-add (take n xs) vs i 0

-- bytes put where they are already
pub sets_same : (xs : List ℕ) (n m : ℕ) → sets xs n (map (λ j. xs ! j) (places n m)) ≡ xs
sets_same xs n zero = refl
sets_same xs n (suc m) = ap (λ t. sets t (suc n) (map (λ j. xs ! j) (places (suc n) m))) (set-get_or xs n 0) ∙ sets_same xs (suc n) m

-- ---- a text

control_agrees : (a b : List ℕ) (i : ℕ) → i ≢ 1 → control_b a ! i ≡ control_b b ! i
control_agrees a b zero h = refl
control_agrees a b (suc zero) h = absurd (h refl)
control_agrees a b (suc (suc zero)) h = refl
control_agrees a b (suc (suc (suc i))) h = refl

-- where a text can differ from the one with bytes put into its block: there, and at its check byte
abbrev pub text_places : ℕ → ℕ → List ℕ
text_places n m = map (λ j. 5 + j) (places n m ++ (33 ∷ []))

pub text_agrees : (block : List ℕ) (n : ℕ) (vs : List ℕ) (i : ℕ) → length block ≡ 32 → is_in i (text_places n (length vs)) ≡ false
    → text_of (sets block n vs) ! i ≡ text_of block ! i
unfolding text_of
text_agrees block n vs i l h =
    append_agrees control_a control_a (sets block n vs ++ control_b (sets block n vs)) (block ++ control_b block) refl i (λ _. refl) (λ j e. body j e)
  where
    body : (j : ℕ) → i ≡ 5 + j → (sets block n vs ++ control_b (sets block n vs)) ! j ≡ (block ++ control_b block) ! j
    body j e =
        let free : is_in j (places n (length vs) ++ (33 ∷ [])) ≡ false = sym (in_shifted 5 j (places n (length vs) ++ (33 ∷ []))) ∙ ap (λ t. is_in t (text_places n (length vs))) (sym e) ∙ h in
        let (a, b) = neither (is_in j (places n (length vs))) (is_in j (33 ∷ [])) (sym (in_append j (places n (length vs)) (33 ∷ [])) ∙ free) in
        append_agrees (sets block n vs) block (control_b (sets block n vs)) (control_b block) (length-sets block n vs) j
        (λ _. sets_other block n vs j a)
        (λ k f. control_agrees (sets block n vs) block k (λ g. not_that j 33 b (omega (arith, length-sets block n vs))))

-- ---- a part

pub start_byte_at : (part : Part) (i : ℕ) → i < length part.start → part_bytes part ! (5 + i) ≡ part.start ! i
unfolding part_bytes
start_byte_at part i h =
    get_or-append (text_of part.start) (texts_of part.datas ++ text_of part.end) 0 (5 + i) (omega (arith, text_length_lem part.start))
    ∙ block_at part.start i h

pub end_byte_at : (part : Part) (n i : ℕ) → n ≡ length (text_of part.start) + length (texts_of part.datas) → i < length part.end
    → part_bytes part ! (n + (5 + i)) ≡ part.end ! i
unfolding part_bytes
end_byte_at part n i e h =
    let place : n + (5 + i) ≡ length (text_of part.start) + (length (texts_of part.datas) + (5 + i)) = omega arith in
    ap (λ m. (text_of part.start ++ (texts_of part.datas ++ text_of part.end)) ! m) place
    ∙ get_or-append-add (text_of part.start) (texts_of part.datas ++ text_of part.end) (length (texts_of part.datas) + (5 + i)) 0
    ∙ get_or-append-add (texts_of part.datas) (text_of part.end) (5 + i) 0
    ∙ block_at part.end i h

pub bytes_long : (part : Part) → length (part_bytes part) ≡ length (text_of part.start) + length (texts_of part.datas) + length (text_of part.end)
unfolding part_bytes
bytes_long part =
    omega (arith, length-append (text_of part.start) (texts_of part.datas ++ text_of part.end), length-append (texts_of part.datas) (text_of part.end))

-- the check bytes of the start text and of the end text
check_in_text : (b : List ℕ) → length b ≡ 32 → text_of b ! 38 ≡ check_byte b
unfolding text_of
check_in_text b l =
    let place : 33 ≡ length b + 1 = omega (arith, l) in
    get_or-append-add control_a (b ++ control_b b) 33 0 ∙ ap (λ m. (b ++ control_b b) ! m) place ∙ get_or-append-add b (control_b b) 1 0

pub start_check_at : (part : Part) → length part.start ≡ 32 → part_bytes part ! 38 ≡ check_byte part.start
unfolding part_bytes
start_check_at part l =
    get_or-append (text_of part.start) (texts_of part.datas ++ text_of part.end) 0 38 (omega (arith, text_length_lem part.start, l))
    ∙ check_in_text part.start l

pub end_check_at : (part : Part) (n : ℕ) → n ≡ length (text_of part.start) + length (texts_of part.datas) → length part.end ≡ 32
    → part_bytes part ! (n + 38) ≡ check_byte part.end
unfolding part_bytes
end_check_at part n e l =
    let place : n + 38 ≡ length (text_of part.start) + (length (texts_of part.datas) + 38) = omega arith in
    ap (λ m. (text_of part.start ++ (texts_of part.datas ++ text_of part.end)) ! m) place
    ∙ get_or-append-add (text_of part.start) (texts_of part.datas ++ text_of part.end) (length (texts_of part.datas) + 38) 0
    ∙ get_or-append-add (texts_of part.datas) (text_of part.end) 38 0
    ∙ check_in_text part.end l
