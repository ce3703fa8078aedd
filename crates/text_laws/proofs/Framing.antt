-- Texts: their lengths, their bytes by place, and that a text has one block only. Assumes nothing.
use mathlib.Core.Path.{◌≡◌, refl, sym, ap, ap₂, ◌∙◌, subst}
use mathlib.Core.Logic.{◌⊎◌, inl, inr, ◌≢◌}
use mathlib.Core.List.{List, [], ◌∷◌, ◌++◌, head-eq_of_cons-eq, tail-eq_of_cons-eq}
use Prim.Native.Nat.{ℕ, zero, suc, ◌+◌, ◌-◌, ◌<◌}
use native.Mathlib.Omega.{arith}
use lib.ListN.{length, take, drop, length-append}
use lib.Seq.{take_at}
use Rattle.general_laws.specs.Bytes.{◌!◌}
use Rattle.text.specs.Text.{EOR, control_a, control_b, xor_all, check_byte, text_of}
use Rattle.text.specs.Part.{block_in, AlteredTo, here, there, UndamagedText}
use Rattle.general_laws.proofs.Bits.{xor_cancel_left, xor_cancel_right}

pub text_length_lem : (block : List ℕ) → length (text_of block) ≡ length block + 8
unfolding text_of
text_length_lem block = simp length-append (omega arith)

-- two lists of the same length, each with another behind it
pub append_parts : (a c : List ℕ) {b d : List ℕ} → length a ≡ length c → a ++ b ≡ c ++ d → (a ≡ c) × (b ≡ d)
append_parts [] [] h e = (refl, e)
append_parts [] (y ∷ c) h e = absurd (omega arith)
append_parts (x ∷ a) [] h e = absurd (omega arith)
append_parts (x ∷ a) (y ∷ c) h e =
    let (p, q) = append_parts a c (omega arith) (tail-eq_of_cons-eq e) in
    (ap₂ (λ s t. s ∷ t) (head-eq_of_cons-eq e) p, q)

-- the text's block is read off by its length
pub block_in_text : (block : List ℕ) → block_in (text_of block) ≡ block
unfolding text_of
block_in_text block =
    let long : length (text_of block) - 8 ≡ length block = omega (arith, text_length_lem block) in
    ap (λ n. take n (drop 5 (text_of block))) long ∙ take_at block (control_b block) (length block) refl

pub text_inj : (a b : List ℕ) → text_of a ≡ text_of b → a ≡ b
text_inj a b e = sym (block_in_text a) ∙ ap block_in e ∙ block_in_text b

-- an altered list is another list of the same length
pub altered_length : {v : ℕ} {xs ys : List ℕ} → AlteredTo v xs ys → length xs ≡ length ys
altered_length (here n) = refl
altered_length (there a) = ap suc (altered_length a)

pub altered_other : {v : ℕ} {xs ys : List ℕ} → AlteredTo v xs ys → xs ≢ ys
altered_other (here n) e = n (head-eq_of_cons-eq e)
altered_other (there a) e = altered_other a (tail-eq_of_cons-eq e)

-- by the place of the altered byte, both ways
pub altered_at : {v : ℕ} (xs : List ℕ) (i : ℕ) → i < length xs → xs ! i ≢ v → AlteredTo v xs (take i xs ++ (v ∷ drop (suc i) xs))
altered_at [] i l n = absurd (omega arith)
altered_at (x ∷ xs) zero l n = here n
altered_at (x ∷ xs) (suc i) l n = there (altered_at xs i (omega arith) n)

pub altered_place : {v : ℕ} {xs ys : List ℕ} → AlteredTo v xs ys → (i : ℕ) × (i < length xs) × (xs ! i ≢ v) × (ys ≡ take i xs ++ (v ∷ drop (suc i) xs))
altered_place (here n) = (zero, omega arith, n, refl)
altered_place (there {x} a) = let (i, l, n, e) = altered_place a in (suc i, omega arith, n, ap (λ t. x ∷ t) e)

-- the altered byte lies in the first list or in the second
pub altered_parts : {v : ℕ} (xs : List ℕ) {ys zs : List ℕ} → AlteredTo v (xs ++ ys) zs
    → ((us : List ℕ) × AlteredTo v xs us × (zs ≡ us ++ ys)) ⊎ ((us : List ℕ) × AlteredTo v ys us × (zs ≡ xs ++ us))
altered_parts [] {ys} {zs} a = inr (zs, a, refl)
altered_parts {v} (x ∷ xs) (here n) = inl (v ∷ xs, here n, refl)
altered_parts {v} (x ∷ xs) {ys} (there {ys = vs} a) = go (altered_parts xs a)
  where
    go : ((us : List ℕ) × AlteredTo v xs us × (vs ≡ us ++ ys)) ⊎ ((us : List ℕ) × AlteredTo v ys us × (vs ≡ xs ++ us))
        → ((us : List ℕ) × AlteredTo v (x ∷ xs) us × (x ∷ vs ≡ us ++ ys)) ⊎ ((us : List ℕ) × AlteredTo v ys us × (x ∷ vs ≡ x ∷ (xs ++ us)))
    go (inl (us, b, e)) = inl (x ∷ us, there b, ap (λ t. x ∷ t) e)
    go (inr (us, b, e)) = inr (us, b, ap (λ t. x ∷ t) e)

-- so has its exclusive or
pub altered_xor : {v : ℕ} {xs ys : List ℕ} → AlteredTo v xs ys → xor_all xs ≢ xor_all ys
unfolding xor_all
altered_xor {v} (here {x} {xs} n) e = n (xor_cancel_right (xor_all xs) x v e)
altered_xor (there {x} {xs} {ys} a) e = altered_xor a (xor_cancel_left x (xor_all xs) (xor_all ys) e)

pub altered_check : {v : ℕ} {xs ys : List ℕ} → AlteredTo v xs ys → check_byte xs ≢ check_byte ys
unfolding check_byte
altered_check {xs} {ys} a e = altered_xor a (xor_cancel_right EOR (xor_all xs) (xor_all ys) e)

-- A text with one byte altered, to whatever value, is no text
pub altered_text : {v : ℕ} (block other : List ℕ) → AlteredTo v (text_of block) (text_of other) → ⊥
unfolding text_of
altered_text {v} block other a = control (altered_parts control_a a)
  where
    size : length block ≡ length other
    size = omega (arith, altered_length a, text_length_lem block, text_length_lem other)

    rest : List ℕ
    rest = block ++ control_b block

    tails : (us : List ℕ) → AlteredTo v (control_b block) us → block ++ us ≡ other ++ control_b other → ⊥
    tails us t e =
        let (p, q) = append_parts block other size e in
        altered_other t (ap control_b p ∙ sym q)

    blocks : (us : List ℕ) → AlteredTo v block us → us ++ control_b block ≡ other ++ control_b other → ⊥
    blocks us t e =
        let (p, q) = append_parts us other (sym (altered_length t) ∙ size) e in
        altered_check t (head-eq_of_cons-eq (tail-eq_of_cons-eq q) ∙ ap check_byte (sym p))

    body : (us : List ℕ) → us ≡ other ++ control_b other
        → ((vs : List ℕ) × AlteredTo v block vs × (us ≡ vs ++ control_b block)) ⊎ ((vs : List ℕ) × AlteredTo v (control_b block) vs × (us ≡ block ++ vs)) → ⊥
    body us e (inl (vs, t, f)) = blocks vs t (sym f ∙ e)
    body us e (inr (vs, t, f)) = tails vs t (sym f ∙ e)

    control : ((us : List ℕ) × AlteredTo v control_a us × (control_a ++ (other ++ control_b other) ≡ us ++ rest))
        ⊎ ((us : List ℕ) × AlteredTo v rest us × (control_a ++ (other ++ control_b other) ≡ control_a ++ us)) → ⊥
    control (inl (us, t, e)) = altered_other t (append_parts control_a us (altered_length t) e).0
    control (inr (us, t, e)) = body us (sym (append_parts control_a control_a refl e).1) (altered_parts block t)

pub altered_undamaged : {v : ℕ} {t u : List ℕ} → UndamagedText t → AlteredTo v t u → UndamagedText u → ⊥
altered_undamaged {v} {t} {u} p a q =
    altered_text p.block q.block (subst (λ s. AlteredTo v (text_of p.block) s) q.framed (subst (λ s. AlteredTo v s u) p.framed a))
