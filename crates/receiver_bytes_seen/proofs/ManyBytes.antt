-- The bytes seen and the check byte behind a stretch. Assumes nothing.
use mathlib.Core.Path.{◌≡◌, refl, sym, ap, ◌∙◌}
use mathlib.Core.List.{List, [], ◌∷◌, ◌++◌}
use Prim.Native.Nat.{ℕ, suc, ◌+◌, ◌-◌, ◌*◌, ◌%◌, ◌≤◌, ◌<◌}
use native.Mathlib.Omega.{arith}
use lib.Bits.{bit_xor}
use lib.Dec.{ltb}
use lib.ListN.{length, get_or, take, drop, length-drop, take-append-drop}
use borrow.Author.Tests.{ltb-true, ltb-false}
use Rattle.text.specs.Text.{xor_all}
use Rattle.general_laws.proofs.Bits.{xor_assoc}
use Rattle.general_laws.proofs.Lists.{longer}
use Rattle.general_laws.proofs.Tests.{by_test}
use Rattle.receiver_spec.specs.Receiver.{◌⊕◌}
use Rattle.receiver_spec.proofs.Laws.{xor_snoc}
use Rattle.receiver_bytes_seen.specs.AsNumber.{push_seen, push_count}
use Rattle.receiver_bytes_seen.specs.Behind.{seen_after, count_after}

-- what is left of an older number of bytes seen, one byte later and four bytes later
later : (x b : ℕ) → (x % 4294967296 * 256 + b) % 4294967296 ≡ (x * 256 + b) % 4294967296
later x b = omega arith

fades : (x t : ℕ) → (x * 4294967296 + t) % 4294967296 ≡ t % 4294967296
fades x t = omega arith

four : (v a b c d : ℕ) → push_seen (push_seen (push_seen (push_seen v a) b) c) d % 4294967296 ≡ (((a * 256 + b) * 256 + c) * 256 + d) % 4294967296
unfolding push_seen
four v a b c d =
    later _ d
    ∙ once ((v % 4294967296 * 256 + a) % 4294967296 * 256 + b) c d
    ∙ twice (v % 4294967296 * 256 + a) b c d
    ∙ thrice v a b c d
  where
    once : (x c d : ℕ) → ((x % 4294967296 * 256 + c) * 256 + d) % 4294967296 ≡ ((x * 256 + c) * 256 + d) % 4294967296
    once x c d = omega arith

    twice : (x b c d : ℕ) → (((x % 4294967296 * 256 + b) * 256 + c) * 256 + d) % 4294967296 ≡ (((x * 256 + b) * 256 + c) * 256 + d) % 4294967296
    twice x b c d = omega arith

    thrice : (v a b c d : ℕ) → ((((v % 4294967296 * 256 + a) * 256 + b) * 256 + c) * 256 + d) % 4294967296 ≡ (((a * 256 + b) * 256 + c) * 256 + d) % 4294967296
    thrice v a b c d = omega arith

-- five bytes later nothing is left
five : (v w a b c d e : ℕ)
    → push_seen (push_seen (push_seen (push_seen (push_seen v a) b) c) d) e ≡ push_seen (push_seen (push_seen (push_seen (push_seen w a) b) c) d) e
unfolding push_seen
five v w a b c d e = ap (λ n. n * 256 + e) (four v a b c d ∙ sym (four w a b c d))

pub forgets : (v w : ℕ) (bytes : List ℕ) → 5 ≤ length bytes → seen_after v bytes ≡ seen_after w bytes
unfolding seen_after
forgets v w [] l = absurd (omega arith)
forgets v w (a ∷ []) l = absurd (omega arith)
forgets v w (a ∷ b ∷ []) l = absurd (omega arith)
forgets v w (a ∷ b ∷ c ∷ []) l = absurd (omega arith)
forgets v w (a ∷ b ∷ c ∷ d ∷ []) l = absurd (omega arith)
forgets v w (a ∷ b ∷ c ∷ d ∷ e ∷ bytes) l = ap (λ n. seen_after n bytes) (five v w a b c d e)

pub seen_append : (v : ℕ) (xs ys : List ℕ) → seen_after v (xs ++ ys) ≡ seen_after (seen_after v xs) ys
unfolding seen_after
seen_append v [] ys = refl
seen_append v (x ∷ xs) ys = seen_append (push_seen v x) xs ys

pub count_append : (n : ℕ) (xs ys : List ℕ) → count_after n (xs ++ ys) ≡ count_after (count_after n xs) ys
unfolding count_after
count_append n [] ys = refl
count_append n (x ∷ xs) ys = count_append (push_count n) xs ys

-- what stands before the last five leaves no trace
pub last_five : (v : ℕ) (bytes : List ℕ) (k : ℕ) → k ≡ length bytes - 5 → seen_after v (drop k bytes) ≡ seen_after v bytes
last_five v bytes k e =
    by_test (ltb 5 (length bytes))
    (λ t. sym
    (ap (seen_after v) (sym (take-append-drop k bytes))
    ∙ seen_append v (take k bytes) (drop k bytes)
    ∙ forgets (seen_after v (take k bytes)) v (drop k bytes) (omega (arith, length-drop k bytes, ltb-true 5 (length bytes) t))))
    (λ t. ap (λ n. seen_after v (drop n bytes)) (zero_is k (omega (arith, ltb-false 5 (length bytes) t))))
  where
    zero_is : (n : ℕ) → n ≤ 0 → n ≡ 0
    zero_is n l = omega arith

-- the count of bytes seen grows up to five, and stays there
most : (n : ℕ) → push_count n ≤ 5
unfolding push_count
most n = by_test (ltb n 5) (λ t. rw t (omega (arith, ltb-true n 5 t))) (λ t. rw t (omega arith))

least : (n k : ℕ) → k ≤ n → k < 5 → suc k ≤ push_count n
unfolding push_count
least n k l h = by_test (ltb n 5) (λ t. rw t (omega arith)) (λ t. rw t (omega arith))

pub count_stays_5 : (bytes : List ℕ) (n : ℕ) → n ≡ 5 → count_after n bytes ≡ 5
unfolding count_after
count_stays_5 [] n e = e
count_stays_5 (b ∷ bytes) n e = count_stays_5 bytes (push_count n) (omega (arith, most n, least n 4 (omega arith) (omega arith)))

pub count_five : (n : ℕ) (bytes : List ℕ) → 5 ≤ length bytes → count_after n bytes ≡ 5
unfolding count_after
count_five n [] l = absurd (omega arith)
count_five n (a ∷ []) l = absurd (omega arith)
count_five n (a ∷ b ∷ []) l = absurd (omega arith)
count_five n (a ∷ b ∷ c ∷ []) l = absurd (omega arith)
count_five n (a ∷ b ∷ c ∷ d ∷ []) l = absurd (omega arith)
count_five n (a ∷ b ∷ c ∷ d ∷ e ∷ bytes) l =
    let m1 = push_count n in
    let m2 = push_count m1 in
    let m3 = push_count m2 in
    let m4 = push_count m3 in
    let l1 = least n 0 (omega arith) (omega arith) in
    let l2 = least m1 1 (omega (arith, l1)) (omega arith) in
    let l3 = least m2 2 (omega (arith, l2)) (omega arith) in
    let l4 = least m3 3 (omega (arith, l3)) (omega arith) in
    let l5 = least m4 4 (omega (arith, l4)) (omega arith) in
    count_stays_5 bytes (push_count m4) (omega (arith, l5, most m4))

-- one byte more of a stretch in the check byte
pub check_on : (bytes : List ℕ) (i x : ℕ) → i < length bytes → (x ⊕ xor_all (take i bytes)) ⊕ get_or bytes i 0 ≡ x ⊕ xor_all (take (i + 1) bytes)
unfolding ◌⊕◌
check_on bytes i x h =
    xor_assoc x (xor_all (take i bytes)) (get_or bytes i 0)
    ∙ ap (bit_xor x) (sym (xor_snoc (take i bytes) (get_or bytes i 0)) ∙ ap xor_all (longer bytes i h))
