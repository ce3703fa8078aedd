-- Kinds: the table read both ways, and the lengths that kinds settle. Assumes nothing.
use mathlib.Core.Path.{◌≡◌, refl, sym, ◌∙◌, subst}
use mathlib.Core.Logic.{◌⊎◌, inl, inr}
use mathlib.Core.Bool.{Bool, true, false, not, ◌&&◌, ◌||◌, true≢false}
use mathlib.Core.List.{List, [], ◌∷◌}
use Prim.Native.Nat.{ℕ, zero, suc, ◌≤◌, ◌<◌}
use native.Mathlib.Nat.{le_refl}
use native.Mathlib.Omega.{arith}
use lib.Dec.{eqb, leb, lit≤}
use borrow.Author.Tests.{eqb-true, leb-true, ne_eqb, eqb-false}
use Rattle.text.specs.Kinds.{Kind, kind, kinds, by_code, by_text, is_part_number, part_of, text_number, kind_of, is_kind, is_start_kind, is_data_kind, is_end_kind, data_block_length, block_length, data_texts}
use Rattle.general_laws.proofs.Computed.{same_tests}
use Rattle.general_laws.proofs.Tests.{by_test, by_if, never, and_split}

abbrev every_row : (Kind → Bool) → List Kind → Bool
every_row test [] = true
every_row test (k ∷ ks) = test k && every_row test ks

-- a test that every row passes is passed by the row of a kind
by_code_lem : (test : Kind → Bool) (rows : List Kind) (b : ℕ) → every_row test rows ≡ true → not (eqb (by_code b rows).part 0) ≡ true
    → (test (by_code b rows) ≡ true) × ((by_code b rows).code ≡ b)
by_code_lem test [] b h m = never refl m
by_code_lem test (k ∷ ks) b h m =
    by_test (eqb b k.code)
    (λ e. rw e ((and_split (test k) (every_row test ks) h).0, sym (eqb-true b k.code e)))
    (λ e. rw e (by_code_lem test ks b (and_split (test k) (every_row test ks) h).1 (rw e at m)))

-- and by the row of a part's text, if there is one
by_text_lem : (test : Kind → Bool) (rows : List Kind) (p t : ℕ) → every_row test rows ≡ true
    → (by_text p t rows ≡ kind 0 0 0) ⊎ ((test (by_text p t rows) ≡ true) × ((by_text p t rows).part ≡ p) × ((by_text p t rows).text ≡ t))
by_text_lem test [] p t h = inl refl
by_text_lem test (k ∷ ks) p t h =
    by_test (eqb p k.part && eqb t k.text)
    (λ e. let (x, y) = and_split (eqb p k.part) (eqb t k.text) e in
    rw e (inr ((and_split (test k) (every_row test ks) h).0, sym (eqb-true p k.part x), sym (eqb-true t k.text y))))
    (λ e. rw e (by_text_lem test ks p t (and_split (test k) (every_row test ks) h).1))

-- a kind's part is 1, 2 or 3
pub kind_part : (b : ℕ) → is_kind b ≡ true → is_part_number (part_of b) ≡ true
unfolding is_kind part_of kinds is_part_number
kind_part b h = (by_code_lem (λ k. is_part_number k.part) kinds b refl h).0

-- the kind of a kind's part and text number is that kind
pub kind_back : (b : ℕ) → is_kind b ≡ true → kind_of (part_of b) (text_number b) ≡ b
unfolding is_kind part_of text_number kind_of kinds
kind_back b h =
    let (p, q) = by_code_lem (λ k. eqb (kind_of k.part k.text) k.code) kinds b refl h in
    eqb-true (kind_of (part_of b) (text_number b)) (by_code b kinds).code p ∙ q

-- and the part and text number of a part's text are these
pub text_back : (p t : ℕ) → is_kind (kind_of p t) ≡ true → (part_of (kind_of p t) ≡ p) × (text_number (kind_of p t) ≡ t)
unfolding is_kind part_of text_number kind_of kinds
text_back p t h = go (by_text_lem (λ k. eqb (part_of k.code) k.part && eqb (text_number k.code) k.text) kinds p t refl)
  where
    row : Kind
    row = by_text p t kinds

    go : (row ≡ kind 0 0 0) ⊎ ((eqb (part_of row.code) row.part && eqb (text_number row.code) row.text ≡ true) × (row.part ≡ p) × (row.text ≡ t))
        → (part_of row.code ≡ p) × (text_number row.code ≡ t)
    go (inl e) = never refl (subst (λ (k : Kind). is_kind k.code ≡ true) e h)
    go (inr (r, a, b)) =
        let (x, y) = and_split (eqb (part_of row.code) row.part) (eqb (text_number row.code) row.text) r in
        (eqb-true _ _ x ∙ a, eqb-true _ _ y ∙ b)

pub data_is_kind : (b : ℕ) → is_data_kind b ≡ true → is_kind b ≡ true
unfolding is_data_kind
data_is_kind b h = (and_split (is_kind b) (not (eqb (text_number b) 0 || eqb (text_number b) 11)) h).0

pub start_is_kind : (b : ℕ) → is_start_kind b ≡ true → is_kind b ≡ true
unfolding is_start_kind
start_is_kind b h = (and_split (is_kind b) (eqb (text_number b) 0) h).0

pub end_is_kind : (b : ℕ) → is_end_kind b ≡ true → is_kind b ≡ true
unfolding is_end_kind
end_is_kind b h = (and_split (is_kind b) (eqb (text_number b) 11) h).0

pub data_block_length_lem : (b : ℕ) → is_data_kind b ≡ true → block_length b ≡ data_block_length (part_of b)
unfolding block_length
data_block_length_lem b h = rw h

pub no_kind_0 : is_kind 0 ≡ false
unfolding is_kind part_of kinds
no_kind_0 = refl

-- ---- the three parts

pub by_part : (P : ℕ → Type 0) → P 1 → P 2 → P 3 → (p : ℕ) → is_part_number p ≡ true → P p
unfolding is_part_number
by_part P a b c zero h = absurd (omega (arith, leb-true 1 0 (and_split (leb 1 0) (leb 0 3) h).0))
by_part P a b c (suc zero) h = a
by_part P a b c (suc (suc zero)) h = b
by_part P a b c (suc (suc (suc zero))) h = c
by_part P a b c (suc (suc (suc (suc n)))) h =
    let p = suc (suc (suc (suc n))) in
    absurd (omega (arith, leb-true p 3 (and_split (leb 1 p) (leb p 3) h).1))

pub data_least : (p : ℕ) → is_part_number p ≡ true → 103 ≤ data_block_length p
unfolding data_block_length
data_least = by_part (λ p. 103 ≤ data_block_length p) (lit≤ tt) (lit≤ tt) (lit≤ tt)

-- how many data texts: ten at most, no more with NO ECHO than without, and then none but in quality
pub few_texts : (p : ℕ) (no_echo : Bool) → data_texts p no_echo ≤ 10
unfolding data_texts
few_texts p no_echo =
    by_test (eqb p 3) (λ e. rw e (lit≤ tt))
    (λ e. by_test no_echo (λ f. rw (e, f) (lit≤ tt))
    (λ f. by_test (eqb p 1) (λ g. rw (e, f, g) (lit≤ tt))
    (λ g. by_test (eqb p 2) (λ k. rw (e, f, g, k) (lit≤ tt)) (λ k. rw (e, f, g, k) (lit≤ tt)))))

pub most_texts : (p : ℕ) (no_echo : Bool) → data_texts p no_echo ≤ data_texts p false
unfolding data_texts
most_texts p false = le_refl (data_texts p false)
most_texts p true = by_test (eqb p 3) (λ e. rw e (lit≤ tt)) (λ e. rw e (omega arith))

pub no_texts : (p : ℕ) → eqb p 3 ≡ false → data_texts p true ≡ 0
unfolding data_texts
no_texts p h = rw h

-- ---- what the table settles for arithmetic on places and text numbers

or_right : (a b : Bool) → a ≡ false → (a || b) ≡ true → b ≡ true
or_right true b e t = absurd (true≢false e)
or_right false b e t = t

pub block_most : (k : ℕ) → block_length k ≤ 2003
unfolding block_length data_block_length
block_most k =
    by_if (λ n. n ≤ 2003) (is_data_kind k)
    (λ _. by_if (λ n. n ≤ 2003) (eqb (part_of k) 1) (λ _. lit≤ tt)
    (λ _. by_if (λ n. n ≤ 2003) (eqb (part_of k) 2) (λ _. lit≤ tt)
    (λ _. by_if (λ n. n ≤ 2003) (eqb (part_of k) 3) (λ _. lit≤ tt) (λ _. lit≤ tt))))
    (λ _. by_if (λ n. n ≤ 2003) (is_kind k) (λ _. lit≤ tt) (λ _. lit≤ tt))

-- what a kind has that is neither a start nor an end kind
abbrev data_facts : ℕ → Bool
data_facts k = (leb 1 (text_number k) && leb (text_number k) 10) && (is_data_kind k && leb 103 (block_length k))

table : (k : ℕ) → k < 256 → (is_start_kind k || (is_end_kind k || (eqb (block_length k) 0 || data_facts k))) ≡ true
unfolding block_length data_block_length is_data_kind is_start_kind is_end_kind is_kind part_of text_number kinds
table = same_tests 256 (λ k. is_start_kind k || (is_end_kind k || (eqb (block_length k) 0 || data_facts k))) (λ _. true) tt

module _ (k : ℕ) (h : k < 256) (s : is_start_kind k ≡ false) (e : is_end_kind k ≡ false) (l : 3 < block_length k) where
  facts : (leb 1 (text_number k) && leb (text_number k) 10 ≡ true) × (is_data_kind k && leb 103 (block_length k) ≡ true)
  facts = and_split _ _ (or_right _ _ (ne_eqb (block_length k) 0 (λ z. omega (arith, z, l))) (or_right _ _ e (or_right _ _ s (table k h))))

  -- a data text's number
  pub data_number : (1 ≤ text_number k) × (text_number k ≤ 10)
  data_number = let (one, ten) = and_split _ _ facts.0 in (leb-true _ _ one, leb-true _ _ ten)

  -- a data kind, whose block has 103 bytes or more
  pub data_kind : (is_data_kind k ≡ true) × (103 ≤ block_length k)
  data_kind = let (is, long) = and_split _ _ facts.1 in (is, leb-true _ _ long)

-- ---- kinds of start and end texts, and how long a block is at least

pub start_not_end : (k : ℕ) → is_start_kind k ≡ true → is_end_kind k ≡ false
unfolding is_start_kind is_end_kind
start_not_end k s =
    let (a, b) = and_split (is_kind k) (eqb (text_number k) 0) s in
    rw (a, eqb-true (text_number k) 0 b)

pub end_not_start : (k : ℕ) → is_end_kind k ≡ true → is_start_kind k ≡ false
end_not_start k e = by_test (is_start_kind k) (λ s. never (start_not_end k s) e) (λ s. s)

-- the lengths
pub block_least : (k : ℕ) → is_kind k ≡ true → 32 ≤ block_length k
unfolding block_length data_block_length is_part_number
block_least k h =
    by_if (λ n. 32 ≤ n) (is_data_kind k)
    (λ _. by_if (λ n. 32 ≤ n) (eqb (part_of k) 1) (λ _. lit≤ tt)
    (λ e. by_if (λ n. 32 ≤ n) (eqb (part_of k) 2) (λ _. lit≤ tt)
    (λ f. by_if (λ n. 32 ≤ n) (eqb (part_of k) 3) (λ _. lit≤ tt) (λ g. absurd (none e f g)))))
    (λ _. rw h (lit≤ tt))
  where
    none : eqb (part_of k) 1 ≡ false → eqb (part_of k) 2 ≡ false → eqb (part_of k) 3 ≡ false → ⊥
    none e f g =
        let (a, b) = and_split (leb 1 (part_of k)) (leb (part_of k) 3) (kind_part k h) in
        omega (arith, leb-true 1 (part_of k) a, leb-true (part_of k) 3 b, eqb-false (part_of k) 1 e, eqb-false (part_of k) 2 f, eqb-false (part_of k) 3 g)

pub start_block_length : (k : ℕ) → is_start_kind k ≡ true → block_length k ≡ 32
unfolding block_length is_start_kind is_data_kind
start_block_length k h =
    let (a, b) = and_split (is_kind k) (eqb (text_number k) 0) h in
    rw (a, b)

pub end_block_length : (k : ℕ) → is_end_kind k ≡ true → block_length k ≡ 32
unfolding block_length is_end_kind is_data_kind
end_block_length k h =
    let (a, b) = and_split (is_kind k) (eqb (text_number k) 11) h in
    rw (a, b) (by_test (eqb (text_number k) 0) (λ e. rw e) (λ e. rw e))
