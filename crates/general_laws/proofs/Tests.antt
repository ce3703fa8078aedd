-- Tests turned into facts, and facts into tests. Assumes nothing.
use mathlib.Core.Path.{◌≡◌, refl, sym, ap, ◌∙◌}
use mir.Val.{bool_byte}
use mathlib.Core.Logic.{◌⊎◌, inl, inr}
use mathlib.Core.Bool.{Bool, true, false, cond, not, ◌&&◌, ◌||◌, and-true, and_assoc, or-false, or_assoc, true≢false}
use mathlib.Core.List.{List, [], ◌∷◌, ◌++◌}
use Prim.Native.Nat.{ℕ, zero, suc, ◌<◌, ◌-◌}
use native.Mathlib.Omega.{arith}
use lib.Dec.{eqb, leb, ltb}
use lib.ListN.{length, get_or}
use borrow.Author.Tests.{eqb-true, eqb-false, ltb-true, ltb-false, eq-eqb, le-leb, lt-leb}
use Rattle.general_laws.specs.Bytes.{◌!◌, is_in, every, all_of, same}

-- a test has two outcomes
pub by_test : {P : Type 0} (t : Bool) → (t ≡ true → P) → (t ≡ false → P) → P
by_test true f g = f refl
by_test false f g = g refl

-- a choice by a test: each outcome by itself
pub by_if : {A : Type 0} (P : A → Type 0) (c : Bool) {x y : A} → (c ≡ true → P x) → (c ≡ false → P y) → P (cond c x y)
by_if P true f g = f refl
by_if P false f g = g refl

-- x is y when read by f. A record, so that two tables of tests are compared test by test, and f is written out only where a test's
-- answer stands
pub record ReadAs {A B : Type 0} (f : A → B) (x : A) (y : B) : Type 0 where
  pub same : f x ≡ y

pub reads : {A B : Type 0} {f : A → B} {x : A} → ReadAs f x (f x)
reads = record { same = refl }

pub both_read :
    {A B : Type 0} {f : A → B} (c : Bool) {x y : A} {x' y' : B}
    → ReadAs f x x' → ReadAs f y y' → ReadAs f (cond c x y) (cond c x' y')
both_read true p q = p
both_read false p q = q

pub never : {P : Type 0} {t : Bool} → t ≡ false → t ≡ true → P
never f h = absurd (true≢false (sym h ∙ f))

pub and_split : (a b : Bool) → a && b ≡ true → (a ≡ true) × (b ≡ true)
and_split true b h = (refl, h)
and_split false b h = never refl h

pub and_join : {a b : Bool} → a ≡ true → b ≡ true → a && b ≡ true
and_join {a} {b} p q = rw (p, q)

pub or_split : (a b : Bool) → a || b ≡ true → (a ≡ true) ⊎ (b ≡ true)
or_split true b h = inl refl
or_split false b h = inr h

pub neither : (a b : Bool) → a || b ≡ false → (a ≡ false) × (b ≡ false)
neither true b h = never h refl
neither false b h = (refl, h)

-- a number that is not from 1 to n
pub out_of : (n m : ℕ) → not (leb 1 m && leb m n) ≡ (eqb m 0 || ltb n m)
out_of n m =
    by_test (eqb m 0) (λ e. rw (e, lt-leb 1 m (omega (arith, eqb-true m 0 e))))
    (λ e. by_test (ltb n m) (λ f. rw (e, f, le-leb 1 m (omega (arith, eqb-false m 0 e)), lt-leb m n (omega (arith, ltb-true n m f))))
    (λ f. rw (e, f, le-leb 1 m (omega (arith, eqb-false m 0 e)), le-leb m n (omega (arith, ltb-false n m f)))))

-- all rules are kept, so each one is
pub rule_at : (rules : List Bool) → all_of rules ≡ true → (i : ℕ) → get_or rules i true ≡ true
unfolding all_of
rule_at [] h i = refl
rule_at (rule ∷ rules) h zero = (and_split rule (all_of rules) h).0
rule_at (rule ∷ rules) h (suc i) = rule_at rules (and_split rule (all_of rules) h).1 i

-- a test that each element passes
pub every_at : (test : ℕ → Bool) (xs : List ℕ) → every test xs ≡ true → (i : ℕ) → i < length xs → test (xs ! i) ≡ true
unfolding every
every_at test [] h i l = absurd (omega arith)
every_at test (x ∷ xs) h zero l = (and_split (test x) (every test xs) h).0
every_at test (x ∷ xs) h (suc i) l = every_at test xs (and_split (test x) (every test xs) h).1 i (omega arith)

pub every_append : (test : ℕ → Bool) (xs ys : List ℕ) → every test xs ≡ true → every test ys ≡ true → every test (xs ++ ys) ≡ true
unfolding every
every_append test [] ys h g = g
every_append test (x ∷ xs) ys h g =
    let (a, b) = and_split (test x) (every test xs) h in
    and_join a (every_append test xs ys b g)

pub every_in : (test : ℕ → Bool) (xs : List ℕ) (b : ℕ) → every test xs ≡ true → is_in b xs ≡ true → test b ≡ true
unfolding every is_in
every_in test [] b h m = never refl m
every_in test (x ∷ xs) b h m = pick (and_split (test x) (every test xs) h) (or_split (eqb b x) (is_in b xs) m) (every_in test xs b)
  where
    pick : (test x ≡ true) × (every test xs ≡ true) → (eqb b x ≡ true) ⊎ (is_in b xs ≡ true) → (every test xs ≡ true → is_in b xs ≡ true → test b ≡ true) → test b ≡ true
    pick (p, q) (inl e) ih = ap test (eqb-true b x e) ∙ p
    pick (p, q) (inr m) ih = ih q m

pub same_eq : (xs ys : List ℕ) → same xs ys ≡ true → xs ≡ ys
unfolding same
same_eq [] [] h = refl
same_eq [] (y ∷ ys) h = never refl h
same_eq (x ∷ xs) [] h = never refl h
same_eq (x ∷ xs) (y ∷ ys) h =
    let (p, q) = and_split (eqb x y) (same xs ys) h in
    rw (eqb-true x y p, same_eq xs ys q)

pub same_refl : (xs : List ℕ) → same xs xs ≡ true
unfolding same
same_refl [] = refl
same_refl (x ∷ xs) = and_join (eq-eqb x x refl) (same_refl xs)

-- rules joined from the left, as code writes `a & b & c`
abbrev pub both : Bool → List Bool → Bool
both a [] = a
both a (rule ∷ rules) = both (a && rule) rules

pub both_all : (a : Bool) (rules : List Bool) → both a rules ≡ (a && all_of rules)
unfolding all_of
both_all a [] = sym (and-true a)
both_all a (rule ∷ rules) = both_all (a && rule) rules ∙ and_assoc a rule (all_of rules)

-- membership joined from the left, as code writes `(b == x) | (b == y) | (b == z)`
abbrev pub either : Bool → ℕ → List ℕ → Bool
either a b [] = a
either a b (x ∷ xs) = either (a || eqb b x) b xs

pub either_in : (a : Bool) (b : ℕ) (xs : List ℕ) → either a b xs ≡ (a || is_in b xs)
unfolding is_in
either_in a b [] = sym (or-false a)
either_in a b (x ∷ xs) = either_in (a || eqb b x) b xs ∙ or_assoc a (eqb b x) (is_in b xs)

-- a test as a number, which is at most 1
pub bool_byte_lem : (t : Bool) → bool_byte t ≡ cond t 1 0
bool_byte_lem true = refl
bool_byte_lem false = refl

pub bool_byte_less : (t : Bool) → bool_byte t ≡ 1 - cond t 0 1
bool_byte_less true = refl
bool_byte_less false = refl
