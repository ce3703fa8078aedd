-- Minutes counted from 1 January 2000, 00:00, and those counted from 1 January 0000, 00:00. Assumes nothing.
use Prim.Native.Nat.{ℕ, suc, ◌+◌, ◌-◌, ◌<◌, ◌≤◌}
use mathlib.Core.Path.{◌≡◌, refl, sym, ap, ap₂, ◌∙◌}
use mathlib.Core.Bool.{Bool, true, false, cond, ◌&&◌, and-true}
use native.Mathlib.Omega.{arith}
use borrow.Author.Tests.{ltb-true, ltb-false, lt-ltb, le-ltb}
use lib.Dec.{ltb, leb, leb-suc-suc}
use lib.IntN.{ℤ, pos, negsuc, sub_ℕ, ◌+ℤ◌, nat_abs}
use lib.Signed.{lt_z, le_z}
use Rattle.general_laws.specs.Bytes.{is_in}
use Rattle.text_calendar_spec.specs.Calendar.{is_leap_year, days_in, moment}
use Rattle.text_calendar_spec.specs.Minutes.{together, days_of_year, days_before_year, days_of_months, day_of, minutes_before, epoch, minute_of, is_minute}

-- 1 January 2000, 00:00, computed
pub epoch_is : epoch ≡ 1051898400
unfolding epoch minutes_before day_of days_before_year days_of_months together days_of_year days_in is_leap_year is_in
epoch_is = refl

-- the first and the last minute of the years, computed
pub first_is : minute_of (moment 0 1 1 0 0) ≡ negsuc 1051898399
unfolding minute_of epoch minutes_before day_of days_before_year days_of_months together days_of_year days_in is_leap_year is_in
first_is = refl

pub last_is : minute_of (moment 9999 12 31 23 59) ≡ pos 4207593599
unfolding minute_of epoch minutes_before day_of days_before_year days_of_months together days_of_year days_in is_leap_year is_in
last_is = refl

-- a minute of the years, by its sign
pub minute_by_sign : ℤ → Bool
minute_by_sign (pos n) = ltb n 4207593600
minute_by_sign (negsuc n) = ltb n 1051898400

by_sign : (z : ℤ) → (le_z (negsuc 1051898399) z && le_z z (pos 4207593599)) ≡ minute_by_sign z
unfolding minute_by_sign
by_sign (pos n) = sym (leb-suc-suc n 4207593599)
by_sign (negsuc n) = and-true (leb n 1051898399) ∙ sym (leb-suc-suc n 1051898399)

pub is_by_sign : (z : ℤ) → is_minute z ≡ minute_by_sign z
unfolding is_minute
is_by_sign z = ap₂ (λ (first last : ℤ). le_z first z && le_z z last) first_is last_is ∙ by_sign z

-- as the code tests it
by_bounds : (z : ℤ) → (le_z (negsuc 1051898399) z && lt_z z (pos 4207593600)) ≡ minute_by_sign z
unfolding minute_by_sign
by_bounds (pos n) = refl
by_bounds (negsuc n) = and-true (leb n 1051898399) ∙ sym (leb-suc-suc n 1051898399)

pub is_by_bounds : (z : ℤ) → (le_z (negsuc 1051898399) z && lt_z z (pos 4207593600)) ≡ is_minute z
is_by_bounds z = by_bounds z ∙ sym (is_by_sign z)

-- counted from 1 January 0000, by its sign
pub from_year0 : ℤ → ℕ
from_year0 (pos n) = n + 1051898400
from_year0 (negsuc n) = 1051898399 - n

sum_by : (z : ℤ) → minute_by_sign z ≡ true → z +ℤ pos 1051898400 ≡ pos (from_year0 z)
unfolding minute_by_sign from_year0
sum_by (pos n) h = refl
sum_by (negsuc n) h = let p : n < 1051898400 = ltb-true n 1051898400 h in rw (le-ltb 1051898400 (suc n) p) (ap pos (omega arith))

pub sum_is : (z : ℤ) → is_minute z ≡ true → z +ℤ pos 1051898400 ≡ pos (from_year0 z)
sum_is z h = sum_by z (sym (is_by_sign z) ∙ h)

pub moved_up : (z : ℤ) → is_minute z ≡ true → nat_abs (z +ℤ pos epoch) ≡ from_year0 z
moved_up z h = rw epoch_is (ap nat_abs (sum_is z h))

below_by : (z : ℤ) → minute_by_sign z ≡ true → from_year0 z < 5259492000
unfolding minute_by_sign from_year0
below_by (pos n) h = omega (arith, ltb-true n 4207593600 h)
below_by (negsuc n) h = omega arith

pub below : (z : ℤ) → is_minute z ≡ true → from_year0 z < 5259492000
below z h = below_by z (sym (is_by_sign z) ∙ h)

down_by : (z : ℤ) → minute_by_sign z ≡ true → sub_ℕ (from_year0 z) 1051898400 ≡ z
unfolding minute_by_sign from_year0
down_by (pos n) h = rw (le-ltb (n + 1051898400) 1051898400 (omega arith)) (ap pos (omega arith))
down_by (negsuc n) h =
    let p : n < 1051898400 = ltb-true n 1051898400 h in
    rw (lt-ltb (1051898399 - n) 1051898400 (omega arith)) (ap negsuc (omega arith))

pub down : (z : ℤ) → is_minute z ≡ true → sub_ℕ (from_year0 z) epoch ≡ z
down z h = rw epoch_is (down_by z (sym (is_by_sign z) ∙ h))

up_by : (n : ℕ) (t : Bool) → ltb n 1051898400 ≡ t → from_year0 (cond t (negsuc (1051898400 - suc n)) (pos (n - 1051898400))) ≡ n
unfolding from_year0
up_by n true e = let p : n < 1051898400 = ltb-true n 1051898400 e in omega arith
up_by n false e = let p : 1051898400 ≤ n = ltb-false n 1051898400 e in omega arith

pub up : (n : ℕ) → from_year0 (sub_ℕ n epoch) ≡ n
up n = rw epoch_is (up_by n (ltb n 1051898400) refl)

is_by :
    (n : ℕ) (t : Bool) → ltb n 1051898400 ≡ t → n < 5259492000 →
    minute_by_sign (cond t (negsuc (1051898400 - suc n)) (pos (n - 1051898400))) ≡ true
unfolding minute_by_sign
is_by n true e l = let p : n < 1051898400 = ltb-true n 1051898400 e in lt-ltb (1051898400 - suc n) 1051898400 (omega arith)
is_by n false e l = let p : 1051898400 ≤ n = ltb-false n 1051898400 e in lt-ltb (n - 1051898400) 4207593600 (omega arith)

pub is_minute_lem : (n : ℕ) → n < 5259492000 → is_minute (sub_ℕ n epoch) ≡ true
is_minute_lem n l = is_by_sign (sub_ℕ n epoch) ∙ rw epoch_is (is_by n (ltb n 1051898400) refl l)

-- ---- order

-- two tests that say the same
same_by : (c d x y : ℕ) (v : Bool) → ltb x y ≡ v → (x < y → c < d) → (y ≤ x → d ≤ c) → ltb c d ≡ v
same_by c d x y true r f g = lt-ltb c d (f (ltb-true x y r))
same_by c d x y false r f g = le-ltb c d (g (ltb-false x y r))

pub same_test : (c d x y : ℕ) → (x < y → c < d) → (y ≤ x → d ≤ c) → ltb c d ≡ ltb x y
same_test c d x y f g = same_by c d x y (ltb x y) refl f g

order_by :
    (a b e : ℕ) (t u : Bool) → ltb a e ≡ t → ltb b e ≡ u →
    lt_z (cond t (negsuc (e - suc a)) (pos (a - e))) (cond u (negsuc (e - suc b)) (pos (b - e))) ≡ ltb a b
order_by a b e true true p q =
    let l : a < e = ltb-true a e p in
    let m : b < e = ltb-true b e q in
    same_test (e - suc b) (e - suc a) a b (λ h. omega arith) (λ h. omega arith)
order_by a b e true false p q =
    let l : a < e = ltb-true a e p in
    let m : e ≤ b = ltb-false b e q in
    sym (lt-ltb a b (omega arith))
order_by a b e false true p q =
    let l : e ≤ a = ltb-false a e p in
    let m : b < e = ltb-true b e q in
    sym (le-ltb a b (omega arith))
order_by a b e false false p q =
    let l : e ≤ a = ltb-false a e p in
    let m : e ≤ b = ltb-false b e q in
    same_test (a - e) (b - e) a b (λ h. omega arith) (λ h. omega arith)

-- two counts from 1 January 2000 are in the order of those from 1 January 0000
pub same_order : (a b e : ℕ) → lt_z (sub_ℕ a e) (sub_ℕ b e) ≡ ltb a b
same_order a b e = order_by a b e (ltb a e) (ltb b e) refl refl

-- one more
more_by : (a e : ℕ) (t u : Bool) → ltb (a + 1) e ≡ t → ltb a e ≡ u →
    cond t (negsuc (e - suc (a + 1))) (pos (a + 1 - e)) ≡ cond u (negsuc (e - suc a)) (pos (a - e)) +ℤ pos 1
more_by a e true true p q =
    let l : a + 1 < e = ltb-true (a + 1) e p in
    rw (lt-ltb 1 (suc (e - suc a)) (omega arith)) (ap negsuc (omega arith))
more_by a e true false p q = absurd (omega (arith, ltb-true (a + 1) e p, ltb-false a e q))
more_by a e false true p q =
    let l : a < e = ltb-true a e q in
    let m : e ≤ a + 1 = ltb-false (a + 1) e p in
    rw (le-ltb 1 (suc (e - suc a)) (omega arith)) (ap pos (omega arith))
more_by a e false false p q =
    let l : e ≤ a = ltb-false a e q in
    ap pos (omega arith)

pub one_more : (a e : ℕ) → sub_ℕ (a + 1) e ≡ sub_ℕ a e +ℤ pos 1
one_more a e = more_by a e (ltb (a + 1) e) (ltb a e) refl refl
