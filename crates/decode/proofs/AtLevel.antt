-- Meshes at a level: those at or above it, less those at or above the next. Assumes nothing.
use mathlib.Core.Path.{◌≡◌, refl, sym, ap, ◌∙◌}
use mathlib.Core.Bool.{Bool, true, false, cond, not}
use mathlib.Core.List.{List}
use Prim.Native.Nat.{ℕ, zero, suc, ◌+◌, ◌-◌, ◌/◌, ◌%◌, ◌≤◌, ◌<◌}
use native.Mathlib.Nat.{add-zero}
use native.Mathlib.Omega.{arith}
use lib.Dec.{eqb, leb, ltb}
use Rattle.std.proofs.lemmas.Bool.Decides.{nat_tests}
use lib.ListN.{length, get_or-eq_default}
use borrow.Author.Tests.{leb-true, ltb-true, ltb-false, le-leb}
use Rattle.general_laws.specs.Bytes.{◌!◌}
use Rattle.text.specs.DataBlock.{odd_level, even_level, is_intensity_byte}
use Rattle.general_laws.proofs.Tests.{by_test, and_split, every_at}
use Rattle.service_levels.specs.Meshes.{ServiceAnswer, value, refused, level_of, count_to, meshes, is_grid, has_no_level_15, is_level, meshes_from}
use Rattle.decode.specs.Count.{count_at, meshes_at}

-- a level is at or above another if it is that one, or at or above the next
next : (level x : ℕ) → cond (leb level x) 1 0 ≡ cond (eqb x level) 1 0 + cond (leb (level + 1) x) 1 0
next level x = grind (arith, nat_tests)

pub split : (grid : List ℕ) (level n : ℕ) → count_to grid level n ≡ count_at grid level n + count_to grid (level + 1) n
unfolding count_to count_at
split grid level zero = refl
split grid level (suc n) = omega (arith, split grid level n, next level (level_of grid (suc n)))

-- no mesh of a grid that is read is above level 14
module _ (grid : List ℕ) (read : has_no_level_15 grid ≡ true) where
  byte : (i : ℕ) → (odd_level (grid ! i) ≤ 14) × (even_level (grid ! i) ≤ 14)
  unfolding is_intensity_byte odd_level even_level
  byte i =
      by_test (ltb i (length grid)) (λ l.
      let (p, q) = and_split (leb (grid ! i / 16) 14) _ (every_at is_intensity_byte grid read i (ltb-true i (length grid) l)) in
      (leb-true _ 14 p, leb-true _ 14 q))
      (λ l. rw (get_or-eq_default grid 0 (ltb-false i (length grid) l)) (omega arith, omega arith))

  low : (mesh : ℕ) → level_of grid mesh ≤ 14
  unfolding level_of
  low mesh = by_test (eqb (mesh % 2) 1) (λ e. rw e (byte ((mesh - 1) / 2)).0) (λ e. rw e (byte ((mesh - 1) / 2)).1)

  none : (n : ℕ) → count_to grid 15 n ≡ 0
  unfolding count_to
  none zero = refl
  none (suc n) = let below = low (suc n) in grind (arith, nat_tests, none n)

  pub last : (n : ℕ) → count_to grid 14 n ≡ count_at grid 14 n
  last n = split grid 14 n ∙ ap (λ k. count_at grid 14 n + k) (none n) ∙ add-zero _

-- refusals by three tests, and a value
abbrev pick : Bool → Bool → Bool → ℕ → ServiceAnswer
pick g r l n = cond (not g) (refused 42) (cond (not r) (refused 43) (cond (not l) (refused 41) (value n)))

never : {A : Type 0} (n m : ℕ) → value n ≡ refused m → A
never n m h = let z : ◌≡◌ {A = ℕ} 0 1 = cc in absurd (omega arith)

pick_same : (g r l : Bool) (v w : ℕ) → (r ≡ true → l ≡ true → v ≡ w) → pick g r l v ≡ pick g r l w
pick_same false r l v w h = refl
pick_same true false l v w h = refl
pick_same true true false v w h = refl
pick_same true true true v w h = ap value (h refl refl)

pick_refused : (g r l : Bool) (v w row : ℕ) → pick g r l v ≡ refused row → pick g r l w ≡ refused row
pick_refused false r l v w row h = h
pick_refused true false l v w row h = h
pick_refused true true false v w row h = h
pick_refused true true true v w row h = never v row h

pick_value : (g r l : Bool) (v w n : ℕ) → pick g r l v ≡ value n → (v ≡ n) × (pick g r l w ≡ value w)
pick_value false r l v w n h = never n 42 (sym h)
pick_value true false l v w n h = never n 43 (sym h)
pick_value true true false v w n h = never n 41 (sym h)
pick_value true true true v w n h = (cc, refl)

-- the count at a level, from that at or above it and that at or above the next
module _ (grid : List ℕ) (level : ℕ) where
  pub at_top : 14 ≤ level → meshes_from grid level ≡ meshes_at grid level
  unfolding meshes_from meshes_at
  at_top h =
      pick_same (is_grid grid) (has_no_level_15 grid) (is_level level) _ _
      (λ r l. let e : level ≡ 14 = omega (arith, leb-true level 14 l) in rw e (last grid r meshes))

  pub refused_here : (row : ℕ) → refused row ≡ meshes_from grid level → refused row ≡ meshes_at grid level
  unfolding meshes_from meshes_at
  refused_here row h = sym (pick_refused (is_grid grid) (has_no_level_15 grid) (is_level level) _ _ row (sym h))

  pub refused_next : (row : ℕ) → level < 14 → refused row ≡ meshes_from grid (level + 1) → refused row ≡ meshes_at grid level
  unfolding meshes_from meshes_at
  refused_next row l h =
      rw (le-leb level 14 (omega arith))
      (sym (pick_refused (is_grid grid) (has_no_level_15 grid) true _ _ row (sym (rw (le-leb (level + 1) 14 (omega arith)) at h))))

  pub less : (n m : ℕ) → value n ≡ meshes_from grid level → value m ≡ meshes_from grid (level + 1) → value (n - m) ≡ meshes_at grid level
  unfolding meshes_from meshes_at
  less n m h k =
      let here = pick_value (is_grid grid) (has_no_level_15 grid) (is_level level) _ (count_at grid level meshes) n (sym h) in
      let above = pick_value (is_grid grid) (has_no_level_15 grid) (is_level (level + 1)) _ 0 m (sym k) in
      let rest : n - m ≡ count_at grid level meshes = omega (arith, here.0, above.0, split grid level meshes) in
      ap value rest ∙ sym here.1
