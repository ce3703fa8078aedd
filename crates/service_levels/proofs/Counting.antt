-- Counts of meshes byte by byte and stretch by stretch, the search for level 15, and the tests of a mesh number. Assumes nothing.
use mathlib.Core.Path.{◌≡◌, refl, sym, ap, ◌∙◌}
use mathlib.Core.Bool.{Bool, true, false, not, ◌&&◌, ◌||◌}
use mathlib.Core.List.{List, [], ◌∷◌}
use Prim.Native.Nat.{ℕ, zero, suc, ◌+◌, ◌*◌, ◌-◌, ◌/◌, ◌%◌, ◌≤◌, ◌<◌, max}
use native.Mathlib.Nat.{add-zero, zero-mul, suc-mul, mul_comm, mul-le-mul_right}
use native.Mathlib.Numerals.{add-one}
use native.Mathlib.Omega.{arith}
use lib.Dec.{eqb, leb, ltb}
use lib.ListN.{length, get_or, take, drop, length-drop}
use lib.Seq.{get_or-take, get_or-drop, length-take-le, drop-drop}
use Rattle.std.specs.Simd.{first_chunks}
use mir.Val.{bool_byte}
use borrow.Author.Tests.{leb-true, leb-false, eq-eqb, ne_eqb, eqb-true, le-leb, lt-leb, not-false}
use Rattle.general_laws.specs.Bytes.{◌!◌, every}
use Rattle.text.specs.DataBlock.{odd_level, even_level, is_intensity_byte}
use Rattle.general_laws.proofs.Tests.{by_test, and_split, every_at, out_of, bool_byte_lem, bool_byte_less}
use Rattle.service_levels.specs.Meshes.{level_of, count_to}

-- two meshes a byte
module _ (grid : List ℕ) (i : ℕ) where
  pub odd : level_of grid (suc (2 * i)) ≡ odd_level (grid ! i)
  unfolding level_of
  odd =
      let r : suc (2 * i) % 2 ≡ 1 = omega arith in
      let q : (suc (2 * i) - 1) / 2 ≡ i = omega arith in
      rw (eq-eqb (suc (2 * i) % 2) 1 r, q)

  pub even : level_of grid (suc (suc (2 * i))) ≡ even_level (grid ! i)
  unfolding level_of
  even =
      let q : (suc (suc (2 * i)) - 1) / 2 ≡ i = omega arith in
      rw (ne_eqb (suc (suc (2 * i)) % 2) 1 (λ e. omega arith), q)

  -- a byte's two meshes are added to those before it
  pub byte_on : (level next : ℕ) → next ≡ i + 1 → count_to grid level (2 * i) + count_to (grid ! i ∷ []) level 2 ≡ count_to grid level (2 * next)
  unfolding count_to level_of
  byte_on level next e =
      let n : 2 * next ≡ suc (suc (2 * i)) = omega arith in
      rw (n, odd, even) (omega arith)

-- a byte's two meshes, by its halves
pub split_byte : (b level : ℕ) → bool_byte (leb level (odd_level b)) + bool_byte (leb level (even_level b)) ≡ count_to (b ∷ []) level 2
unfolding count_to level_of
split_byte b level = rw (bool_byte_lem (leb level (odd_level b)), bool_byte_lem (leb level (even_level b))) (omega arith)

-- two tests of which each holds where the other does
alike : (a b c d : ℕ) → (a ≤ b → c ≤ d) → (b < a → d < c) → leb a b ≡ leb c d
alike a b c d holds fails =
    by_test (leb a b) (λ p. p ∙ sym (le-leb c d (holds (leb-true a b p)))) (λ p. p ∙ sym (lt-leb c d (fails (leb-false a b p))))

-- the code has 16 times the odd level, and compares it with 16 times the level asked for
pub by_16 : (n m : ℕ) → leb (16 * n) (16 * m) ≡ leb n m
by_16 n m = alike (16 * n) (16 * m) n m (λ h. omega arith) (λ h. omega arith)

-- a dry byte: none of its meshes is above level 0
dry_byte : (level : ℕ) → 1 ≤ level → count_to (0 ∷ []) level 2 ≡ 0
unfolding odd_level even_level
dry_byte level h = sym (split_byte 0 level) ∙ ap (λ t. bool_byte t + bool_byte t) (lt-leb level 0 h)

no_meshes : (grid : List ℕ) (level : ℕ) → count_to grid level 0 ≡ 0
unfolding count_to
no_meshes grid level = refl

-- bytes that stand in a grid from byte i on count there as they do by themselves
in_place : (grid bytes : List ℕ) (level i m : ℕ) → ((j : ℕ) → j < m → bytes ! j ≡ grid ! (i + j))
    → count_to grid level (2 * i) + count_to bytes level (2 * m) ≡ count_to grid level (2 * (i + m))
in_place grid bytes level i zero same = rw (add-zero i, no_meshes bytes level) (add-zero _)
in_place grid bytes level i (suc m) same =
    let here : count_to bytes level (2 * m) + count_to (bytes ! m ∷ []) level 2 ≡ count_to bytes level (2 * suc m) = byte_on bytes m level (suc m) (omega arith) in
    let there : count_to grid level (2 * (i + m)) + count_to (bytes ! m ∷ []) level 2 ≡ count_to grid level (2 * (i + suc m)) =
    ap (λ b. count_to grid level (2 * (i + m)) + count_to (b ∷ []) level 2) (same m (omega arith)) ∙ byte_on grid (i + m) level (i + suc m) (omega arith) in
    let before = in_place grid bytes level i m (λ j l. same j (omega arith)) in
    omega (arith, here, there, before)

-- a grid in m stretches of n bytes
pub length_chunks : (n m : ℕ) (grid : List ℕ) → length (first_chunks n m grid) ≡ m
length_chunks n zero grid = refl
length_chunks n (suc m) grid = ap suc (length_chunks n m (drop n grid))

-- stretch k begins at byte k × n
stretch_at : (n m k : ℕ) (grid none : List ℕ) → k < m → get_or (first_chunks n m grid) k none ≡ take n (drop (k * n) grid)
stretch_at n zero k grid none l = absurd (omega arith)
stretch_at n (suc m) zero grid none l = rw zero-mul refl
stretch_at n (suc m) (suc k) grid none l = stretch_at n m k (drop n grid) none (omega arith) ∙ ap (take n) (drop-drop (k * n) n grid) ∙ ap (λ i. take n (drop i grid)) (omega (arith, suc-mul k n))

-- the meshes of stretch k are added to those before it
pub stretch_on : (n m k : ℕ) (grid none : List ℕ) (level : ℕ) → k < m → m * n ≤ length grid
    → let stretch = get_or (first_chunks n m grid) k none in
    count_to grid level (2 * (n * k)) + count_to stretch level (2 * length stretch) ≡ count_to grid level (2 * (n * (k + 1)))
stretch_on n m k grid none level l fits =
    let room : k * n + n ≤ length grid = omega (arith, suc-mul k n, mul-le-mul_right n l) in
    let long : length (take n (drop (k * n) grid)) ≡ n = length-take-le n (drop (k * n) grid) (omega (arith, length-drop (k * n) grid)) in
    let at : n * k ≡ k * n = mul_comm n k in
    let next : n * (k + 1) ≡ k * n + n = omega (arith, mul_comm n (k + 1), suc-mul k n, ap (λ i. i * n) (add-one k)) in
    rw (stretch_at n m k grid none l, long, at, next)
    (in_place grid (take n (drop (k * n) grid)) level (k * n) n (λ j h. get_or-take n (drop (k * n) grid) j 0 h ∙ get_or-drop (k * n) grid j 0))

-- dry bytes: none of their meshes is above level 0
module _ (bytes : List ℕ) (dry : every (λ b. eqb b 0) bytes ≡ true) (level : ℕ) (above : 1 ≤ level) where
  dry_front : (m : ℕ) → m ≤ length bytes → count_to bytes level (2 * m) ≡ 0
  dry_front zero h = no_meshes bytes level
  dry_front (suc m) h =
      let zero_byte : bytes ! m ≡ 0 = eqb-true (bytes ! m) 0 (every_at (λ b. eqb b 0) bytes dry m (omega arith)) in
      let here : count_to (bytes ! m ∷ []) level 2 ≡ 0 = ap (λ b. count_to (b ∷ []) level 2) zero_byte ∙ dry_byte level above in
      omega (arith, here, dry_front m (omega arith), byte_on bytes m level (suc m) (omega arith))

  pub dry_bytes : count_to bytes level (2 * length bytes) ≡ 0
  dry_bytes = dry_front (length bytes) (omega arith)

-- at level 0 every mesh counts
pub all_at_0 : (grid : List ℕ) (n : ℕ) → count_to grid 0 n ≡ n
unfolding count_to
all_at_0 grid zero = refl
all_at_0 grid (suc n) = rw (le-leb 0 (level_of grid (suc n)) (omega arith)) (omega (arith, all_at_0 grid n))

pub count_most : (grid : List ℕ) (level n : ℕ) → count_to grid level n ≤ n
unfolding count_to
count_most grid level zero = omega arith
count_most grid level (suc n) = rw (← bool_byte_lem, bool_byte_less) (omega (arith, count_most grid level n))

-- The search for level 15: the higher of two numbers is within a limit where both are; so the highest byte so far, and the highest even
-- level, tell whether each byte's levels are at most 14
max_within : (a b limit : ℕ) → leb (max a b) limit ≡ (leb a limit && leb b limit)
max_within a b limit =
    by_test (leb a limit)
    (λ p. by_test (leb b limit) (λ q. rw (p, q) (le-leb (max a b) limit (omega (arith, leb-true a limit p, leb-true b limit q))))
    (λ q. rw (p, q) (lt-leb (max a b) limit (omega (arith, leb-false b limit q)))))
    (λ p. rw p (lt-leb (max a b) limit (omega (arith, leb-false a limit p))))

two_and_two : (a b c d : Bool) → (a && b) && (c && d) ≡ (a && c) && (b && d)
two_and_two false b c d = refl
two_and_two true false false d = refl
two_and_two true false true d = refl
two_and_two true true c d = refl

odd_within : (b : ℕ) → leb b 0xEF ≡ leb (odd_level b) 14
unfolding odd_level
odd_within b = alike b 0xEF (b / 16) 14 (λ h. omega arith) (λ h. omega arith)

pub levels_on : (highest highest-even b : ℕ)
    → leb (max highest b) 0xEF && leb (max highest-even (even_level b)) 14 ≡ (leb highest 0xEF && leb highest-even 14) && is_intensity_byte b
unfolding is_intensity_byte
levels_on highest highest-even b =
    rw (max_within highest b 0xEF, max_within highest-even (even_level b) 14, odd_within b)
    (two_and_two (leb highest 0xEF) (leb (odd_level b) 14) (leb highest-even 14) (leb (even_level b) 14))

-- a mesh number, by the tests of the code
pub no_mesh : (m : ℕ) → not (leb 1 m && leb m 40000) ≡ (eqb m 0 || ltb 40000 m)
no_mesh = out_of 40000

pub mesh_in : (m : ℕ) → (eqb m 0 || ltb 40000 m) ≡ false → (1 ≤ m) × (m ≤ 40000)
mesh_in m h =
    let (p, q) = and_split (leb 1 m) (leb m 40000) (not-false (leb 1 m && leb m 40000) (no_mesh m ∙ h)) in
    (leb-true 1 m p, leb-true m 40000 q)
