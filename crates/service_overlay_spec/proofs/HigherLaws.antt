-- The higher level, byte by byte, list by list and mesh by mesh: order, grouping, a grid over itself and the all-zero grid (Request
-- 110). Assumes nothing.
use mathlib.Core.Path.{◌≡◌, refl, ap, ap₂}
use mathlib.Core.Bool.{true}
use mathlib.Core.List.{List, [], ◌∷◌}
use Prim.Native.Nat.{ℕ, zero, suc, ◌-◌, ◌/◌, ◌%◌, ◌≤◌, ◌<◌, max}
use native.Mathlib.Omega.{arith}
use lib.Dec.{eqb, leb}
use lib.ListN.{length, replicate}
use borrow.Author.Tests.{leb-true, le-leb}
use Rattle.general_laws.specs.Bytes.{◌!◌, every}
use Rattle.text.specs.DataBlock.{odd_level, even_level, is_intensity_byte}
use Rattle.text.specs.Part.{grid_length}
use Rattle.general_laws.proofs.Tests.{by_test, and_split, and_join}
use Rattle.service_levels.specs.Meshes.{level_of}
use Rattle.service_overlay_spec.specs.Overlay.{higher_byte, higher}

-- ---- a byte, two meshes

byte_order : (x y : ℕ) → higher_byte x y ≡ higher_byte y x
unfolding higher_byte odd_level even_level
byte_order x y = omega arith

byte_itself : (x : ℕ) → higher_byte x x ≡ x
unfolding higher_byte odd_level even_level
byte_itself x = omega arith

byte_over_zero : (x : ℕ) → higher_byte x 0 ≡ x
unfolding higher_byte odd_level even_level
byte_over_zero x = omega arith

byte_zero_over : (x : ℕ) → higher_byte 0 x ≡ x
unfolding higher_byte odd_level even_level
byte_zero_over x = omega arith

odd_higher : (x y : ℕ) → odd_level (higher_byte x y) ≡ max (odd_level x) (odd_level y)
unfolding higher_byte odd_level even_level
odd_higher x y = omega arith

even_higher : (x y : ℕ) → even_level (higher_byte x y) ≡ max (even_level x) (even_level y)
unfolding higher_byte odd_level even_level
even_higher x y = omega arith

-- a byte is settled by its two levels
by_halves : (x y : ℕ) → odd_level x ≡ odd_level y → even_level x ≡ even_level y → x ≡ y
unfolding odd_level even_level
by_halves x y p q = omega arith

byte_grouping : (x y z : ℕ) → higher_byte (higher_byte x y) z ≡ higher_byte x (higher_byte y z)
byte_grouping x y z =
    by_halves (higher_byte (higher_byte x y) z) (higher_byte x (higher_byte y z))
    (omega (arith, odd_higher x y, odd_higher (higher_byte x y) z, odd_higher y z, odd_higher x (higher_byte y z)))
    (omega (arith, even_higher x y, even_higher (higher_byte x y) z, even_higher y z, even_higher x (higher_byte y z)))

byte_without_15 : (x y : ℕ) → is_intensity_byte x ≡ true → is_intensity_byte y ≡ true → is_intensity_byte (higher_byte x y) ≡ true
unfolding is_intensity_byte
byte_without_15 x y p q =
    let (po, pe) = and_split (leb (odd_level x) 14) (leb (even_level x) 14) p in
    let (qo, qe) = and_split (leb (odd_level y) 14) (leb (even_level y) 14) q in
    and_join (le-leb (odd_level (higher_byte x y)) 14 (omega (arith, odd_higher x y, leb-true (odd_level x) 14 po, leb-true (odd_level y) 14 qo)))
    (le-leb (even_level (higher_byte x y)) 14 (omega (arith, even_higher x y, leb-true (even_level x) 14 pe, leb-true (even_level y) 14 qe)))

-- ---- lists of bytes

pub order : (a b : List ℕ) → higher a b ≡ higher b a
unfolding higher
order [] [] = refl
order [] (y ∷ b) = refl
order (x ∷ a) [] = refl
order (x ∷ a) (y ∷ b) = ap₂ ◌∷◌ (byte_order x y) (order a b)

pub grouping : (a b c : List ℕ) → higher (higher a b) c ≡ higher a (higher b c)
unfolding higher
grouping [] b c = refl
grouping (x ∷ a) [] c = refl
grouping (x ∷ a) (y ∷ b) [] = refl
grouping (x ∷ a) (y ∷ b) (z ∷ c) = ap₂ ◌∷◌ (byte_grouping x y z) (grouping a b c)

pub itself : (a : List ℕ) → higher a a ≡ a
unfolding higher
itself [] = refl
itself (x ∷ a) = ap₂ ◌∷◌ (byte_itself x) (itself a)

pub over_zeros : (a : List ℕ) (n : ℕ) → length a ≡ n → higher a (replicate n 0) ≡ a
unfolding higher
over_zeros [] n h = refl
over_zeros (x ∷ a) zero h = absurd (omega arith)
over_zeros (x ∷ a) (suc n) h = ap₂ ◌∷◌ (byte_over_zero x) (over_zeros a n (omega arith))

pub zeros_over : (a : List ℕ) (n : ℕ) → length a ≡ n → higher (replicate n 0) a ≡ a
unfolding higher
zeros_over [] zero h = refl
zeros_over [] (suc n) h = refl
zeros_over (x ∷ a) zero h = absurd (omega arith)
zeros_over (x ∷ a) (suc n) h = ap₂ ◌∷◌ (byte_zero_over x) (zeros_over a n (omega arith))

pub without_15 : (a b : List ℕ) → every is_intensity_byte a ≡ true → every is_intensity_byte b ≡ true → every is_intensity_byte (higher a b) ≡ true
unfolding higher every
without_15 [] b p q = refl
without_15 (x ∷ a) [] p q = refl
without_15 (x ∷ a) (y ∷ b) p q =
    let (px, pa) = and_split (is_intensity_byte x) (every is_intensity_byte a) p in
    let (qy, qb) = and_split (is_intensity_byte y) (every is_intensity_byte b) q in
    and_join (byte_without_15 x y px qy) (without_15 a b pa qb)

-- ---- grids

pub length_higher : (a b : List ℕ) → length a ≡ length b → length (higher a b) ≡ length a
unfolding higher
length_higher [] b h = refl
length_higher (x ∷ a) [] h = absurd (omega arith)
length_higher (x ∷ a) (y ∷ b) h = ap suc (length_higher a b (omega arith))

pub higher_at : (a b : List ℕ) (i : ℕ) → i < length a → i < length b → higher a b ! i ≡ higher_byte (a ! i) (b ! i)
unfolding higher
higher_at [] b i h k = absurd (omega arith)
higher_at (x ∷ a) [] i h k = absurd (omega arith)
higher_at (x ∷ a) (y ∷ b) zero h k = refl
higher_at (x ∷ a) (y ∷ b) (suc i) h k = higher_at a b i (omega arith) (omega arith)

-- 01's overlay, mesh by mesh: the higher of the two levels
pub mesh_higher : (a b : List ℕ) (mesh : ℕ) → length a ≡ grid_length → length b ≡ grid_length → 1 ≤ mesh → mesh ≤ 40000
    → level_of (higher a b) mesh ≡ max (level_of a mesh) (level_of b mesh)
unfolding level_of
mesh_higher a b mesh p q l m =
    by_test (eqb (mesh % 2) 1) (λ e. rw (e, byte) (odd_higher (a ! ((mesh - 1) / 2)) (b ! ((mesh - 1) / 2))))
    (λ e. rw (e, byte) (even_higher (a ! ((mesh - 1) / 2)) (b ! ((mesh - 1) / 2))))
  where
    byte : higher a b ! ((mesh - 1) / 2) ≡ higher_byte (a ! ((mesh - 1) / 2)) (b ! ((mesh - 1) / 2))
    byte = higher_at a b ((mesh - 1) / 2) (omega arith) (omega arith)
