-- Payload bytes and meshes. Assumes nothing.
use mathlib.Core.Path.{◌≡◌, refl, ap}
use mathlib.Core.List.{List, [], ◌∷◌}
use mathlib.Core.Logic.{◌⊎◌, inl, inr, ⊎_elim}
use mathlib.Core.Bool.{true, ◌&&◌}
use Prim.Native.Nat.{ℕ, ◌+◌, ◌*◌, ◌-◌, ◌/◌, ◌%◌, ◌≤◌, ◌<◌}
use native.Mathlib.Omega.{arith}
use lib.Dec.{eqb, leb}
use borrow.Author.Tests.{eqb-true, eqb-false, leb-true}
use Rattle.general_laws.specs.Bytes.{every}
use Rattle.text.specs.DataBlock.{odd_level, even_level, odd_mesh, even_mesh, is_intensity_byte, is_top_byte, is_quality_byte, is_payload_byte}
use Rattle.general_laws.proofs.Tests.{by_test, never, and_split, or_split}

-- Payload never holds `FD`, `FE` or `FF`: its bytes are below these
pub payload_below : (p b : ℕ) → is_payload_byte p b ≡ true → b < 0xFD
unfolding is_payload_byte is_intensity_byte is_top_byte is_quality_byte odd_level even_level
payload_below p b h =
    by_test (eqb p 1) (λ e. intensity (rw e at h))
    (λ e. by_test (eqb p 2) (λ f. top (rw (e, f) at h))
    (λ f. by_test (eqb p 3) (λ g. quality (rw (e, f, g) at h)) (λ g. never refl (rw (e, f, g) at h))))
  where
    intensity : is_intensity_byte b ≡ true → b < 0xFD
    intensity h = let l = leb-true (odd_level b) 14 (and_split (leb (odd_level b) 14) (leb (even_level b) 14) h).0 in omega arith

    top : is_top_byte b ≡ true → b < 0xFD
    top h = let l = leb-true b 8 h in omega arith

    quality : is_quality_byte b ≡ true → b < 0xFD
    quality h = ⊎_elim (λ l. omega (arith, leb-true b 0x7F l)) (λ e. omega (arith, eqb-true b 0x80 e)) (or_split (leb b 0x7F) (eqb b 0x80) h)

-- Data text k has meshes 4,000 × (k − 1) + 1 to 4,000 × k, two in each of its 2,000 bytes
pub meshes_of_text : (k i : ℕ) → 1 ≤ k → i < 2000
    → (4000 * (k - 1) + 1 ≤ odd_mesh k i) × (odd_mesh k i < even_mesh k i) × (even_mesh k i ≤ 4000 * k)
unfolding odd_mesh even_mesh
meshes_of_text k i h l = (omega arith, omega arith, omega arith)

-- and each mesh is the odd or the even one of one byte
pub text_of_mesh : (m : ℕ) → 1 ≤ m
    → let k = (m - 1) / 4000 + 1 in
    let i = (m - 1) % 4000 / 2 in
    (i < 2000) × ((m ≡ odd_mesh k i) ⊎ (m ≡ even_mesh k i))
unfolding odd_mesh even_mesh
text_of_mesh m h = (
  omega arith,
  by_test (eqb ((m - 1) % 2) 0) (λ e. inl (omega (arith, eqb-true ((m - 1) % 2) 0 e))) (λ e. inr (omega (arith, eqb-false ((m - 1) % 2) 0 e))),
)

-- the byte of the grid in which a mesh stands is the same, counted through all data texts
pub grid_byte : (k i : ℕ) → 1 ≤ k → ((odd_mesh k i - 1) / 2 ≡ 2000 * (k - 1) + i) × ((even_mesh k i - 1) / 2 ≡ 2000 * (k - 1) + i)
unfolding odd_mesh even_mesh
grid_byte k i h = (omega arith, omega arith)

-- the payload bytes of part 1 are those of an intensity grid
pub intensity_is_payload : (grid : List ℕ) → every is_intensity_byte grid ≡ every (is_payload_byte 1) grid
unfolding every is_payload_byte
intensity_is_payload [] = refl
intensity_is_payload (b ∷ grid) = ap (λ t. is_intensity_byte b && t) (intensity_is_payload grid)
