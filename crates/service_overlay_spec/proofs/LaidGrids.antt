-- A list of grids laid over one another from the right: it is mesh by mesh the highest, and the same for all lists that have the same
-- grids, all-zero ones aside. Assumes nothing.
use mathlib.Core.Path.{◌≡◌, refl, sym, ap, ◌∙◌}
use mathlib.Core.Logic.{◌⊎◌, ⊎_elim}
use mathlib.Core.Bool.{true}
use mathlib.Core.List.Memᴰ
use mathlib.Core.List.{List, [], ◌∷◌, ◌++◌}
use Prim.Native.Nat.{ℕ, zero, suc, ◌-◌, ◌/◌, ◌%◌, ◌≤◌, max}
use native.Mathlib.Omega.{arith}
use lib.Dec.{eqb}
use lib.ListN.{length, replicate, get_or-replicate}
use borrow.Author.Tests.{eqb-true, eq-eqb}
use Rattle.general_laws.specs.Bytes.{every}
use Rattle.text.specs.DataBlock.{odd_level, even_level, is_intensity_byte}
use Rattle.text.specs.Part.{grid_length, zeros}
use Rattle.text_laws.proofs.Parts.{zeros_long}
use Rattle.general_laws.proofs.Tests.{by_if, and_split, and_join}
use Rattle.service_levels.specs.Meshes.{level_of, is_grid, has_no_level_15}
use Rattle.service_overlay_spec.specs.Overlay.{higher}
use Rattle.service_overlay_spec.specs.Order.{is_grid_without_level15, zero_grid, ◌∈◌, AllWithoutLevel15, highest_level, HighestOf, SameGrids}
use Rattle.service_overlay_spec.proofs.HigherLaws.{order, grouping, itself, over_zeros, zeros_over, without_15, length_higher, mesh_higher}

-- ---- such grids

fits_length : (grid : List ℕ) → is_grid_without_level15 grid ≡ true → length grid ≡ grid_length
fits_length grid h = eqb-true (length grid) grid_length (and_split (is_grid grid) (has_no_level_15 grid) h).0

zeros_without_15 : (n : ℕ) → every is_intensity_byte (replicate n 0) ≡ true
unfolding every is_intensity_byte odd_level even_level
zeros_without_15 zero = refl
zeros_without_15 (suc n) = zeros_without_15 n

pub zero_fits : is_grid_without_level15 zero_grid ≡ true
unfolding zeros
zero_fits = and_join (eq-eqb (length zero_grid) grid_length (zeros_long grid_length)) (zeros_without_15 grid_length)

pub higher_fits : (a b : List ℕ) → is_grid_without_level15 a ≡ true → is_grid_without_level15 b ≡ true → is_grid_without_level15 (higher a b) ≡ true
higher_fits a b p q =
    let long : length (higher a b) ≡ grid_length = length_higher a b (fits_length a p ∙ sym (fits_length b q)) ∙ fits_length a p in
    and_join (eq-eqb (length (higher a b)) grid_length long)
    (without_15 a b (and_split (is_grid a) (has_no_level_15 a) p).1 (and_split (is_grid b) (has_no_level_15 b) q).1)

pub over_zero : (a : List ℕ) → is_grid_without_level15 a ≡ true → higher a zero_grid ≡ a
unfolding zeros
over_zero a h = over_zeros a grid_length (fits_length a h)

zero_over : (a : List ℕ) → is_grid_without_level15 a ≡ true → higher zero_grid a ≡ a
unfolding zeros
zero_over a h = zeros_over a grid_length (fits_length a h)

-- ---- lists of them

unfoldable pub laid_over : List (List ℕ) → List ℕ
laid_over [] = zero_grid
laid_over (grid ∷ grids) = higher grid (laid_over grids)

rest_fit : {grid : List ℕ} {grids : List (List ℕ)} → AllWithoutLevel15 (grid ∷ grids) → AllWithoutLevel15 grids
rest_fit fit other m = fit other (Memᴰ.tail m)

laid_fits : (grids : List (List ℕ)) → AllWithoutLevel15 grids → is_grid_without_level15 (laid_over grids) ≡ true
unfolding laid_over
laid_fits [] fit = zero_fits
laid_fits (grid ∷ grids) fit = higher_fits grid (laid_over grids) (fit grid (Memᴰ.head refl)) (laid_fits grids (rest_fit fit))

-- one list behind the other
pub laid_append : (grids others : List (List ℕ)) → AllWithoutLevel15 others → laid_over (grids ++ others) ≡ higher (laid_over grids) (laid_over others)
unfolding laid_over
laid_append [] others fit = sym (zero_over (laid_over others) (laid_fits others fit))
laid_append (grid ∷ grids) others fit =
    ap (higher grid) (laid_append grids others fit) ∙ sym (grouping grid (laid_over grids) (laid_over others))

-- mesh by mesh the highest
no_echo_lem : (mesh : ℕ) → 1 ≤ mesh → mesh ≤ 40000 → level_of zero_grid mesh ≡ 0
unfolding level_of zeros odd_level even_level
no_echo_lem mesh l m = rw (get_or-replicate {A = ℕ} grid_length ((mesh - 1) / 2) 0 0 (omega arith)) (by_if (λ n. n ≡ 0) (eqb (mesh % 2) 1) (λ _. refl) (λ _. refl))

pub laid_highest : (grids : List (List ℕ)) → AllWithoutLevel15 grids → HighestOf grids (laid_over grids)
unfolding laid_over highest_level
laid_highest [] fit mesh l m = no_echo_lem mesh l m
laid_highest (grid ∷ grids) fit mesh l m =
    mesh_higher grid (laid_over grids) mesh (fits_length grid (fit grid (Memᴰ.head refl))) (fits_length (laid_over grids) (laid_fits grids (rest_fit fit))) l m
    ∙ ap (max (level_of grid mesh)) (laid_highest grids (rest_fit fit) mesh l m)

-- ---- the same grids

-- a grid that is among them changes nothing
once_more : {grid : List ℕ} {grids : List (List ℕ)} → grid ∈ grids → higher grid (laid_over grids) ≡ laid_over grids
unfolding laid_over
once_more {grid} (Memᴰ.head {x} {xs} e) =
    ap (λ g. higher g (higher x (laid_over xs))) e ∙ sym (grouping x x (laid_over xs)) ∙ ap (λ g. higher g (laid_over xs)) (itself x)
once_more {grid} (Memᴰ.tail {x} {xs} m) =
    sym (grouping grid x (laid_over xs)) ∙ ap (λ g. higher g (laid_over xs)) (order grid x) ∙ grouping x grid (laid_over xs) ∙ ap (higher x) (once_more m)

-- so a list whose grids are all among others, or all zero, adds nothing to them
covered : (grids others : List (List ℕ)) → AllWithoutLevel15 others → ((grid : List ℕ) → grid ∈ grids → (grid ∈ others) ⊎ (grid ≡ zero_grid))
    → higher (laid_over grids) (laid_over others) ≡ laid_over others
unfolding laid_over
covered [] others fit in-others = zero_over (laid_over others) (laid_fits others fit)
covered (grid ∷ grids) others fit in-others =
    grouping grid (laid_over grids) (laid_over others)
    ∙ ap (higher grid) (covered grids others fit (λ g m. in-others g (Memᴰ.tail m)))
    ∙ ⊎_elim (λ m. once_more m) (λ e. ap (λ g. higher g (laid_over others)) e ∙ zero_over (laid_over others) (laid_fits others fit))
    (in-others grid (Memᴰ.head refl))

pub same_laid : (grids others : List (List ℕ)) → AllWithoutLevel15 grids → AllWithoutLevel15 others → SameGrids grids others → laid_over grids ≡ laid_over others
same_laid grids others fit other-fit s =
    sym (covered others grids fit s.back) ∙ order (laid_over others) (laid_over grids) ∙ covered grids others other-fit s.there
