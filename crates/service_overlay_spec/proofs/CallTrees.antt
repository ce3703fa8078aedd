-- Trees of overlay calls: what one leaves where all its grids can be laid, and which calls are refused where one cannot. Assumes nothing.
use mathlib.Core.Path.{◌≡◌, refl, sym, ap, ap₂, ◌∙◌, subst}
use mathlib.Core.Logic.{inl, inr, ⊎_elim}
use mathlib.Core.Bool.{Bool, true, false, not, ◌&&◌, and-false}
use mathlib.Core.List.Memᴰ
use mathlib.Core.List.{List, [], ◌∷◌, ◌++◌}
use Prim.Native.Nat.{ℕ}
use lib.ListN.{length}
use borrow.Author.Tests.{eqb-true, eq-eqb}
use Rattle.text.specs.Part.{grid_length}
use Rattle.general_laws.proofs.Tests.{by_if, and_split, and_join}
use Rattle.service_levels.specs.Meshes.{is_grid, has_no_level_15, done, refused}
use Rattle.service_overlay_spec.specs.Overlay.{OverlayOutcome, overlaid, higher}
use Rattle.service_overlay_spec.specs.Order.{is_grid_without_level15, ◌∈◌, AllWithoutLevel15, AllRightLength, OverlayCall, call_on, outcome, TakenAndWithoutLevel15, RefusedWith, CallTree, arrived, laid, grid_left, calls_of, grids_of, thirds_of, Reads, lengths_right}
use Rattle.service_overlay_spec.proofs.HigherLaws.{length_higher}
use Rattle.service_overlay_spec.proofs.LaidGrids.{higher_fits, over_zero, laid_over, laid_append}

-- ---- one call

module _ (a b third : List ℕ) where
  call_taken : is_grid_without_level15 a ≡ true → is_grid_without_level15 b ≡ true → is_grid third ≡ true
      → overlaid a b third ≡ record { answer = done; grid = higher a b }
  unfolding overlaid
  call_taken p q r =
      let (ga, na) = and_split (is_grid a) (has_no_level_15 a) p in
      let (gb, nb) = and_split (is_grid b) (has_no_level_15 b) q in
      simp (ga, gb, r, na, nb)

  pub call_42 : is_grid a && is_grid b && is_grid third ≡ false → overlaid a b third ≡ record { answer = refused 42; grid = third }
  unfolding overlaid
  call_42 p = simp p

  call_43 : is_grid a && is_grid b && is_grid third ≡ true → has_no_level_15 a && has_no_level_15 b ≡ false → overlaid a b third ≡ record { answer = refused 43; grid = third }
  unfolding overlaid
  call_43 p q = simp (p, q)

  -- taken or refused, it leaves 20,000 bytes where all three have as many
  call_length : is_grid a && is_grid b && is_grid third ≡ true → is_grid (overlaid a b third).grid ≡ true
  unfolding overlaid
  call_length p =
      let (two, r) = and_split (is_grid a && is_grid b) (is_grid third) p in
      let (ga, gb) = and_split (is_grid a) (is_grid b) two in
      let la = eqb-true (length a) grid_length ga in
      let lb = eqb-true (length b) grid_length gb in
      rw p
      (by_if (λ (o : OverlayOutcome). is_grid o.grid ≡ true) (not (has_no_level_15 a && has_no_level_15 b)) (λ _. r)
      (λ _. eq-eqb (length (higher a b)) grid_length (length_higher a b (la ∙ sym lb) ∙ la)))

-- a call that reads a grid which cannot be laid
module _ (c : OverlayCall) (grid : List ℕ) (reads : Reads grid c) where
  pub read_42 : is_grid grid ≡ false → RefusedWith 42 c
  read_42 h =
      call_42 c.first c.second c.third
      (⊎_elim (λ (e : c.first ≡ grid). rw (ap is_grid e ∙ h)) (λ (e : c.second ≡ grid). second_false (is_grid c.first) (is_grid c.second) (is_grid c.third) (ap is_grid e ∙ h)) reads)
    where
      second_false : (x y z : Bool) → y ≡ false → x && y && z ≡ false
      second_false true y z e = rw e
      second_false false y z e = refl

  pub read_43 : has_no_level_15 grid ≡ false → lengths_right c ≡ true → RefusedWith 43 c
  read_43 h long =
      call_43 c.first c.second c.third long
      (⊎_elim (λ (e : c.first ≡ grid). rw (ap has_no_level_15 e ∙ h)) (λ (e : c.second ≡ grid). rw (ap has_no_level_15 e ∙ h) (and-false (has_no_level_15 c.first))) reads)

-- ---- what holds of each grid, third grid or call of a tree

abbrev pub Each : {A : Type 0} → (A → Type 0) → List A → Type 0
Each {A} P xs = (x : A) → x ∈ xs → P x

pub none : {A : Type 0} (P : A → Type 0) → Each P []
none P x m = absurd (Memᴰ.not-nil m)

pub one : {A : Type 0} (P : A → Type 0) (a : A) → P a → Each P (a ∷ [])
one P a p x m = subst P (sym (Memᴰ.eq_of_singleton m)) p

both : {A : Type 0} (P : A → Type 0) (xs ys : List A) → Each P xs → Each P ys → Each P (xs ++ ys)
both P xs ys p q x m = ⊎_elim (λ (l : x ∈ xs). p x l) (λ (l : x ∈ ys). q x l) (Memᴰ.append_cases xs m)

-- of a fork: of both branches, and of the fork itself
module _ (t u : CallTree) (third : List ℕ) where
  grids_split : (P : List ℕ → Type 0) → Each P (grids_of (laid t u third)) → Each P (grids_of t) × Each P (grids_of u)
  unfolding grids_of
  grids_split P all = (λ grid m. all grid (Memᴰ.append_left _ m), λ grid m. all grid (Memᴰ.append_right (grids_of t) m))

  pub grids_joined : (P : List ℕ → Type 0) → Each P (grids_of t) → Each P (grids_of u) → Each P (grids_of (laid t u third))
  unfolding grids_of
  grids_joined P p q = both P (grids_of t) (grids_of u) p q

  thirds_split : AllRightLength (thirds_of (laid t u third)) → AllRightLength (thirds_of t) × AllRightLength (thirds_of u) × (is_grid third ≡ true)
  unfolding thirds_of
  thirds_split all = (
    λ grid m. all grid (Memᴰ.append_left _ m),
    λ grid m. all grid (Memᴰ.append_right (thirds_of t) (Memᴰ.append_left _ m)),
    all third (Memᴰ.append_right (thirds_of t) (Memᴰ.append_right (thirds_of u) (Memᴰ.head refl))),
  )

  pub thirds_joined : (P : List ℕ → Type 0) → Each P (thirds_of t) → Each P (thirds_of u) → P third → Each P (thirds_of (laid t u third))
  unfolding thirds_of
  thirds_joined P p q r = both P (thirds_of t) (thirds_of u ++ (third ∷ [])) p (both P (thirds_of u) (third ∷ []) q (one P third r))

  first_calls : {c : OverlayCall} → c ∈ calls_of t → c ∈ calls_of (laid t u third)
  unfolding calls_of
  first_calls m = Memᴰ.append_left _ m

  second_calls : {c : OverlayCall} → c ∈ calls_of u → c ∈ calls_of (laid t u third)
  unfolding calls_of
  second_calls m = Memᴰ.append_right (calls_of t) (Memᴰ.append_left _ m)

  abbrev pub own_call : OverlayCall
  own_call = call_on (grid_left t) (grid_left u) third

  pub own_called : own_call ∈ calls_of (laid t u third)
  unfolding calls_of
  own_called = Memᴰ.append_right (calls_of t) (Memᴰ.append_right (calls_of u) (Memᴰ.head refl))

  calls_joined : (P : OverlayCall → Type 0) → Each P (calls_of t) → Each P (calls_of u) → P own_call → Each P (calls_of (laid t u third))
  unfolding calls_of
  calls_joined P p q r = both P (calls_of t) (calls_of u ++ (own_call ∷ [])) p (both P (calls_of u) (own_call ∷ []) q (one P own_call r))

-- ---- all grids can be laid

-- the grid that is left is that of the list, laid from the right, and can be laid again
pub left_laid : (t : CallTree) → AllWithoutLevel15 (grids_of t) → AllRightLength (thirds_of t) → (grid_left t ≡ laid_over (grids_of t)) × (is_grid_without_level15 (grid_left t) ≡ true)
unfolding grid_left grids_of laid_over
left_laid (arrived grid) fit thirds =
    let h = fit grid (Memᴰ.head refl) in
    (sym (over_zero grid h), h)
left_laid (laid t u third) fit thirds =
    let (fit-t, fit-u) = grids_split t u third (λ grid. is_grid_without_level15 grid ≡ true) fit in
    let (thirds-t, thirds-u, long) = thirds_split t u third thirds in
    let (p, ft) = left_laid t fit-t thirds-t in
    let (q, fu) = left_laid u fit-u thirds-u in
    let e : (overlaid (grid_left t) (grid_left u) third).grid ≡ higher (grid_left t) (grid_left u) = ap (λ o. o.grid) (call_taken (grid_left t) (grid_left u) third ft fu long) in
    (e ∙ ap₂ higher p q ∙ sym (laid_append (grids_of t) (grids_of u) fit-u), ap is_grid_without_level15 e ∙ higher_fits (grid_left t) (grid_left u) ft fu)

pub all_taken : (t : CallTree) → AllWithoutLevel15 (grids_of t) → AllRightLength (thirds_of t) → Each (λ c. TakenAndWithoutLevel15 (outcome c)) (calls_of t)
unfolding calls_of
all_taken (arrived grid) fit thirds = none (λ c. TakenAndWithoutLevel15 (outcome c))
all_taken (laid t u third) fit thirds =
    let (fit-t, fit-u) = grids_split t u third (λ grid. is_grid_without_level15 grid ≡ true) fit in
    let (thirds-t, thirds-u, long) = thirds_split t u third thirds in
    let ft = (left_laid t fit-t thirds-t).1 in
    let fu = (left_laid u fit-u thirds-u).1 in
    let e = call_taken (grid_left t) (grid_left u) third ft fu long in
    calls_joined t u third (λ c. TakenAndWithoutLevel15 (outcome c)) (all_taken t fit-t thirds-t) (all_taken u fit-u thirds-u)
    (ap (λ o. o.answer) e, ap (λ o. is_grid_without_level15 o.grid) e ∙ higher_fits (grid_left t) (grid_left u) ft fu)

-- ---- a grid that cannot be laid

-- some call reads each grid of a tree, but of a tree that is a leaf
abbrev SomeCall : CallTree → (OverlayCall → Type 0) → Type 0
SomeCall t Which = (c : OverlayCall) × (c ∈ calls_of t) × Which c

abbrev ReadIn : List ℕ → CallTree → Type 0
ReadIn grid (arrived x) = grid ≡ x
ReadIn grid (laid t u third) = SomeCall (laid t u third) (Reads grid)

from_first : (t u : CallTree) (third grid : List ℕ) → ReadIn grid t → SomeCall (laid t u third) (Reads grid)
unfolding grid_left
from_first (arrived x) u third grid e = (own_call (arrived x) u third, own_called (arrived x) u third, inl (sym e))
from_first (laid t t' x) u third grid (c, m, r) = (c, first_calls (laid t t' x) u third m, r)

from_second : (t u : CallTree) (third grid : List ℕ) → ReadIn grid u → SomeCall (laid t u third) (Reads grid)
unfolding grid_left
from_second t (arrived x) third grid e = (own_call t (arrived x) third, own_called t (arrived x) third, inr (sym e))
from_second t (laid u u' x) third grid (c, m, r) = (c, second_calls t (laid u u' x) third m, r)

read_in : (t : CallTree) (grid : List ℕ) → grid ∈ grids_of t → ReadIn grid t
unfolding grids_of
read_in (arrived x) = one (λ grid. grid ≡ x) x refl
read_in (laid t u third) =
    grids_joined t u third (λ grid. SomeCall (laid t u third) (Reads grid)) (λ grid m. from_first t u third grid (read_in t grid m)) (λ grid m. from_second t u third grid (read_in u grid m))

pub some_reads : (t u : CallTree) (third grid : List ℕ) → grid ∈ grids_of (laid t u third) → SomeCall (laid t u third) (Reads grid)
some_reads t u third grid m = read_in (laid t u third) grid m

-- and some call is made into each third grid
pub some_into : (t : CallTree) (x : List ℕ) → x ∈ thirds_of t → SomeCall t (λ c. c.third ≡ x)
unfolding thirds_of
some_into (arrived grid) = none _
some_into (laid t u third) =
    thirds_joined t u third (λ x. SomeCall (laid t u third) (λ c. c.third ≡ x)) (λ x m. let (c, l, e) = some_into t x m in (c, first_calls t u third l, e))
    (λ x m. let (c, l, e) = some_into u x m in (c, second_calls t u third l, e)) (own_call t u third, own_called t u third, refl)

-- where all lengths are right, they are so in every call
left_length : (t : CallTree) → AllRightLength (grids_of t) → AllRightLength (thirds_of t) → is_grid (grid_left t) ≡ true
unfolding grid_left grids_of
left_length (arrived grid) long thirds = long grid (Memᴰ.head refl)
left_length (laid t u third) long thirds =
    let (long-t, long-u) = grids_split t u third (λ grid. is_grid grid ≡ true) long in
    let (thirds-t, thirds-u, h) = thirds_split t u third thirds in
    call_length (grid_left t) (grid_left u) third (and_join (and_join (left_length t long-t thirds-t) (left_length u long-u thirds-u)) h)

pub calls_length : (t : CallTree) → AllRightLength (grids_of t) → AllRightLength (thirds_of t) → Each (λ c. lengths_right c ≡ true) (calls_of t)
unfolding calls_of
calls_length (arrived grid) long thirds = none (λ c. lengths_right c ≡ true)
calls_length (laid t u third) long thirds =
    let (long-t, long-u) = grids_split t u third (λ grid. is_grid grid ≡ true) long in
    let (thirds-t, thirds-u, h) = thirds_split t u third thirds in
    calls_joined t u third (λ c. lengths_right c ≡ true) (calls_length t long-t thirds-t) (calls_length u long-u thirds-u)
    (and_join (and_join (left_length t long-t thirds-t) (left_length u long-u thirds-u)) h)
