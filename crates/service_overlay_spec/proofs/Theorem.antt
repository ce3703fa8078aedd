-- The order of overlaying (Request 110), of every tree of overlay calls, and its cases of two and three grids. Assumes nothing.
use mathlib.Core.Path.{◌≡◌, refl, sym, ap, ap₂, ◌∙◌, subst}
use mathlib.Core.Logic.{◌≢◌, ◌⊎◌, inl, inr, ⊎_elim, ∥∥₁_elim}
use mathlib.Core.Bool.{true, false, cond, ◌&&◌, Bool-set, and-false}
use mathlib.Core.List.Memᴰ
use mathlib.Core.List.Perm
use mathlib.Core.List.Permᴰ
use mathlib.Core.List.{List, [], ◌∷◌, ◌++◌, map, append-nil, append_assoc, Permᴰ, Perm}
use Prim.Native.Nat.{ℕ}
use native.Mathlib.Omega.{arith}
use Rattle.general_laws.specs.Bytes.{same}
use Rattle.general_laws.proofs.Tests.{by_test, by_if, and_join, same_eq, same_refl}
use Rattle.service_levels.specs.Meshes.{level_of, is_grid, has_no_level_15, done}
use Rattle.service_overlay_spec.specs.Overlay.{OverlayOutcome, overlaid}
use Rattle.service_overlay_spec.specs.Order.{is_grid_without_level15, zero_grid, ◌∈◌, AllWithoutLevel15, AllRightLength, highest_level, OverlayCall, outcome, TakenAndWithoutLevel15, RefusedWith, CallTree, arrived, laid, grid_left, calls_of, grids_of, thirds_of, SameGrids, OrderOfOverlaying, Arrival, in_order_of_arrival, grids_arrived, thirds_lent, OrderOfArrival, Reads, lengths_right, SomeAndEachCall, RefusedCalls, OverlayLaws, OverlayClaim}
use Rattle.service_overlay_spec.proofs.LaidGrids.{laid_over, laid_highest, same_laid, zero_fits}
use Rattle.service_overlay_spec.proofs.CallTrees.{call_42, read_42, read_43, none, one, grids_joined, thirds_joined, own_called, left_laid, all_taken, some_reads, some_into, calls_length}

-- ---- any order

-- a permutation has the same grids
moved : {grid : List ℕ} {grids others : List (List ℕ)} → Permᴰ grids others → grid ∈ grids → grid ∈ others
moved Permᴰ.nil m = m
moved (Permᴰ.cons e d) m = ⊎_elim (λ h. Memᴰ.head (h ∙ e)) (λ l. Memᴰ.tail (moved d l)) (Memᴰ.cases_cons m)
moved (Permᴰ.swap p q) m =
    ⊎_elim (λ h. Memᴰ.tail (Memᴰ.head (h ∙ p)))
    (λ l. ⊎_elim (λ h. Memᴰ.head (h ∙ q)) (λ k. Memᴰ.tail (Memᴰ.tail k)) (Memᴰ.cases_cons l))
    (Memᴰ.cases_cons m)
moved (Permᴰ.trans d e) m = moved e (moved d m)

permuted : {grids others : List (List ℕ)} → Permᴰ grids others → SameGrids grids others
permuted d = record { there = λ grid m. inl (moved d m); back = λ grid m. inl (moved (Permᴰ.symm d) m) }

-- the grids of the one can be laid where those of the other can
same_fit : {grids others : List (List ℕ)} → SameGrids grids others → AllWithoutLevel15 grids → AllWithoutLevel15 others
same_fit s fit grid m = ⊎_elim (λ l. fit grid l) (λ e. ap is_grid_without_level15 e ∙ zero_fits) (s.back grid m)

order_of_overlaying : (t : CallTree) → AllWithoutLevel15 (grids_of t) → AllRightLength (thirds_of t) → OrderOfOverlaying t
order_of_overlaying t fit thirds =
    record {
      taken = all_taken t fit thirds;
      without_level15 = left.1;
      highest = λ mesh l m. ap (λ g. level_of g mesh) left.0 ∙ laid_highest (grids_of t) fit mesh l m;
      any_order = λ u thirds-u p. same_eq (grid_left t) (grid_left u) (∥∥₁_elim p (Bool-set (same (grid_left t) (grid_left u)) true) (λ d. equal_same (same_left u thirds-u (permuted d))));
      same_grids = same_left;
    }
  where
    left : (grid_left t ≡ laid_over (grids_of t)) × (is_grid_without_level15 (grid_left t) ≡ true)
    left = left_laid t fit thirds

    same_left : (u : CallTree) → AllRightLength (thirds_of u) → SameGrids (grids_of t) (grids_of u) → grid_left t ≡ grid_left u
    same_left u thirds-u s =
        let fit-u = same_fit s fit in
        left.0 ∙ same_laid (grids_of t) (grids_of u) fit fit-u s ∙ sym (left_laid u fit-u thirds-u).0

    equal_same : {a b : List ℕ} → a ≡ b → same a b ≡ true
    equal_same {a} {b} e = rw e (same_refl b)

-- ---- in the order of arrival

grids_in_order : (t : CallTree) (later : List Arrival) → grids_of (in_order_of_arrival t later) ≡ grids_of t ++ map (λ next. next.grid) later
unfolding in_order_of_arrival grids_of
grids_in_order t [] = sym (append-nil (grids_of t))
grids_in_order t (next ∷ later) = grids_in_order (laid t (arrived next.grid) next.third) later ∙ append_assoc (grids_of t) (next.grid ∷ []) (map (λ next. next.grid) later)

thirds_in_order : (t : CallTree) (later : List Arrival) → thirds_of (in_order_of_arrival t later) ≡ thirds_of t ++ map (λ next. next.third) later
unfolding in_order_of_arrival thirds_of
thirds_in_order t [] = sym (append-nil (thirds_of t))
thirds_in_order t (next ∷ later) = thirds_in_order (laid t (arrived next.grid) next.third) later ∙ append_assoc (thirds_of t) (next.third ∷ []) (map (λ next. next.third) later)

-- a tree over these grids and third grids
module _ (first : List ℕ) (later : List Arrival) where
  grids_arrived_lem : grids_of (in_order_of_arrival (arrived first) later) ≡ grids_arrived first later
  unfolding grids_of
  grids_arrived_lem = grids_in_order (arrived first) later

  thirds_lent_lem : thirds_of (in_order_of_arrival (arrived first) later) ≡ thirds_lent later
  unfolding thirds_of
  thirds_lent_lem = thirds_in_order (arrived first) later

order_of_arrival : (first : List ℕ) (later : List Arrival) → OrderOfArrival first later
order_of_arrival first later =
    record {
      grids = grids_arrived_lem first later;
      thirds = thirds_lent_lem first later;
      highest = λ fit thirds mesh l m. (order fit thirds).highest mesh l m ∙ ap (λ grids. highest_level grids mesh) (grids_arrived_lem first later);
      any_order = λ fit thirds other others thirds-u p.
          (order fit thirds).any_order (in_order_of_arrival (arrived other) others) (subst AllRightLength (sym (thirds_lent_lem other others)) thirds-u)
          (rw (grids_arrived_lem first later, grids_arrived_lem other others) p);
    }
  where
    order : AllWithoutLevel15 (grids_arrived first later) → AllRightLength (thirds_lent later) → OrderOfOverlaying (in_order_of_arrival (arrived first) later)
    order fit thirds =
        order_of_overlaying (in_order_of_arrival (arrived first) later) (subst AllWithoutLevel15 (sym (grids_arrived_lem first later)) fit) (subst AllRightLength (sym (thirds_lent_lem first later)) thirds)

-- ---- grids that cannot be laid

-- a level 15: this call's own lengths say which number
read_level_15 : (c : OverlayCall) (grid : List ℕ) → Reads grid c → has_no_level_15 grid ≡ false → RefusedWith (cond (lengths_right c) 43 42) c
read_level_15 c grid r h =
    by_if (λ n. RefusedWith n c) (lengths_right c) (λ long. read_43 c grid r h long) (λ short. call_42 c.first c.second c.third short)

-- a refused call is not done
not_done : (t : CallTree) {Which : OverlayCall → Type 0} (number : OverlayCall → ℕ) → ((c : OverlayCall) → c ∈ calls_of t → (outcome c).answer ≡ done)
    → SomeAndEachCall t Which (λ c. RefusedWith (number c) c) → ⊥
not_done t number all ((c, l, s), each) = let z : ◌≡◌ {A = ℕ} 0 1 = cc (all c l, ap (λ o. o.answer) (each c l s)) in omega arith

refused_calls : (t u : CallTree) (third : List ℕ) → RefusedCalls (laid t u third)
refused_calls t u third =
    record {
      wrong_length = wrong_length_lem;
      level15 = level_15;
      only43 = λ long thirds grid m h. (some_reads t u third grid m, λ c l r. read_43 c grid r h (calls_length tree long thirds c l));
      wrong_third = wrong_third_lem;
      exactly = (λ all. (grids all, thirds all), λ (fit, thirds) c m. (all_taken tree fit thirds c m).0);
    }
  where
    tree : CallTree
    tree = laid t u third

    wrong_length_lem : (grid : List ℕ) → grid ∈ grids_of tree → is_grid grid ≡ false → SomeAndEachCall tree (Reads grid) (RefusedWith 42)
    wrong_length_lem grid m h = (some_reads t u third grid m, λ c l r. read_42 c grid r h)

    level_15 : (grid : List ℕ) → grid ∈ grids_of tree → has_no_level_15 grid ≡ false → SomeAndEachCall tree (Reads grid) (λ c. RefusedWith (cond (lengths_right c) 43 42) c)
    level_15 grid m h = (some_reads t u third grid m, λ c l r. read_level_15 c grid r h)

    wrong_third_lem : (x : List ℕ) → x ∈ thirds_of tree → is_grid x ≡ false → SomeAndEachCall tree (λ c. c.third ≡ x) (RefusedWith 42)
    wrong_third_lem x m h = (some_into tree x m, λ c l e. call_42 c.first c.second c.third (rw (ap is_grid e ∙ h) (and-false (is_grid c.first && is_grid c.second))))

    grids : ((c : OverlayCall) → c ∈ calls_of tree → (outcome c).answer ≡ done) → AllWithoutLevel15 (grids_of tree)
    grids all grid m =
        and_join (by_test (is_grid grid) (λ p. p) (λ p. absurd (not_done tree (λ c. 42) all (wrong_length_lem grid m p))))
        (by_test (has_no_level_15 grid) (λ p. p) (λ p. absurd (not_done tree (λ c. cond (lengths_right c) 43 42) all (level_15 grid m p))))

    thirds : ((c : OverlayCall) → c ∈ calls_of tree → (outcome c).answer ≡ done) → AllRightLength (thirds_of tree)
    thirds all x m = by_test (is_grid x) (λ p. p) (λ p. absurd (not_done tree (λ c. 42) all (wrong_third_lem x m p)))

refused : (t : CallTree) → calls_of t ≢ [] → RefusedCalls t
unfolding calls_of
refused (arrived grid) some = absurd (some refl)
refused (laid t u third) some = refused_calls t u third

-- ---- two and three grids: cases of the theorem

-- places in a list
first : {a : List ℕ} {grids : List (List ℕ)} → a ∈ (a ∷ grids)
first = Memᴰ.head refl

second : {a b : List ℕ} {grids : List (List ℕ)} → b ∈ (a ∷ b ∷ grids)
second = Memᴰ.tail first

third : {a b c : List ℕ} {grids : List (List ℕ)} → c ∈ (a ∷ b ∷ c ∷ grids)
third = Memᴰ.tail second

-- a tree that can be laid, and how it is put together
abbrev Fit : CallTree → Type 0
Fit t = AllWithoutLevel15 (grids_of t) × AllRightLength (thirds_of t)

leaf : (grid : List ℕ) → is_grid_without_level15 grid ≡ true → Fit (arrived grid)
unfolding grids_of thirds_of
leaf grid h = (one (λ g. is_grid_without_level15 g ≡ true) grid h, none _)

joined : (t u : CallTree) (third : List ℕ) → Fit t → Fit u → is_grid third ≡ true → Fit (laid t u third)
joined t u third (gt, tt') (gu, tu) h = (grids_joined t u third _ gt gu, thirds_joined t u third (λ g. is_grid g ≡ true) tt' tu h)

own_taken : (t u : CallTree) (third : List ℕ) → Fit (laid t u third) → TakenAndWithoutLevel15 (overlaid (grid_left t) (grid_left u) third)
own_taken t u third (fit, thirds) = (order_of_overlaying (laid t u third) fit thirds).taken _ (own_called t u third)

-- two calls that are taken, and leave the same
same_outcome : (o p : OverlayOutcome) → o.answer ≡ done → p.answer ≡ done → o.grid ≡ p.grid → o ≡ p
same_outcome o p d e g = ap₂ (λ answer grid. record { answer = answer; grid = grid }) (d ∙ sym e) g

-- a grid laid over itself, or over the all-zero one, and that grid alone
alone : (a x y : List ℕ) → (x ≡ a) ⊎ (x ≡ zero_grid) → (y ≡ a) ⊎ (y ≡ zero_grid) → a ∈ (x ∷ y ∷ []) → SameGrids (x ∷ y ∷ []) (a ∷ [])
alone a x y p q m =
    record {
      there = λ grid l. ⊎_elim (λ e. place e p) (λ k. place (Memᴰ.eq_of_singleton k) q) (Memᴰ.cases_cons l);
      back = λ grid l. inl (Memᴰ.cast (Memᴰ.eq_of_singleton l) m);
    }
  where
    place : {grid z : List ℕ} → grid ≡ z → (z ≡ a) ⊎ (z ≡ zero_grid) → (grid ∈ (a ∷ [])) ⊎ (grid ≡ zero_grid)
    place e w = ⊎_elim (λ h. inl (Memᴰ.head (e ∙ h))) (λ h. inr (e ∙ h)) w

-- two grids in a call
two : (a b third : List ℕ) → is_grid_without_level15 a ≡ true → is_grid_without_level15 b ≡ true → is_grid third ≡ true → Fit (laid (arrived a) (arrived b) third)
two a b third p q h = joined (arrived a) (arrived b) third (leaf a p) (leaf b q) h

any_order_lem : (t u : CallTree) (x : List ℕ) (v w : CallTree) (y : List ℕ) → Fit (laid t u x) → Fit (laid v w y) → Perm (grids_of (laid t u x)) (grids_of (laid v w y))
    → overlaid (grid_left t) (grid_left u) x ≡ overlaid (grid_left v) (grid_left w) y
unfolding grid_left
any_order_lem t u x v w y f g same =
    same_outcome _ _ (own_taken t u x f).0 (own_taken v w y g).0 ((order_of_overlaying (laid t u x) f.0 f.1).any_order (laid v w y) g.1 same)

is_alone : (a x y third : List ℕ) → is_grid_without_level15 x ≡ true → is_grid_without_level15 y ≡ true → is_grid third ≡ true → SameGrids (x ∷ y ∷ []) (a ∷ [])
    → overlaid x y third ≡ record { answer = done; grid = a }
unfolding grid_left grids_of thirds_of
is_alone a x y third f g h s =
    let fit = two x y third f g h in
    same_outcome _ _ (own_taken (arrived x) (arrived y) third fit).0 refl
    ((order_of_overlaying (laid (arrived x) (arrived y) third) fit.0 fit.1).same_grids (arrived a) (none _) s)

grouped : (a b c w x y z : List ℕ) → AllWithoutLevel15 (a ∷ b ∷ c ∷ []) → AllRightLength (w ∷ x ∷ y ∷ z ∷ [])
    → TakenAndWithoutLevel15 (overlaid a b w) × TakenAndWithoutLevel15 (overlaid (overlaid a b w).grid c x) × TakenAndWithoutLevel15 (overlaid b c y)
    × (overlaid (overlaid a b w).grid c x ≡ overlaid a (overlaid b c y).grid z)
unfolding grid_left grids_of
grouped a b c w x y z fit long =
    let ab = two a b w (fit a first) (fit b second) (long w first) in
    let bc = two b c y (fit b second) (fit c third) (long y third) in
    let ab-c = joined (laid (arrived a) (arrived b) w) (arrived c) x ab (leaf c (fit c third)) (long x second) in
    let a-bc = joined (arrived a) (laid (arrived b) (arrived c) y) z (leaf a (fit a first)) bc (long z (Memᴰ.tail third)) in (
      own_taken (arrived a) (arrived b) w ab,
      own_taken (laid (arrived a) (arrived b) w) (arrived c) x ab-c,
      own_taken (arrived b) (arrived c) y bc,
      any_order_lem (laid (arrived a) (arrived b) w) (arrived c) x (arrived a) (laid (arrived b) (arrived c) y) z ab-c a-bc (Perm.refl (a ∷ b ∷ c ∷ [])),
    )

overlay_laws : OverlayLaws
unfolding grid_left grids_of
overlay_laws =
    record {
      order = λ a b x y fit long.
          let ab = two a b x (fit a first) (fit b second) (long x first) in
          (own_taken (arrived a) (arrived b) x ab, any_order_lem (arrived a) (arrived b) x (arrived b) (arrived a) y ab (two b a y (fit b second) (fit a first) (long y second)) (Perm.swap b a []));
      grouping = grouped;
      itself = λ a third p h. is_alone a a a third p p h (alone a a a (inl refl) (inl refl) first);
      over_zero = λ a third p h. is_alone a a zero_grid third p zero_fits h (alone a a zero_grid (inl refl) (inr refl) first);
      zero_over = λ a third p h. is_alone a zero_grid a third zero_fits p h (alone a zero_grid a (inr refl) (inl refl) second);
    }

-- ---- the claim

pub overlay_claim : OverlayClaim
overlay_claim = record { order = order_of_overlaying; arrival = order_of_arrival; laws = overlay_laws; refusal = refused }
