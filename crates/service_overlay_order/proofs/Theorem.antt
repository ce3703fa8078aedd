-- The order of overlaying, of the code: for every caller's tree of calls. Assumes nothing.
use mathlib.Core.Path.{◌≡◌, refl, sym, ap, ap₂, ◌∙◌, subst}
use mathlib.Core.Logic.{◌≢◌, ◌⊎◌, inl, inr, ⊎_elim}
use mathlib.Core.Bool.{false, cond}
use mathlib.Core.List.Memᴰ
use mathlib.Core.List.{List, [], ◌∷◌, ◌++◌, map, map-append}
use Prim.Native.Nat.{ℕ}
use native.Mathlib.Nat.{max-zero}
use Rattle.std.specs.Prelude.{Result, Ok, Err}
use Rattle.refusals.specs.declared.refusal.Refusal.{Refusal}
use Rattle.general_laws.proofs.Tests.{by_test}
use Rattle.service_levels.specs.Meshes.{level_of, is_grid, done}
use Rattle.service_overlay_spec.specs.Overlay.{OverlayOutcome, overlaid}
use Rattle.service_overlay_spec.specs.Order.{is_grid_without_level15, ◌∈◌, AllWithoutLevel15, AllRightLength, highest_level, HighestOf, OverlayCall, call_on, outcome, RefusedWith, CallTree, arrived, laid, grid_left, calls_of, grids_of, thirds_of, SameGrids, lengths_right}
use Rattle.service_overlay_spec.proofs.Laws.{overlay_claim}
use Rattle.service_overlay.specs.Returned.{outcome_of}
use Rattle.service_overlay_order.specs.CodeOrder.{Called, as_arrived, as_laid, AllDone, CodeOrder}

-- the grid of an outcome is the third grid at the call's exit
exit_is : (r : Result Unit Refusal) (exit : List ℕ) → (outcome_of r exit).grid ≡ exit
unfolding outcome_of
exit_is (Ok u) exit = refl
exit_is (Err refusal) exit = refl

as_defined : {t : CallTree} {grid : List ℕ} {made : List OverlayOutcome} → Called t grid made → (grid ≡ grid_left t) × (made ≡ map outcome (calls_of t))
unfolding grid_left calls_of
as_defined (as_arrived grid) = (refl, refl)
as_defined (as_laid {t} {u} c d third r exit e) =
    let (p, ms) = as_defined c in
    let (q, ns) = as_defined d in
    let o : outcome_of r exit ≡ overlaid (grid_left t) (grid_left u) third = e ∙ ap₂ (λ a b. overlaid a b third) p q in
    (sym (exit_is r exit) ∙ ap (λ o. o.grid) o, rw (ms, ns, o, map-append) (ap (λ l. map outcome (calls_of t) ++ l) (sym (map-append outcome (calls_of u) _))))

-- what each call of the tree came to is among what was made
made_of : (calls : List OverlayCall) (c : OverlayCall) → c ∈ calls → outcome c ∈ map outcome calls
made_of [] c m = elim m [ ]
made_of (x ∷ calls) c (Memᴰ.head e) = Memᴰ.head (ap outcome e)
made_of (x ∷ calls) c (Memᴰ.tail m) = Memᴰ.tail (made_of calls c m)

-- and each thing made is what some call of the tree came to
of_made : (P : OverlayOutcome → Type 0) (calls : List OverlayCall) → ((c : OverlayCall) → c ∈ calls → P (outcome c)) → (o : OverlayOutcome) → o ∈ map outcome calls → P o
of_made P [] each o m = elim m [ ]
of_made P (x ∷ calls) each o (Memᴰ.head e) = subst P (sym e) (each x (Memᴰ.head refl))
of_made P (x ∷ calls) each o (Memᴰ.tail m) = of_made P calls (λ c l. each c (Memᴰ.tail l)) o m

-- ---- every call was done

abbrev DoneBy : CallTree → Type 0
DoneBy t = (c : OverlayCall) → c ∈ calls_of t → (outcome c).answer ≡ done

told_by : (t : CallTree) {made : List OverlayOutcome} → made ≡ map outcome (calls_of t) → AllDone made → DoneBy t
told_by t e told c m = told (outcome c) (subst (λ os. outcome c ∈ os) (sym e) (made_of (calls_of t) c m))

-- where something was made, the tree has a call
some_calls : (t : CallTree) {made : List OverlayOutcome} → made ≡ map outcome (calls_of t) → made ≢ [] → calls_of t ≢ []
some_calls t e some none = some (e ∙ ap (map outcome) none)

fork_calls : (t u : CallTree) (third : List ℕ) → calls_of (laid t u third) ≢ []
unfolding calls_of
fork_calls t u third e = absurd (Memᴰ.not-nil (subst (λ cs. call_on (grid_left t) (grid_left u) third ∈ cs) e (Memᴰ.append_right (calls_of t) (Memᴰ.append_right (calls_of u) (Memᴰ.head refl)))))

fork_fits : (t u : CallTree) (third : List ℕ) → DoneBy (laid t u third) → AllWithoutLevel15 (grids_of (laid t u third)) × AllRightLength (thirds_of (laid t u third))
fork_fits t u third told = (overlay_claim.refusal (laid t u third) (fork_calls t u third)).exactly.0 told

done_highest : (t : CallTree) → DoneBy t → HighestOf (grids_of t) (grid_left t)
unfolding grids_of grid_left highest_level
done_highest (arrived grid) told mesh l m = sym (max-zero (level_of grid mesh))
done_highest (laid t u third) told mesh l m = let (fit, thirds) = fork_fits t u third told in (overlay_claim.order (laid t u third) fit thirds).highest mesh l m

done_thirds : (t : CallTree) → DoneBy t → AllRightLength (thirds_of t)
unfolding thirds_of
done_thirds (arrived grid) told x m = absurd (Memᴰ.not-nil m)
done_thirds (laid t u third) told x m = (fork_fits t u third told).1 x m

same_leaf : (x y : List ℕ) → SameGrids (x ∷ []) (y ∷ []) → x ≡ y
same_leaf x y s =
    ⊎_elim (λ m. Memᴰ.eq_of_singleton m) (λ e. ⊎_elim (λ m. sym (Memᴰ.eq_of_singleton m)) (λ f. e ∙ sym f) (s.back y (Memᴰ.head refl)))
    (s.there x (Memᴰ.head refl))

done_same : (t u : CallTree) → DoneBy t → DoneBy u → SameGrids (grids_of t) (grids_of u) → grid_left t ≡ grid_left u
unfolding grids_of grid_left
done_same (arrived x) (arrived y) p q s = same_leaf x y s
done_same (arrived x) (laid v w y) p q s =
    let (fit, thirds) = fork_fits v w y q in
    sym ((overlay_claim.order (laid v w y) fit thirds).same_grids (arrived x) (done_thirds (arrived x) p) (record { there = s.back; back = s.there }))
done_same (laid t t' x) u p q s =
    let (fit, thirds) = fork_fits t t' x p in
    (overlay_claim.order (laid t t' x) fit thirds).same_grids u (done_thirds u q) s

-- ---- a grid that cannot be laid

refused_for : (t : CallTree) → calls_of t ≢ [] → (wrong : List ℕ) → wrong ∈ grids_of t → is_grid_without_level15 wrong ≡ false
    → (c : OverlayCall) × (c ∈ calls_of t) × (RefusedWith 42 c ⊎ RefusedWith 43 c)
refused_for t some wrong m h =
    by_test (is_grid wrong)
    (λ p. let ((c, l, r), each) = (overlay_claim.refusal t some).level15 wrong m (rw p at h) in (c, l, by_number c (each c l r)))
    (λ p. let ((c, l, r), each) = (overlay_claim.refusal t some).wrong_length wrong m p in (c, l, inl (each c l r)))
  where
    by_number : (c : OverlayCall) → RefusedWith (cond (lengths_right c) 43 42) c → RefusedWith 42 c ⊎ RefusedWith 43 c
    by_number c e = by_test (lengths_right c) (λ q. inr (rw q at e)) (λ q. inl (rw q at e))

-- ---- the claim

pub code_order_of_overlaying : {t : CallTree} {grid : List ℕ} {made : List OverlayOutcome} → Called t grid made → CodeOrder t grid made
code_order_of_overlaying {t} {grid} {made} c =
    let (left, outcomes) = as_defined c in
    record {
      left = left;
      outcomes = outcomes;
      any_order = λ fit thirds {u} d thirds-u p.
          let order = overlay_claim.order t fit thirds in
          (λ o m. of_made (λ o. o.answer ≡ done) (calls_of t) (λ c l. (order.taken c l).0) o (subst (λ os. o ∈ os) outcomes m), left ∙ order.any_order u thirds-u p ∙ sym (as_defined d).0);
      right_grids = λ some told. (overlay_claim.refusal t (some_calls t outcomes some)).exactly.0 (told_by t outcomes told);
      highest = λ told mesh l m. ap (λ g. level_of g mesh) left ∙ done_highest t (told_by t outcomes told) mesh l m;
      same = λ told {u} d told-u s.
          let (left-u, outcomes-u) = as_defined d in
          left ∙ done_same t u (told_by t outcomes told) (told_by u outcomes-u told-u) s ∙ sym left-u;
      refusal = λ some wrong m h.
          let (d, l, r) = refused_for t (some_calls t outcomes some) wrong m h in
          (d, l, subst (λ os. outcome d ∈ os) (sym outcomes) (made_of (calls_of t) d l), r);
    }
