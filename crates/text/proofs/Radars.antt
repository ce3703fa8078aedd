-- The rule of the radars, read by place. Assumes nothing.
use mathlib.Core.Path.{◌≡◌, refl, sym, ap, ◌∙◌}
use mathlib.Core.Bool.{Bool, true, false, ◌&&◌, and-true, and-false}
use mathlib.Core.List.{List, [], ◌∷◌, map}
use Prim.Native.Nat.{ℕ, zero, suc, ◌-◌}
use native.Mathlib.Omega.{arith}
use lib.Dec.{eqb, leb, ltb, eqb-suc-zero}
use lib.ListN.{length}
use borrow.Author.Tests.{lt-ltb}
use Rattle.general_laws.specs.Bytes.{◌!◌, is_in, every, all_of}
use Rattle.text.specs.StartBlock.{radar_codes, is_radar_code, rising, is_radar_list, follows}
use Rattle.general_laws.proofs.Places.{places, by_place}

-- a byte is `00`, or the test says that it is not
by_zero : {A : Type 0} (r : ℕ) → (r ≡ 0 → A) → (eqb r 0 ≡ false → A) → A
by_zero zero f g = f refl
by_zero (suc r) f g = g (eqb-suc-zero r)

positive : (r : ℕ) → eqb r 0 ≡ false → ltb 0 r ≡ true
positive zero h = sym h
positive (suc r) h = lt-ltb 0 (suc r) (omega arith)

none_is_no_code : is_radar_code 0 ≡ false
unfolding is_radar_code radar_codes is_in
none_is_no_code = refl

-- each byte follows the one before it
abbrev chain : ℕ → List ℕ → Bool
chain before [] = true
chain before (r ∷ rs) = follows before r && chain r rs

-- after `00` only `00` follows
chain_none : (rs : List ℕ) → every (λ b. eqb b 0) rs ≡ chain 0 rs
unfolding follows every
chain_none [] = refl
chain_none (r ∷ rs) = by_zero r (λ e. rw e (chain_none rs)) (λ n. simp (n, and-false))

rising_chain : (before : ℕ) (rs : List ℕ) → eqb before 0 ≡ false → rising before rs ≡ chain before rs
unfolding rising follows
rising_chain before [] h = refl
rising_chain before (r ∷ rs) h =
    by_zero r (λ e. rw e (chain_none rs)) (λ n. simp (n, h, and-true, rising_chain r rs n))

listed : (r : ℕ) (rs : List ℕ) → leb (length (r ∷ rs)) 8 ≡ true → is_radar_list (r ∷ rs) ≡ (is_radar_code r && chain r rs)
unfolding is_radar_list all_of rising
listed r rs h =
    by_zero r (λ e. rw (e, none_is_no_code) (and-false (leb (length (r ∷ rs)) 8)))
    (λ n. simp (h, n, and-true, positive r n, rising_chain r rs n))

-- Eight bytes are a radar list when the first is a radar code and each later one, at places 1 to 7, follows the one before it
pub radars_by_place :
    (rs : List ℕ) → length rs ≡ 8 →
    is_radar_list rs ≡ (is_radar_code (rs ! 0) && every (λ i. follows (rs ! (i - 1)) (rs ! i)) (places 1 7))
unfolding every
radars_by_place rs h = ap is_radar_list (by_place 8 rs h) ∙ listed (rs ! 0) (map (λ i. rs ! i) (places 1 7)) refl
