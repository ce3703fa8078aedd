-- Every byte is answered with one of 01's numbers, and the reply that tells it has the number's case. Assumes nothing.
use mathlib.Core.Path.{◌≡◌, refl, sym, subst}
use mathlib.Core.Logic.{⊎_elim}
use mathlib.Core.Bool.{Bool, true, false, not, ◌&&◌, ◌||◌}
use mathlib.Core.List.{List}
use Prim.Native.Nat.{ℕ, suc}
use native.Mathlib.Omega.{arith}
use lib.Dec.{eqb, leb, ltb}
use borrow.Author.Tests.{eqb-true, eqb-false, leb-true}
use Rattle.text.specs.Text.{EOR, TPAD}
use Rattle.text.specs.Pictures.{is_picture_code}
use Rattle.text.specs.Kinds.{is_kind, is_start_kind, is_end_kind, kind_of, block_length}
use Rattle.general_laws.proofs.Tests.{by_if, and_split, or_split}
use Rattle.receiver_spec.specs.Seen.{push, ends_opening, due_byte}
use Rattle.receiver_spec.specs.Marks.{is_marked}
use Rattle.receiver_spec.specs.State.{State}
use Rattle.receiver_spec.specs.Contents.{takes_byte}
use Rattle.receiver_spec.specs.Receiver.{Step, opened, gap_byte, picture_byte, kind_byte, block_byte, eor_byte, checked_byte, mode_is_highest, last_byte, placed_byte, step}
use Rattle.receiver_spec.specs.Calls.{Reply, part_complete, part_dropped, number, answered}
use Rattle.receiver_spec.specs.Demand3.{IsAnswer, says_nothing, says_begun, says_taken, says_complete, says_dropped, says_unmarked}

-- 01's numbers: 0 to 3, and the rows 11 to 22 and 51
abbrev is_number : ℕ → Bool
is_number n = leb n 3 || (leb 11 n && leb n 22 || eqb n 51)

drop_number : (n : ℕ) → is_number n ≡ true → eqb n 0 ≡ false → eqb n 1 ≡ false → eqb n 2 ≡ false → eqb n 3 ≡ false → IsAnswer (part_dropped n)
drop_number n h a b c d =
    ⊎_elim (λ l. absurd (omega (arith, leb-true n 3 l, eqb-false n 0 a, eqb-false n 1 b, eqb-false n 2 c, eqb-false n 3 d)))
    (λ r. ⊎_elim (λ r. let (low, high) = and_split (leb 11 n) (leb n 22) r in says_dropped n (leb-true 11 n low) (leb-true n 22 high))
    (λ e. subst (λ m. IsAnswer (part_dropped m)) (sym (eqb-true n 51 e)) says_unmarked) (or_split (leb 11 n && leb n 22) (eqb n 51) r))
    (or_split (leb n 3) (leb 11 n && leb n 22 || eqb n 51) h)

-- the reply that tells such a number has its case
answered_known : (part n : ℕ) → is_number n ≡ true → IsAnswer (answered part n)
unfolding answered
answered_known part n h =
    by_if IsAnswer (eqb n 0) (λ _. says_nothing)
    (λ a. by_if IsAnswer (eqb n 1) (λ _. says_begun)
    (λ b. by_if IsAnswer (eqb n 2) (λ _. says_taken)
    (λ c. by_if IsAnswer (eqb n 3) (λ _. says_complete _) (λ d. drop_number n h a b c d))))

-- every byte's answer is such a number
module _ (s : State) (g w : List ℕ) (b : ℕ) where
  abbrev Known : Step → Type 0
  Known o = is_number o.answer ≡ true

  opened_known : Known (opened s g w)
  unfolding opened
  opened_known = by_if Known (eqb s.place 0) (λ _. refl) (λ _. refl)

  gap_known : Known (gap_byte s g w b)
  unfolding gap_byte
  gap_known =
      by_if Known (eqb s.part 0) (λ _. refl)
      (λ _. by_if Known (eqb b (due_byte s.seen)) (λ _. refl) (λ _. refl))

  picture_known : Known (picture_byte s g w b)
  unfolding picture_byte
  picture_known = by_if Known (not (is_picture_code b)) (λ _. refl) (λ _. by_if Known (not (is_marked s.marks b)) (λ _. refl) (λ _. refl))

  kind_known : Known (kind_byte s g w b)
  unfolding kind_byte
  kind_known =
      by_if Known (not (is_kind b)) (λ _. refl)
      (λ _. by_if Known (is_start_kind b) (λ _. by_if Known (eqb s.part 0) (λ _. refl) (λ _. refl))
      (λ _. by_if Known (eqb s.part 0) (λ _. refl)
      (λ _. by_if Known (not (eqb b (kind_of s.part s.due))) (λ _. refl)
      (λ _. by_if Known (eqb s.picture s.header.picture) (λ _. refl) (λ _. refl)))))

  block_known : Known (block_byte s g w b)
  unfolding block_byte
  block_known = by_if Known (takes_byte s.kind s.header s.digits s.place b) (λ _. refl) (λ _. refl)

  eor_known : Known (eor_byte s g w b)
  unfolding eor_byte
  eor_known = by_if Known (eqb b EOR) (λ _. refl) (λ _. refl)

  check_known : Known (checked_byte s g w b)
  unfolding checked_byte
  check_known = by_if Known (eqb b s.check) (λ _. refl) (λ _. refl)

  last_known : Known (last_byte s g w b)
  unfolding last_byte
  last_known =
      by_if Known (not (eqb b TPAD)) (λ _. refl)
      (λ _. by_if Known (is_start_kind s.kind) (λ _. refl)
      (λ _. by_if Known (is_end_kind s.kind)
      (λ _. by_if Known (mode_is_highest s.header s.modes) (λ _. refl) (λ _. refl))
      (λ _. refl)))

  placed_known : Known (placed_byte s g w b)
  unfolding placed_byte
  placed_known =
      by_if Known (eqb s.place 0) (λ _. gap_known)
      (λ _. by_if Known (eqb s.place 1) (λ _. picture_known)
      (λ _. by_if Known (eqb s.place 2) (λ _. kind_known)
      (λ _. by_if Known (ltb s.place (block_length s.kind)) (λ _. block_known)
      (λ _. by_if Known (eqb s.place (block_length s.kind)) (λ _. eor_known)
      (λ _. by_if Known (eqb s.place (suc (block_length s.kind))) (λ _. check_known) (λ _. last_known))))))

step_known : (s : State) (g : List ℕ) (b : ℕ) → is_number (step s g b).answer ≡ true
unfolding step
step_known s g b =
    by_if (λ (o : Step). is_number o.answer ≡ true) (ends_opening s.seen b) (λ _. opened_known s g (push s.seen b) b)
    (λ _. placed_known s g (push s.seen b) b)

pub step_told : (part : ℕ) (s : State) (g : List ℕ) (b : ℕ) → IsAnswer (answered part (step s g b).answer)
step_told part s g b = answered_known part (step s g b).answer (step_known s g b)

-- an answer 3 is complete, and tells a part
pub three_complete : {r : Reply} → IsAnswer r → number r ≡ 3 → (p : ℕ) × (r ≡ part_complete p)
three_complete says_nothing e = absurd (omega (arith, e))
three_complete says_begun e = absurd (omega (arith, e))
three_complete says_taken e = absurd (omega (arith, e))
three_complete (says_complete p) e = (p, refl)
three_complete (says_dropped row l m) e = absurd (omega (arith, e, l))
three_complete says_unmarked e = absurd (omega (arith, e))
