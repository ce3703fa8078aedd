-- Rows 13 and 51 hold both ways (Request 101): a byte is answered so exactly when the row's condition holds, and is then dropped; and what
-- refusal 2 asks of the marks. Assumes nothing.
use mathlib.Core.Path.{◌≡◌, refl, sym, ap, ◌∙◌}
use mathlib.Core.Logic.{◌↔◌}
use mathlib.Core.Bool.{Bool, true, false, cond, not, ◌&&◌, ◌||◌, and-true, and-false}
use mathlib.Core.List.{List}
use Prim.Native.Nat.{ℕ, suc}
use native.Mathlib.Omega.{arith}
use lib.Dec.{eqb, leb, ltb}
use lib.ListN.{length}
use borrow.Author.Tests.{eqb-true, not-true, not-false}
use Rattle.general_laws.specs.Bytes.{all_of}
use Rattle.text.specs.Text.{EOR, TPAD}
use Rattle.text.specs.Pictures.{is_picture_code}
use Rattle.text.specs.Kinds.{is_kind, is_start_kind, is_end_kind, kind_of, block_length}
use Rattle.general_laws.proofs.Tests.{by_if, never}
use Rattle.receiver_spec.specs.Seen.{push, ends_opening, due_byte}
use Rattle.receiver_spec.specs.Marks.{is_marked, are_marks, no_marks}
use Rattle.receiver_spec.specs.State.{State, is_due, fits_part, kind_unread, kind_read, awaits_time, are_waiting, is_possible}
use Rattle.receiver_spec.specs.Contents.{takes_byte}
use Rattle.receiver_spec.specs.Receiver.{Step, drops, opened, gap_byte, picture_byte, kind_byte, block_byte, eor_byte, checked_byte, mode_is_highest, last_byte, placed_byte, step}

-- the answers of block byte 1 alone
abbrev of_picture : ℕ → Bool
of_picture n = eqb n 13 || eqb n 51

-- no other byte has one of them
module _ (s : State) (g w : List ℕ) (b : ℕ) where
  abbrev Other : Step → Type 0
  Other o = of_picture o.answer ≡ false

  gap_other : Other (gap_byte s g w b)
  unfolding gap_byte
  gap_other = by_if Other (eqb s.part 0) (λ _. refl) (λ _. by_if Other (eqb b (due_byte s.seen)) (λ _. refl) (λ _. refl))

  kind_other : Other (kind_byte s g w b)
  unfolding kind_byte
  kind_other =
      by_if Other (not (is_kind b)) (λ _. refl)
      (λ _. by_if Other (is_start_kind b) (λ _. by_if Other (eqb s.part 0) (λ _. refl) (λ _. refl))
      (λ _. by_if Other (eqb s.part 0) (λ _. refl)
      (λ _. by_if Other (not (eqb b (kind_of s.part s.due))) (λ _. refl)
      (λ _. by_if Other (eqb s.picture s.header.picture) (λ _. refl) (λ _. refl)))))

  last_other : Other (last_byte s g w b)
  unfolding last_byte
  last_other =
      by_if Other (not (eqb b TPAD)) (λ _. refl)
      (λ _. by_if Other (is_start_kind s.kind) (λ _. refl)
      (λ _. by_if Other (is_end_kind s.kind) (λ _. by_if Other (mode_is_highest s.header s.modes) (λ _. refl) (λ _. refl)) (λ _. refl)))

  -- the text's place 1, or another
  data AtPicture (o : Step) : Type 0 where
    here : s.place ≡ 1 → o ≡ picture_byte s g w b → AtPicture o
    elsewhere : of_picture o.answer ≡ false → AtPicture o

  placed_picture : AtPicture (placed_byte s g w b)
  unfolding placed_byte block_byte eor_byte checked_byte
  placed_picture =
      by_if AtPicture (eqb s.place 0) (λ _. elsewhere gap_other)
      (λ _. by_if AtPicture (eqb s.place 1) (λ one. here (eqb-true s.place 1 one) refl)
      (λ _. by_if AtPicture (eqb s.place 2) (λ _. elsewhere kind_other)
      (λ _. by_if AtPicture (ltb s.place (block_length s.kind))
      (λ _. by_if AtPicture (takes_byte s.kind s.header s.digits s.place b) (λ _. elsewhere refl) (λ _. elsewhere refl))
      (λ _. by_if AtPicture (eqb s.place (block_length s.kind)) (λ _. by_if AtPicture (eqb b EOR) (λ _. elsewhere refl) (λ _. elsewhere refl))
      (λ _. by_if AtPicture (eqb s.place (suc (block_length s.kind))) (λ _. by_if AtPicture (eqb b s.check) (λ _. elsewhere refl) (λ _. elsewhere refl))
      (λ _. elsewhere last_other))))))

  -- what block byte 1 is answered
  picture_51 : (picture_byte s g w b).answer ≡ 51 → (is_picture_code b ≡ true) × (is_marked s.marks b ≡ false)
  unfolding picture_byte
  picture_51 =
      by_if (λ (o : Step). o.answer ≡ 51 → (is_picture_code b ≡ true) × (is_marked s.marks b ≡ false)) (not (is_picture_code b)) (λ _ e. absurd (omega arith))
      (λ l. by_if (λ (o : Step). o.answer ≡ 51 → (is_picture_code b ≡ true) × (is_marked s.marks b ≡ false)) (not (is_marked s.marks b))
      (λ m _. (not-false (is_picture_code b) l, not-true (is_marked s.marks b) m)) (λ _ e. absurd (omega arith)))

  picture_13 : (picture_byte s g w b).answer ≡ 13 → is_picture_code b ≡ false
  unfolding picture_byte
  picture_13 =
      by_if (λ (o : Step). o.answer ≡ 13 → is_picture_code b ≡ false) (not (is_picture_code b)) (λ l _. not-true (is_picture_code b) l)
      (λ _. by_if (λ (o : Step). o.answer ≡ 13 → is_picture_code b ≡ false) (not (is_marked s.marks b)) (λ _ e. absurd (omega arith)) (λ _ e. absurd (omega arith)))

-- a byte answered 13 or 51 ends no opening, and stands at place 1
at_one : (s : State) (g : List ℕ) (b : ℕ) → of_picture (step s g b).answer ≡ true
    → (ends_opening s.seen b ≡ false) × ((s.place ≡ 1) × (step s g b ≡ picture_byte s g (push s.seen b) b))
unfolding step opened
at_one s g b =
    by_if Q (ends_opening s.seen b) (λ _. by_if Q (eqb s.place 0) (λ _ h. never refl h) (λ _ h. never refl h))
    (λ o h. go o h (placed_picture s g (push s.seen b) b))
  where
    Q : Step → Type 0
    Q o = of_picture o.answer ≡ true → (ends_opening s.seen b ≡ false) × ((s.place ≡ 1) × (o ≡ picture_byte s g (push s.seen b) b))

    go : {o : Step} → ends_opening s.seen b ≡ false → of_picture o.answer ≡ true → AtPicture s g (push s.seen b) b o
        → (ends_opening s.seen b ≡ false) × ((s.place ≡ 1) × (o ≡ picture_byte s g (push s.seen b) b))
    go n h (here one e) = (n, (one, e))
    go n h (elsewhere f) = never f h

-- Row 51: a listed code that is unmarked, at block byte 1; dropped as row 13 drops
pub row_51 : (s : State) (g : List ℕ) (b : ℕ)
    → ((step s g b).answer ≡ 51) ↔ ((ends_opening s.seen b ≡ false) × ((s.place ≡ 1) × ((is_picture_code b ≡ true) × (is_marked s.marks b ≡ false))))
unfolding step placed_byte picture_byte
row_51 s g b = (
  λ e. let (o, (one, same)) = at_one s g b (rw e) in (o, (one, picture_51 s g (push s.seen b) b (ap (λ (x : Step). x.answer) (sym same) ∙ e))),
  λ (o, (one, (l, m))). simp (o, one, l, m) refl,
)

pub row_51_drops : (s : State) (g : List ℕ) (b : ℕ) → ends_opening s.seen b ≡ false → s.place ≡ 1 → is_picture_code b ≡ true → is_marked s.marks b ≡ false
    → step s g b ≡ drops 51 s (push s.seen b)
unfolding step placed_byte picture_byte
row_51_drops s g b o one l m = simp (o, one, l, m) refl

-- Row 13: no picture code, whatever the marks
pub row_13 : (s : State) (g : List ℕ) (b : ℕ) → ((step s g b).answer ≡ 13) ↔ ((ends_opening s.seen b ≡ false) × ((s.place ≡ 1) × (is_picture_code b ≡ false)))
unfolding step placed_byte picture_byte
row_13 s g b = (
  λ e. let (o, (one, same)) = at_one s g b (rw e) in (o, (one, picture_13 s g (push s.seen b) b (ap (λ (x : Step). x.answer) (sym same) ∙ e))),
  λ (o, (one, l)). simp (o, one, l) refl,
)

pub row_13_drops : (s : State) (g : List ℕ) (b : ℕ) → ends_opening s.seen b ≡ false → s.place ≡ 1 → is_picture_code b ≡ false → step s g b ≡ drops 13 s (push s.seen b)
unfolding step placed_byte picture_byte
row_13_drops s g b o one l = simp (o, one, l) refl

-- Row 2: besides what it asked before, refusal 2 asks of the marks that none is beyond the twentieth, and nothing else; so a picture
-- code under way, or an open part's, may be unmarked
abbrev with_marks : State → ℕ → State
with_marks s marks =
    record { seen = s.seen; place = s.place; kind = s.kind; picture = s.picture; part = s.part; due = s.due; check = s.check; header = s.header; modes = s.modes; digits = s.digits; marks = marks }

apart : (a b c d e : Bool) → (a && (b && (c && (d && (e && true))))) ≡ ((a && (b && (c && (true && (e && true))))) && d)
apart true true true true e = sym (and-true (e && true))
apart true true true false e = sym (and-false (e && true))
apart true true false d e = refl
apart true false c d e = refl
apart false b c d e = refl

pub row_2_marks : (s : State) → is_possible s ≡ (is_possible (with_marks s no_marks) && are_marks s.marks)
unfolding is_possible all_of kind_unread kind_read fits_part are_marks are_waiting awaits_time
row_2_marks s = apart (leb (length s.seen) 5) (is_due s.part s.due) (cond (eqb s.kind 0) (kind_unread s) (kind_read s)) (are_marks s.marks) (are_waiting s)
