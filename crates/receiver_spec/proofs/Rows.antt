-- Rows 1, 2, 11 and 15 of 01's table hold both ways: a call is refused, or a byte answered so, exactly when the row's condition holds.
-- Assumes nothing.
use mathlib.Core.Path.{◌≡◌, refl, subst}
use mathlib.Core.Logic.{◌≢◌, ◌↔◌}
use mathlib.Core.Bool.{Bool, true, false, not, ◌||◌}
use mathlib.Core.List.{List, [], ◌∷◌}
use Prim.Native.Nat.{ℕ, suc}
use native.Mathlib.Omega.{arith}
use lib.Dec.{eqb, ltb}
use lib.ListN.{length}
use borrow.Author.Tests.{eqb-true, eq-eqb, ne_eqb}
use Rattle.general_laws.specs.Bytes.{is_in}
use Rattle.text.specs.Text.{EOR, TPAD}
use Rattle.text.specs.Pictures.{is_picture_code}
use Rattle.text.specs.Kinds.{is_kind, is_start_kind, is_end_kind, kind_of, block_length}
use Rattle.general_laws.proofs.Tests.{never, by_if}
use Rattle.text_laws.proofs.KindTable.{start_is_kind}
use Rattle.receiver_spec.specs.Seen.{push, ends_opening, due_byte}
use Rattle.receiver_spec.specs.Marks.{is_marked}
use Rattle.receiver_spec.specs.State.{State, is_possible}
use Rattle.receiver_spec.specs.Contents.{takes_byte}
use Rattle.receiver_spec.specs.Receiver.{Step, opened, gap_byte, picture_byte, kind_byte, block_byte, eor_byte, checked_byte, mode_is_highest, last_byte, placed_byte, step}
use Rattle.receiver_spec.specs.Calls.{refused, byte_call, slice_call, Request, byte, slice, ask}
use Rattle.receiver_spec.specs.Demand3.{IsAnswer}
use Rattle.receiver_spec.proofs.Answers.{step_told}
use Rattle.receiver_spec.proofs.CallLists.{feed_taken}

-- every answer but 11 and 15
abbrev others : List ℕ
others = 0 ∷ 1 ∷ 2 ∷ 3 ∷ 12 ∷ 13 ∷ 14 ∷ 16 ∷ 17 ∷ 18 ∷ 19 ∷ 20 ∷ 21 ∷ 22 ∷ 51 ∷ []

abbrev Among : List ℕ → Step → Type 0
Among answers o = is_in o.answer answers ≡ true

-- what row 15 asks, once the byte is a text's kind
abbrev Fifteen : State → ℕ → Type 0
Fifteen s b = (is_start_kind b ≡ true) × (eqb s.part 0 ≡ false)

unfoldable Only15 : State → ℕ → Step → Type 0
Only15 s b o = o.answer ≡ 15 → (s.place ≡ 2) × Fifteen s b

no_15 : (s : State) (b : ℕ) (o : Step) → Among others o → Only15 s b o
unfolding Only15 is_in
no_15 s b o h e = never refl (subst (λ n. is_in n others ≡ true) e h)

no_11 : (o : Step) → Among (15 ∷ others) o → o.answer ≢ 11
unfolding is_in
no_11 o h e = never refl (subst (λ n. is_in n (15 ∷ others) ≡ true) e h)

or_right : (a b : Bool) → b ≡ true → a || b ≡ true
or_right true b h = refl
or_right false b h = h

more : (o : Step) → Among others o → Among (15 ∷ others) o
unfolding is_in
more o h = or_right (eqb o.answer 15) (is_in o.answer others) h

module _ (s : State) (g w : List ℕ) (b : ℕ) where
  in_gap : Among others (gap_byte s g w b)
  unfolding gap_byte is_in
  in_gap = by_if (Among others) (eqb s.part 0) (λ _. refl) (λ _. by_if (Among others) (eqb b (due_byte s.seen)) (λ _. refl) (λ _. refl))

  at_picture : Among others (picture_byte s g w b)
  unfolding picture_byte is_in
  at_picture = by_if (Among others) (not (is_picture_code b)) (λ _. refl) (λ _. by_if (Among others) (not (is_marked s.marks b)) (λ _. refl) (λ _. refl))

  in_block : Among others (block_byte s g w b)
  unfolding block_byte is_in
  in_block = by_if (Among others) (takes_byte s.kind s.header s.digits s.place b) (λ _. refl) (λ _. refl)

  at_eor : Among others (eor_byte s g w b)
  unfolding eor_byte is_in
  at_eor = by_if (Among others) (eqb b EOR) (λ _. refl) (λ _. refl)

  at_check : Among others (checked_byte s g w b)
  unfolding checked_byte is_in
  at_check = by_if (Among others) (eqb b s.check) (λ _. refl) (λ _. refl)

  at_last : Among others (last_byte s g w b)
  unfolding last_byte is_in
  at_last =
      by_if (Among others) (not (eqb b TPAD)) (λ _. refl)
      (λ _. by_if (Among others) (is_start_kind s.kind) (λ _. refl)
      (λ _. by_if (Among others) (is_end_kind s.kind) (λ _. by_if (Among others) (mode_is_highest s.header s.modes) (λ _. refl) (λ _. refl)) (λ _. refl)))

  at_kind : Among (15 ∷ others) (kind_byte s g w b)
  unfolding kind_byte is_in
  at_kind =
      by_if (Among (15 ∷ others)) (not (is_kind b)) (λ _. refl)
      (λ _. by_if (Among (15 ∷ others)) (is_start_kind b) (λ _. by_if (Among (15 ∷ others)) (eqb s.part 0) (λ _. refl) (λ _. refl))
      (λ _. by_if (Among (15 ∷ others)) (eqb s.part 0) (λ _. refl)
      (λ _. by_if (Among (15 ∷ others)) (not (eqb b (kind_of s.part s.due))) (λ _. refl)
      (λ _. by_if (Among (15 ∷ others)) (eqb s.picture s.header.picture) (λ _. refl) (λ _. refl)))))

  kind_15 : s.place ≡ 2 → Only15 s b (kind_byte s g w b)
  unfolding kind_byte Only15
  kind_15 two =
      by_if Only (not (is_kind b)) (λ _ e. absurd (omega arith))
      (λ _. by_if Only (is_start_kind b) (λ k. by_if Only (eqb s.part 0) (λ _ e. absurd (omega arith)) (λ p e. (two, (k, p))))
      (λ _. by_if Only (eqb s.part 0) (λ _ e. absurd (omega arith))
      (λ _. by_if Only (not (eqb b (kind_of s.part s.due))) (λ _ e. absurd (omega arith))
      (λ _. by_if Only (eqb s.picture s.header.picture) (λ _ e. absurd (omega arith)) (λ _ e. absurd (omega arith))))))
    where
      Only : Step → Type 0
      Only o = o.answer ≡ 15 → (s.place ≡ 2) × Fifteen s b

  placed_11 : Among (15 ∷ others) (placed_byte s g w b)
  unfolding placed_byte
  placed_11 =
      by_if (Among (15 ∷ others)) (eqb s.place 0) (λ _. more (gap_byte s g w b) in_gap)
      (λ _. by_if (Among (15 ∷ others)) (eqb s.place 1) (λ _. more (picture_byte s g w b) at_picture)
      (λ _. by_if (Among (15 ∷ others)) (eqb s.place 2) (λ _. at_kind)
      (λ _. by_if (Among (15 ∷ others)) (ltb s.place (block_length s.kind)) (λ _. more (block_byte s g w b) in_block)
      (λ _. by_if (Among (15 ∷ others)) (eqb s.place (block_length s.kind)) (λ _. more (eor_byte s g w b) at_eor)
      (λ _. by_if (Among (15 ∷ others)) (eqb s.place (suc (block_length s.kind))) (λ _. more (checked_byte s g w b) at_check)
      (λ _. more (last_byte s g w b) at_last))))))

  placed_15 : Only15 s b (placed_byte s g w b)
  unfolding placed_byte
  placed_15 =
      by_if (Only15 s b) (eqb s.place 0) (λ _. no_15 s b (gap_byte s g w b) in_gap)
      (λ _. by_if (Only15 s b) (eqb s.place 1) (λ _. no_15 s b (picture_byte s g w b) at_picture)
      (λ _. by_if (Only15 s b) (eqb s.place 2) (λ t. kind_15 (eqb-true s.place 2 t))
      (λ _. by_if (Only15 s b) (ltb s.place (block_length s.kind)) (λ _. no_15 s b (block_byte s g w b) in_block)
      (λ _. by_if (Only15 s b) (eqb s.place (block_length s.kind)) (λ _. no_15 s b (eor_byte s g w b) at_eor)
      (λ _. by_if (Only15 s b) (eqb s.place (suc (block_length s.kind))) (λ _. no_15 s b (checked_byte s g w b) at_check)
      (λ _. no_15 s b (last_byte s g w b) at_last))))))

-- Row 11: an opening ends while a text is under way
pub row_11 : (s : State) (g : List ℕ) (b : ℕ) → ((step s g b).answer ≡ 11) ↔ ((ends_opening s.seen b ≡ true) × (eqb s.place 0 ≡ false))
unfolding step opened
row_11 s g b = (
  by_if Only (ends_opening s.seen b) (λ o. by_if Only (eqb s.place 0) (λ _ e. absurd (omega arith)) (λ p e. (o, p)))
      (λ _ e. absurd (no_11 (placed_byte s g (push s.seen b) b) (placed_11 s g (push s.seen b) b) e)),
  λ (o, p). rw (o, p) refl,
)
  where
    Only : Step → Type 0
    Only o = o.answer ≡ 11 → (ends_opening s.seen b ≡ true) × (eqb s.place 0 ≡ false)

-- Row 15: a start kind while a part is open
pub row_15 : (s : State) (g : List ℕ) (b : ℕ)
    → ((step s g b).answer ≡ 15) ↔ ((ends_opening s.seen b ≡ false) × ((s.place ≡ 2) × ((is_start_kind b ≡ true) × (eqb s.part 0 ≡ false))))
unfolding step opened placed_byte kind_byte Only15
row_15 s g b = (
  by_if Only (ends_opening s.seen b) (λ _. by_if Only (eqb s.place 0) (λ _ e. absurd (omega arith)) (λ _ e. absurd (omega arith)))
      (λ o e. (o, placed_15 s g (push s.seen b) b e)),
  λ (o, (two, (k, p))). simp (o, two, start_is_kind b k, k, p) refl,
)
  where
    Only : Step → Type 0
    Only o = o.answer ≡ 15 → (ends_opening s.seen b ≡ false) × ((s.place ≡ 2) × Fifteen s b)

-- Row 1: the grid is not 20,000 bytes. Row 2: it is, and the state is not possible. All unchanged, 0 taken
pub row_1 : (s : State) (g : List ℕ) (r : Request) → length g ≢ 20000 → ask s g r ≡ record { reply = refused 1; count = 0; state = s; grid = g }
unfolding ask byte_call slice_call
row_1 s g (byte b) n = rw (ne_eqb (length g) 20000 n)
row_1 s g (slice bytes) n = rw (ne_eqb (length g) 20000 n)

pub row_2 : (s : State) (g : List ℕ) (r : Request) → length g ≡ 20000 → is_possible s ≡ false
    → ask s g r ≡ record { reply = refused 2; count = 0; state = s; grid = g }
unfolding ask byte_call slice_call
row_2 s g (byte b) l p = rw (eq-eqb (length g) 20000 l, p)
row_2 s g (slice bytes) l p = rw (eq-eqb (length g) 20000 l, p)

-- and no other call is refused
pub row_neither : (s : State) (g : List ℕ) (r : Request) → length g ≡ 20000 → is_possible s ≡ true → IsAnswer (ask s g r).reply
unfolding ask byte_call slice_call
row_neither s g (byte b) l p = rw (eq-eqb (length g) 20000 l, p) (step_told s.part s g b)
row_neither s g (slice bytes) l p = rw (eq-eqb (length g) 20000 l, p) (feed_taken bytes s g).is_answer
