-- From a possible state and a grid of 20,000 bytes every step leads to such again: no call of a list is refused with 2. Assumes nothing.
use mathlib.Core.Path.{◌≡◌, refl, sym, ap, ◌∙◌, subst}
use mathlib.Core.Logic.{◌≢◌}
use mathlib.Core.Bool.{true, false, cond, not, ◌||◌}
use mathlib.Core.List.{List}
use Prim.Native.Nat.{ℕ, suc, ◌+◌, ◌≤◌, ◌<◌}
use native.Mathlib.Omega.{arith}
use lib.Dec.{eqb, ltb, leb, lit≤}
use lib.ListN.{length, length-set, length-take, length-replicate}
use borrow.Author.Tests.{eqb-true, eqb-false, ltb-true, ltb-false, leb-true, le-leb, eq-eqb, ne_eqb, not-false}
use Rattle.general_laws.specs.Bytes.{all_of}
use Rattle.text.specs.Text.{EOR, TPAD}
use Rattle.text.specs.Pictures.{is_picture_code}
use Rattle.text.specs.Kinds.{kinds, is_part_number, is_kind, is_start_kind, is_end_kind, part_of, text_number, kind_of, block_length, data_texts}
use Rattle.text.specs.Part.{grid_length, zeros}
use Rattle.text.specs.declared.header.Header.{Header}
use Rattle.general_laws.proofs.Tests.{by_test, never, and_split, and_join, rule_at, by_if}
use Rattle.general_laws.proofs.Computed.{tabled}
use Rattle.text_laws.proofs.KindTable.{kind_part, text_back, no_kind_0, block_least}
use Rattle.receiver_spec.specs.Seen.{push, ends_opening, due_byte}
use Rattle.receiver_spec.specs.Marks.{is_marked, are_marks}
use Rattle.receiver_spec.specs.State.{State, fresh, empty_grid, is_due, fits_part, kind_unread, kind_read, are_waiting, is_possible}
use Rattle.receiver_spec.specs.Contents.{takes_byte, enter_grid}
use Rattle.receiver_spec.specs.Receiver.{Step, drops, opened, gap_byte, picture_byte, kind_byte, block_byte, eor_byte, checked_byte, first_due, next_due, mode_is_highest, last_byte, placed_byte, step}
use Rattle.receiver_spec.proofs.MarkLaws.{from_marks}
use Rattle.receiver_spec.proofs.WholeParts.{first_due_lem}
use Rattle.receiver_spec.proofs.Waiting.{AllZero, zero_waits, none_waits, zero_elsewhere, not_yet, closing, entered_waits}

-- ---- possible states by cases

pub data Shape (s : State) : Type 0 where
  between : s.place ≡ 0 → s.kind ≡ 0 → s.picture ≡ 0 → s.check ≡ 0 → Shape s
  at_fd : s.place ≡ 1 → s.kind ≡ 0 → s.picture ≡ 0 → Shape s
  at_picture : s.place ≡ 2 → s.kind ≡ 0 → is_picture_code s.picture ≡ true → Shape s
  in_text : 3 ≤ s.place → s.place ≤ block_length s.kind + 2 → is_picture_code s.picture ≡ true → is_kind s.kind ≡ true → fits_part s ≡ true → Shape s

pub record Possible (s : State) : Type 0 where
  pub few : length s.seen ≤ 5
  pub due : is_due s.part s.due ≡ true
  pub shape : Shape s
  pub marks : are_marks s.marks ≡ true
  pub waiting : are_waiting s ≡ true

pub possible_keeps : (s : State) → Possible s → is_possible s ≡ true
unfolding is_possible all_of kind_unread kind_read
possible_keeps s p = and_join (le-leb _ _ p.few) (and_join p.due (and_join (go p.shape) (and_join p.marks (and_join p.waiting refl))))
  where
    go : Shape s → cond (eqb s.kind 0) (kind_unread s) (kind_read s) ≡ true
    go (between i k q c) = rw (eq-eqb s.kind 0 k, eq-eqb s.place 0 i, eq-eqb s.picture 0 q, eq-eqb s.check 0 c)
    go (at_fd i k q) = rw (eq-eqb s.kind 0 k, ne_eqb s.place 0 (λ e. omega arith), eq-eqb s.place 1 i, eq-eqb s.picture 0 q)
    go (at_picture i k q) =
        rw (eq-eqb s.kind 0 k, ne_eqb s.place 0 (λ e. omega arith), ne_eqb s.place 1 (λ e. omega arith), eq-eqb s.place 2 i, q)
    go (in_text a b q k f) =
        let some : eqb s.kind 0 ≡ false = ne_eqb s.kind 0 (λ e. never no_kind_0 (subst (λ t. is_kind t ≡ true) e k)) in
        rw (some, le-leb 3 s.place a, le-leb s.place (block_length s.kind + 2) b, q, k, f)

pub possible_facts : (s : State) → is_possible s ≡ true → Possible s
unfolding is_possible kind_unread kind_read
possible_facts s h = record { few = leb-true _ _ (rule_at _ h 0); due = rule_at _ h 1; shape = go (rule_at _ h 2); marks = rule_at _ h 3; waiting = rule_at _ h 4 }
  where
    read : kind_read s ≡ true → Shape s
    read t = in_text (leb-true _ _ (rule_at _ t 0)) (leb-true _ _ (rule_at _ t 1)) (rule_at _ t 2) (rule_at _ t 3) (rule_at _ t 4)

    unread : eqb s.kind 0 ≡ true → kind_unread s ≡ true → Shape s
    unread k t =
        by_test (eqb s.place 0)
        (λ i. let (q, c) = and_split (eqb s.picture 0) (eqb s.check 0) (rw i at t) in between (eqb-true _ _ i) (eqb-true _ _ k) (eqb-true _ _ q) (eqb-true _ _ c))
        (λ i. by_test (eqb s.place 1) (λ j. at_fd (eqb-true _ _ j) (eqb-true _ _ k) (eqb-true _ _ (rw (i, j) at t)))
        (λ j. let (two, q) = and_split (eqb s.place 2) (is_picture_code s.picture) (rw (i, j) at t) in at_picture (eqb-true _ _ two) (eqb-true _ _ k) q))

    go : cond (eqb s.kind 0) (kind_unread s) (kind_read s) ≡ true → Shape s
    go t = by_test (eqb s.kind 0) (λ k. unread k (rw k at t)) (λ k. read (rw k at t))

-- before the kind is read, two bytes at most are taken
pub place_before_kind : (s : State) → is_possible s ≡ true → s.kind ≡ 0 → s.place ≤ 2
place_before_kind s h k = go (possible_facts s h).shape
  where
    go : Shape s → s.place ≤ 2
    go (between i z q c) = omega arith
    go (at_fd i z q) = omega arith
    go (at_picture i z q) = omega arith
    go (in_text a l q n f) = never no_kind_0 (subst (λ t. is_kind t ≡ true) k n)

-- after it, the place lies within the text
places_of_text : (s : State) → is_possible s ≡ true → s.kind ≢ 0 → (3 ≤ s.place) × (s.place ≤ block_length s.kind + 2)
places_of_text s h n = go (possible_facts s h).shape
  where
    go : Shape s → (3 ≤ s.place) × (s.place ≤ block_length s.kind + 2)
    go (between i z q c) = absurd (n z)
    go (at_fd i z q) = absurd (n z)
    go (at_picture i z q) = absurd (n z)
    go (in_text a l q k f) = (a, l)

pub place_after_kind : (s : State) → is_possible s ≡ true → s.kind ≢ 0 → 3 ≤ s.place
place_after_kind s h n = (places_of_text s h n).0

pub place_in_text : (s : State) → is_possible s ≡ true → s.kind ≢ 0 → s.place ≤ block_length s.kind + 2
place_in_text s h n = (places_of_text s h n).1

-- so a third byte taken is a kind read
pub kind_by_place : (s : State) → is_possible s ≡ true → 3 ≤ s.place → s.kind ≢ 0
kind_by_place s h l e = omega (arith, l, place_before_kind s h e)

-- ---- due texts
is_due_some : (p d : ℕ) → is_part_number p ≡ true → is_kind (kind_of p d) ≡ true → d ≢ 0 → is_due p d ≡ true
unfolding is_due is_part_number
is_due_some p d h k n =
    let one = leb-true 1 p (and_split (leb 1 p) (leb p 3) h).0 in
    rw (ne_eqb p 0 (λ e. omega arith)) (and_join k (ap not (ne_eqb d 0 n)))

open_facts : (p d : ℕ) → is_due p d ≡ true → p ≢ 0 → (is_part_number p ≡ true) × (is_kind (kind_of p d) ≡ true)
unfolding is_due
open_facts p d h n =
    let (k, z) = and_split (is_kind (kind_of p d)) (not (eqb d 0)) (rw (ne_eqb p 0 n) at h) in
    (subst (λ t. is_part_number t ≡ true) (text_back p d k).0 (kind_part (kind_of p d) k), k)

-- each part has a data text 1 and an end text, and its data texts in between
abbrev HasTexts : ℕ → Type 0
HasTexts p = (is_kind (kind_of p 1) ≡ true) × (is_kind (kind_of p 11) ≡ true) × ((k : ℕ) → k < data_texts p false → is_kind (kind_of p (suc k)) ≡ true)

intensity_has : HasTexts 1
unfolding is_kind part_of kind_of kinds data_texts
intensity_has = (refl, refl, λ k l. tabled (λ k. is_kind (kind_of 1 (suc k))) 10 tt k l)

top_has : HasTexts 2
unfolding is_kind part_of kind_of kinds data_texts
top_has = (refl, refl, λ k l. tabled (λ k. is_kind (kind_of 2 (suc k))) 1 tt k l)

quality_has : HasTexts 3
unfolding is_kind part_of kind_of kinds data_texts
quality_has = (refl, refl, λ k l. tabled (λ k. is_kind (kind_of 3 (suc k))) 1 tt k l)

parts_have : (p : ℕ) → is_part_number p ≡ true → HasTexts p
unfolding is_part_number
parts_have p h =
    let (a, b) = and_split (leb 1 p) (leb p 3) h in
    let low = leb-true 1 p a in
    let high = leb-true p 3 b in
    by_test (eqb p 1) (λ t. subst HasTexts (sym (eqb-true p 1 t)) intensity_has)
    (λ t. by_test (eqb p 2) (λ u. subst HasTexts (sym (eqb-true p 2 u)) top_has)
    (λ u. let last : 3 ≡ p = omega (arith, eqb-false p 1 t, eqb-false p 2 u) in subst HasTexts last quality_has))

due_first : (p : ℕ) (h : Header) → is_part_number p ≡ true → is_due p (first_due p h) ≡ true
due_first p h n =
    let (one, last, _) = parts_have p n in
    subst (λ d. is_due p d ≡ true) (sym (first_due_lem p h))
    (by_if (λ d. is_due p d ≡ true) (ltb 0 (data_texts p h.noecho)) (λ _. is_due_some p 1 n one (λ e. omega arith)) (λ _. is_due_some p 11 n last (λ e. omega arith)))

due_next : (p k : ℕ) → is_part_number p ≡ true → is_due p (next_due p k) ≡ true
unfolding next_due
due_next p k n =
    let (_, last, each) = parts_have p n in
    by_if (λ d. is_due p d ≡ true) (ltb k (data_texts p false)) (λ t. is_due_some p (suc k) n (each k (ltb-true k (data_texts p false) t)) (λ e. omega arith))
    (λ _. is_due_some p 11 n last (λ e. omega arith))

due_none : is_due 0 0 ≡ true
unfolding is_due
due_none = refl

-- ---- every step

push_few : (w : List ℕ) (b : ℕ) → length (push w b) ≤ 5
push_few w b = simp length-take (omega arith)

pub grid_long : length empty_grid ≡ grid_length
unfolding zeros
grid_long = length-replicate {A = ℕ} grid_length 0

module _ (s : State) (g w : List ℕ) (b : ℕ) (few : length w ≤ 5) (long : length g ≡ grid_length) (due : is_due s.part s.due ≡ true) (marks : are_marks s.marks ≡ true) (waiting : are_waiting s ≡ true) where
  abbrev Kept : Step → Type 0
  Kept o = Possible o.state × (length o.grid ≡ grid_length)

  -- before the time's first digit is taken, none waits
  early : s.place ≤ 8 → AllZero s.digits
  early l = zero_elsewhere s waiting (not_yet s l)

  lost : (n : ℕ) → Kept (drops n s w)
  lost n = (record { few = few; due = due_none; shape = between refl refl refl refl; marks = marks; waiting = none_waits _ refl }, grid_long)

  opened_kept : Kept (opened s g w)
  unfolding opened
  opened_kept =
      by_if Kept (eqb s.place 0) (λ i. (record { few = few; due = due; shape = at_fd refl refl refl; marks = marks; waiting = zero_waits _ (early (omega (arith, eqb-true s.place 0 i))) }, long))
      (λ _. (record { few = few; due = due_none; shape = at_fd refl refl refl; marks = marks; waiting = none_waits _ refl }, grid_long))

  gap_kept : s.place ≡ 0 → Kept (gap_byte s g w b)
  unfolding gap_byte
  gap_kept i =
      by_if Kept (eqb s.part 0) (λ _. (record { few = few; due = due_none; shape = between refl refl refl refl; marks = marks; waiting = zero_waits _ (early (omega arith)) }, long))
      (λ _. by_if Kept (eqb b (due_byte s.seen)) (λ _. (record { few = few; due = due; shape = between refl refl refl refl; marks = marks; waiting = zero_waits _ (early (omega arith)) }, long)) (λ _. lost 12))

  picture_kept : s.place ≡ 1 → Kept (picture_byte s g w b)
  unfolding picture_byte
  picture_kept i =
      by_if Kept (not (is_picture_code b)) (λ _. lost 13)
      (λ q. by_if Kept (not (is_marked s.marks b)) (λ _. lost 51)
      (λ _. (record { few = few; due = due; shape = at_picture refl refl (not-false (is_picture_code b) q); marks = marks; waiting = zero_waits _ (early (omega arith)) }, long)))

  -- a text goes on: place, kind and part fit
  kind_kept : s.place ≡ 2 → is_picture_code s.picture ≡ true → Kept (kind_byte s g w b)
  unfolding kind_byte fits_part
  kind_kept i q =
      by_if Kept (not (is_kind b)) (λ _. lost 14)
      (λ k. let known = not-false (is_kind b) k in
      let room : 3 ≤ block_length b + 2 = omega (arith, block_least b known) in
      by_if Kept (is_start_kind b)
      (λ t. by_if Kept (eqb s.part 0) (λ _. (record { few = few; due = due_none; shape = in_text (lit≤ tt) room q known t; marks = marks; waiting = none_waits _ refl }, long))
      (λ _. (record { few = few; due = due_none; shape = in_text (lit≤ tt) room q known t; marks = marks; waiting = none_waits _ refl }, grid_long)))
      (λ _. by_if Kept (eqb s.part 0) (λ _. lost 16)
      (λ p. by_if Kept (not (eqb b (kind_of s.part s.due))) (λ _. lost 16)
      (λ d. by_if Kept (eqb s.picture s.header.picture)
      (λ _. (record { few = few; due = due; shape = in_text (lit≤ tt) room q known (rw p (not-false _ d)); marks = marks; waiting = zero_waits _ (early (omega arith)) }, long)) (λ _. lost 17)))))

  module _ (three : 3 ≤ s.place) (most : s.place ≤ block_length s.kind + 2) (q : is_picture_code s.picture ≡ true) (k : is_kind s.kind ≡ true) (fits : fits_part s ≡ true) where
    block_kept : s.place < block_length s.kind → Kept (block_byte s g w b)
    unfolding block_byte fits_part enter_grid
    block_kept l =
        by_if Kept (takes_byte s.kind s.header s.digits s.place b)
        (λ t. (
          record { few = few; due = due; shape = in_text (omega arith) (omega arith) q k fits; marks = marks; waiting = entered_waits s w b waiting t three },
          by_if (λ (t : List ℕ). length t ≡ grid_length) (is_start_kind s.kind || is_end_kind s.kind) (λ _. long) (λ _. length-set g _ b ∙ long),
        ))
        (λ _. lost 18)

    eor_kept : s.place ≡ block_length s.kind → Kept (eor_byte s g w b)
    unfolding eor_byte fits_part
    eor_kept l = by_if Kept (eqb b EOR) (λ _. (record { few = few; due = due; shape = in_text (omega arith) (omega arith) q k fits; marks = marks; waiting = zero_waits _ (zero_elsewhere s waiting (closing s (omega arith))) }, long)) (λ _. lost 19)

    check_kept : s.place ≡ suc (block_length s.kind) → Kept (checked_byte s g w b)
    unfolding checked_byte fits_part
    check_kept l = by_if Kept (eqb b s.check) (λ _. (record { few = few; due = due; shape = in_text (omega arith) (omega arith) q k fits; marks = marks; waiting = zero_waits _ (zero_elsewhere s waiting (closing s (omega arith))) }, long)) (λ _. lost 20)

    last_kept : block_length s.kind ≤ s.place → Kept (last_byte s g w b)
    unfolding last_byte fits_part
    last_kept far =
        by_if Kept (not (eqb b TPAD)) (λ _. lost 21)
        (λ _. by_if Kept (is_start_kind s.kind)
        (λ t. (record { few = few; due = due_first (part_of s.kind) s.header (kind_part s.kind k); shape = between refl refl refl refl; marks = marks; waiting = zero_waits _ (zero_elsewhere s waiting (closing s far)) }, grid_long))
        (λ t. by_if Kept (is_end_kind s.kind)
        (λ _. by_if Kept (mode_is_highest s.header s.modes) (λ _. (record { few = few; due = due_none; shape = between refl refl refl refl; marks = marks; waiting = zero_waits _ (zero_elsewhere s waiting (closing s far)) }, long)) (λ _. lost 22))
        (λ _. (record { few = few; due = due_next s.part (text_number s.kind) (open_part t); shape = between refl refl refl refl; marks = marks; waiting = zero_waits _ (zero_elsewhere s waiting (closing s far)) }, long))))
      where
        open_part : is_start_kind s.kind ≡ false → is_part_number s.part ≡ true
        open_part t = by_test (eqb s.part 0) (λ e. never t (rw e at fits)) (λ e. (open_facts s.part s.due due (eqb-false s.part 0 e)).0)

  placed_kept : Shape s → Kept (placed_byte s g w b)
  unfolding placed_byte
  placed_kept sh =
      by_if Kept (eqb s.place 0) (λ i. gap_kept (eqb-true _ _ i))
      (λ i. by_if Kept (eqb s.place 1) (λ j. picture_kept (eqb-true _ _ j))
      (λ j. by_if Kept (eqb s.place 2) (λ t. kind_kept (eqb-true _ _ t) (second sh (eqb-true _ _ t)))
      (λ t. later sh (omega (arith, eqb-false s.place 0 i, eqb-false s.place 1 j, eqb-false s.place 2 t)))))
    where
      second : Shape s → s.place ≡ 2 → is_picture_code s.picture ≡ true
      second (between i k q c) e = absurd (omega arith)
      second (at_fd i k q) e = absurd (omega arith)
      second (at_picture i k q) e = q
      second (in_text a b q k f) e = q

      Later : Type 0
      Later =
          Kept (cond (ltb s.place (block_length s.kind)) (block_byte s g w b)
          (cond (eqb s.place (block_length s.kind)) (eor_byte s g w b)
          (cond (eqb s.place (suc (block_length s.kind))) (checked_byte s g w b) (last_byte s g w b))))

      later : Shape s → 3 ≤ s.place → Later
      later (between i k q c) l = absurd (omega arith)
      later (at_fd i k q) l = absurd (omega arith)
      later (at_picture i k q) l = absurd (omega arith)
      later (in_text a m q k f) l =
          by_if Kept (ltb s.place (block_length s.kind)) (λ t. block_kept a m q k f (ltb-true _ _ t))
          (λ u. by_if Kept (eqb s.place (block_length s.kind)) (λ t. eor_kept a m q k f (eqb-true _ _ t))
          (λ _. by_if Kept (eqb s.place (suc (block_length s.kind))) (λ t. check_kept a m q k f (eqb-true _ _ t)) (λ _. last_kept a m q k f (ltb-false _ _ u))))

pub step_kept : (s : State) (g : List ℕ) (b : ℕ) → Possible s → length g ≡ grid_length → Possible (step s g b).state × (length (step s g b).grid ≡ grid_length)
unfolding step
step_kept s g b p long =
    by_if (λ (o : Step). Possible o.state × (length o.grid ≡ grid_length)) (ends_opening s.seen b)
    (λ _. opened_kept s g (push s.seen b) b (push_few s.seen b) long p.due p.marks p.waiting)
    (λ _. placed_kept s g (push s.seen b) b (push_few s.seen b) long p.due p.marks p.waiting p.shape)

pub fresh_possible : (n : ℕ) → Possible (fresh n)
fresh_possible n = record { few = lit≤ tt; due = due_none; shape = between refl refl refl refl; marks = from_marks n; waiting = none_waits (fresh n) refl }
