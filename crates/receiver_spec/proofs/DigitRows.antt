-- Request 111: what refusal 2 asks of the digits that wait, and nothing else; what every call that is not refused leaves of them;
-- and that the header's minute is 0 until byte 23 of a start text is taken. Assumes nothing.
use mathlib.Core.Path.{◌≡◌, refl, sym, ap, ◌∙◌, subst}
use mathlib.Core.Logic.{inl, inr}
use mathlib.Core.Bool.{Bool, true, false, cond, not, ◌&&◌, and-true}
use mathlib.Core.List.{List, [], ◌∷◌}
use Prim.Native.Nat.{ℕ, zero, suc, ◌≤◌}
use native.Mathlib.Omega.{arith}
use lib.Dec.{eqb, leb, ltb}
use lib.ListN.{length, take}
use lib.IntN.{pos}
use borrow.Author.Tests.{eqb-true, ltb-false, leb-true, le-leb, lt-leb, ne_eqb, eq-eqb}
use Rattle.general_laws.specs.Bytes.{◌!◌, every, all_of}
use Rattle.text_calendar_spec.specs.TimeDigits.{minute_in}
use Rattle.text.specs.Text.{EOR, TPAD}
use Rattle.text.specs.Pictures.{is_picture_code}
use Rattle.text.specs.Kinds.{is_kind, is_start_kind, is_end_kind, part_of, kinds, kind_of, block_length}
use Rattle.text.specs.Part.{grid_length}
use Rattle.text.specs.declared.header.Header.{Header}
use Rattle.general_laws.proofs.Tests.{by_test, by_if, never, and_split, and_join}
use Rattle.text_laws.proofs.KindTable.{start_block_length}
use Rattle.receiver_spec.specs.Seen.{push, ends_opening, due_byte}
use Rattle.receiver_spec.specs.Marks.{is_marked, are_marks}
use Rattle.receiver_spec.specs.State.{State, no_digits, fresh, empty_grid, is_due, fits_part, kind_unread, kind_read, awaits_time, are_waiting, is_possible}
use Rattle.receiver_spec.specs.Contents.{with_digit, begun_header, enter_header, enter_digits, takes_byte}
use Rattle.receiver_spec.specs.Receiver.{Step, opened, gap_byte, picture_byte, kind_byte, block_byte, eor_byte, checked_byte, mode_is_highest, last_byte, placed_byte, step}
use Rattle.receiver_spec.specs.Calls.{Request, byte, slice, ask, Call, received, state_after, grid_after}
use Rattle.receiver_spec.specs.WaitingDigits.{with_digits, Elsewhere, WaitingClaim}
use Rattle.receiver_spec.specs.Demand3.{MinuteWaits}
use Rattle.receiver_spec.proofs.Waiting.{AllZero, AllSmall, none_waits, zero_elsewhere, small_always, not_start, not_yet, no_more, waits_there}
use Rattle.receiver_spec.proofs.Possible.{possible_facts}
use Rattle.receiver_spec.proofs.CallLists.{PossibleOnGrid, steps_sound, byte_taken, slice_taken, calls_stepped}

-- ---- row 2

behind : (a b c d e : Bool) → (a && (b && (c && (d && (e && true))))) ≡ ((a && (b && (c && (d && (true && true))))) && e)
behind true true true true e = and-true e
behind true true true false e = refl
behind true true false d e = refl
behind true false c d e = refl
behind false b c d e = refl

-- Besides what it asked before, refusal 2 asks of the digits what `are_waiting` says, and nothing else
pub row_2_digits : (s : State) → is_possible s ≡ (is_possible (with_digits s no_digits) && are_waiting s)
unfolding is_possible all_of kind_unread kind_read fits_part
row_2_digits s =
    behind (leb (length s.seen) 5) (is_due s.part s.due) (cond (eqb s.kind 0) (kind_unread s) (kind_read s)) (are_marks s.marks) (are_waiting s)
    ∙ ap (λ t. (leb (length s.seen) 5 && (is_due s.part s.due && (cond (eqb s.kind 0) (kind_unread s) (kind_read s) && (are_marks s.marks && (t && true))))) && are_waiting s)
    (sym (none_waits (with_digits s no_digits) refl))

-- In every state that a call not refused with 1 or 2 returns, the digits are 0 but at places 9 to 23 of a start text, and 9 at most
-- there
pub digits_wait : (s : State) (g : List ℕ) (r : Request) → is_possible s ≡ true → length g ≡ grid_length → are_waiting (ask s g r).state ≡ true
unfolding state_after grid_after
digits_wait s g (byte b) p l =
    let here : PossibleOnGrid s g = record { possible = possible_facts s p; long = l } in
    subst (λ (t : State). are_waiting t ≡ true) (sym (ap (λ o. o.state) (byte_taken s g b here.possible l))) (next s g b here)
  where
    next : (s : State) (g : List ℕ) (b : ℕ) → PossibleOnGrid s g → are_waiting (step s g b).state ≡ true
    next s g b h = (steps_sound (b ∷ []) s g h).possible.waiting
digits_wait s g (slice bytes) p l =
    let here : PossibleOnGrid s g = record { possible = possible_facts s p; long = l } in
    let t = slice_taken s g bytes here.possible l in
    subst (λ (t : State). are_waiting t ≡ true) (sym t.state) (steps_sound (take (ask s g (slice bytes)).count bytes) s g here).possible.waiting

-- ---- by place

small_at : (ds : List ℕ) → AllSmall ds → (i : ℕ) → ds ! i ≤ 9
unfolding every
small_at [] h i = omega arith
small_at (d ∷ ds) h zero = leb-true d 9 (and_split (leb d 9) (every (λ d. leb d 9) ds) h).0
small_at (d ∷ ds) h (suc i) = small_at ds (and_split (leb d 9) (every (λ d. leb d 9) ds) h).1 i

zero_at : (ds : List ℕ) → AllZero ds → (i : ℕ) → ds ! i ≡ 0
unfolding every
zero_at [] h i = refl
zero_at (d ∷ ds) h zero = eqb-true d 0 (and_split (eqb d 0) (every (λ d. eqb d 0) ds) h).0
zero_at (d ∷ ds) h (suc i) = zero_at ds (and_split (eqb d 0) (every (λ d. eqb d 0) ds) h).1 i

all_small : (ds : List ℕ) → ((i : ℕ) → ds ! i ≤ 9) → AllSmall ds
unfolding every
all_small [] h = refl
all_small (d ∷ ds) h = and_join (le-leb d 9 (h 0)) (all_small ds (λ i. h (suc i)))

-- elsewhere no digit is awaited
not_awaited : (s : State) → Elsewhere s → awaits_time s ≡ false
not_awaited s (inl k) = not_start s k
not_awaited s (inr (inl l)) = not_yet s (omega (arith, l))
not_awaited s (inr (inr l)) = no_more s l

zero_there : (s : State) → are_waiting s ≡ true → Elsewhere s → (i : ℕ) → s.digits ! i ≡ 0
zero_there s w e i = zero_at s.digits (zero_elsewhere s w (not_awaited s e)) i

-- so in words
pub waiting_so : (s : State) → are_waiting s ≡ true → ((i : ℕ) → s.digits ! i ≤ 9) × (Elsewhere s → (i : ℕ) → s.digits ! i ≡ 0)
waiting_so s w = (small_at s.digits (small_always s w), zero_there s w)

-- byte 23
time_entered : (h : Header) (ds : List ℕ) (i b : ℕ) → i ≡ 23 → (enter_header h ds i b).minute ≡ minute_in (with_digit ds 15 b)
unfolding enter_header
time_entered h ds i b e =
    rw (
      ne_eqb i 3 (λ f. omega (arith, e, f)),
      ne_eqb i 4 (λ f. omega (arith, e, f)),
      ne_eqb i 5 (λ f. omega (arith, e, f)),
      ne_eqb i 6 (λ f. omega (arith, e, f)),
      ne_eqb i 7 (λ f. omega (arith, e, f)),
      lt-leb i 22 (omega (arith, e)),
      eq-eqb i 23 e,
    ) refl

digits_gone : (ds : List ℕ) (i b : ℕ) → i ≡ 23 → enter_digits ds i b ≡ no_digits
unfolding enter_digits
digits_gone ds i b e = rw (lt-leb i 7 (omega (arith, e)), lt-leb i 22 (omega (arith, e)))

time_taken : (s : State) (g : List ℕ) (b : ℕ) → is_start_kind s.kind ≡ true → s.place ≡ 23 → (step s g b).answer ≡ 0
    → ((step s g b).state.place ≡ 24) × ((step s g b).state.digits ≡ no_digits) × ((step s g b).state.header.minute ≡ minute_in (with_digit s.digits 15 b))
unfolding step opened placed_byte block_byte
time_taken s g b k e =
    by_if P (ends_opening s.seen b)
    (λ _. by_if P (eqb s.place 0) (λ z. absurd (omega (arith, e, eqb-true s.place 0 z))) (λ _ a. absurd (omega (arith, a))))
    (λ _. by_if P (eqb s.place 0) (λ z. absurd (omega (arith, e, eqb-true s.place 0 z)))
    (λ _. by_if P (eqb s.place 1) (λ z. absurd (omega (arith, e, eqb-true s.place 1 z)))
    (λ _. by_if P (eqb s.place 2) (λ z. absurd (omega (arith, e, eqb-true s.place 2 z)))
    (λ _. by_if P (ltb s.place (block_length s.kind))
    (λ _. by_if P (takes_byte s.kind s.header s.digits s.place b)
    (λ _ _. (ap suc e, rw k (digits_gone s.digits s.place b e), rw k (time_entered s.header s.digits s.place b e)))
    (λ _ a. absurd (omega (arith, a))))
    (λ u. absurd (omega (arith, e, ltb-false s.place (block_length s.kind) u, start_block_length s.kind k)))))))
  where
    P : Step → Type 0
    P o = o.answer ≡ 0 → (o.state.place ≡ 24) × (o.state.digits ≡ no_digits) × (o.state.header.minute ≡ minute_in (with_digit s.digits 15 b))

waiting_of : (s : State) → is_possible s ≡ true → are_waiting s ≡ true
waiting_of s h = (possible_facts s h).waiting

pub waiting_claim : WaitingClaim
waiting_claim =
    record {
      above = λ s i l. by_test (is_possible s) (λ h. absurd (omega (arith, l, small_at s.digits (small_always s (waiting_of s h)) i))) (λ h. h);
      elsewhere = λ s i n e. by_test (is_possible s) (λ h. absurd (n (zero_there s (waiting_of s h) e i))) (λ h. h);
      nothing_more = λ s k l m h. row_2_digits s ∙ ap (λ t. is_possible (with_digits s no_digits) && t) (waits_there s k l m (all_small s.digits h)) ∙ and-true (is_possible (with_digits s no_digits));
      taken = time_taken;
      returned = λ s g r p l. waiting_so (ask s g r).state (digits_wait s g r p l);
    }

-- ---- the header's minute

-- no start text is under way where no kind is read
no_start : {A : Type 0} → is_start_kind 0 ≡ true → A
unfolding is_start_kind is_kind part_of kinds
no_start h = never refl h

begun_minute : (q : ℕ) → (begun_header q).minute ≡ pos 0
unfolding begun_header
begun_minute q = refl

enter_minute : (h : Header) (ds : List ℕ) (i b : ℕ) → i ≤ 22 → (enter_header h ds i b).minute ≡ h.minute
unfolding enter_header
enter_minute h ds i b l =
    by_if P (eqb i 3) (λ _. refl)
    (λ _. by_if P (eqb i 4) (λ _. refl)
    (λ _. by_if P (eqb i 5) (λ _. refl)
    (λ _. by_if P (eqb i 6) (λ _. refl)
    (λ _. by_if P (eqb i 7) (λ _. refl)
    (λ _. rw (le-leb i 22 l) refl)))))
  where
    P : Header → Type 0
    P g = g.minute ≡ h.minute

module _ (s : State) (g w : List ℕ) (b : ℕ) (waits : MinuteWaits s) where
  abbrev Kept : Step → Type 0
  Kept o = MinuteWaits o.state

  opened_minute : Kept (opened s g w)
  unfolding opened
  opened_minute = by_if Kept (eqb s.place 0) (λ _ k l. no_start k) (λ _ k l. no_start k)

  gap_minute : Kept (gap_byte s g w b)
  unfolding gap_byte
  gap_minute = by_if Kept (eqb s.part 0) (λ _ k l. no_start k) (λ _. by_if Kept (eqb b (due_byte s.seen)) (λ _ k l. no_start k) (λ _ k l. no_start k))

  picture_minute : Kept (picture_byte s g w b)
  unfolding picture_byte
  picture_minute =
      by_if Kept (not (is_picture_code b)) (λ _ k l. no_start k) (λ _. by_if Kept (not (is_marked s.marks b)) (λ _ k l. no_start k) (λ _ k l. no_start k))

  kind_minute : Kept (kind_byte s g w b)
  unfolding kind_byte
  kind_minute =
      by_if Kept (not (is_kind b)) (λ _ k l. no_start k)
      (λ _. by_if Kept (is_start_kind b) (λ _. by_if Kept (eqb s.part 0) (λ _ k l. begun_minute s.picture) (λ _ k l. begun_minute s.picture))
      (λ other. by_if Kept (eqb s.part 0) (λ _ k l. no_start k)
      (λ _. by_if Kept (not (eqb b (kind_of s.part s.due))) (λ _ k l. no_start k)
      (λ _. by_if Kept (eqb s.picture s.header.picture) (λ _ k l. never other k) (λ _ k l. no_start k)))))

  block_minute : Kept (block_byte s g w b)
  unfolding block_byte
  block_minute =
      by_if Kept (takes_byte s.kind s.header s.digits s.place b)
      (λ _ k l. rw k (enter_minute s.header s.digits s.place b (omega (arith, l)) ∙ waits k (omega (arith, l))))
      (λ _ k l. no_start k)

  -- behind the block, a start text has its time
  behind_minute : block_length s.kind ≤ s.place → is_start_kind s.kind ≡ true → suc s.place ≤ 23 → s.header.minute ≡ pos 0
  behind_minute far k l = absurd (omega (arith, far, l, start_block_length s.kind k))

  last_minute : Kept (last_byte s g w b)
  unfolding last_byte
  last_minute =
      by_if Kept (not (eqb b TPAD)) (λ _ k l. no_start k)
      (λ _. by_if Kept (is_start_kind s.kind) (λ _ k l. no_start k)
      (λ _. by_if Kept (is_end_kind s.kind) (λ _. by_if Kept (mode_is_highest s.header s.modes) (λ _ k l. no_start k) (λ _ k l. no_start k)) (λ _ k l. no_start k)))

  placed_minute : Kept (placed_byte s g w b)
  unfolding placed_byte eor_byte checked_byte
  placed_minute =
      by_if Kept (eqb s.place 0) (λ _. gap_minute)
      (λ _. by_if Kept (eqb s.place 1) (λ _. picture_minute)
      (λ _. by_if Kept (eqb s.place 2) (λ _. kind_minute)
      (λ _. by_if Kept (ltb s.place (block_length s.kind)) (λ _. block_minute)
      (λ u. let far = ltb-false s.place (block_length s.kind) u in
      by_if Kept (eqb s.place (block_length s.kind)) (λ _. by_if Kept (eqb b EOR) (λ _. behind_minute far) (λ _ k l. no_start k))
      (λ _. by_if Kept (eqb s.place (suc (block_length s.kind))) (λ _. by_if Kept (eqb b s.check) (λ _. behind_minute far) (λ _ k l. no_start k)) (λ _. last_minute))))))

pub step_minute : (s : State) (g : List ℕ) (b : ℕ) → MinuteWaits s → MinuteWaits (step s g b).state
unfolding step
step_minute s g b h =
    by_if (λ (o : Step). MinuteWaits o.state) (ends_opening s.seen b) (λ _. opened_minute s g (push s.seen b) b h)
    (λ _. placed_minute s g (push s.seen b) b h)

steps_minute : (bytes : List ℕ) (s : State) (g : List ℕ) → MinuteWaits s → MinuteWaits (state_after s g bytes)
unfolding state_after
steps_minute [] s g h = h
steps_minute (b ∷ bytes) s g h = steps_minute bytes (step s g b).state (step s g b).grid (step_minute s g b h)

pub minute_waits : (n : ℕ) (calls : List Call) → MinuteWaits (received n calls).state
minute_waits n calls =
    subst MinuteWaits (sym (calls_stepped n calls).state) (steps_minute (received n calls).taken (fresh n) empty_grid (λ k l. no_start k))
