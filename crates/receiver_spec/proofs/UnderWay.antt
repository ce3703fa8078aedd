-- A text under way: what one byte does to it, and that it began with the last opening among the bytes taken. Assumes nothing.
use mathlib.Core.Path.{◌≡◌, refl, sym, ap, ◌∙◌, subst}
use mathlib.Core.Logic.{◌≢◌, ◌↔◌}
use mathlib.Core.Bool.{true, not}
use mathlib.Core.List.{List, [], ◌∷◌, ◌++◌, append_assoc}
use Prim.Native.Nat.{ℕ, suc, ◌+◌, ◌≤◌}
use native.Mathlib.Omega.{arith}
use lib.Dec.{eqb, ltb, lit≤}
use lib.ListN.{length, length-append}
use borrow.Author.Tests.{eqb-true, eqb-false, ltb-false, ne_eqb, le-ltb}
use Rattle.general_laws.specs.Bytes.{◌!◌, is_in}
use Rattle.text.specs.Text.{FD, EOR, TPAD, opening, check_byte}
use Rattle.text.specs.Pictures.{is_picture_code}
use Rattle.text.specs.Kinds.{is_kind, is_start_kind, is_end_kind, kind_of, block_length}
use Rattle.general_laws.proofs.Tests.{by_test, never, by_if}
use Rattle.receiver_spec.specs.Seen.{push, ends_opening, due_byte}
use Rattle.receiver_spec.specs.Marks.{is_marked, marks_from}
use Rattle.receiver_spec.specs.State.{State, fresh, empty_grid, is_possible}
use Rattle.receiver_spec.specs.Contents.{takes_byte}
use Rattle.receiver_spec.specs.Receiver.{Step, opened, gap_byte, picture_byte, kind_byte, block_byte, eor_byte, checked_byte, mode_is_highest, last_byte, placed_byte, step}
use Rattle.receiver_spec.specs.Calls.{state_after, grid_after}
use Rattle.receiver_spec.proofs.Machine.{Rules, Machine, run, new, most}
use Rattle.receiver_spec.proofs.Opening.{only_fd}
use Rattle.receiver_spec.proofs.Steps.{run_append}
use Rattle.receiver_spec.proofs.WayBack.{any_open}
use Rattle.receiver_spec.proofs.History.{Tail, idle, waiting, at_one, at_two, inside, after_eor, after_check, History, history, history_run}
use Rattle.receiver_spec.proofs.Instance.{radar, machine, radar_laws}
use Rattle.receiver_spec.proofs.Possible.{place_before_kind, place_after_kind, place_in_text}
use Rattle.receiver_spec.proofs.CallLists.{state_append}
use Rattle.receiver_spec.proofs.Theorem.{machine_after}

-- the place at which a text's last byte, its `FF`, is due
abbrev last_place : State → ℕ
last_place s = block_length s.kind + 2

-- ---- one byte more

-- With its kind read, a text goes on, ends with its last byte, or is dropped; row 22 comes at its last byte too
pub data TextMoves (s : State) (o : Step) : Type 0 where
  goes_on : o.answer ≡ 0 → o.state.place ≡ suc s.place → o.state.kind ≡ s.kind → TextMoves s o
  ends : 1 ≤ o.answer → o.answer ≤ 3 → s.place ≡ last_place s → o.state.place ≡ 0 → TextMoves s o
  dropped : 11 ≤ o.answer → (o.answer ≡ 22 → s.place ≡ last_place s) → o.state.kind ≡ 0 → TextMoves s o

module _ (s : State) (g w : List ℕ) (b : ℕ) (three : 3 ≤ s.place) (within : s.place ≤ last_place s) where
  abbrev M : Step → Type 0
  M = TextMoves s

  last_moves : s.place ≡ last_place s → M (last_byte s g w b)
  unfolding last_byte
  last_moves l =
      by_if M (not (eqb b TPAD)) (λ _. dropped (lit≤ tt) (λ _. l) refl)
      (λ _. by_if M (is_start_kind s.kind) (λ _. ends (lit≤ tt) (lit≤ tt) l refl)
      (λ _. by_if M (is_end_kind s.kind)
      (λ _. by_if M (mode_is_highest s.header s.modes) (λ _. ends (lit≤ tt) (lit≤ tt) l refl) (λ _. dropped (lit≤ tt) (λ _. l) refl))
      (λ _. ends (lit≤ tt) (lit≤ tt) l refl)))

  placed_moves : M (placed_byte s g w b)
  unfolding placed_byte block_byte eor_byte checked_byte
  placed_moves =
      by_if M (eqb s.place 0) (λ e. absurd (omega (arith, eqb-true s.place 0 e)))
      (λ _. by_if M (eqb s.place 1) (λ e. absurd (omega (arith, eqb-true s.place 1 e)))
      (λ _. by_if M (eqb s.place 2) (λ e. absurd (omega (arith, eqb-true s.place 2 e)))
      (λ _. by_if M (ltb s.place (block_length s.kind))
      (λ _. by_if M (takes_byte s.kind s.header s.digits s.place b) (λ _. goes_on refl refl refl) (λ _. dropped (lit≤ tt) (λ e. absurd (omega arith)) refl))
      (λ l. by_if M (eqb s.place (block_length s.kind))
      (λ _. by_if M (eqb b EOR) (λ _. goes_on refl refl refl) (λ _. dropped (lit≤ tt) (λ e. absurd (omega arith)) refl))
      (λ e. by_if M (eqb s.place (suc (block_length s.kind)))
      (λ _. by_if M (eqb b s.check) (λ _. goes_on refl refl refl) (λ _. dropped (lit≤ tt) (λ e. absurd (omega arith)) refl))
      (λ f. last_moves (omega (arith, within, ltb-false s.place (block_length s.kind) l, eqb-false s.place (block_length s.kind) e, eqb-false s.place (suc (block_length s.kind)) f))))))))

pub text_moves : (s : State) (g : List ℕ) (b : ℕ) → is_possible s ≡ true → s.kind ≢ 0 → TextMoves s (step s g b)
unfolding step opened
text_moves s g b p n =
    let a = place_after_kind s p n in
    by_if (TextMoves s) (ends_opening s.seen b)
    (λ _. by_if (TextMoves s) (eqb s.place 0) (λ e. absurd (omega (arith, a, eqb-true s.place 0 e))) (λ _. dropped (lit≤ tt) (λ e. absurd (omega arith)) refl))
    (λ _. placed_moves s g (push s.seen b) b a (place_in_text s p n))

-- The last byte is due exactly when `FF` ends the text, with answer 1, 2 or 3 or with row 22
abbrev last_answers : List ℕ
last_answers = 1 ∷ 2 ∷ 3 ∷ 22 ∷ []

last_answers_lem : (s : State) (g w : List ℕ) → is_in (last_byte s g w TPAD).answer last_answers ≡ true
unfolding last_byte is_in
last_answers_lem s g w =
    by_if Q (is_start_kind s.kind) (λ _. refl) (λ _. by_if Q (is_end_kind s.kind) (λ _. by_if Q (mode_is_highest s.header s.modes) (λ _. refl) (λ _. refl)) (λ _. refl))
  where
    Q : Step → Type 0
    Q o = is_in o.answer last_answers ≡ true

at_last : (s : State) (g : List ℕ) → 3 ≤ s.place → s.place ≡ last_place s → step s g TPAD ≡ last_byte s g (push s.seen TPAD) TPAD
unfolding step placed_byte
at_last s g three l =
    rw (
      only_fd s.seen TPAD (λ e. omega arith),
      ne_eqb s.place 0 (λ e. omega arith),
      ne_eqb s.place 1 (λ e. omega arith),
      ne_eqb s.place 2 (λ e. omega arith),
      le-ltb s.place (block_length s.kind) (omega arith),
      ne_eqb s.place (block_length s.kind) (λ e. omega arith),
      ne_eqb s.place (suc (block_length s.kind)) (λ e. omega arith),
    )

pub last_due : (s : State) (g : List ℕ) → is_possible s ≡ true → s.kind ≢ 0
    → (s.place ≡ last_place s) ↔ (is_in (step s g TPAD).answer last_answers ≡ true)
unfolding is_in
last_due s g p n = (
  λ l. subst (λ (o : Step). is_in o.answer last_answers ≡ true) (sym (at_last s g (place_after_kind s p n) l)) (last_answers_lem s g (push s.seen TPAD)),
  λ h. go (text_moves s g TPAD p n) h,
)
  where
    go : {o : Step} → TextMoves s o → is_in o.answer last_answers ≡ true → s.place ≡ last_place s
    go (goes_on z i k) h = never refl (subst (λ a. is_in a last_answers ≡ true) z h)
    go (ends a b l i) h = l
    go {o} (dropped a r k) h = r (among o.answer a h)
      where
        among : (a : ℕ) → 11 ≤ a → is_in a last_answers ≡ true → a ≡ 22
        among a l h =
            by_test (eqb a 22) (λ t. eqb-true a 22 t)
            (λ t. never refl (rw (ne_eqb a 1 (λ e. omega arith), ne_eqb a 2 (λ e. omega arith), ne_eqb a 3 (λ e. omega arith), t) at h))

-- With no kind read no text ends: a byte answered 1, 2 or 3 finds a text under way
module _ (s : State) (g w : List ℕ) (b : ℕ) where
  abbrev No : Step → Type 0
  No o = 1 ≤ o.answer → o.answer ≤ 3 → ⊥

  gap_no : No (gap_byte s g w b)
  unfolding gap_byte
  gap_no = by_if No (eqb s.part 0) (λ _ l _. omega arith) (λ _. by_if No (eqb b (due_byte s.seen)) (λ _ l _. omega arith) (λ _ _ l. omega arith))

  picture_no : No (picture_byte s g w b)
  unfolding picture_byte
  picture_no =
      by_if No (not (is_picture_code b)) (λ _ _ l. omega arith) (λ _. by_if No (not (is_marked s.marks b)) (λ _ _ l. omega arith) (λ _ l _. omega arith))

  kind_no : No (kind_byte s g w b)
  unfolding kind_byte
  kind_no =
      by_if No (not (is_kind b)) (λ _ _ l. omega arith)
      (λ _. by_if No (is_start_kind b) (λ _. by_if No (eqb s.part 0) (λ _ l _. omega arith) (λ _ _ l. omega arith))
      (λ _. by_if No (eqb s.part 0) (λ _ _ l. omega arith)
      (λ _. by_if No (not (eqb b (kind_of s.part s.due))) (λ _ _ l. omega arith)
      (λ _. by_if No (eqb s.picture s.header.picture) (λ _ l _. omega arith) (λ _ _ l. omega arith)))))

  placed_no : s.place ≤ 2 → No (placed_byte s g w b)
  unfolding placed_byte
  placed_no l =
      by_if No (eqb s.place 0) (λ _. gap_no)
      (λ i. by_if No (eqb s.place 1) (λ _. picture_no)
      (λ j. by_if No (eqb s.place 2) (λ _. kind_no)
      (λ k. absurd (omega (arith, l, eqb-false s.place 0 i, eqb-false s.place 1 j, eqb-false s.place 2 k)))))

pub ends_text : (s : State) (g : List ℕ) (b : ℕ) → is_possible s ≡ true → 1 ≤ (step s g b).answer → (step s g b).answer ≤ 3 → s.kind ≢ 0
unfolding step opened
ends_text s g b p one three none =
    let w = push s.seen b in
    by_if (No s g w b) (ends_opening s.seen b) (λ _. by_if (No s g w b) (eqb s.place 0) (λ _ l _. omega arith) (λ _ _ l. omega arith))
    (λ _. placed_no s g w b (place_before_kind s p none)) one three

-- ---- place

-- a byte more is at most a place more
step_place : (s : State) (g : List ℕ) (b : ℕ) → (step s g b).state.place ≤ suc s.place
unfolding step opened placed_byte gap_byte picture_byte kind_byte block_byte eor_byte checked_byte last_byte
step_place s g b =
    by_if P (ends_opening s.seen b) (λ _. by_if P (eqb s.place 0) (λ _. omega arith) (λ _. omega arith))
    (λ _. by_if P (eqb s.place 0)
    (λ _. by_if P (eqb s.part 0) (λ _. omega arith) (λ _. by_if P (eqb b (due_byte s.seen)) (λ _. omega arith) (λ _. omega arith)))
    (λ _. by_if P (eqb s.place 1)
    (λ e. by_if P (not (is_picture_code b)) (λ _. omega arith)
    (λ _. by_if P (not (is_marked s.marks b)) (λ _. omega arith) (λ _. omega (arith, eqb-true s.place 1 e))))
    (λ _. by_if P (eqb s.place 2) (λ e. kind (eqb-true s.place 2 e))
    (λ _. by_if P (ltb s.place (block_length s.kind))
    (λ _. by_if P (takes_byte s.kind s.header s.digits s.place b) (λ _. omega arith) (λ _. omega arith))
    (λ _. by_if P (eqb s.place (block_length s.kind)) (λ _. by_if P (eqb b EOR) (λ _. omega arith) (λ _. omega arith))
    (λ _. by_if P (eqb s.place (suc (block_length s.kind))) (λ _. by_if P (eqb b s.check) (λ _. omega arith) (λ _. omega arith))
    (λ _. last)))))))
  where
    P : Step → Type 0
    P o = o.state.place ≤ suc s.place

    kind : s.place ≡ 2 → P (kind_byte s g (push s.seen b) b)
    kind e =
        by_if P (not (is_kind b)) (λ _. omega arith)
        (λ _. by_if P (is_start_kind b) (λ _. by_if P (eqb s.part 0) (λ _. omega (arith, e)) (λ _. omega (arith, e)))
        (λ _. by_if P (eqb s.part 0) (λ _. omega arith)
        (λ _. by_if P (not (eqb b (kind_of s.part s.due))) (λ _. omega arith)
        (λ _. by_if P (eqb s.picture s.header.picture) (λ _. omega (arith, e)) (λ _. omega arith)))))

    last : P (last_byte s g (push s.seen b) b)
    last =
        by_if P (not (eqb b TPAD)) (λ _. omega arith)
        (λ _. by_if P (is_start_kind s.kind) (λ _. omega arith)
        (λ _. by_if P (is_end_kind s.kind) (λ _. by_if P (mode_is_highest s.header s.modes) (λ _. omega arith) (λ _. omega arith)) (λ _. omega arith)))

pub place_most : (bytes : List ℕ) (s : State) (g : List ℕ) → (state_after s g bytes).place ≤ s.place + length bytes
unfolding state_after
place_most [] s g = omega arith
place_most (b ∷ bytes) s g = omega (arith, place_most bytes (step s g b).state (step s g b).grid, step_place s g b)

-- ---- where the text under way began

-- Behind an opening came place - 1 bytes, the picture code and the kind first
pub record Began (s : State) (taken : List ℕ) : Type 0 where
  pub before : List ℕ
  pub behind : List ℕ
  pub split : taken ≡ before ++ (opening ++ behind)
  pub place : s.place ≡ suc (length behind)
  pub kind : s.kind ≡ behind ! 1

module _ (n : ℕ) where
  abbrev marks : ℕ
  marks = marks_from n

  abbrev R : Rules
  R = radar marks

  -- an opening is followed by place 1, whatever came before it
  opened_place : (before : List ℕ) → (state_after (fresh n) empty_grid (before ++ opening)).place ≡ 1
  opened_place before =
      ap (λ (m : Machine R). m.place)
      (machine_after marks (before ++ opening) (fresh n) empty_grid refl ∙ run_append R (new R) before opening ∙ (any_open R (radar_laws marks) (run R (new R) before)).3)

  -- so the place tells at most how many bytes came behind an opening, its `FD` counted
  pub since_opening : (before behind : List ℕ) → (state_after (fresh n) empty_grid (before ++ (opening ++ behind))).place ≤ suc (length behind)
  since_opening before behind =
      let e : state_after (fresh n) empty_grid (before ++ (opening ++ behind))
      ≡ state_after (state_after (fresh n) empty_grid (before ++ opening)) (grid_after (fresh n) empty_grid (before ++ opening)) behind
      = ap (state_after (fresh n) empty_grid) (sym (append_assoc before opening behind)) ∙ state_append (before ++ opening) behind (fresh n) empty_grid in
      subst (λ (t : State). t.place ≤ suc (length behind)) (sym e)
      (omega (arith, opened_place before, place_most behind (state_after (fresh n) empty_grid (before ++ opening)) (grid_after (fresh n) empty_grid (before ++ opening))))

  tail_began : (s : State) (g : List ℕ) {taken u : List ℕ} (z : List ℕ) → taken ≡ z ++ u → 3 ≤ s.place → Tail R (radar_laws marks) (machine marks s g) u → Began s taken
  unfolding most
  tail_began s g z e l (idle hp h0) = absurd (omega arith)
  tail_began s g z e l (waiting hp o gap) = absurd (omega arith)
  tail_began s g z e l (at_one hp x f) = absurd (omega arith)
  tail_began s g z e l (at_two hp q x f) = absurd (omega arith)
  tail_began s g z e l (inside {ys} {xs} hp h x u) =
      record { before = z ++ ys; behind = s.picture ∷ s.kind ∷ xs; split = e ∙ sym (append_assoc z ys _); place = omega arith; kind = refl }
  tail_began s g z e l (after_eor {ys} {xs} hp h x u) =
      record {
        before = z ++ ys;
        behind = s.picture ∷ s.kind ∷ (xs ++ (EOR ∷ []));
        split = e ∙ sym (append_assoc z ys _);
        place = omega (arith, length-append xs (EOR ∷ []));
        kind = refl;
      }
  tail_began s g z e l (after_check {ys} {xs} hp h u) =
      let end = EOR ∷ check_byte (FD ∷ s.picture ∷ s.kind ∷ xs) ∷ [] in
      record {
        before = z ++ ys;
        behind = s.picture ∷ s.kind ∷ (xs ++ end);
        split = e ∙ sym (append_assoc z ys _);
        place = omega (arith, length-append xs end);
        kind = refl;
      }

  pub began : (taken : List ℕ) → 3 ≤ (state_after (fresh n) empty_grid taken).place → Began (state_after (fresh n) empty_grid taken) taken
  began taken l =
      let (k, v) = history_run R (radar_laws marks) taken {h = []} (new R) (history [] [] refl (idle refl refl)) ([], refl) in
      go (subst (History R (radar_laws marks) taken) (sym (machine_after marks taken (fresh n) empty_grid refl)) k)
    where
      go : History R (radar_laws marks) taken (machine marks (state_after (fresh n) empty_grid taken) (grid_after (fresh n) empty_grid taken)) → Began (state_after (fresh n) empty_grid taken) taken
      go (history z u e t) = tail_began (state_after (fresh n) empty_grid taken) (grid_after (fresh n) empty_grid taken) z e l t
