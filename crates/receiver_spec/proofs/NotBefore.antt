-- An undamaged part, given to a fresh receiver byte by byte, is not answered complete before its last byte. Assumes nothing.
use mathlib.Core.Path.{◌≡◌, refl, sym, ap, ◌∙◌}
use mathlib.Core.Logic.{◌≢◌}
use mathlib.Core.Bool.{true, false}
use mathlib.Core.List.{List, [], ◌∷◌, ◌++◌, append_assoc, map}
use Prim.Native.Nat.{ℕ, zero, suc, ◌+◌, ◌<◌}
use native.Mathlib.Omega.{arith}
use lib.ListN.{length, take, length-append}
use Rattle.general_laws.specs.Bytes.{◌!◌, same}
use Rattle.text.specs.Text.{TPAD, control_a, check_byte}
use Rattle.text.specs.Part.{UndamagedPart}
use Rattle.receiver_spec.specs.Seen.{ends_opening}
use Rattle.receiver_spec.specs.Marks.{marks_from}
use Rattle.receiver_spec.specs.State.{State, fresh, empty_grid}
use Rattle.receiver_spec.specs.Receiver.{BEGUN, TAKEN, step}
use Rattle.receiver_spec.specs.Calls.{byte, on_grid, singly, answers_of}
use Rattle.receiver_spec.specs.Demand3.{Marked}
use Rattle.receiver_spec.proofs.Machine.{Rules, Machine, Out, mk, new, in_gap, at_last, placed, move, AllQuiet, quiet_none, quiet_byte, BlockContents, block, most, Open, begun, more, Whole, whole}
use Rattle.receiver_spec.proofs.Opening.{seen_control}
use Rattle.receiver_spec.proofs.Steps.{RuleLaws, quiet_append, NotComplete, stop, go, not_complete_append}
use Rattle.receiver_spec.proofs.WayBack.{seen_check, take_last}
use Rattle.receiver_spec.proofs.Completing.{open_some, gap_1, gap_2, gap_3, gap_4, gap_5, start_quiet, due_quiet}
use Rattle.receiver_spec.proofs.Instance.{radar, machine, step_is_move, step_marks, radar_laws}
use Rattle.receiver_spec.proofs.WholeParts.{undamaged_whole}
use Rattle.receiver_spec.proofs.CallLists.{calls_stepped, singly_taken}

module _ (R : Rules) where
  -- bytes that are all answered 0
  pub quiet_not_complete : {m n : Machine R} {xs : List ℕ} → AllQuiet R m xs n → NotComplete R m xs n
  quiet_not_complete quiet_none = stop
  quiet_not_complete (quiet_byte e r) = go e (λ t. omega arith) (quiet_not_complete r)

module _ (R : Rules) (L : RuleLaws R) where
  open R use {Held, blank, is_picture, is_kind, is_start, long, due_kind, picture_of, begin}

  -- the five control bytes: given to a fresh machine, and behind a text of an open part
  new_control : AllQuiet R (new R) control_a (mk R seen_control 0 0 0 0 0 0 blank)
  unfolding move placed in_gap ends_opening same
  new_control = quiet_byte refl (quiet_byte refl (quiet_byte refl (quiet_byte refl (quiet_byte refl quiet_none))))

  gap_control : (w : List ℕ) (p d : ℕ) (c : Held) → p ≢ 0 → AllQuiet R (mk R (TPAD ∷ w) 0 0 0 p d 0 c) control_a (mk R seen_control 0 0 0 p d 0 c)
  gap_control w p d c h =
      quiet_byte (gap_1 R L w p d c h)
      (quiet_byte (gap_2 R L (take 3 w) p d c h)
      (quiet_byte (gap_3 R L (take 2 (take 3 w)) p d c h)
      (quiet_byte (gap_4 R L (take 1 (take 2 (take 3 w))) p d c h)
      (quiet_byte (gap_5 R L (take 0 (take 1 (take 2 (take 3 w)))) p d c h) quiet_none))))

  -- a text but for its last byte: a start text given to a fresh machine, and the due text of an open part
  start_most : {q k : ℕ} {xs : List ℕ} {e : Held} → is_picture q ≡ true → is_start k ≡ true → 3 + length xs ≡ long k → BlockContents R k (begin q blank) 3 xs e
      → AllQuiet R (new R) (most R (block R q k xs)) (mk R (seen_check R L q k xs) (suc (suc (long k))) k q 0 0 (check_byte (block R q k xs)) e)
  unfolding most
  start_most hq hk l r = quiet_append R new_control (start_quiet R L hq hk l r)

  pub due_most : {k : ℕ} {xs : List ℕ} {c e : Held} (w : List ℕ) (p d : ℕ) → p ≢ 0 → is_picture (picture_of c) ≡ true → k ≡ due_kind p d → is_kind k ≡ true → is_start k ≡ false
      → 3 + length xs ≡ long k → BlockContents R k c 3 xs e
      → let q = picture_of c in
      AllQuiet R (mk R (TPAD ∷ w) 0 0 0 p d 0 c) (most R (block R q k xs)) (mk R (seen_check R L q k xs) (suc (suc (long k))) k q p d (check_byte (block R q k xs)) e)
  unfolding most
  due_most {c} w p d hp hq hk g n l r = quiet_append R (gap_control w p d c hp) (due_quiet R L p d hp hq hk g n l r)

  -- the texts of an open part: the last byte of each is answered 1 or 2
  open_not_complete : {ys : List ℕ} {p d : ℕ} {c : Held} → Open R ys p d c → (w : List ℕ) × NotComplete R (new R) ys (mk R (TPAD ∷ w) 0 0 0 p d 0 c)
  unfolding at_last
  open_not_complete (begun {q} {k} {xs} {c} hq hk l r) = (
    take 4 (seen_check R L q k xs),
    not_complete_append R (quiet_not_complete R (start_most hq hk l r))
        (go {a = BEGUN} (take_last R L (seen_check R L q k xs) k q 0 0 (check_byte (block R q k xs)) c (L.long_3 k (L.start_kind k hk)) ∙ rw hk) (λ t. omega arith) stop),
  )
  open_not_complete (more {ys} {p} {d} {k} {xs} {c} {e} o hq hk g n v l r) =
      let q = picture_of c in
      let (w, before) = open_not_complete o in (
        take 4 (seen_check R L q k xs),
        not_complete_append R before
            (not_complete_append R (quiet_not_complete R (due_most w p d (open_some R L o) hq hk g n l r))
            (go {a = TAKEN} (take_last R L (seen_check R L q k xs) k q p d (check_byte (block R q k xs)) e (L.long_3 k g) ∙ rw (n, v)) (λ t. omega arith) stop)),
      )

  -- a whole part but for its last byte
  pub whole_not_complete : {zs : List ℕ} {e : Held} → Whole R zs e → (front : List ℕ) × (n : Machine R) × (zs ≡ front ++ (TPAD ∷ [])) × NotComplete R (new R) front n
  whole_not_complete (whole {ys} {p} {d} {k} {xs} {c} o hq hk g n v l r z) =
      let b = block R (picture_of c) k xs in
      let (w, before) = open_not_complete o in
      (ys ++ most R b, _, sym (append_assoc ys (most R b) (TPAD ∷ [])), not_complete_append R before (quiet_not_complete R (due_most w p d (open_some R L o) hq hk g n l r)))

-- ---- 01's receiver

module _ (marks : ℕ) where
  abbrev R : Rules
  R = radar marks

  -- the answers of its steps are those of the machine
  answers_not_complete : {m n : Machine R} {xs : List ℕ} → NotComplete R m xs n → (rest : List ℕ) (s : State) (g : List ℕ) → s.marks ≡ marks → machine marks s g ≡ m
      → (i : ℕ) → i < length xs → answers_of s g (xs ++ rest) ! i ≢ 3
  unfolding answers_of
  answers_not_complete stop rest s g k h i l = absurd (omega arith)
  answers_not_complete (go {b} e a r) rest s g k h zero l =
      λ t. a (sym (ap (λ (o : Out R). o.answer) (step_is_move marks s g b k ∙ ap (λ (x : Machine R). move R x b) h ∙ e)) ∙ t)
  answers_not_complete (go {b} e a r) rest s g k h (suc i) l =
      answers_not_complete r rest (step s g b).state (step s g b).grid (step_marks s g b ∙ k)
      (ap (λ (o : Out R). o.machine) (step_is_move marks s g b k ∙ ap (λ (x : Machine R). move R x b) h ∙ e)) i (omega arith)

-- a fresh receiver that is given an undamaged part one by one with the byte call does not answer complete before its last byte
pub not_before : (n : ℕ) (bytes : List ℕ) (u : UndamagedPart bytes) → Marked n u.part.start → (i : ℕ) → suc i < length bytes → (singly n bytes).said ! i ≢ 3
not_before n bytes u hm i l =
    let marks = marks_from n in
    let (front, last, e, h) = whole_not_complete (radar marks) (radar_laws marks) (undamaged_whole marks u hm) in
    let long : length bytes ≡ length front + 1 = ap length e ∙ length-append front (TPAD ∷ []) in
    let said : (singly n bytes).said ≡ answers_of (fresh n) empty_grid (front ++ (TPAD ∷ [])) =
    (calls_stepped n (map (λ b. on_grid (byte b)) bytes)).said ∙ ap (answers_of (fresh n) empty_grid) (singly_taken n bytes ∙ e) in
    λ t. answers_not_complete marks h (TPAD ∷ []) (fresh n) empty_grid refl refl i (omega arith) (ap (λ x. x ! i) (sym said) ∙ t)
