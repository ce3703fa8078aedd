-- A start text leads every machine, from whatever state, to the same state: the way back. Assumes nothing.
use mathlib.Core.Path.{◌≡◌, refl, sym, ap, ap₂, ◌∙◌, subst, subst₂}
use mathlib.Core.Logic.{◌≢◌}
use mathlib.Core.Bool.{true, false}
use mathlib.Core.List.{List, [], ◌∷◌, ◌++◌}
use Prim.Native.Nat.{ℕ, suc, ◌+◌, ◌≤◌, ◌<◌}
use native.Mathlib.Nat.{add-zero}
use native.Mathlib.Omega.{arith}
use lib.Dec.{eqb}
use lib.ListN.{length, take}
use borrow.Author.Tests.{eq-eqb, eqb-true, eqb-false}
use Rattle.text.specs.Text.{STX, FD, EOR, TPAD, control_a, xor_all, check_byte}
use Rattle.general_laws.proofs.Tests.{by_test, never, by_if}
use Rattle.receiver_spec.specs.Seen.{push, ends_opening}
use Rattle.receiver_spec.specs.Receiver.{◌⊕◌, BEGUN}
use Rattle.receiver_spec.proofs.Machine.{Rules, Machine, Out, mk, answering, opens, at_picture, at_kind, in_block, at_eor, at_check, at_last, placed, move, run, AllQuiet, quiet_none, quiet_byte, BlockContents, contents_end, contents_byte, block, most}
use Rattle.receiver_spec.proofs.Opening.{only_fd, only_stx, control_opens, pushes, seen_control, seen_opening, seen_kind}
use Rattle.receiver_spec.proofs.Steps.{RuleLaws, xor_cons, xor_nil, check_is, run_append, quiet_run, quiet_append, move_seen, move_block, move_eor, move_check, move_last}

-- the check byte of a block, as it runs on from its first three bytes
abbrev pub check_at3 : ℕ → ℕ → ℕ
check_at3 q k = (FD ⊕ q) ⊕ k

pub running : (q k : ℕ) (xs : List ℕ) → check_at3 q k ⊕ xor_all xs ≡ xor_all (FD ∷ q ∷ k ∷ xs)
unfolding ◌⊕◌ xor_all
running q k xs = xor_cons (FD ⊕ q) k xs ∙ xor_cons FD q (k ∷ xs)

pub checked : (q k : ℕ) (xs : List ℕ) → (check_at3 q k ⊕ xor_all xs) ⊕ EOR ≡ check_byte (FD ∷ q ∷ k ∷ xs)
checked q k xs = ap (λ x. x ⊕ EOR) (running q k xs) ∙ sym (check_is (FD ∷ q ∷ k ∷ xs))

module _ (R : Rules) (L : RuleLaws R) where
  open R use {Held, blank, is_picture, is_kind, is_start, is_end, long, due_kind, part_of, picture_of, begin, takes, enter, settle, first_due, next_due, closes}

  pub picture_not_fd : (q : ℕ) → is_picture q ≡ true → q ≢ FD
  picture_not_fd q h e = never L.fd_picture (sym (ap is_picture e) ∙ h)

  pub kind_not_fd : (k : ℕ) → is_kind k ≡ true → k ≢ FD
  kind_not_fd k h e = never L.fd_kind (sym (ap is_kind e) ∙ h)

  -- a block byte that keeps its rule
  pub take_byte : (w : List ℕ) (i k q p d x : ℕ) (c : Held) (b : ℕ) → ends_opening w b ≡ false → 3 ≤ i → i < long k → takes k c i b ≡ true
      → move R (mk R w i k q p d x c) b ≡ answering R 0 (mk R (push w b) (suc i) k q p d (x ⊕ b) (enter k c i b))
  unfolding in_block
  take_byte w i k q p d x c b n a l h = move_block R w i k q p d x c b n a l ∙ rw h

  -- the bytes of a block from byte i on
  pub body_quiet : {k : ℕ} {c e : Held} {i : ℕ} {xs : List ℕ} (q p d x y : ℕ) (w : List ℕ) → BlockContents R k c i xs e → 3 ≤ i → i + length xs ≤ long k
      → (takes k c i FD ≡ true → y ≢ STX)
      → AllQuiet R (mk R (y ∷ w) i k q p d x c) xs (mk R (pushes (y ∷ w) xs) (i + length xs) k q p d (x ⊕ xor_all xs) e)
  body_quiet {k} {c} {i} q p d x y w contents_end h l f = rw (add-zero i, xor_nil x) quiet_none
  body_quiet {k} {e} {i} q p d x y w (contents_byte {c} {x = b} {xs} g r) h l f =
      let shut : ends_opening (y ∷ w) b ≡ false =
      by_test (eqb b FD) (λ t. only_stx y w b (f (subst (λ v. takes k c i v ≡ true) (eqb-true b FD t) g))) (λ t. only_fd (y ∷ w) b (eqb-false b FD t)) in
      let far : suc i + length xs ≡ i + suc (length xs) = omega arith in
      quiet_byte (take_byte (y ∷ w) i k q p d x c b shut h (omega arith) g)
      (subst₂ (λ n z. AllQuiet R (mk R (push (y ∷ w) b) (suc i) k q p d (x ⊕ b) (enter k c i b)) xs (mk R (pushes (push (y ∷ w) b) xs) n k q p d z e)) far (xor_cons x b xs)
      (body_quiet q p d (x ⊕ b) b (take 4 (y ∷ w)) r (omega arith) (omega arith) (λ t s. never (L.fd_after k i c (subst (λ v. takes k c i v ≡ true) s g)) (subst (λ v. takes k (enter k c i v) (suc i) FD ≡ true) s t))))

  -- EOR and check byte
  pub take_eor : (w : List ℕ) (k q p d x : ℕ) (c : Held) → 3 ≤ long k
      → move R (mk R w (long k) k q p d x c) EOR ≡ answering R 0 (mk R (push w EOR) (suc (long k)) k q p d (x ⊕ EOR) c)
  unfolding at_eor
  take_eor w k q p d x c h = move_eor R w (long k) k q p d x c EOR (only_fd w EOR (λ e. omega arith)) h refl

  pub take_check : (w : List ℕ) (k q p d x : ℕ) (c : Held) → 3 ≤ long k
      → move R (mk R (EOR ∷ w) (suc (long k)) k q p d x c) x ≡ answering R 0 (mk R (push (EOR ∷ w) x) (suc (suc (long k))) k q p d x c)
  unfolding at_check
  take_check w k q p d x c h =
      move_check R (EOR ∷ w) (suc (long k)) k q p d x c x (only_stx EOR w x (λ e. omega arith)) h refl ∙ rw (eq-eqb x x refl)

  -- the bytes seen before a text's last byte
  abbrev pub seen_check : ℕ → ℕ → List ℕ → List ℕ
  seen_check q k xs = push (push (pushes (seen_kind q k) xs) EOR) (check_byte (FD ∷ q ∷ k ∷ xs))

  -- from the kind to the last byte but one
  pub block_quiet : {k : ℕ} {c e : Held} {xs : List ℕ} (q p d : ℕ) → is_kind k ≡ true → 3 + length xs ≡ long k → BlockContents R k c 3 xs e
      → AllQuiet R (mk R (seen_kind q k) 3 k q p d (check_at3 q k) c) (xs ++ (EOR ∷ check_byte (FD ∷ q ∷ k ∷ xs) ∷ []))
      (mk R (seen_check q k xs) (suc (suc (long k))) k q p d (check_byte (FD ∷ q ∷ k ∷ xs)) e)
  block_quiet {k} {c} {e} {xs} q p d hk l r =
      let z = check_byte (FD ∷ q ∷ k ∷ xs) in
      let w = pushes (seen_kind q k) xs in
      quiet_append R
      (subst₂ (λ n y. AllQuiet R (mk R (seen_kind q k) 3 k q p d (check_at3 q k) c) xs (mk R w n k q p d y e)) l refl
      (body_quiet q p d (check_at3 q k) k _ r (omega arith) (omega arith) (λ t. never (L.fd_first k c hk) t)))
      (quiet_byte (take_eor w k q p d (check_at3 q k ⊕ xor_all xs) e (L.long_3 k hk) ∙ ap (λ x. answering R 0 (mk R (push w EOR) (suc (long k)) k q p d x e)) (checked q k xs))
      (quiet_byte (take_check (take 4 w) k q p d z e (L.long_3 k hk)) quiet_none))

  -- the opening, from any state
  open_from : (m : Machine R) → m.seen ≡ seen_control → (p : ℕ) × (d : ℕ) × (c : Held) × ((move R m FD).machine ≡ mk R seen_opening 1 0 0 p d FD c)
  unfolding move opens
  open_from m e =
      rw (e, control_opens)
      (by_if (λ (o : Out R). (p : ℕ) × (d : ℕ) × (c : Held) × (o.machine ≡ mk R seen_opening 1 0 0 p d FD c)) (eqb m.place 0)
      (λ _. (m.part, m.due, m.held, refl)) (λ _. (0, 0, blank, refl)))

  pub any_open : (m : Machine R) → (p : ℕ) × (d : ℕ) × (c : Held) × (run R m (control_a ++ (FD ∷ [])) ≡ mk R seen_opening 1 0 0 p d FD c)
  unfolding run
  any_open m = open_from (run R m control_a) (simp move_seen)

  pub take_picture : (p d q : ℕ) (c : Held) → is_picture q ≡ true → move R (mk R seen_opening 1 0 0 p d FD c) q ≡ answering R 0 (mk R (push seen_opening q) 2 0 q p d (FD ⊕ q) c)
  unfolding move placed at_picture
  take_picture p d q c h = rw (only_fd seen_opening q (picture_not_fd q h), h)

  pub take_start : (p d q k : ℕ) (c : Held) → is_start k ≡ true
      → (a : ℕ) × (b : Held) × (move R (mk R (push seen_opening q) 2 0 q p d (FD ⊕ q) c) k ≡ answering R a (mk R (seen_kind q k) 3 k q 0 0 (check_at3 q k) (begin q b))) × (a ≢ 3)
  unfolding move placed at_kind
  take_start p d q k c h =
      let g : is_kind k ≡ true = L.start_kind k h in
      rw (only_fd (push seen_opening q) k (kind_not_fd k g), g, h)
      (by_if (λ (o : Out R). (a : ℕ) × (b : Held) × (o ≡ answering R a (mk R (seen_kind q k) 3 k q 0 0 (check_at3 q k) (begin q b))) × (a ≢ 3)) (eqb p 0)
      (λ _. (0, c, refl, λ e. omega arith)) (λ _. (15, blank, refl, λ e. omega arith)))

  pub take_last : (w : List ℕ) (k q p d x : ℕ) (c : Held) → 3 ≤ long k
      → move R (mk R w (suc (suc (long k))) k q p d x c) TPAD ≡ at_last R (mk R w (suc (suc (long k))) k q p d x c) (push w TPAD) TPAD
  take_last w k q p d x c h = move_last R w (suc (suc (long k))) k q p d x c TPAD (only_fd w TPAD (λ e. omega arith)) h refl

  -- what a start text leaves, whatever stood before
  abbrev pub after_start : ℕ → ℕ → List ℕ → Held → Machine R
  after_start q k xs e = mk R (push (seen_check q k xs) TPAD) 0 0 0 (part_of k) (first_due k e) 0 (settle e)

  pub start_run : {q k : ℕ} {xs : List ℕ} {e : Held} → is_picture q ≡ true → is_start k ≡ true → 3 + length xs ≡ long k → BlockContents R k (begin q blank) 3 xs e
      → (m : Machine R) → move R (run R m (most R (block R q k xs))) TPAD ≡ answering R BEGUN (after_start q k xs e)
  unfolding run most at_last
  start_run {q} {k} {xs} {e} hq hk l r m =
      let known = L.start_kind k hk in
      let z = check_byte (FD ∷ q ∷ k ∷ xs) in
      let o = any_open m in
      let g = take_start o.0 o.1 q k o.2 hk in
      let b = L.begin_any k q blank g.1 e xs hk r in
      ap (λ t. move R t TPAD)
      (run_append R m (control_a ++ (FD ∷ [])) (q ∷ k ∷ (xs ++ (EOR ∷ z ∷ [])))
      ∙ ap (λ t. run R t (q ∷ k ∷ (xs ++ (EOR ∷ z ∷ [])))) o.3
      ∙ ap (λ t. run R t.machine (k ∷ (xs ++ (EOR ∷ z ∷ [])))) (take_picture o.0 o.1 q o.2 hq)
      ∙ ap (λ t. run R t.machine (xs ++ (EOR ∷ z ∷ []))) g.2
      ∙ quiet_run R (block_quiet q 0 0 known l b.1))
      ∙ take_last (seen_check q k xs) k q 0 0 z b.0 (L.long_3 k known)
      ∙ rw hk (ap₂ (λ x y. answering R BEGUN (mk R (push (seen_check q k xs) TPAD) 0 0 0 (part_of k) x 0 y)) (sym b.3) (sym b.2))

  -- from a start text's last byte on, it makes no difference what came before it
  pub way_back_lem : {q k : ℕ} {xs : List ℕ} {e : Held} → is_picture q ≡ true → is_start k ≡ true → 3 + length xs ≡ long k → BlockContents R k (begin q blank) 3 xs e
      → (m n : Machine R) → move R (run R m (most R (block R q k xs))) TPAD ≡ move R (run R n (most R (block R q k xs))) TPAD
  way_back_lem hq hk l r m n = start_run hq hk l r m ∙ sym (start_run hq hk l r n)
