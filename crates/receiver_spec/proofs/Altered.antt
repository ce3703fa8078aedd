-- A whole part with one or more bytes altered, at most one in each text and none to `FD`, is never called complete.
--
-- The machine is followed byte by byte and text by text. Up to the first altered text nothing is lost. Where its altered byte breaks
-- the frame or a rule, the machine drops or begins no text; where it does not, the check byte no longer fits, or the text is not the
-- due one. No opening ends in what is left of the text, but for one: an EOR altered to `02` may stand behind 16 16 16 10, before a
-- check byte `FD`; the TPAD, which is in the same text and so as it was, is no picture code then. Behind the altered text the machine
-- is idle: no text is under way and no part open. It stays so to the part's end, since no other text, as it was or altered in one byte,
-- is a start text. Assumes nothing.
use mathlib.Core.Path.{◌≡◌, refl, sym, ap, ap₂, ◌∙◌, subst}
use mathlib.Core.Logic.{◌⊎◌, inl, inr, ◌≢◌}
use mathlib.Core.Bool.{true, false, not}
use mathlib.Core.List.{List, [], ◌∷◌, ◌++◌, append_assoc, append-nil, head-eq_of_cons-eq, tail-eq_of_cons-eq}
use Prim.Native.Nat.{ℕ, suc, ◌+◌, ◌≤◌, ◌<◌}
use native.Mathlib.Nat.{add-zero}
use native.Mathlib.Omega.{arith}
use lib.Dec.{T, T_not, eqb, ltb}
use lib.ListN.{length, take}
use borrow.Author.Tests.{ltb-true, ltb-false, eqb-true, not-false, eq-eqb, ne_eqb}
use Rattle.general_laws.specs.Bytes.{same}
use Rattle.text.specs.Text.{LPAD, SYN, DLE, STX, FD, EOR, TPAD, control_a, opening, xor_all, check_byte, text_of}
use Rattle.text.specs.Part.{AlteredTo, here, there}
use Rattle.general_laws.proofs.Tests.{by_test, never, by_if}
use Rattle.text_laws.proofs.Framing.{altered_length, altered_parts, altered_xor}
use Rattle.receiver_spec.specs.Alterations.{AtMostOneAltered, as_it_was, one_altered, AlteredTexts, no_text, next_text}
use Rattle.receiver_spec.specs.Seen.{push, ends_opening, due_byte}
use Rattle.receiver_spec.specs.Receiver.{◌⊕◌, BEGUN, TAKEN}
use Rattle.receiver_spec.proofs.Machine.{Rules, Machine, Out, mk, answering, lost, new, opens, in_gap, at_picture, at_kind, in_block, at_eor, at_check, at_last, placed, move, run, BlockContents, contents_end, contents_byte, block, most, text, Open, begun, more, Whole, whole, open_blocks, whole_blocks, text_same}
use Rattle.receiver_spec.proofs.Opening.{only_fd, only_stx, differs, opening_seen, pushes, seen_control, seen_opening, seen_kind}
use Rattle.receiver_spec.proofs.Steps.{RuleLaws, Free, free0, free1, xor_cons, xor_nil, cancel_left, cancel_right, move_block, move_eor, move_check, move_last, NotComplete, stop, go, not_complete_append}
use Rattle.receiver_spec.proofs.WayBack.{check_at3, checked, picture_not_fd, kind_not_fd, take_byte, take_eor, take_check, seen_check, take_picture, take_start, take_last}
use Rattle.receiver_spec.proofs.Completing.{due_control, open_some, gap_1, gap_2, gap_3, gap_4, gap_5, take_opening, take_due}

-- ---- what came of texts, text by text

-- some texts, and others behind them
altered_behind : {bytes : List ℕ} (front rear : List (List ℕ)) → AlteredTexts (front ++ rear) bytes
    → (us : List ℕ) × (vs : List ℕ) × (bytes ≡ us ++ vs) × AlteredTexts front us × AlteredTexts rear vs
altered_behind {bytes} [] rear a = ([], bytes, refl, no_text, a)
altered_behind (block ∷ front) rear (next_text {bytes = text} t a) =
    let (us, vs, e, x, y) = altered_behind front rear a in
    (text ++ us, vs, ap (λ t. text ++ t) e ∙ sym (append_assoc text us vs), next_text t x, y)

-- one text
altered_alone : {bytes : List ℕ} (block : List ℕ) → AlteredTexts (block ∷ []) bytes → AtMostOneAltered (text_of block) bytes
altered_alone block (next_text {bytes = text} t no_text) = rw (append-nil text) t

-- ---- bytes in which no opening ends

pub data Quiet : List ℕ → List ℕ → Type 0 where
  quiet0 : {w : List ℕ} → Quiet w []
  quiet1 : {w : List ℕ} {x : ℕ} {xs : List ℕ} → ends_opening w x ≡ false → Quiet (push w x) xs → Quiet w (x ∷ xs)

free_quiet : {xs : List ℕ} (w : List ℕ) → Free FD xs → Quiet w xs
free_quiet w free0 = quiet0
free_quiet w (free1 {x} n f) = quiet1 (only_fd w x n) (free_quiet (push w x) f)

quiet_append : {w xs ys : List ℕ} → Quiet w xs → Quiet (pushes w xs) ys → Quiet w (xs ++ ys)
quiet_append quiet0 r = r
quiet_append (quiet1 e q) r = quiet1 e (quiet_append q r)

free_altered : {v : ℕ} {xs ys : List ℕ} → v ≢ FD → Free FD xs → AlteredTo v xs ys → Free FD ys
free_altered {v = v} {ys = ys} n free0 x5 = elim x5 [ ]
free_altered n (free1 h r) (here f) = free1 n r
free_altered n (free1 h r) (there a) = free1 h (free_altered n r a)

-- the three bytes behind a block
abbrev pub closing : ℕ → List ℕ
closing z = EOR ∷ z ∷ TPAD ∷ []

closing_quiet : (w : List ℕ) (z : ℕ) → Quiet w (closing z)
closing_quiet w z =
    quiet1 (only_fd w EOR (λ e. omega arith))
    (quiet1 (only_stx EOR (take 4 w) z (λ e. omega arith)) (quiet1 (only_fd (push (push w EOR) z) TPAD (λ e. omega arith)) quiet0))

no_opening : (w : List ℕ) (b : ℕ) → T (not (eqb b FD)) → ends_opening w b ≡ false
no_opening w b t = only_fd w b (λ e. T_not (eqb b FD) t (subst T (sym (eq-eqb b FD e)) tt))

-- nor in the five control bytes
control_free : Free FD control_a
control_free =
    free1 {x = LPAD} (λ e. omega arith)
    (free1 {x = SYN} (λ e. omega arith) (free1 {x = SYN} (λ e. omega arith) (free1 {x = DLE} (λ e. omega arith) (free1 {x = STX} (λ e. omega arith) free0))))

-- an opening with one byte altered opens nothing
module _ (rest : List ℕ) (quiet_rest : (w : List ℕ) → Quiet w rest) where
  broken_1 : (y : ℕ) (w : List ℕ) → y ≢ LPAD → Quiet (y ∷ w) (SYN ∷ SYN ∷ DLE ∷ STX ∷ FD ∷ rest)
  broken_1 y w n =
      quiet1 (no_opening _ SYN tt)
      (quiet1 (no_opening _ SYN tt)
      (quiet1 (no_opening _ DLE tt)
      (quiet1 (no_opening _ STX tt) (quiet1 (differs (STX ∷ DLE ∷ SYN ∷ SYN ∷ y ∷ []) FD 4 n) (quiet_rest _)))))

  broken_2 : (y : ℕ) (w : List ℕ) → y ≢ SYN → Quiet (y ∷ w) (SYN ∷ DLE ∷ STX ∷ FD ∷ rest)
  broken_2 y w n =
      quiet1 (no_opening _ SYN tt)
      (quiet1 (no_opening _ DLE tt)
      (quiet1 (no_opening _ STX tt) (quiet1 (differs (STX ∷ DLE ∷ SYN ∷ y ∷ take 1 (take 2 (take 3 w))) FD 3 n) (quiet_rest _))))

  broken_3 : (y : ℕ) (w : List ℕ) → y ≢ SYN → Quiet (y ∷ w) (DLE ∷ STX ∷ FD ∷ rest)
  broken_3 y w n =
      quiet1 (no_opening _ DLE tt) (quiet1 (no_opening _ STX tt) (quiet1 (differs (STX ∷ DLE ∷ y ∷ take 2 (take 3 w)) FD 2 n) (quiet_rest _)))

  broken_4 : (y : ℕ) (w : List ℕ) → y ≢ DLE → Quiet (y ∷ w) (STX ∷ FD ∷ rest)
  broken_4 y w n = quiet1 (no_opening _ STX tt) (quiet1 (differs (STX ∷ y ∷ take 3 w) FD 1 n) (quiet_rest _))

  broken_5 : (y : ℕ) (w : List ℕ) → y ≢ STX → Quiet (y ∷ w) (FD ∷ rest)
  broken_5 y w n = quiet1 (only_stx y w FD n) (quiet_rest _)

module _ (R : Rules) (L : RuleLaws R) where
  open R use {Held, blank, is_picture, no_picture, is_kind, is_start, is_end, long, due_kind, part_of, picture_of, begin, takes, enter, settle, first_due, next_due, closes}

  not_complete_never : {s u : Machine R} (h : List ℕ) (b : ℕ) (t : List ℕ) → NotComplete R s (h ++ (b ∷ t)) u → (move R (run R s h) b).answer ≢ 3
  unfolding run
  not_complete_never [] b t (go e n c) f = n (sym (ap (λ o. o.answer) e) ∙ f)
  not_complete_never {s = s} {u = u} (x ∷ h) b t (go {n = n'} {a = a} e n c) f =
      not_complete_never {s = n'} h b t c (sym (ap (λ o. (move R (run R o.machine h) b).answer) e) ∙ f)

  -- no text under way and no part open
  abbrev idle : List ℕ → Held → Machine R
  idle w c = mk R w 0 0 0 0 0 0 c

  -- none of these bytes is answered complete, and behind them the machine is idle
  abbrev IdleAfter : Machine R → List ℕ → Type 0
  IdleAfter m xs = (w : List ℕ) × (c : Held) × NotComplete R m xs (idle w c)

  idle_go : {m n : Machine R} {a b : ℕ} {xs : List ℕ} → move R m b ≡ answering R a n → a ≢ 3 → IdleAfter n xs → IdleAfter m (b ∷ xs)
  idle_go e n (w, c, k) = (w, c, go e n k)

  idle_behind : {s t : Machine R} {xs ys : List ℕ} → NotComplete R s xs t → IdleAfter t ys → IdleAfter s (xs ++ ys)
  idle_behind k (w, c, d) = (w, c, not_complete_append R k d)

  idle_append : {s : Machine R} {xs ys : List ℕ} → IdleAfter s xs → ((w : List ℕ) (c : Held) → IdleAfter (idle w c) ys) → IdleAfter s (xs ++ ys)
  idle_append (w, c, k) f = idle_behind k (f w c)

  other : (a : ℕ) → T (not (eqb a 3)) → a ≢ 3
  other a h e = T_not (eqb a 3) h (subst T (sym (eq-eqb a 3 e)) tt)

  -- with no part open, bytes that open nothing are free
  pub idle_move : (w : List ℕ) (b : ℕ) (c : Held) → ends_opening w b ≡ false → move R (idle w c) b ≡ answering R 0 (idle (push w b) c)
  unfolding move placed in_gap
  idle_move w b c e = rw e

  not_complete_quiet : (w : List ℕ) {xs : List ℕ} (c : Held) → Quiet w xs → NotComplete R (idle w c) xs (idle (pushes w xs) c)
  not_complete_quiet w c quiet0 = stop
  not_complete_quiet w c (quiet1 {x} e q) = go (idle_move w x c e) (other 0 tt) (not_complete_quiet (push w x) c q)

  idle_quiet : (w : List ℕ) {xs : List ℕ} (c : Held) → Quiet w xs → IdleAfter (idle w c) xs
  idle_quiet w {xs} c q = (pushes w xs, c, not_complete_quiet w c q)

  -- an opening
  idle_opening : (w : List ℕ) (c : Held) → NotComplete R (idle w c) opening (mk R seen_opening 1 0 0 0 0 FD c)
  idle_opening w c = not_complete_append R (not_complete_quiet w {xs = control_a} c (free_quiet w control_free)) (go (take_opening R L 0 0 c) (other 0 tt) stop)

  -- ---- bytes that break a rule

  bad_byte : (w : List ℕ) (i k q p d x : ℕ) (c : Held) (b : ℕ) → ends_opening w b ≡ false → 3 ≤ i → i < long k → takes k c i b ≡ false
      → move R (mk R w i k q p d x c) b ≡ answering R 18 (lost R (push w b))
  unfolding in_block
  bad_byte w i k q p d x c b n a l h = move_block R w i k q p d x c b n a l ∙ rw h

  module _ (w : List ℕ) (k q p d x : ℕ) (c : Held) (b : ℕ) (n : ends_opening w b ≡ false) (three : 3 ≤ long k) where
    bad_eor : b ≢ EOR → move R (mk R w (long k) k q p d x c) b ≡ answering R 19 (lost R (push w b))
    unfolding at_eor
    bad_eor f = move_eor R w (long k) k q p d x c b n three refl ∙ rw (ne_eqb b EOR f)

    bad_check : b ≢ x → move R (mk R w (suc (long k)) k q p d x c) b ≡ answering R 20 (lost R (push w b))
    unfolding at_check
    bad_check f = move_check R w (suc (long k)) k q p d x c b n three refl ∙ rw (ne_eqb b x f)

    bad_last : b ≢ TPAD → move R (mk R w (suc (suc (long k))) k q p d x c) b ≡ answering R 21 (lost R (push w b))
    unfolding at_last
    bad_last f = move_last R w (suc (suc (long k))) k q p d x c b n three refl ∙ rw (ne_eqb b TPAD f)

  -- ---- a block under way that cannot be taken to its end: its check byte does not fit, or it is too long for its kind and has no EOR

  under : (ys w : List ℕ) (i k q p d x z : ℕ) (c : Held) → Quiet w (ys ++ closing z) → is_kind k ≡ true → 3 ≤ i → i ≤ long k → long k ≤ i + length ys
      → (long k < i + length ys → Free EOR ys) → (i + length ys ≡ long k → z ≢ (x ⊕ xor_all ys) ⊕ EOR) → IdleAfter (mk R w i k q p d x c) (ys ++ closing z)
  under [] w i k q p d x z c (quiet1 n1 (quiet1 n2 (quiet1 n3 quiet0))) hk h3 a b f g =
      let e : long k ≡ i = omega arith in
      subst (λ j. IdleAfter (mk R w j k q p d x c) (closing z)) e
      (idle_go (take_eor R L w k q p d x c (L.long_3 k hk)) (other 0 tt)
      (idle_go (bad_check (push w EOR) k q p d (x ⊕ EOR) c z n2 (L.long_3 k hk) (λ t. g (omega arith) (t ∙ ap (λ y. y ⊕ EOR) (sym (xor_nil x))))) (other 20 tt)
      (idle_quiet _ blank (quiet1 n3 quiet0))))
  under (y ∷ ys) w i k q p d x z c (quiet1 n qt) hk h3 a b f g =
      by_test (ltb i (long k))
      (λ e. let l : i < long k = ltb-true i (long k) e in
      by_test (takes k c i y)
      (λ t. idle_go (take_byte R L w i k q p d x c y n h3 l t) (other 0 tt)
      (under ys (push w y) (suc i) k q p d (x ⊕ y) z (enter k c i y) qt hk (omega arith) (omega arith) (omega arith)
      (λ m. free_tail (f (omega arith))) (λ m t. g (omega arith) (t ∙ ap (λ v. v ⊕ EOR) (xor_cons x y ys)))))
      (λ t. idle_go (bad_byte w i k q p d x c y n h3 l t) (other 18 tt) (idle_quiet _ blank qt)))
      (λ e. let e' : long k ≡ i = omega (arith, ltb-false i (long k) e) in
      subst (λ j. IdleAfter (mk R w j k q p d x c) (y ∷ (ys ++ closing z))) e'
      (idle_go (bad_eor w k q p d x c y n (L.long_3 k hk) (free_head (f (omega arith)))) (other 19 tt) (idle_quiet _ blank qt)))
    where
      free_head : {v u : ℕ} {us : List ℕ} → Free v (u ∷ us) → u ≢ v
      free_head (free1 n r) = n

      free_tail : {v u : ℕ} {us : List ℕ} → Free v (u ∷ us) → Free v us
      free_tail (free1 n r) = r

  -- ---- a byte other than TPAD completes nothing

  -- a record, so that the machine's tests are met one by one
  record Plain (o : Out R) : Type 0 where
    unended : o.answer ≢ 3

  no_3 : {o : Out R} → T (not (eqb o.answer 3)) → Plain o
  no_3 {o} t = record { unended = other o.answer t }

  plain_kind : (m : Machine R) (b : ℕ) → Plain (at_kind R m (push m.seen b) b)
  unfolding at_kind
  plain_kind m b =
      by_if Plain (not (is_kind b)) (λ _. no_3 tt)
      (λ _. by_if Plain (is_start b) (λ _. by_if Plain (eqb m.part 0) (λ _. no_3 tt) (λ _. no_3 tt))
      (λ _. by_if Plain (eqb m.part 0) (λ _. no_3 tt)
      (λ _. by_if Plain (not (eqb b (due_kind m.part m.due))) (λ _. no_3 tt)
      (λ _. by_if Plain (eqb m.picture (picture_of m.held)) (λ _. no_3 tt) (λ _. no_3 tt)))))

  plain_move : (m : Machine R) (b : ℕ) → b ≢ TPAD → Plain (move R m b)
  unfolding move opens placed in_gap at_picture in_block at_eor at_check at_last
  plain_move m b nf =
      by_if Plain (ends_opening m.seen b) (λ _. by_if Plain (eqb m.place 0) (λ _. no_3 tt) (λ _. no_3 tt))
      (λ _. by_if Plain (eqb m.place 0)
      (λ _. by_if Plain (eqb m.part 0) (λ _. no_3 tt) (λ _. by_if Plain (eqb b (due_byte m.seen)) (λ _. no_3 tt) (λ _. no_3 tt)))
      (λ _. by_if Plain (eqb m.place 1) (λ _. by_if Plain (is_picture b) (λ _. no_3 tt) (λ _. record { unended = L.no_picture_lem b }))
      (λ _. by_if Plain (eqb m.place 2) (λ _. plain_kind m b)
      (λ _. by_if Plain (ltb m.place (long m.kind)) (λ _. by_if Plain (takes m.kind m.held m.place b) (λ _. no_3 tt) (λ _. no_3 tt))
      (λ _. by_if Plain (eqb m.place (long m.kind)) (λ _. by_if Plain (eqb b EOR) (λ _. no_3 tt) (λ _. no_3 tt))
      (λ _. by_if Plain (eqb m.place (suc (long m.kind))) (λ _. by_if Plain (eqb b m.check) (λ _. no_3 tt) (λ _. no_3 tt))
      (λ _. by_if Plain (not (eqb b TPAD)) (λ _. no_3 tt) (λ e. absurd (nf (eqb-true b TPAD (not-false _ e)))))))))))

  pub plain : (m : Machine R) (b : ℕ) → b ≢ TPAD → (move R m b).answer ≢ 3
  plain m b nf = (plain_move m b nf).unended

  -- ---- picture code and kind

  pub bad_picture : (p d q : ℕ) (c : Held) → q ≢ FD → is_picture q ≡ false → move R (mk R seen_opening 1 0 0 p d FD c) q ≡ answering R (no_picture q) (lost R (push seen_opening q))
  unfolding move placed at_picture
  bad_picture p d q c n h = rw (only_fd seen_opening q n, h)

  module _ (p d q k : ℕ) (c : Held) (n : k ≢ FD) where
    abbrev before_kind : Machine R
    before_kind = mk R (push seen_opening q) 2 0 q p d (FD ⊕ q) c

    abbrev Drops : Out R → Type 0
    Drops o = (a : ℕ) × (o ≡ answering R a (lost R (push (push seen_opening q) k))) × (a ≢ 3)

    lone_kind : is_start k ≡ false → p ≡ 0 → Drops (move R before_kind k)
    unfolding move placed at_kind
    lone_kind h e =
        rw (only_fd (push seen_opening q) k n, h, eq-eqb p 0 e) (by_if Drops (not (is_kind k)) (λ _. (14, refl, other 14 tt)) (λ _. (16, refl, other 16 tt)))

    other_kind : is_start k ≡ false → p ≢ 0 → (k ≢ due_kind p d) ⊎ (q ≢ picture_of c) → Drops (move R before_kind k)
    unfolding move placed at_kind
    other_kind h e f =
        rw (only_fd (push seen_opening q) k n, h, ne_eqb p 0 e)
        (by_if Drops (not (is_kind k)) (λ _. (14, refl, other 14 tt))
        (λ _. by_if Drops (not (eqb k (due_kind p d))) (λ _. (16, refl, other 16 tt))
        (λ ek. by_if Drops (eqb q (picture_of c)) (λ eq. absurd (both f (eqb-true _ _ (not-false _ ek)) (eqb-true _ _ eq))) (λ _. (17, refl, other 17 tt)))))
      where
        both : {A B : Type 0} → (¬ A) ⊎ (¬ B) → A → B → ⊥
        both (inl f) a b = f a
        both (inr f) a b = f b

  -- ---- no opening ends in what is left of a text

  body_quiet : {k : ℕ} {c e : Held} {xs : List ℕ} → is_kind k ≡ true → BlockContents R k c 3 xs e → (w : List ℕ) → Quiet w xs
  body_quiet {k} {c} {e} {xs} hk r w = split (L.fd_places k c e xs hk r)
    where
      split : Free FD xs ⊎ ((vs : List ℕ) × (xs ≡ 0 ∷ FD ∷ vs) × Free FD vs) → Quiet w xs
      split (inl f) = free_quiet w f
      split (inr (vs, e, f)) = rw e (quiet1 (no_opening w 0 tt) (quiet1 (only_stx 0 (take 4 w) FD (λ e. omega arith)) (free_quiet _ f)))

  pub tail_quiet : {k : ℕ} {c e : Held} {xs : List ℕ} → is_kind k ≡ true → BlockContents R k c 3 xs e → (w : List ℕ) (z : ℕ) → Quiet w (xs ++ closing z)
  tail_quiet hk r w z = quiet_append (body_quiet hk r w) (closing_quiet _ z)

  altered_quiet : {v k : ℕ} {c e : Held} {xs ys : List ℕ} (q : ℕ) → v ≢ FD → is_kind k ≡ true → is_picture q ≡ true → BlockContents R k c 3 xs e → AlteredTo v xs ys → Quiet (seen_kind q k) ys
  altered_quiet {v} {k} {c} {e} {xs} {ys} q nv hk hq r a = split (L.fd_places k c e xs hk r)
    where
      not_syn : q ≢ SYN
      not_syn e = never L.syn_picture (sym (ap is_picture e) ∙ hq)

      second : {vs us : List ℕ} → Free FD vs → AlteredTo v (0 ∷ FD ∷ vs) us → Quiet (seen_kind q k) us
      second f (here n) = quiet1 (only_fd (seen_kind q k) v nv) (quiet1 (differs (v ∷ k ∷ q ∷ FD ∷ STX ∷ []) FD 2 not_syn) (free_quiet _ f))
      second f (there (here n)) = free_quiet _ (free1 (λ e. omega arith) (free1 nv f))
      second f (there (there a)) = quiet1 (no_opening _ 0 tt) (quiet1 (only_stx 0 _ FD (λ e. omega arith)) (free_quiet _ (free_altered nv f a)))

      split : Free FD xs ⊎ ((vs : List ℕ) × (xs ≡ 0 ∷ FD ∷ vs) × Free FD vs) → Quiet (seen_kind q k) ys
      split (inl f) = free_quiet _ (free_altered nv f a)
      split (inr (vs, e, f)) = second f (subst (λ t. AlteredTo v t ys) e a)

  -- ---- a text with no byte altered

  not_complete_body : {k : ℕ} {c e : Held} {i : ℕ} {xs : List ℕ} (q p d x : ℕ) (w : List ℕ) → Quiet w xs → BlockContents R k c i xs e → 3 ≤ i → i + length xs ≤ long k
      → NotComplete R (mk R w i k q p d x c) xs (mk R (pushes w xs) (i + length xs) k q p d (x ⊕ xor_all xs) e)
  not_complete_body {k} {c} {i} q p d x w quiet0 contents_end h l = rw (add-zero i, xor_nil x) stop
  not_complete_body {k} {c} {e} {i} q p d x w (quiet1 n qt) (contents_byte {x = b} {xs} g r) h l =
      let far : suc i + length xs ≡ i + suc (length xs) = omega arith in
      go (take_byte R L w i k q p d x c b n h (omega arith) g) (other 0 tt)
      (subst (λ y. NotComplete R (mk R (push w b) (suc i) k q p d (x ⊕ b) (enter k c i b)) xs (mk R (pushes (push w b) xs) (i + suc (length xs)) k q p d y e)) (xor_cons x b xs)
      (subst (λ j. NotComplete R (mk R (push w b) (suc i) k q p d (x ⊕ b) (enter k c i b)) xs (mk R (pushes (push w b) xs) j k q p d ((x ⊕ b) ⊕ xor_all xs) e)) far
      (not_complete_body {c = enter k c i b} {i = suc i} q p d (x ⊕ b) (push w b) qt r (omega arith) (omega arith))))

  -- from the kind to the end of the block, and to the check byte
  module _ {k : ℕ} {c e : Held} {xs : List ℕ} (q p d : ℕ) (hk : is_kind k ≡ true) (l : 3 + length xs ≡ long k) (r : BlockContents R k c 3 xs e) where
    abbrev check_of : ℕ
    check_of = check_byte (block R q k xs)

    abbrev sum : ℕ
    sum = check_at3 q k ⊕ xor_all xs

    not_complete_block : NotComplete R (mk R (seen_kind q k) 3 k q p d (check_at3 q k) c) xs (mk R (pushes (seen_kind q k) xs) (long k) k q p d sum e)
    not_complete_block =
        subst (λ j. NotComplete R (mk R (seen_kind q k) 3 k q p d (check_at3 q k) c) xs (mk R (pushes (seen_kind q k) xs) j k q p d sum e)) l
        (not_complete_body q p d (check_at3 q k) (seen_kind q k) (body_quiet hk r (seen_kind q k)) r (omega arith) (omega arith))

    eor_move : move R (mk R (pushes (seen_kind q k) xs) (long k) k q p d sum e) EOR
        ≡ answering R 0 (mk R (push (pushes (seen_kind q k) xs) EOR) (suc (long k)) k q p d check_of e)
    eor_move =
        take_eor R L (pushes (seen_kind q k) xs) k q p d sum e (L.long_3 k hk)
        ∙ ap (λ x. answering R 0 (mk R (push (pushes (seen_kind q k) xs) EOR) (suc (long k)) k q p d x e)) (checked q k xs)

    check_move : move R (mk R (push (pushes (seen_kind q k) xs) EOR) (suc (long k)) k q p d check_of e) check_of
        ≡ answering R 0 (mk R (seen_check R L q k xs) (suc (suc (long k))) k q p d check_of e)
    check_move = take_check R L (take 4 (pushes (seen_kind q k) xs)) k q p d check_of e (L.long_3 k hk)

    not_complete_check : NotComplete R (mk R (seen_kind q k) 3 k q p d (check_at3 q k) c) (xs ++ (EOR ∷ check_of ∷ [])) (mk R (seen_check R L q k xs) (suc (suc (long k))) k q p d check_of e)
    not_complete_check = not_complete_append R not_complete_block (go eor_move (other 0 tt) (go check_move (other 0 tt) stop))

  -- ---- a text with a byte altered behind its kind

  -- two bytes with nothing under way: an opening may end on the check byte, and then the TPAD is no picture code
  two : (w : List ℕ) (z : ℕ) → IdleAfter (lost R w) (z ∷ TPAD ∷ [])
  two w z =
      by_test (ends_opening w z)
      (λ e. let six = opening_seen w z e in
      subst (λ t. IdleAfter (lost R t) (z ∷ TPAD ∷ [])) (sym (tail-eq_of_cons-eq six))
      (subst (λ y. IdleAfter (lost R seen_control) (y ∷ TPAD ∷ [])) (sym (head-eq_of_cons-eq six)) hit))
      (λ e. idle_quiet w blank (quiet1 e (quiet1 (no_opening _ TPAD tt) quiet0)))
    where
      hit : IdleAfter (lost R seen_control) (FD ∷ TPAD ∷ [])
      hit = idle_go (take_opening R L 0 0 blank) (other 0 tt) (idle_go (bad_picture 0 0 TPAD blank (λ e. omega arith) L.tpad_picture) (L.no_picture_lem TPAD) (idle_quiet _ blank quiet0))

  idle_block : {v k : ℕ} {c e : Held} {xs ys : List ℕ} (q p d : ℕ) → v ≢ FD → is_picture q ≡ true → is_kind k ≡ true → 3 + length xs ≡ long k → BlockContents R k c 3 xs e
      → AlteredTo v (xs ++ closing (check_byte (block R q k xs))) ys → IdleAfter (mk R (seen_kind q k) 3 k q p d (check_at3 q k) c) ys
  idle_block {v} {k} {c} {e} {xs} {ys} q p d nv hq hk l r a = split (altered_parts xs a)
    where
      z : ℕ
      z = check_byte (block R q k xs)

      w : List ℕ
      w = pushes (seen_kind q k) xs

      ends : {us : List ℕ} → AlteredTo v (closing z) us → IdleAfter (mk R w (long k) k q p d (check_at3 q k ⊕ xor_all xs) e) us
      ends (here n) =
          idle_go (bad_eor w k q p d (check_at3 q k ⊕ xor_all xs) e v (only_fd w v nv) (L.long_3 k hk) (λ f. n (sym f))) (other 19 tt) (two _ _)
      ends (there (here n)) =
          idle_go (eor_move q p d hk l r) (other 0 tt)
          (idle_go (bad_check (push w EOR) k q p d z e v (only_fd (push w EOR) v nv) (L.long_3 k hk) (λ f. n (sym f))) (other 20 tt)
          (idle_quiet _ blank (quiet1 (no_opening _ TPAD tt) quiet0)))
      ends (there (there (there x15))) = elim x15 [ ]
      ends (there (there (here n))) =
          idle_go (eor_move q p d hk l r) (other 0 tt)
          (idle_go (check_move q p d hk l r) (other 0 tt)
          (idle_go (bad_last (seen_check R L q k xs) k q p d z e v (only_fd (seen_check R L q k xs) v nv) (L.long_3 k hk) (λ f. n (sym f))) (other 21 tt) (idle_quiet _ blank quiet0)))

      split : ((us : List ℕ) × AlteredTo v xs us × (ys ≡ us ++ closing z)) ⊎ ((us : List ℕ) × AlteredTo v (closing z) us × (ys ≡ xs ++ us))
          → IdleAfter (mk R (seen_kind q k) 3 k q p d (check_at3 q k) c) ys
      split (inl (us, b, f)) =
          rw f
          (under us (seen_kind q k) 3 k q p d (check_at3 q k) z c (quiet_append (altered_quiet q nv hk hq r b) (closing_quiet _ _)) hk (omega arith) (L.long_3 k hk)
          (omega (arith, altered_length b)) (λ g. absurd (omega (arith, altered_length b)))
          (λ _ g. altered_xor b (cancel_left (check_at3 q k) (xor_all xs) (xor_all us) (cancel_right EOR _ _ (checked q k xs ∙ g)))))
      split (inr (us, b, f)) = rw f (idle_behind (not_complete_block q p d hk l r) (ends b))

  -- the same with nothing under way: the kind was not taken
  idle_tail : {v k : ℕ} {c e : Held} {xs ys : List ℕ} (q z : ℕ) → v ≢ FD → is_picture q ≡ true → is_kind k ≡ true → BlockContents R k c 3 xs e
      → AlteredTo v (xs ++ closing z) ys → IdleAfter (lost R (seen_kind q k)) ys
  idle_tail {v} {k} {xs} {ys} q z nv hq hk r a = split (altered_parts xs a)
    where
      ends : {us : List ℕ} (w : List ℕ) → AlteredTo v (closing z) us → IdleAfter (lost R w) us
      ends w (here n) = idle_go (idle_move w v blank (only_fd w v nv)) (other 0 tt) (two _ _)
      ends w (there (here n)) = idle_quiet w blank (quiet1 (no_opening w EOR tt) (quiet1 (only_fd _ v nv) (quiet1 (no_opening _ TPAD tt) quiet0)))
      ends w (there (there (there x15))) = elim x15 [ ]
      ends w (there (there (here n))) =
          idle_quiet w blank (quiet1 (no_opening w EOR tt) (quiet1 (only_stx EOR (take 4 w) z (λ e. omega arith)) (quiet1 (only_fd _ v nv) quiet0)))

      split : ((us : List ℕ) × AlteredTo v xs us × (ys ≡ us ++ closing z)) ⊎ ((us : List ℕ) × AlteredTo v (closing z) us × (ys ≡ xs ++ us)) → IdleAfter (lost R (seen_kind q k)) ys
      split (inl (us, b, f)) = rw f (idle_quiet _ blank (quiet_append (altered_quiet q nv hk hq r b) (closing_quiet _ _)))
      split (inr (us, b, f)) = rw f (idle_behind (not_complete_quiet _ blank (body_quiet hk r _)) (ends _ b))

  -- ---- a text with a byte altered behind its opening

  abbrev rest : ℕ → ℕ → List ℕ → List ℕ
  rest q k xs = q ∷ k ∷ (xs ++ closing (check_byte (block R q k xs)))

  text_is : (q k : ℕ) (xs : List ℕ) → text R (block R q k xs) ≡ opening ++ rest q k xs
  unfolding most
  text_is q k xs = simp append_assoc

  -- what a text is to the machine: with no part open a start text or another, with one open the due text; and that its block keeps its rules
  data Role (p d : ℕ) (c : Held) (q k : ℕ) (xs : List ℕ) : Type 0 where
    is_first : p ≡ 0 → is_start k ≡ true → ((c' : Held) → (e : Held) × BlockContents R k (begin q c') 3 xs e) → Role p d c q k xs
    is_lone : {c' e : Held} → p ≡ 0 → is_start k ≡ false → BlockContents R k c' 3 xs e → Role p d c q k xs
    is_next : {e : Held} → p ≢ 0 → is_start k ≡ false → k ≡ due_kind p d → q ≡ picture_of c → BlockContents R k c 3 xs e → Role p d c q k xs

  module _ (p d q k : ℕ) (xs : List ℕ) (c : Held) (hq : is_picture q ≡ true) (hk : is_kind k ≡ true) (l : 3 + length xs ≡ long k) where
    abbrev own_check : ℕ
    own_check = check_byte (block R q k xs)

    quiet_tail : Role p d c q k xs → (w : List ℕ) → Quiet w (xs ++ closing own_check)
    quiet_tail (is_first o s r) w = tail_quiet hk (r blank).1 w _
    quiet_tail (is_lone o s r) w = tail_quiet hk r w _
    quiet_tail (is_next o s due same r) w = tail_quiet hk r w _

    quiet_rest : Role p d c q k xs → (w : List ℕ) → Quiet w (rest q k xs)
    quiet_rest role w = quiet1 (only_fd w q (picture_not_fd R L q hq)) (quiet1 (only_fd (push w q) k (kind_not_fd R L k hk)) (quiet_tail role _))

    module _ {v : ℕ} (nv : v ≢ FD) where
      -- the picture code altered
      idle_picture : Role p d c q k xs → q ≢ v → IdleAfter (mk R seen_opening 1 0 0 p d FD c) (v ∷ k ∷ (xs ++ closing own_check))
      idle_picture role n =
          by_test (is_picture v)
          (λ e. idle_go (take_picture R L p d v c e) (other 0 tt) (kinds role))
          (λ e. idle_go (bad_picture p d v c nv e) (L.no_picture_lem v)
          (idle_quiet (push seen_opening v) blank (quiet1 (only_fd (push seen_opening v) k (kind_not_fd R L k hk)) (quiet_tail role (push (push seen_opening v) k)))))
        where
          kinds : Role p d c q k xs → IdleAfter (mk R (push seen_opening v) 2 0 v p d (FD ⊕ v) c) (k ∷ (xs ++ closing own_check))
          kinds (is_first o s r) =
              let (a, b, f, na) = take_start R L p d v k c s in
              idle_go f na
              (under xs (seen_kind v k) 3 k v 0 0 (check_at3 v k) own_check (begin v b) (quiet_tail role (seen_kind v k)) hk (omega arith) (L.long_3 k hk) (omega arith) (λ g. absurd (omega arith))
              (λ _ g. n (cancel_left FD q v (cancel_right k _ _ (cancel_right (xor_all xs) _ _ (cancel_right EOR _ _ (checked q k xs ∙ g)))))))
          kinds (is_lone o s r) =
              let (a, f, na) = lone_kind p d v k c (kind_not_fd R L k hk) s o in
              idle_go f na (idle_quiet _ blank (quiet_tail role (push (push seen_opening v) k)))
          kinds (is_next o s due same r) =
              let (a, f, na) = other_kind p d v k c (kind_not_fd R L k hk) s o (inr (λ g. n (same ∙ sym g))) in
              idle_go f na (idle_quiet _ blank (quiet_tail role (push (push seen_opening v) k)))

      -- the kind altered
      idle_kind : Role p d c q k xs → k ≢ v → IdleAfter (mk R seen_opening 1 0 0 p d FD c) (q ∷ v ∷ (xs ++ closing own_check))
      idle_kind role n =
          idle_go (take_picture R L p d q c hq) (other 0 tt)
          (by_test (is_start v)
          (λ e. let (a, b, f, na) = take_start R L p d q v c e in
          idle_go f na
          (under xs (seen_kind q v) 3 v q 0 0 (check_at3 q v) own_check (begin q b) (quiet_tail role (seen_kind q v)) (L.start_kind v e) (omega arith) (L.long_3 v (L.start_kind v e))
          (omega (arith, L.shortest v k e hk)) (λ g. longer role e g)
          (λ _ g. n (cancel_left (FD ⊕ q) k v (cancel_right (xor_all xs) _ _ (cancel_right EOR _ _ (checked q k xs ∙ g)))))))
          (λ e. others role e))
        where
          -- a text that is too long for a start text has payload in the place of its EOR
          longer : Role p d c q k xs → is_start v ≡ true → long v < 3 + length xs → Free EOR xs
          longer (is_first o s r) e g = absurd (omega (arith, L.shortest k v s (L.start_kind v e)))
          longer (is_lone {c'} {e = e'} o s r) e g = L.eor_places k c' e' xs hk s r
          longer (is_next {e = e'} o s due same r) e g = L.eor_places k c e' xs hk s r

          others : Role p d c q k xs → is_start v ≡ false → IdleAfter (mk R (push seen_opening q) 2 0 q p d (FD ⊕ q) c) (v ∷ (xs ++ closing own_check))
          others (is_first o s r) g =
              let (a, f, na) = lone_kind p d q v c nv g o in
              idle_go f na (idle_quiet _ blank (quiet_tail role (push (push seen_opening q) v)))
          others (is_lone o s r) g =
              let (a, f, na) = lone_kind p d q v c nv g o in
              idle_go f na (idle_quiet _ blank (quiet_tail role (push (push seen_opening q) v)))
          others (is_next o s due same r) g =
              let (a, f, na) = other_kind p d q v c nv g o (inl (λ t. n (due ∙ sym t))) in
              idle_go f na (idle_quiet _ blank (quiet_tail role (push (push seen_opening q) v)))

      idle_rest : {ys : List ℕ} → Role p d c q k xs → AlteredTo v (rest q k xs) ys → IdleAfter (mk R seen_opening 1 0 0 p d FD c) ys
      idle_rest role (here n) = idle_picture role n
      idle_rest role (there (here n)) = idle_kind role n
      idle_rest (is_first o s r) (there (there a)) =
          let (n, b, f, na) = take_start R L p d q k c s in
          idle_go (take_picture R L p d q c hq) (other 0 tt) (idle_go f na (idle_block q 0 0 nv hq hk l (r b).1 a))
      idle_rest (is_lone o s r) (there (there a)) =
          let (n, f, na) = lone_kind p d q k c (kind_not_fd R L k hk) s o in
          idle_go (take_picture R L p d q c hq) (other 0 tt) (idle_go f na (idle_tail q own_check nv hq hk r a))
      idle_rest (is_next o s due same r) (there (there a)) =
          idle_go (take_picture R L p d q c hq) (other 0 tt) (idle_go (take_due R L p d q k c o due hk s same) (other 0 tt) (idle_block q p d nv hq hk l r a))

  -- ---- a text with a byte of its opening altered

  module _ {v : ℕ} (nv : v ≢ FD) (tail : List ℕ) (quiet_tail : (w : List ℕ) → Quiet w tail) where
    flip : {a b : ℕ} → a ≢ b → b ≢ a
    flip n e = n (sym e)

    broken : {us : List ℕ} (w : List ℕ) → AlteredTo v opening us → Quiet w (us ++ tail)
    broken w (here n) = quiet1 (only_fd _ v nv) (broken_1 tail quiet_tail v _ (flip n))
    broken w (there (here n)) = quiet1 (no_opening _ LPAD tt) (quiet1 (only_fd _ v nv) (broken_2 tail quiet_tail v _ (flip n)))
    broken w (there (there (here n))) = quiet1 (no_opening _ LPAD tt) (quiet1 (no_opening _ SYN tt) (quiet1 (only_fd _ v nv) (broken_3 tail quiet_tail v _ (flip n))))
    broken w (there (there (there (here n)))) =
        quiet1 (no_opening _ LPAD tt) (quiet1 (no_opening _ SYN tt) (quiet1 (no_opening _ SYN tt) (quiet1 (only_fd _ v nv) (broken_4 tail quiet_tail v _ (flip n)))))
    broken w (there (there (there (there (here n))))) =
        quiet1 (no_opening _ LPAD tt)
        (quiet1 (no_opening _ SYN tt) (quiet1 (no_opening _ SYN tt) (quiet1 (no_opening _ DLE tt) (quiet1 (only_fd _ v nv) (broken_5 tail quiet_tail v _ (flip n))))))
    broken w (there (there (there (there (there (there {ys = ys} x30)))))) = elim x30 [ ]
    broken w (there (there (there (there (there (here n)))))) =
        quiet1 (no_opening _ LPAD tt)
        (quiet1 (no_opening _ SYN tt)
        (quiet1 (no_opening _ SYN tt) (quiet1 (no_opening _ DLE tt) (quiet1 (no_opening _ STX tt) (quiet1 (only_fd _ v nv) (quiet_tail _))))))

    module _ (p d : ℕ) (c : Held) (hp : p ≢ 0) where
      bad_gap : (w : List ℕ) (b : ℕ) → b ≢ FD → due_byte w ≢ b → move R (mk R w 0 0 0 p d 0 c) b ≡ answering R 12 (lost R (push w b))
      unfolding move placed in_gap
      bad_gap w b m n = rw (only_fd w b m, ne_eqb p 0 hp, ne_eqb b (due_byte w) (flip n))

      -- the altered byte is not the due one
      bad_due : (w : List ℕ) {x : ℕ} → due_byte w ≡ x → x ≢ v → move R (mk R w 0 0 0 p d 0 c) v ≡ answering R 12 (lost R (push w v))
      bad_due w e n = bad_gap w v nv (λ f. n (sym e ∙ f))

      due_end : due_byte seen_control ≡ FD
      unfolding due_byte same
      due_end = refl

      gap_broken : {us : List ℕ} (w : List ℕ) → AlteredTo v opening us → IdleAfter (mk R (TPAD ∷ w) 0 0 0 p d 0 c) (us ++ tail)
      gap_broken w (here n) = idle_go (bad_due (TPAD ∷ w) (due_control w).0 n) (other 12 tt) (idle_quiet _ blank (broken_1 tail quiet_tail v _ (flip n)))
      gap_broken w (there (here n)) =
          idle_go (gap_1 R L w p d c hp) (other 0 tt)
          (idle_go (bad_due (LPAD ∷ TPAD ∷ take 3 w) (due_control (take 3 w)).1 n) (other 12 tt) (idle_quiet _ blank (broken_2 tail quiet_tail v _ (flip n))))
      gap_broken w (there (there (here n))) =
          idle_go (gap_1 R L w p d c hp) (other 0 tt)
          (idle_go (gap_2 R L (take 3 w) p d c hp) (other 0 tt)
          (idle_go (bad_due (SYN ∷ LPAD ∷ TPAD ∷ take 2 (take 3 w)) (due_control (take 2 (take 3 w))).2 n) (other 12 tt) (idle_quiet _ blank (broken_3 tail quiet_tail v _ (flip n)))))
      gap_broken w (there (there (there (here n)))) =
          idle_go (gap_1 R L w p d c hp) (other 0 tt)
          (idle_go (gap_2 R L (take 3 w) p d c hp) (other 0 tt)
          (idle_go (gap_3 R L (take 2 (take 3 w)) p d c hp) (other 0 tt)
          (idle_go (bad_due (SYN ∷ SYN ∷ LPAD ∷ TPAD ∷ take 1 (take 2 (take 3 w))) (due_control (take 1 (take 2 (take 3 w)))).3 n) (other 12 tt)
          (idle_quiet _ blank (broken_4 tail quiet_tail v _ (flip n))))))
      gap_broken w (there (there (there (there (here n))))) =
          idle_go (gap_1 R L w p d c hp) (other 0 tt)
          (idle_go (gap_2 R L (take 3 w) p d c hp) (other 0 tt)
          (idle_go (gap_3 R L (take 2 (take 3 w)) p d c hp) (other 0 tt)
          (idle_go (gap_4 R L (take 1 (take 2 (take 3 w))) p d c hp) (other 0 tt)
          (idle_go (bad_due (DLE ∷ SYN ∷ SYN ∷ LPAD ∷ TPAD ∷ []) (due_control []).4 n) (other 12 tt) (idle_quiet _ blank (broken_5 tail quiet_tail v _ (flip n)))))))
      gap_broken w (there (there (there (there (there (there {ys = ys} x30)))))) = elim x30 [ ]
      gap_broken w (there (there (there (there (there (here n)))))) =
          idle_go (gap_1 R L w p d c hp) (other 0 tt)
          (idle_go (gap_2 R L (take 3 w) p d c hp) (other 0 tt)
          (idle_go (gap_3 R L (take 2 (take 3 w)) p d c hp) (other 0 tt)
          (idle_go (gap_4 R L (take 1 (take 2 (take 3 w))) p d c hp) (other 0 tt)
          (idle_go (gap_5 R L [] p d c hp) (other 0 tt) (idle_go (bad_due seen_control due_end n) (other 12 tt) (idle_quiet _ blank (quiet_tail _)))))))

  -- ---- parts

  gap_not_complete : (w : List ℕ) (p d : ℕ) (c : Held) → p ≢ 0 → NotComplete R (mk R (TPAD ∷ w) 0 0 0 p d 0 c) opening (mk R seen_opening 1 0 0 p d FD c)
  gap_not_complete w p d c hp =
      go (gap_1 R L w p d c hp) (other 0 tt)
      (go (gap_2 R L (take 3 w) p d c hp) (other 0 tt)
      (go (gap_3 R L (take 2 (take 3 w)) p d c hp) (other 0 tt)
      (go (gap_4 R L (take 1 (take 2 (take 3 w))) p d c hp) (other 0 tt)
      (go (gap_5 R L [] p d c hp) (other 0 tt) (go (take_opening R L p d c) (other 0 tt) stop)))))

  -- the texts of an open part, none altered
  not_complete_open : {ys : List ℕ} {p d : ℕ} {c : Held} → Open R ys p d c → (w : List ℕ) × NotComplete R (new R) ys (mk R (TPAD ∷ w) 0 0 0 p d 0 c)
  unfolding most at_last
  not_complete_open (begun {q} {k} {xs} {c} hq hk l r) =
      let known = L.start_kind k hk in
      let (n, b, f, na) = take_start R L 0 0 q k blank hk in
      let (e, r', y, x) = L.begin_any k q blank b c xs hk r in (
        take 4 (seen_check R L q k xs),
        not_complete_append R (not_complete_append R (idle_opening [] blank) (go (take_picture R L 0 0 q blank hq) (other 0 tt) (go f na (not_complete_check q 0 0 known l r'))))
            (go (take_last R L (seen_check R L q k xs) k q 0 0 (check_byte (block R q k xs)) e (L.long_3 k known)
            ∙ rw hk (ap₂ (λ s t. answering R BEGUN (mk R (push (seen_check R L q k xs) TPAD) 0 0 0 (part_of k) s 0 t)) (sym x) (sym y))) (other BEGUN tt) stop),
      )
  not_complete_open (more {ys} {p} {d} {k} {xs} {c} {e} o hq hk g n m l r) =
      let q = picture_of c in
      let (w, a) = not_complete_open o in (
        take 4 (seen_check R L q k xs),
        not_complete_append R a
            (not_complete_append R (not_complete_append R (gap_not_complete w p d c (open_some R L o))
            (go (take_picture R L p d q c hq) (other 0 tt) (go (take_due R L p d q k c (open_some R L o) hk g n refl) (other 0 tt) (not_complete_check q p d g l r))))
            (go (take_last R L (seen_check R L q k xs) k q p d (check_byte (block R q k xs)) e (L.long_3 k g) ∙ rw (n, m)) (other TAKEN tt) stop)),
      )

  -- an unaltered text that is no start, with nothing under way
  idle_text : {k : ℕ} {c e : Held} {xs : List ℕ} (q : ℕ) → is_picture q ≡ true → is_kind k ≡ true → is_start k ≡ false → BlockContents R k c 3 xs e → (w : List ℕ) (c' : Held)
      → IdleAfter (idle w c') (text R (block R q k xs))
  idle_text {k} {xs} q hq hk s r w c' =
      let (t, f, na) = lone_kind 0 0 q k c' (kind_not_fd R L k hk) s refl in
      subst (IdleAfter (idle w c')) (sym (text_is q k xs))
      (idle_behind (idle_opening w c') (idle_go (take_picture R L 0 0 q c' hq) (other 0 tt) (idle_go f na (idle_quiet _ blank (tail_quiet hk r _ _)))))

  module _ {v k : ℕ} {xs ys : List ℕ} (nv : v ≢ FD) (q : ℕ) (c : Held) (hq : is_picture q ≡ true) (hk : is_kind k ≡ true) (l : 3 + length xs ≡ long k) where
    -- a due text with a byte altered
    idle_due : (w : List ℕ) (p d : ℕ) → p ≢ 0 → Role p d c q k xs → AlteredTo v (text R (block R q k xs)) ys → IdleAfter (mk R (TPAD ∷ w) 0 0 0 p d 0 c) ys
    idle_due w p d hp role a = split (altered_parts opening (subst (λ t. AlteredTo v t ys) (text_is q k xs) a))
      where
        split : ((us : List ℕ) × AlteredTo v opening us × (ys ≡ us ++ rest q k xs)) ⊎ ((us : List ℕ) × AlteredTo v (rest q k xs) us × (ys ≡ opening ++ us)) → IdleAfter (mk R (TPAD ∷ w) 0 0 0 p d 0 c) ys
        split (inl (us, b, f)) = subst (IdleAfter (mk R (TPAD ∷ w) 0 0 0 p d 0 c)) (sym f) (gap_broken nv (rest q k xs) (quiet_rest p d q k xs c hq hk l role) p d c hp w b)
        split (inr (us, b, f)) = subst (IdleAfter (mk R (TPAD ∷ w) 0 0 0 p d 0 c)) (sym f) (idle_behind (gap_not_complete w p d c hp) (idle_rest p d q k xs c hq hk l nv role b))

    -- a text with a byte altered, with nothing under way
    idle_apart : (w : List ℕ) → Role 0 0 c q k xs → AlteredTo v (text R (block R q k xs)) ys → IdleAfter (idle w c) ys
    idle_apart w role a = split (altered_parts opening (subst (λ t. AlteredTo v t ys) (text_is q k xs) a))
      where
        split : ((us : List ℕ) × AlteredTo v opening us × (ys ≡ us ++ rest q k xs)) ⊎ ((us : List ℕ) × AlteredTo v (rest q k xs) us × (ys ≡ opening ++ us)) → IdleAfter (idle w c) ys
        split (inl (us, b, f)) = subst (IdleAfter (idle w c)) (sym f) (idle_quiet w c (broken nv (rest q k xs) (quiet_rest 0 0 q k xs c hq hk l role) w b))
        split (inr (us, b, f)) = subst (IdleAfter (idle w c)) (sym f) (idle_behind (idle_opening w c) (idle_rest 0 0 q k xs c hq hk l nv role b))

  -- ---- a part by its texts

  -- what came of the first texts of a part: all as they were, or the machine is idle
  abbrev AsSentOrIdle : List ℕ → List ℕ → Type 0
  AsSentOrIdle ys us = (us ≡ ys) ⊎ IdleAfter (new R) us

  -- the start text
  first_came : {q k : ℕ} {xs us : List ℕ} {c : Held} → is_picture q ≡ true → is_start k ≡ true → 3 + length xs ≡ long k → BlockContents R k (begin q blank) 3 xs c
      → AtMostOneAltered (text_of (block R q k xs)) us → AsSentOrIdle (text R (block R q k xs)) us
  first_came {q} {k} {xs} hq hk l r as_it_was = inl (sym (text_same R (block R q k xs)))
  first_came {q} {k} {xs} {us} {c} hq hk l r (one_altered {v} nv a) =
      inr (idle_apart nv q blank hq (L.start_kind k hk) l [] (is_first refl hk (λ c'. let (e, r', x, y) = L.begin_any k q blank c' c xs hk r in (e, r')))
      (subst (λ t. AlteredTo v t us) (sym (text_same R (block R q k xs))) a))

  -- one text more
  module _ {ys : List ℕ} {p d k : ℕ} {xs : List ℕ} {c e : Held} (o : Open R ys p d c) (hq : is_picture (picture_of c) ≡ true) (hk : k ≡ due_kind p d) (g : is_kind k ≡ true)
      (s : is_start k ≡ false) (l : 3 + length xs ≡ long k) (r : BlockContents R k c 3 xs e) where
    abbrev due_block : List ℕ
    due_block = block R (picture_of c) k xs

    text_came : {us vs : List ℕ} → AsSentOrIdle ys us → AtMostOneAltered (text_of due_block) vs → AsSentOrIdle (ys ++ text R due_block) (us ++ vs)
    text_came (inl f) as_it_was = inl (ap₂ (λ s t. s ++ t) f (sym (text_same R due_block)))
    text_came {vs} (inl f) (one_altered {v} nv a) =
        let (w, t) = not_complete_open o in
        let some = open_some R L o in
        inr (rw f (idle_behind t (idle_due nv (picture_of c) c hq g l w p d some (is_next some s hk refl r) (subst (λ t. AlteredTo v t vs) (sym (text_same R due_block)) a))))
    text_came (inr t) as_it_was = inr (rw (sym (text_same R due_block)) (idle_append t (λ w c'. idle_text (picture_of c) hq g s r w c')))
    text_came {vs} (inr t) (one_altered {v} nv a) =
        inr (idle_append t (λ w c'. idle_apart nv (picture_of c) c' hq g l w (is_lone refl s r) (subst (λ t. AlteredTo v t vs) (sym (text_same R due_block)) a)))

    next_came : {us : List ℕ} → ((vs : List ℕ) → AlteredTexts (open_blocks R o) vs → AsSentOrIdle ys vs) → AlteredTexts (open_blocks R o ++ (due_block ∷ [])) us → AsSentOrIdle (ys ++ text R due_block) us
    next_came {us} earlier a =
        let (vs, ws, f, x, y) = altered_behind (open_blocks R o) (due_block ∷ []) a in
        subst (AsSentOrIdle (ys ++ text R due_block)) (sym f) (text_came (earlier vs x) (altered_alone due_block y))

  open_came : {ys us : List ℕ} {p d : ℕ} {c : Held} (o : Open R ys p d c) → AlteredTexts (open_blocks R o) us → AsSentOrIdle ys us
  unfolding open_blocks
  open_came (begun {q} {k} {xs} hq hk l r) a = first_came hq hk l r (altered_alone (block R q k xs) a)
  open_came (more o hq hk g s m l r) a = next_came o hq hk g s l r (λ vs x. open_came o x) a

  -- A whole part of which some bytes are altered, at most one in each text: none of the bytes is answered complete
  pub altered_never : {ys us : List ℕ} {c : Held} (w : Whole R ys c) → AlteredTexts (whole_blocks R w) us → us ≢ ys
      → (h : List ℕ) (b : ℕ) (t : List ℕ) → us ≡ h ++ (b ∷ t) → (move R (run R (new R) h) b).answer ≢ 3
  unfolding whole_blocks
  altered_never {us} (whole o hq hk g s m l r z) a some h b t e = in_either some (next_came o hq hk g s l r (λ vs x. open_came o x) a)
    where
      in_either : {zs : List ℕ} → us ≢ zs → AsSentOrIdle zs us → (move R (run R (new R) h) b).answer ≢ 3
      in_either other (inl f) = absurd (other f)
      in_either other (inr (w, c, k)) = not_complete_never h b t (subst (λ x. NotComplete R (new R) x (idle w c)) e k)
