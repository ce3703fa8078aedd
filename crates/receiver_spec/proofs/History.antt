-- What a machine's state tells of the bytes that came, and that it calls complete only what ends with a whole part.
--
-- The bytes so far end with a tail that the state describes: nothing, with no part open; an open part and some of an
-- opening; an opening behind an open part or behind nothing; that and the picture code; that, the kind and some of the
-- block; the whole block and the EOR; these and the check byte. Every move keeps this. Assumes nothing.
use mathlib.Core.Path.{◌≡◌, refl, sym, ap, ap₂, ◌∙◌, subst}
use mathlib.Core.Logic.{◌≢◌}
use mathlib.Core.Bool.{true, false, cond, not}
use mathlib.Core.List.{List, [], ◌∷◌, ◌++◌, append_assoc, append-nil, reverse, head-eq_of_cons-eq, tail-eq_of_cons-eq, nil≢cons, reverse-cons, reverse-append}
use Prim.Native.Nat.{ℕ, suc, ◌+◌, ◌≤◌, ◌<◌}
use native.Mathlib.Nat.{add-zero}
use native.Mathlib.Omega.{arith}
use lib.Dec.{eqb, ltb}
use lib.ListN.{length, take, drop, length-append, take-append-drop}
use borrow.Author.Tests.{ltb-true, ltb-false, eqb-true, eqb-false, not-false}
use Rattle.general_laws.specs.Bytes.{same}
use Rattle.text.specs.Text.{LPAD, SYN, DLE, FD, EOR, TPAD, control_a, opening, xor_all, check_byte}
use Rattle.general_laws.proofs.Tests.{by_test, never, by_if}
use Rattle.receiver_spec.specs.Seen.{push, opening_back, ends_opening, due_byte}
use Rattle.receiver_spec.specs.Receiver.{◌⊕◌, BEGUN, TAKEN}
use Rattle.receiver_spec.proofs.Machine.{Rules, Machine, Out, mk, answering, lost, new, opens, in_gap, at_picture, begins, at_kind, in_block, at_eor, at_check, at_last, placed, move, run, BlockContents, contents_end, contents_byte, block, most, text, Open, begun, more, Whole, whole}
use Rattle.receiver_spec.proofs.Opening.{opening_seen, control_opens, seen_control}
use Rattle.receiver_spec.proofs.Steps.{RuleLaws, xor_snoc, xor_nil, check_is, run_append, move_seen, move_block, move_eor, move_check, move_last}
use Rattle.receiver_spec.proofs.WayBack.{running, seen_check}
use Rattle.receiver_spec.proofs.Completing.{due_control, open_some, whole_run}

-- the bytes behind an open part's last text, and the bytes seen: some of an opening, and the TPAD before it
pub data Gap : List ℕ → List ℕ → Type 0 where
  gap0 : {w : List ℕ} → Gap [] (TPAD ∷ w)
  gap1 : {w : List ℕ} → Gap (LPAD ∷ []) (LPAD ∷ TPAD ∷ w)
  gap2 : {w : List ℕ} → Gap (LPAD ∷ SYN ∷ []) (SYN ∷ LPAD ∷ TPAD ∷ w)
  gap3 : {w : List ℕ} → Gap (LPAD ∷ SYN ∷ SYN ∷ []) (SYN ∷ SYN ∷ LPAD ∷ TPAD ∷ w)
  gap4 : {w : List ℕ} → Gap (LPAD ∷ SYN ∷ SYN ∷ DLE ∷ []) (DLE ∷ SYN ∷ SYN ∷ LPAD ∷ TPAD ∷ w)
  gap5 : Gap control_a seen_control

due_last : due_byte seen_control ≡ FD
unfolding due_byte same
due_last = refl

gap_next : {r w : List ℕ} (b : ℕ) → Gap r w → ends_opening w b ≡ false → b ≡ due_byte w → Gap (r ++ (b ∷ [])) (push w b)
gap_next b (gap0 {w}) o e = rw (e ∙ (due_control w).0) (gap1 {w = take 3 w})
gap_next b (gap1 {w}) o e = rw (e ∙ (due_control w).1) (gap2 {w = take 2 w})
gap_next b (gap2 {w}) o e = rw (e ∙ (due_control w).2) (gap3 {w = take 1 w})
gap_next b (gap3 {w}) o e = rw (e ∙ (due_control w).3) (gap4 {w = []})
gap_next b (gap4 {w}) o e = rw (e ∙ (due_control w).4) gap5
gap_next b gap5 o e = never o (ap (ends_opening seen_control) (e ∙ due_last) ∙ control_opens)

gap_full : {r w : List ℕ} → Gap r w → w ≡ seen_control → r ≡ control_a
gap_full gap0 e = absurd (omega (arith, head-eq_of_cons-eq e))
gap_full gap1 e = absurd (omega (arith, head-eq_of_cons-eq e))
gap_full gap2 e = absurd (omega (arith, head-eq_of_cons-eq e))
gap_full gap3 e = absurd (omega (arith, head-eq_of_cons-eq e))
gap_full gap4 e = absurd (omega (arith, head-eq_of_cons-eq e))
gap_full gap5 e = refl

-- a byte more behind lists
pub snoc_eq : (h z u : List ℕ) (b : ℕ) → h ≡ z ++ u → h ++ (b ∷ []) ≡ z ++ (u ++ (b ∷ []))
snoc_eq h z u b e = ap (λ x. x ++ (b ∷ [])) e ∙ append_assoc z u (b ∷ [])

pub snoc_inj : (xs ys : List ℕ) (a b : ℕ) → xs ++ (a ∷ []) ≡ ys ++ (b ∷ []) → (xs ≡ ys) × (a ≡ b)
snoc_inj [] [] a b e = (refl, head-eq_of_cons-eq e)
snoc_inj [] (y ∷ []) a b e = absurd (nil≢cons (tail-eq_of_cons-eq e))
snoc_inj [] (y ∷ (z ∷ ys)) a b e = absurd (nil≢cons (tail-eq_of_cons-eq e))
snoc_inj (x ∷ []) [] a b e = absurd (nil≢cons (sym (tail-eq_of_cons-eq e)))
snoc_inj (x ∷ (z ∷ xs)) [] a b e = absurd (nil≢cons (sym (tail-eq_of_cons-eq e)))
snoc_inj (x ∷ xs) (y ∷ ys) a b e =
    let (p, q) = snoc_inj xs ys a b (tail-eq_of_cons-eq e) in
    (ap₂ (λ u v. u ∷ v) (head-eq_of_cons-eq e) p, q)

module _ (R : Rules) (L : RuleLaws R) where
  open R use {Held, blank, is_picture, no_picture, is_kind, is_start, is_end, long, due_kind, part_of, picture_of, begin, takes, enter, settle, first_due, next_due, closes}

  contents_snoc : {k : ℕ} {c d : Held} {i : ℕ} {xs : List ℕ} (b : ℕ) → BlockContents R k c i xs d → takes k d (i + length xs) b ≡ true
      → BlockContents R k c i (xs ++ (b ∷ [])) (enter k d (i + length xs) b)
  contents_snoc {k} {c} {i} b contents_end h =
      subst (λ n. BlockContents R k c i (b ∷ []) (enter k c n b)) (sym (add-zero i)) (contents_byte (subst (λ n. takes k c n b ≡ true) (add-zero i) h) contents_end)
  contents_snoc {k} {c} {d} {i} b (contents_byte {x} {xs} g r) h =
      let far : suc i + length xs ≡ i + suc (length xs) = omega arith in
      contents_byte g (subst (λ n. BlockContents R k (enter k c i x) (suc i) (xs ++ (b ∷ [])) (enter k d n b)) far (contents_snoc b r (subst (λ n. takes k d n b ≡ true) (sym far) h)))

  -- what stands before a text under way: nothing, with no part open, or an open part
  pub data Before (p d : ℕ) (c : Held) : List ℕ → Type 0 where
    nothing : p ≡ 0 → Before p d c []
    opened : {ys : List ℕ} → Open R ys p d c → Before p d c ys

  -- what was held when the block's contents began, and what stood before the text
  pub data Source (k q p d : ℕ) (c : Held) : List ℕ → Type 0 where
    starts : {a : Held} → is_start k ≡ true → c ≡ begin q a → Source k q p d c []
    follows : {ys : List ℕ} → Open R ys p d c → k ≡ due_kind p d → is_start k ≡ false → q ≡ picture_of c → Source k q p d c ys

  pub record Under (m : Machine R) (c : Held) (ys xs : List ℕ) : Type 0 where
    pub picture : is_picture m.picture ≡ true
    pub kind : is_kind m.kind ≡ true
    pub source : Source m.kind m.picture m.part m.due c ys
    pub contents : BlockContents R m.kind c 3 xs m.held

  abbrev pub block_of : Machine R → List ℕ → List ℕ
  block_of m xs = block R m.picture m.kind xs

  pub data Tail (m : Machine R) : List ℕ → Type 0 where
    idle : m.place ≡ 0 → m.part ≡ 0 → Tail m []
    waiting : {ys r : List ℕ} → m.place ≡ 0 → Open R ys m.part m.due m.held → Gap r m.seen → Tail m (ys ++ r)
    at_one : {ys : List ℕ} → m.place ≡ 1 → m.check ≡ FD → Before m.part m.due m.held ys → Tail m (ys ++ opening)
    at_two : {ys : List ℕ} → m.place ≡ 2 → is_picture m.picture ≡ true → m.check ≡ FD ⊕ m.picture → Before m.part m.due m.held ys
        → Tail m (ys ++ (control_a ++ (FD ∷ m.picture ∷ [])))
    inside : {ys xs : List ℕ} {c : Held} → m.place ≡ 3 + length xs → m.place ≤ long m.kind → m.check ≡ xor_all (block_of m xs) → Under m c ys xs
        → Tail m (ys ++ (control_a ++ block_of m xs))
    after_eor : {ys xs : List ℕ} {c : Held} → m.place ≡ suc (long m.kind) → 3 + length xs ≡ long m.kind → m.check ≡ check_byte (block_of m xs) → Under m c ys xs
        → Tail m (ys ++ (control_a ++ (block_of m xs ++ (EOR ∷ []))))
    after_check : {ys xs : List ℕ} {c : Held} → m.place ≡ suc (suc (long m.kind)) → 3 + length xs ≡ long m.kind → Under m c ys xs
        → Tail m (ys ++ most R (block_of m xs))

  pub data History (h : List ℕ) (m : Machine R) : Type 0 where
    history : (z u : List ℕ) → h ≡ z ++ u → Tail m u → History h m

  -- the bytes end with a whole part
  abbrev pub Ends : List ℕ → Held → Type 0
  Ends h c = (z : List ℕ) × (ys : List ℕ) × (h ≡ z ++ ys) × Whole R ys c

  pub record Good (h : List ℕ) (o : Out R) : Type 0 where
    pub known : History h o.machine
    pub full : o.answer ≡ 3 → Ends h o.machine.held

  -- the bytes seen are the last bytes
  abbrev pub Sees : List ℕ → Machine R → Type 0
  Sees h m = (v : List ℕ) × (h ≡ v ++ reverse m.seen)

  quiet : {h : List ℕ} (a : ℕ) (m : Machine R) → a ≢ 3 → History h m → Good h (answering R a m)
  quiet a m n k = record { known = k; full = λ e. absurd (n e) }

  dropped : {h : List ℕ} (a : ℕ) (w : List ℕ) → a ≢ 3 → Good h (answering R a (lost R w))
  dropped {h} a w n = quiet a (lost R w) n (history h [] (sym (append-nil h)) (idle refl refl))

  -- ---- each place by itself

  good_idle : (m : Machine R) (w : List ℕ) (b : ℕ) {h : List ℕ} → m.part ≡ 0 → Good h (in_gap R m w b)
  unfolding in_gap
  good_idle m w b {h} e =
      by_if (Good h) (eqb m.part 0) (λ _. quiet 0 _ (λ e. omega arith) (history h [] (sym (append-nil h)) (idle refl refl)))
      (λ f. absurd (eqb-false m.part 0 f e))

  good_gap : (m : Machine R) (b : ℕ) {h ys r : List ℕ} (z : List ℕ) → h ≡ z ++ (ys ++ r) → Open R ys m.part m.due m.held → Gap r m.seen
      → ends_opening m.seen b ≡ false → Good (h ++ (b ∷ [])) (in_gap R m (push m.seen b) b)
  unfolding in_gap
  good_gap m b {h} {ys} {r} z k o g n =
      by_if (Good (h ++ (b ∷ []))) (eqb m.part 0) (λ e. absurd (open_some R L o (eqb-true m.part 0 e)))
      (λ _. by_if (Good (h ++ (b ∷ []))) (eqb b (due_byte m.seen))
      (λ e. quiet 0 _ (λ e. omega arith)
      (history z (ys ++ (r ++ (b ∷ []))) (snoc_eq h z (ys ++ r) b k ∙ simp append_assoc) (waiting refl o (gap_next b g n (eqb-true b (due_byte m.seen) e)))))
      (λ _. dropped 12 _ (λ e. omega arith)))

  good_picture : (m : Machine R) (w : List ℕ) (b : ℕ) {h ys : List ℕ} (z : List ℕ) → h ≡ z ++ (ys ++ opening) → m.check ≡ FD
      → Before m.part m.due m.held ys → Good (h ++ (b ∷ [])) (at_picture R m w b)
  unfolding at_picture
  good_picture m w b {h} {ys} z k x f =
      by_if (Good (h ++ (b ∷ []))) (is_picture b)
      (λ e. quiet 0 _ (λ e. omega arith)
      (history z (ys ++ (control_a ++ (FD ∷ b ∷ []))) (snoc_eq h z (ys ++ opening) b k ∙ simp append_assoc) (at_two refl e (ap (λ n. n ⊕ b) x) f)))
      (λ _. dropped (no_picture b) _ (L.no_picture_lem b))

  -- the check byte over the first three bytes
  check_3 : (q k : ℕ) → (FD ⊕ q) ⊕ k ≡ xor_all (FD ∷ q ∷ k ∷ [])
  check_3 q k = sym (xor_nil ((FD ⊕ q) ⊕ k)) ∙ running q k []

  good_kind : (m : Machine R) (w : List ℕ) (b : ℕ) {h ys : List ℕ} (z : List ℕ) → h ≡ z ++ (ys ++ (control_a ++ (FD ∷ m.picture ∷ []))) → is_picture m.picture ≡ true
      → m.check ≡ FD ⊕ m.picture → Before m.part m.due m.held ys → Good (h ++ (b ∷ [])) (at_kind R m w b)
  unfolding at_kind
  good_kind m w b {h} {ys} z k hq x f =
      by_if G (not (is_kind b)) (λ _. dropped 14 w (λ e. omega arith))
      (λ ek. by_if G (is_start b)
      (λ es. by_if G (eqb m.part 0) (λ e. fresh 0 m.held (λ e. omega arith) (not-false (is_kind b) ek) es)
      (λ e. fresh 15 blank (λ e. omega arith) (not-false (is_kind b) ek) es))
      (λ es. by_if G (eqb m.part 0) (λ _. dropped 16 w (λ e. omega arith))
      (λ ep. by_if G (not (eqb b (due_kind m.part m.due))) (λ _. dropped 16 w (λ e. omega arith))
      (λ ed. by_if G (eqb m.picture (picture_of m.held))
      (λ eq. quiet 0 _ (λ e. omega arith)
      (history z (ys ++ (control_a ++ block R m.picture b [])) eqn
      (inside {xs = []} refl (L.long_3 b (not-false (is_kind b) ek)) checks
      (record {
        picture = hq;
        kind = not-false (is_kind b) ek;
        source = source f (eqb-false m.part 0 ep) (eqb-true b _ (not-false _ ed)) es (eqb-true m.picture _ eq);
        contents = contents_end;
      }))))
      (λ _. dropped 17 w (λ e. omega arith))))))
    where
      G : Out R → Type 0
      G = Good (h ++ (b ∷ []))

      checks : m.check ⊕ b ≡ xor_all (block R m.picture b [])
      checks = ap (λ n. n ⊕ b) x ∙ check_3 m.picture b

      eqn : h ++ (b ∷ []) ≡ z ++ (ys ++ (control_a ++ block R m.picture b []))
      eqn = snoc_eq h z (ys ++ (control_a ++ (FD ∷ m.picture ∷ []))) b k ∙ simp append_assoc

      fresh : (a : ℕ) (c : Held) → a ≢ 3 → is_kind b ≡ true → is_start b ≡ true → G (answering R a (begins R m w b c))
      fresh a c n ek es =
          quiet a _ n
          (history (z ++ ys) (control_a ++ block R m.picture b []) (eqn ∙ sym (append_assoc z ys _))
          (inside {ys = []} {xs = []} refl (L.long_3 b ek) checks (record { picture = hq; kind = ek; source = starts es refl; contents = contents_end })))

      source : {us : List ℕ} → Before m.part m.due m.held us → (m.part ≡ 0 → ⊥) → b ≡ due_kind m.part m.due → is_start b ≡ false → m.picture ≡ picture_of m.held
          → Source b m.picture m.part m.due m.held us
      source (nothing e) n ed es eq = absurd (n e)
      source (opened o) n ed es eq = follows o ed es eq

  good_block : (m : Machine R) (w : List ℕ) (b : ℕ) {h ys xs : List ℕ} {c : Held} (z : List ℕ) → h ≡ z ++ (ys ++ (control_a ++ block_of m xs)) → m.place ≡ 3 + length xs
      → m.place < long m.kind → m.check ≡ xor_all (block_of m xs) → Under m c ys xs → Good (h ++ (b ∷ [])) (in_block R m w b)
  unfolding in_block
  good_block m w b {h} {ys} {xs} {c} z k hp l x u =
      by_if (Good (h ++ (b ∷ []))) (takes m.kind m.held m.place b)
      (λ e. quiet 0 _ (λ e. omega arith)
      (history z (ys ++ (control_a ++ block_of m (xs ++ (b ∷ [])))) (snoc_eq h z (ys ++ (control_a ++ block_of m xs)) b k ∙ simp append_assoc)
      (inside {xs = xs ++ (b ∷ [])} (omega (arith, length-append xs (b ∷ []))) l (ap (λ n. n ⊕ b) x ∙ sym (xor_snoc (block_of m xs) b))
      (record {
        picture = u.picture;
        kind = u.kind;
        source = u.source;
        contents = subst (λ n. BlockContents R m.kind c 3 (xs ++ (b ∷ [])) (enter m.kind m.held n b)) (sym hp)
            (contents_snoc b u.contents (subst (λ n. takes m.kind m.held n b ≡ true) hp e));
      }))))
      (λ _. dropped 18 w (λ e. omega arith))

  good_eor : (m : Machine R) (w : List ℕ) (b : ℕ) {h ys xs : List ℕ} {c : Held} (z : List ℕ) → h ≡ z ++ (ys ++ (control_a ++ block_of m xs)) → m.place ≡ 3 + length xs
      → m.place ≡ long m.kind → m.check ≡ xor_all (block_of m xs) → Under m c ys xs → Good (h ++ (b ∷ [])) (at_eor R m w b)
  unfolding at_eor
  good_eor m w b {h} {ys} {xs} z k hp l x u =
      by_if (Good (h ++ (b ∷ []))) (eqb b EOR)
      (λ e. quiet 0 _ (λ e. omega arith)
      (history z (ys ++ (control_a ++ (block_of m xs ++ (EOR ∷ []))))
      (snoc_eq h z (ys ++ (control_a ++ block_of m xs)) b k ∙ rw (eqb-true b EOR e) (simp append_assoc))
      (after_eor (ap suc l) (sym hp ∙ l) (rw (eqb-true b EOR e) (ap (λ n. n ⊕ EOR) x ∙ sym (check_is (block_of m xs))))
      (record { picture = u.picture; kind = u.kind; source = u.source; contents = u.contents }))))
      (λ _. dropped 19 w (λ e. omega arith))

  good_check : (m : Machine R) (w : List ℕ) (b : ℕ) {h ys xs : List ℕ} {c : Held} (z : List ℕ) → h ≡ z ++ (ys ++ (control_a ++ (block_of m xs ++ (EOR ∷ []))))
      → m.place ≡ suc (long m.kind) → 3 + length xs ≡ long m.kind → m.check ≡ check_byte (block_of m xs) → Under m c ys xs → Good (h ++ (b ∷ [])) (at_check R m w b)
  unfolding at_check most
  good_check m w b {h} {ys} {xs} z k hp l x u =
      by_if (Good (h ++ (b ∷ []))) (eqb b m.check)
      (λ e. quiet 0 _ (λ e. omega arith)
      (history z (ys ++ most R (block_of m xs))
      (snoc_eq h z (ys ++ (control_a ++ (block_of m xs ++ (EOR ∷ [])))) b k ∙ rw (eqb-true b m.check e, x) (simp append_assoc))
      (after_check (ap suc hp) l (record { picture = u.picture; kind = u.kind; source = u.source; contents = u.contents }))))
      (λ _. dropped 20 w (λ e. omega arith))

  good_last : (m : Machine R) (b : ℕ) {h ys xs : List ℕ} {c : Held} (z : List ℕ) → h ≡ z ++ (ys ++ most R (block_of m xs)) → 3 + length xs ≡ long m.kind → Under m c ys xs
      → Good (h ++ (b ∷ [])) (at_last R m (push m.seen b) b)
  unfolding at_last
  good_last m b {h} {ys} {xs} {c} z k l u =
      by_if G (not (eqb b TPAD)) (λ _. dropped 21 _ (λ e. omega arith))
      (λ eb. let e = eqb-true b TPAD (not-false _ eb) in
      by_if G (is_start m.kind) (λ es. quiet BEGUN _ (λ e. omega arith) (began u.source u.contents es e k))
      (λ es. by_if G (is_end m.kind)
      (λ ee. by_if G (closes m.held)
      (λ ec. record {
        known = history (h ++ (b ∷ [])) [] (sym (append-nil _)) (idle refl refl);
        full = λ _. (z, ys ++ text R (block_of m xs), eqn e, ended u.source u.contents es ee ec);
      })
      (λ _. dropped 22 _ (λ e. omega arith)))
      (λ ee. quiet TAKEN _ (λ e. omega arith)
      (history z ((ys ++ text R (block_of m xs)) ++ []) (eqn e ∙ ap (λ t. z ++ t) (sym (append-nil _)))
      (waiting {r = []} refl (grown u.source u.contents es ee) (subst (λ t. Gap [] (push m.seen t)) (sym e) gap0))))))
    where
      G : Out R → Type 0
      G = Good (h ++ (b ∷ []))

      eqn : b ≡ TPAD → h ++ (b ∷ []) ≡ z ++ (ys ++ text R (block_of m xs))
      eqn e = snoc_eq h z (ys ++ most R (block_of m xs)) b k ∙ rw e (simp append_assoc)

      began : {us : List ℕ} {d : Held} → Source m.kind m.picture m.part m.due d us → BlockContents R m.kind d 3 xs m.held → is_start m.kind ≡ true → b ≡ TPAD
          → h ≡ z ++ (us ++ most R (block_of m xs))
          → History (h ++ (b ∷ [])) (mk R (push m.seen b) 0 0 0 (part_of m.kind) (first_due m.kind m.held) 0 (settle m.held))
      began (starts {a} _ ed) r es e k' =
          let f = L.begin_any m.kind m.picture a blank m.held xs es (subst (λ t. BlockContents R m.kind t 3 xs m.held) ed r) in
          history z (text R (block_of m xs) ++ []) (snoc_eq h z (most R (block_of m xs)) b k' ∙ rw e (ap (λ t. z ++ t) (sym (append-nil _))))
          (waiting {ys = text R (block_of m xs)} {r = []} refl (rw (f.3, f.2) (begun u.picture es l f.1)) (subst (λ t. Gap [] (push m.seen t)) (sym e) gap0))
      began (follows o ed en eq) r es e k' = never en es

      ended : {us : List ℕ} {d : Held} → Source m.kind m.picture m.part m.due d us → BlockContents R m.kind d 3 xs m.held → is_start m.kind ≡ false → is_end m.kind ≡ true
          → closes m.held ≡ true → Whole R (us ++ text R (block_of m xs)) m.held
      ended (starts es ed) r en ee ec = never en es
      ended {us} {d} (follows o ed en' eq) r en ee ec =
          subst (λ q. Whole R (us ++ text R (block R q m.kind xs)) m.held) (sym eq)
          (whole o (subst (λ q. is_picture q ≡ true) eq u.picture) ed u.kind en ee l r ec)

      grown : {us : List ℕ} {d : Held} → Source m.kind m.picture m.part m.due d us → BlockContents R m.kind d 3 xs m.held → is_start m.kind ≡ false → is_end m.kind ≡ false
          → Open R (us ++ text R (block_of m xs)) m.part (next_due m.part m.kind) m.held
      grown (starts es ed) r en ee = never en es
      grown {us} {d} (follows o ed en' eq) r en ee =
          subst (λ q. Open R (us ++ text R (block R q m.kind xs)) m.part (next_due m.part m.kind) m.held) (sym eq)
          (more o (subst (λ q. is_picture q ≡ true) eq u.picture) ed u.kind en ee l r)

  -- ---- a byte that ends no opening, by its place

  by_place : (m : Machine R) (b : ℕ) {h : List ℕ} (o : Out R) → move R m b ≡ o → Good h o → Good h (move R m b)
  by_place m b {h} o e g = subst (Good h) (sym e) g

  -- at the first three places
  move_at : (m : Machine R) (b i : ℕ) → m.place ≡ i → ends_opening m.seen b ≡ false
      → move R m b
      ≡ cond (eqb i 0) (in_gap R m (push m.seen b) b)
      (cond (eqb i 1) (at_picture R m (push m.seen b) b)
      (cond (eqb i 2) (at_kind R m (push m.seen b) b)
      (cond (ltb i (long m.kind)) (in_block R m (push m.seen b) b)
      (cond (eqb i (long m.kind)) (at_eor R m (push m.seen b) b)
      (cond (eqb i (suc (long m.kind))) (at_check R m (push m.seen b) b)
      (at_last R m (push m.seen b) b))))))
  unfolding move placed
  move_at m b i e n = rw (n, e)

  good_tail : (m : Machine R) (b : ℕ) {h u : List ℕ} (z : List ℕ) → h ≡ z ++ u → Tail m u → ends_opening m.seen b ≡ false → Good (h ++ (b ∷ [])) (move R m b)
  good_tail m b z k (idle hp h0) n = by_place m b _ (move_at m b 0 hp n) (good_idle m _ b h0)
  good_tail m b z k (waiting hp o g) n = by_place m b _ (move_at m b 0 hp n) (good_gap m b z k o g n)
  good_tail m b z k (at_one hp x f) n = by_place m b _ (move_at m b 1 hp n) (good_picture m _ b z k x f)
  good_tail m b z k (at_two hp q x f) n = by_place m b _ (move_at m b 2 hp n) (good_kind m _ b z k q x f)
  good_tail m b {h} z k (inside {xs} hp l x u) n =
      by_test (ltb m.place (long m.kind))
      (λ e. by_place m b _ (move_block R _ _ _ _ _ _ _ _ b n (omega arith) (ltb-true _ _ e)) (good_block m _ b z k hp (ltb-true _ _ e) x u))
      (λ e. let q : m.place ≡ long m.kind = omega (arith, ltb-false m.place (long m.kind) e) in
      by_place m b _ (move_eor R _ _ _ _ _ _ _ _ b n (omega arith) q) (good_eor m _ b z k hp q x u))
  good_tail m b {h} z k (after_eor hp l x u) n =
      by_place m b _ (move_check R _ _ _ _ _ _ _ _ b n (L.long_3 m.kind u.kind) hp) (good_check m _ b z k hp l x u)
  good_tail m b {h} z k (after_check hp l u) n =
      by_place m b _ (move_last R _ _ _ _ _ _ _ _ b n (L.long_3 m.kind u.kind) hp) (good_last m b z k l u)

  -- ---- a byte that ends an opening

  good_opening : (m : Machine R) (b : ℕ) {h u : List ℕ} (z : List ℕ) → h ≡ z ++ u → Tail m u → Sees h m → ends_opening m.seen b ≡ true
      → Good (h ++ (b ∷ [])) (opens R m (push m.seen b))
  unfolding opens
  good_opening m b {h} {u} z k t v n =
      by_if G (eqb m.place 0) (λ e. quiet 0 _ (λ e. omega arith) (kept t (eqb-true _ _ e) k)) (λ _. quiet 11 _ (λ e. omega arith) (anew 0 0 blank refl))
    where
      G : Out R → Type 0
      G = Good (h ++ (b ∷ []))

      six : b ∷ m.seen ≡ opening_back
      six = opening_seen m.seen b n

      anew : (p d : ℕ) (c : Held) → p ≡ 0 → History (h ++ (b ∷ [])) (mk R (push m.seen b) 1 0 0 p d FD c)
      anew p d c e =
          history v.0 opening (snoc_eq h v.0 (reverse m.seen) b v.1 ∙ rw (tail-eq_of_cons-eq six, head-eq_of_cons-eq six)) (at_one {ys = []} refl refl (nothing e))

      kept : {us : List ℕ} → Tail m us → m.place ≡ 0 → h ≡ z ++ us → History (h ++ (b ∷ [])) (mk R (push m.seen b) 1 0 0 m.part m.due FD m.held)
      kept (idle hp h0) e k' = anew m.part m.due m.held h0
      kept (waiting {ys} {r} hp o g) e k' =
          history z (ys ++ opening) (snoc_eq h z (ys ++ r) b k' ∙ rw (gap_full g (tail-eq_of_cons-eq six), head-eq_of_cons-eq six) (simp append_assoc)) (at_one refl refl (opened o))
      kept (at_one hp x f) e k' = absurd (omega arith)
      kept (at_two hp q x f) e k' = absurd (omega arith)
      kept (inside hp l x u) e k' = absurd (omega arith)
      kept (after_eor hp l x u) e k' = absurd (omega arith)
      kept (after_check hp l u) e k' = absurd (omega arith)

  -- ---- all moves, and all lists of bytes

  move_opens : (m : Machine R) (b : ℕ) → ends_opening m.seen b ≡ true → move R m b ≡ opens R m (push m.seen b)
  unfolding move
  move_opens m b e = rw e

  good_move : {h : List ℕ} (m : Machine R) (b : ℕ) → History h m → Sees h m → Good (h ++ (b ∷ [])) (move R m b)
  good_move {h} m b (history z u k t) v =
      by_test (ends_opening m.seen b) (λ e. by_place m b _ (move_opens m b e) (good_opening m b z k t v e)) (λ e. good_tail m b z k t e)

  sees_move : {h : List ℕ} (m : Machine R) (b : ℕ) → Sees h m → Sees (h ++ (b ∷ [])) (move R m b).machine
  sees_move {h} m b v = (
    v.0 ++ reverse (drop 5 (b ∷ m.seen)),
    snoc_eq h v.0 (reverse m.seen) b v.1
        ∙ ap (λ x. v.0 ++ x) (sym (reverse-cons b m.seen) ∙ ap reverse (sym (take-append-drop 5 (b ∷ m.seen))) ∙ reverse-append (take 5 (b ∷ m.seen)) (drop 5 (b ∷ m.seen)))
        ∙ sym (append_assoc v.0 (reverse (drop 5 (b ∷ m.seen))) (reverse (take 5 (b ∷ m.seen))))
        ∙ ap (λ x. (v.0 ++ reverse (drop 5 (b ∷ m.seen))) ++ reverse x) (sym (move_seen R m b)),
  )

  pub history_run : (xs : List ℕ) {h : List ℕ} (m : Machine R) → History h m → Sees h m → History (h ++ xs) (run R m xs) × Sees (h ++ xs) (run R m xs)
  unfolding run
  history_run [] {h} m k v = (rw (append-nil h) k, rw (append-nil h) v)
  history_run (x ∷ xs) {h} m k v =
      let (a, b) = history_run xs (move R m x).machine (good_move m x k v).known (sees_move m x v) in
      (rw (append_assoc h (x ∷ []) xs) at a, rw (append_assoc h (x ∷ []) xs) at b)

  -- A byte is answered complete only if the bytes up to it end with a whole part, which is then held
  pub complete_only : (h : List ℕ) (b : ℕ) → (move R (run R (new R) h) b).answer ≡ 3 → Ends (h ++ (b ∷ [])) (move R (run R (new R) h) b).machine.held
  complete_only h b e =
      let (k, v) = history_run h {h = []} (new R) (history [] [] refl (idle refl refl)) ([], refl) in
      (good_move (run R (new R) h) b k v).full e

  -- and always then
  pub complete_if : (h : List ℕ) (b : ℕ) (c : Held) → Ends (h ++ (b ∷ [])) c
      → ((move R (run R (new R) h) b).answer ≡ 3) × (w : List ℕ) × ((move R (run R (new R) h) b).machine ≡ mk R w 0 0 0 0 0 0 c)
  complete_if h b c (z, ys, e, p) = go p e
    where
      go : {ys : List ℕ} {c : Held} → Whole R ys c → h ++ (b ∷ []) ≡ z ++ ys
          → ((move R (run R (new R) h) b).answer ≡ 3) × (w : List ℕ) × ((move R (run R (new R) h) b).machine ≡ mk R w 0 0 0 0 0 0 c)
      go (whole {ys = us} {k} {xs} {c = d} o hq hk g n v l r cl) e =
          let t = most R (block R (picture_of d) k xs) in
          let (i, j) = snoc_inj h (z ++ (us ++ t)) b TPAD (e ∙ simp append_assoc) in
          let q = ap₂ (λ s x. move R (run R (new R) s) x) i j ∙ ap (λ s. move R s TPAD) (run_append R (new R) z (us ++ t)) ∙ whole_run R L o hq hk g n v l r cl (run R (new R) z) in
          (ap (λ o. o.answer) q, push (seen_check R L (picture_of d) k xs) TPAD, ap (λ o. o.machine) q)
