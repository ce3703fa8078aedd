-- A whole part, given to a machine in any state, is answered complete at its last byte. Assumes nothing.
use mathlib.Core.Path.{◌≡◌, refl, sym, ap, ◌∙◌}
use mathlib.Core.Logic.{◌≢◌}
use mathlib.Core.Bool.{true, false}
use mathlib.Core.List.{List, [], ◌∷◌, ◌++◌, append_assoc}
use Prim.Native.Nat.{ℕ, suc, ◌+◌, ◌≤◌}
use native.Mathlib.Omega.{arith}
use lib.ListN.{length, take, length-append, get_or-append}
use borrow.Author.Tests.{eq-eqb, ne_eqb}
use Rattle.general_laws.specs.Bytes.{◌!◌, same}
use Rattle.text.specs.Text.{LPAD, SYN, DLE, STX, FD, EOR, TPAD, control_a, check_byte}
use Rattle.receiver_spec.specs.Seen.{push, ends_opening, due_byte}
use Rattle.receiver_spec.specs.Receiver.{◌⊕◌, COMPLETE}
use Rattle.receiver_spec.proofs.Machine.{Rules, Machine, mk, answering, opens, in_gap, at_kind, at_last, placed, move, run, AllQuiet, quiet_byte, BlockContents, block, most, text, Open, begun, more, Whole, whole}
use Rattle.receiver_spec.proofs.Opening.{only_fd, seen_control, seen_opening, seen_kind}
use Rattle.receiver_spec.proofs.Steps.{RuleLaws, run_append, quiet_run}
use Rattle.receiver_spec.proofs.WayBack.{check_at3, kind_not_fd, block_quiet, take_picture, take_last, seen_check, start_run}

-- the due byte behind a text's last byte, and behind each byte of the opening
pub due_control : (w : List ℕ)
    → (due_byte (TPAD ∷ w) ≡ LPAD) × (due_byte (LPAD ∷ TPAD ∷ w) ≡ SYN) × (due_byte (SYN ∷ LPAD ∷ TPAD ∷ w) ≡ SYN)
    × (due_byte (SYN ∷ SYN ∷ LPAD ∷ TPAD ∷ w) ≡ DLE) × (due_byte (DLE ∷ SYN ∷ SYN ∷ LPAD ∷ TPAD ∷ w) ≡ STX)
unfolding due_byte same
due_control w = (refl, refl, refl, refl, refl)

module _ (R : Rules) (L : RuleLaws R) where
  open R use {Held, blank, is_picture, is_kind, is_start, is_end, long, due_kind, part_of, picture_of, begin, takes, enter, settle, first_due, next_due, closes}

  pub open_some : {ys : List ℕ} {p d : ℕ} {c : Held} → Open R ys p d c → p ≢ 0
  open_some (begun {k} hq hk l r) = L.part_some k hk
  open_some (more o hq hk g s n l r) = open_some o

  -- the due byte of the opening, with a part open
  pub take_gap : (w : List ℕ) (b p d : ℕ) (c : Held) → p ≢ 0 → b ≢ FD → due_byte w ≡ b → move R (mk R w 0 0 0 p d 0 c) b ≡ answering R 0 (mk R (push w b) 0 0 0 p d 0 c)
  unfolding move placed in_gap
  take_gap w b p d c h n e = rw (only_fd w b n, ne_eqb p 0 h, eq-eqb b (due_byte w) (sym e))

  pub take_opening : (p d : ℕ) (c : Held) → move R (mk R (STX ∷ DLE ∷ SYN ∷ SYN ∷ LPAD ∷ []) 0 0 0 p d 0 c) FD ≡ answering R 0 (mk R seen_opening 1 0 0 p d FD c)
  unfolding move opens ends_opening same
  take_opening p d c = refl

  -- the five control bytes behind a text, one by one
  module _ (w : List ℕ) (p d : ℕ) (c : Held) (h : p ≢ 0) where
    abbrev gap : List ℕ → Machine R
    gap v = mk R v 0 0 0 p d 0 c

    pub gap_1 : move R (gap (TPAD ∷ w)) LPAD ≡ answering R 0 (gap (push (TPAD ∷ w) LPAD))
    gap_1 = take_gap (TPAD ∷ w) LPAD p d c h (λ e. omega arith) (due_control w).0

    pub gap_2 : move R (gap (LPAD ∷ TPAD ∷ w)) SYN ≡ answering R 0 (gap (push (LPAD ∷ TPAD ∷ w) SYN))
    gap_2 = take_gap (LPAD ∷ TPAD ∷ w) SYN p d c h (λ e. omega arith) (due_control w).1

    pub gap_3 : move R (gap (SYN ∷ LPAD ∷ TPAD ∷ w)) SYN ≡ answering R 0 (gap (push (SYN ∷ LPAD ∷ TPAD ∷ w) SYN))
    gap_3 = take_gap (SYN ∷ LPAD ∷ TPAD ∷ w) SYN p d c h (λ e. omega arith) (due_control w).2

    pub gap_4 : move R (gap (SYN ∷ SYN ∷ LPAD ∷ TPAD ∷ w)) DLE ≡ answering R 0 (gap (push (SYN ∷ SYN ∷ LPAD ∷ TPAD ∷ w) DLE))
    gap_4 = take_gap (SYN ∷ SYN ∷ LPAD ∷ TPAD ∷ w) DLE p d c h (λ e. omega arith) (due_control w).3

    pub gap_5 : move R (gap (DLE ∷ SYN ∷ SYN ∷ LPAD ∷ TPAD ∷ w)) STX ≡ answering R 0 (gap (push (DLE ∷ SYN ∷ SYN ∷ LPAD ∷ TPAD ∷ w) STX))
    gap_5 = take_gap (DLE ∷ SYN ∷ SYN ∷ LPAD ∷ TPAD ∷ w) STX p d c h (λ e. omega arith) (due_control w).4

  pub gap_run : (w : List ℕ) (p d : ℕ) (c : Held) → p ≢ 0 → run R (mk R (TPAD ∷ w) 0 0 0 p d 0 c) (control_a ++ (FD ∷ [])) ≡ mk R seen_opening 1 0 0 p d FD c
  unfolding run
  gap_run w p d c h =
      ap (λ o. run R o.machine (SYN ∷ SYN ∷ DLE ∷ STX ∷ FD ∷ [])) (gap_1 w p d c h)
      ∙ ap (λ o. run R o.machine (SYN ∷ DLE ∷ STX ∷ FD ∷ [])) (gap_2 (take 3 w) p d c h)
      ∙ ap (λ o. run R o.machine (DLE ∷ STX ∷ FD ∷ [])) (gap_3 (take 2 (take 3 w)) p d c h)
      ∙ ap (λ o. run R o.machine (STX ∷ FD ∷ [])) (gap_4 (take 1 (take 2 (take 3 w))) p d c h)
      ∙ ap (λ o. run R o.machine (FD ∷ [])) (gap_5 (take 0 (take 1 (take 2 (take 3 w)))) p d c h)
      ∙ ap (λ o. o.machine) (take_opening p d c)

  -- the kind of a due text
  pub take_due : (p d q k : ℕ) (c : Held) → p ≢ 0 → k ≡ due_kind p d → is_kind k ≡ true → is_start k ≡ false → q ≡ picture_of c
      → move R (mk R (push seen_opening q) 2 0 q p d (FD ⊕ q) c) k ≡ answering R 0 (mk R (seen_kind q k) 3 k q p d (check_at3 q k) c)
  unfolding move placed at_kind
  take_due p d q k c hp hk g h hq =
      rw (only_fd (push seen_opening q) k (kind_not_fd R L k g), g, h, ne_eqb p 0 hp, eq-eqb k (due_kind p d) hk, eq-eqb q (picture_of c) hq)

  -- a start kind, with no part open
  pub take_begin : (q k : ℕ) (c : Held) → is_start k ≡ true
      → move R (mk R (push seen_opening q) 2 0 q 0 0 (FD ⊕ q) c) k ≡ answering R 0 (mk R (seen_kind q k) 3 k q 0 0 (check_at3 q k) (begin q c))
  unfolding move placed at_kind
  take_begin q k c h =
      let g : is_kind k ≡ true = L.start_kind k h in
      rw (only_fd (push seen_opening q) k (kind_not_fd R L k g), g, h)

  -- a text from its `FD` to its check byte: a start text with no part open, and the due text
  abbrev pub checked_block : ℕ → ℕ → List ℕ → List ℕ
  checked_block q k xs = block R q k xs ++ (EOR ∷ check_byte (block R q k xs) ∷ [])

  pub start_quiet : {q k : ℕ} {xs : List ℕ} {c e : Held} → is_picture q ≡ true → is_start k ≡ true → 3 + length xs ≡ long k → BlockContents R k (begin q c) 3 xs e
      → AllQuiet R (mk R seen_control 0 0 0 0 0 0 c) (checked_block q k xs)
      (mk R (seen_check R L q k xs) (suc (suc (long k))) k q 0 0 (check_byte (block R q k xs)) e)
  start_quiet {q} {k} {c} hq hk l r =
      quiet_byte (take_opening 0 0 c) (quiet_byte (take_picture R L 0 0 q c hq) (quiet_byte (take_begin q k c hk) (block_quiet R L q 0 0 (L.start_kind k hk) l r)))

  pub due_quiet : {k : ℕ} {xs : List ℕ} {c e : Held} (p d : ℕ) → p ≢ 0 → is_picture (picture_of c) ≡ true → k ≡ due_kind p d → is_kind k ≡ true → is_start k ≡ false
      → 3 + length xs ≡ long k → BlockContents R k c 3 xs e
      → let q = picture_of c in
      AllQuiet R (mk R seen_control 0 0 0 p d 0 c) (checked_block q k xs)
      (mk R (seen_check R L q k xs) (suc (suc (long k))) k q p d (check_byte (block R q k xs)) e)
  due_quiet {k} {c} p d hp hq hk g n l r =
      let q = picture_of c in
      quiet_byte (take_opening p d c) (quiet_byte (take_picture R L p d q c hq) (quiet_byte (take_due p d q k c hp hk g n refl) (block_quiet R L q p d g l r)))

  -- a due text, up to its last byte: where that leads, and what the last byte does
  pub due_front : {k : ℕ} {c e : Held} {xs : List ℕ} (w : List ℕ) (p d : ℕ) → p ≢ 0 → is_picture (picture_of c) ≡ true → k ≡ due_kind p d → is_kind k ≡ true → is_start k ≡ false
      → 3 + length xs ≡ long k → BlockContents R k c 3 xs e
      → let q = picture_of c in
      run R (mk R (TPAD ∷ w) 0 0 0 p d 0 c) (most R (block R q k xs)) ≡ mk R (seen_check R L q k xs) (suc (suc (long k))) k q p d (check_byte (block R q k xs)) e
  unfolding run most
  due_front {k} {c} {e} {xs} w p d hp hq hk g n l r =
      let q = picture_of c in
      let z = check_byte (block R q k xs) in
      run_append R (mk R (TPAD ∷ w) 0 0 0 p d 0 c) (control_a ++ (FD ∷ [])) (q ∷ k ∷ (xs ++ (EOR ∷ z ∷ [])))
      ∙ ap (λ t. run R t (q ∷ k ∷ (xs ++ (EOR ∷ z ∷ [])))) (gap_run w p d c hp)
      ∙ ap (λ o. run R o.machine (k ∷ (xs ++ (EOR ∷ z ∷ [])))) (take_picture R L p d q c hq)
      ∙ ap (λ o. run R o.machine (xs ++ (EOR ∷ z ∷ []))) (take_due p d q k c hp hk g n refl)
      ∙ quiet_run R (block_quiet R L q p d g l r)

  pub due_run : {k : ℕ} {c e : Held} {xs : List ℕ} (w : List ℕ) (p d : ℕ) → p ≢ 0 → is_picture (picture_of c) ≡ true → k ≡ due_kind p d → is_kind k ≡ true → is_start k ≡ false
      → 3 + length xs ≡ long k → BlockContents R k c 3 xs e
      → let q = picture_of c in
      let m = mk R (seen_check R L q k xs) (suc (suc (long k))) k q p d (check_byte (block R q k xs)) e in
      move R (run R (mk R (TPAD ∷ w) 0 0 0 p d 0 c) (most R (block R q k xs))) TPAD ≡ at_last R m (push m.seen TPAD) TPAD
  due_run {k} {c} {e} {xs} w p d hp hq hk g n l r =
      let q = picture_of c in
      ap (λ t. move R t TPAD) (due_front w p d hp hq hk g n l r) ∙ take_last R L (seen_check R L q k xs) k q p d (check_byte (block R q k xs)) e (L.long_3 k g)

  -- the texts of an open part
  pub open_run : {ys : List ℕ} {p d : ℕ} {c : Held} → Open R ys p d c → (m : Machine R) → (w : List ℕ) × (run R m ys ≡ mk R (TPAD ∷ w) 0 0 0 p d 0 c)
  unfolding run at_last
  open_run (begun {q} {k} {xs} {c} hq hk l r) m =
      (take 4 (seen_check R L q k xs), run_append R m (most R (block R q k xs)) (TPAD ∷ []) ∙ ap (λ o. o.machine) (start_run R L hq hk l r m))
  open_run (more {ys} {p} {d} {k} {xs} {c} {e} o hq hk g n v l r) m =
      let q = picture_of c in
      let (w, before) = open_run o m in (
        take 4 (seen_check R L q k xs),
        run_append R m ys (text R (block R q k xs)) ∙ ap (λ t. run R t (text R (block R q k xs))) before
            ∙ run_append R (mk R (TPAD ∷ w) 0 0 0 p d 0 c) (most R (block R q k xs)) (TPAD ∷ [])
            ∙ ap (λ o. o.machine) (due_run w p d (open_some o) hq hk g n l r) ∙ rw (n, v),
      )

  -- and its end text
  pub whole_run : {ys : List ℕ} {p d k : ℕ} {xs : List ℕ} {c e : Held} → Open R ys p d c → is_picture (picture_of c) ≡ true → k ≡ due_kind p d → is_kind k ≡ true → is_start k ≡ false
      → is_end k ≡ true → 3 + length xs ≡ long k → BlockContents R k c 3 xs e → closes e ≡ true
      → (m : Machine R)
      → move R (run R m (ys ++ most R (block R (picture_of c) k xs))) TPAD ≡ answering R COMPLETE (mk R (push (seen_check R L (picture_of c) k xs) TPAD) 0 0 0 0 0 0 e)
  unfolding at_last
  whole_run {ys} {p} {d} {k} {xs} {c} {e} o hq hk g n v l r z m =
      let q = picture_of c in
      let (w, before) = open_run o m in
      ap (λ t. move R t TPAD) (run_append R m ys (most R (block R q k xs)) ∙ ap (λ t. run R t (most R (block R q k xs))) before)
      ∙ due_run w p d (open_some o) hq hk g n l r ∙ rw (n, v, z)

  -- the part that is open before a whole part's last byte is that of the kind in its first text, whatever came before
  first_kind : {ys : List ℕ} {p d : ℕ} {c : Held} → Open R ys p d c → (8 ≤ length ys) × (part_of (ys ! 7) ≡ p)
  unfolding most
  first_kind (begun {q} {k} {xs} hq hk l r) = (omega (arith, length-append (control_a ++ (block R q k xs ++ (EOR ∷ check_byte (block R q k xs) ∷ []))) (TPAD ∷ [])), refl)
  first_kind (more {ys} {k} {xs} {c} o hq hk g n v l r) =
      let (long, kind) = first_kind o in
      let t = text R (block R (picture_of c) k xs) in
      (omega (arith, long, length-append ys t), ap part_of (get_or-append ys t 0 7 (omega (arith, long))) ∙ kind)

  pub part_open : {zs : List ℕ} {c : Held} → Whole R zs c → (front : List ℕ) × (zs ≡ front ++ (TPAD ∷ [])) × ((m : Machine R) → (run R m front).part ≡ part_of (zs ! 7))
  part_open (whole {ys} {p} {d} {k} {xs} {c} o hq hk g n v l r z) =
      let q = picture_of c in
      let t = most R (block R q k xs) in
      let (long, kind) = first_kind o in (
        ys ++ t,
        sym (append_assoc ys t (TPAD ∷ [])),
        λ m. let (w, before) = open_run o m in
            ap (λ (x : Machine R). x.part) (run_append R m ys t ∙ ap (λ x. run R x t) before ∙ due_front w p d (open_some o) hq hk g n l r)
            ∙ sym kind ∙ ap part_of (sym (get_or-append ys (text R (block R q k xs)) 0 7 (omega (arith, long)))),
      )
