-- The machine's laws, and single moves of it. Assumes nothing.
use mathlib.Core.Path.{◌≡◌, refl, ap, ◌∙◌}
use mathlib.Core.Logic.{◌⊎◌, ◌≢◌}
use mathlib.Core.Bool.{true, false, not}
use mathlib.Core.List.{List, [], ◌∷◌, ◌++◌}
use Prim.Native.Nat.{ℕ, suc, ◌≤◌, ◌<◌}
use native.Mathlib.Omega.{arith}
use lib.Bits.{bit_xor, xor_zero_r}
use lib.Dec.{eqb, ltb}
use borrow.Author.Tests.{lt-ltb, le-ltb, eq-eqb, ne_eqb}
use Rattle.text.specs.Text.{SYN, STX, FD, EOR, TPAD, xor_all, check_byte}
use Rattle.general_laws.proofs.Bits.{xor_assoc, xor_cancel_left, xor_cancel_right}
use Rattle.text.proofs.Laws.{xor_all_append}
use Rattle.receiver_spec.specs.Seen.{push, ends_opening, due_byte}
use Rattle.receiver_spec.specs.Receiver.{◌⊕◌}
use Rattle.receiver_spec.proofs.Machine.{Rules, Machine, Out, mk, opens, in_gap, at_picture, at_kind, in_block, at_eor, at_check, at_last, placed, move, run, AllQuiet, quiet_none, quiet_byte, BlockContents, answering}
use Rattle.general_laws.proofs.Tests.{by_if}

-- the running check byte
pub xor_snoc : (bytes : List ℕ) (b : ℕ) → xor_all (bytes ++ (b ∷ [])) ≡ xor_all bytes ⊕ b
unfolding ◌⊕◌ xor_all
xor_snoc bytes b = xor_all_append bytes (b ∷ []) ∙ ap (bit_xor (xor_all bytes)) (xor_zero_r b)

pub check_is : (bytes : List ℕ) → check_byte bytes ≡ xor_all bytes ⊕ EOR
unfolding ◌⊕◌ check_byte
check_is bytes = refl

pub xor_cons : (x b : ℕ) (bytes : List ℕ) → (x ⊕ b) ⊕ xor_all bytes ≡ x ⊕ xor_all (b ∷ bytes)
unfolding ◌⊕◌ xor_all
xor_cons x b bytes = xor_assoc x b (xor_all bytes)

pub xor_nil : (x : ℕ) → x ⊕ xor_all [] ≡ x
unfolding ◌⊕◌ xor_all
xor_nil x = xor_zero_r x

pub cancel_left : (a x y : ℕ) → a ⊕ x ≡ a ⊕ y → x ≡ y
unfolding ◌⊕◌
cancel_left a x y e = xor_cancel_left a x y e

pub cancel_right : (a x y : ℕ) → x ⊕ a ≡ y ⊕ a → x ≡ y
unfolding ◌⊕◌
cancel_right a x y e = xor_cancel_right a x y e

-- a list without the byte v
pub data Free (v : ℕ) : List ℕ → Type 0 where
  free0 : Free v []
  free1 : {x : ℕ} {xs : List ℕ} → x ≢ v → Free v xs → Free v (x ∷ xs)

module _ (R : Rules) where
  open R use {Held, blank, is_picture, no_picture, is_kind, is_start, is_end, long, due_kind, part_of, picture_of, begin, takes, enter, settle, first_due, next_due, closes}

  -- What the theory asks of the rules
  pub record RuleLaws : Type 0 where
    pub fd_picture : is_picture FD ≡ false
    pub no_picture_lem : (b : ℕ) → no_picture b ≢ 3
    pub fd_kind : is_kind FD ≡ false
    pub start_kind : (k : ℕ) → is_start k ≡ true → is_kind k ≡ true
    pub part_some : (k : ℕ) → is_start k ≡ true → part_of k ≢ 0
    pub long_3 : (k : ℕ) → is_kind k ≡ true → 3 ≤ long k
    -- no `FD` is taken right behind the kind, nor behind an STX
    pub fd_first : (k : ℕ) (c : Held) → is_kind k ≡ true → takes k c 3 FD ≡ false
    pub fd_after : (k i : ℕ) (c : Held) → takes k c i STX ≡ true → takes k (enter k c i STX) (suc i) FD ≡ false
    -- what a start text comes to does not depend on what was held before
    pub begin_any : (k q : ℕ) (a b d : Held) (xs : List ℕ) → is_start k ≡ true → BlockContents R k (begin q a) 3 xs d
        → (e : Held) × BlockContents R k (begin q b) 3 xs e × (settle d ≡ settle e) × (first_due k d ≡ first_due k e)
    -- for altered bytes: where `FD` and `FE` may stand in a block, and that a start block is the shortest
    pub tpad_picture : is_picture TPAD ≡ false
    pub syn_picture : is_picture SYN ≡ false
    pub fd_places : (k : ℕ) (c e : Held) (xs : List ℕ) → is_kind k ≡ true → BlockContents R k c 3 xs e
        → Free FD xs ⊎ ((vs : List ℕ) × (xs ≡ 0 ∷ FD ∷ vs) × Free FD vs)
    pub eor_places : (k : ℕ) (c e : Held) (xs : List ℕ) → is_kind k ≡ true → is_start k ≡ false → BlockContents R k c 3 xs e → Free EOR xs
    pub shortest : (j k : ℕ) → is_start j ≡ true → is_kind k ≡ true → long j ≤ long k

  pub run_append : (m : Machine R) (xs ys : List ℕ) → run R m (xs ++ ys) ≡ run R (run R m xs) ys
  unfolding run
  run_append m [] ys = refl
  run_append m (x ∷ xs) ys = run_append (move R m x).machine xs ys

  pub quiet_run : {m n : Machine R} {xs : List ℕ} → AllQuiet R m xs n → run R m xs ≡ n
  unfolding run
  quiet_run quiet_none = refl
  quiet_run (quiet_byte {bytes = xs} e r) = ap (λ o. run R o.machine xs) e ∙ quiet_run r

  pub quiet_append : {m n o : Machine R} {xs ys : List ℕ} → AllQuiet R m xs n → AllQuiet R n ys o → AllQuiet R m (xs ++ ys) o
  quiet_append quiet_none q = q
  quiet_append (quiet_byte e r) q = quiet_byte e (quiet_append r q)

  -- moves of which none is answered complete
  pub data NotComplete : Machine R → List ℕ → Machine R → Type 0 where
    stop : {m : Machine R} → NotComplete m [] m
    go : {m n t : Machine R} {a b : ℕ} {xs : List ℕ} → move R m b ≡ answering R a n → a ≢ 3 → NotComplete n xs t → NotComplete m (b ∷ xs) t

  pub not_complete_append : {s t u : Machine R} {xs ys : List ℕ} → NotComplete s xs t → NotComplete t ys u → NotComplete s (xs ++ ys) u
  not_complete_append stop d = d
  not_complete_append (go e n c) d = go e n (not_complete_append c d)

  -- every move sees its byte
  pub move_seen : (m : Machine R) (b : ℕ) → (move R m b).machine.seen ≡ push m.seen b
  unfolding move opens placed in_gap at_picture at_kind in_block at_eor at_check at_last
  move_seen m b =
      by_if Q (ends_opening m.seen b) (λ _. by_if Q (eqb m.place 0) (λ _. refl) (λ _. refl))
      (λ _. by_if Q (eqb m.place 0) (λ _. gap)
      (λ _. by_if Q (eqb m.place 1) (λ _. by_if Q (is_picture b) (λ _. refl) (λ _. refl))
      (λ _. by_if Q (eqb m.place 2) (λ _. kind)
      (λ _. by_if Q (ltb m.place (long m.kind)) (λ _. by_if Q (takes m.kind m.held m.place b) (λ _. refl) (λ _. refl))
      (λ _. by_if Q (eqb m.place (long m.kind)) (λ _. by_if Q (eqb b EOR) (λ _. refl) (λ _. refl))
      (λ _. by_if Q (eqb m.place (suc (long m.kind))) (λ _. by_if Q (eqb b m.check) (λ _. refl) (λ _. refl))
      (λ _. last)))))))
    where
      w : List ℕ
      w = push m.seen b

      Q : Out R → Type 0
      Q o = o.machine.seen ≡ push m.seen b

      gap : Q (in_gap R m w b)
      gap = by_if Q (eqb m.part 0) (λ _. refl) (λ _. by_if Q (eqb b (due_byte m.seen)) (λ _. refl) (λ _. refl))

      kind : Q (at_kind R m w b)
      kind =
          by_if Q (not (is_kind b)) (λ _. refl)
          (λ _. by_if Q (is_start b) (λ _. by_if Q (eqb m.part 0) (λ _. refl) (λ _. refl))
          (λ _. by_if Q (eqb m.part 0) (λ _. refl)
          (λ _. by_if Q (not (eqb b (due_kind m.part m.due))) (λ _. refl)
          (λ _. by_if Q (eqb m.picture (picture_of m.held)) (λ _. refl) (λ _. refl)))))

      last : Q (at_last R m w b)
      last =
          by_if Q (not (eqb b TPAD)) (λ _. refl)
          (λ _. by_if Q (is_start m.kind) (λ _. refl)
          (λ _. by_if Q (is_end m.kind) (λ _. by_if Q (closes m.held) (λ _. refl) (λ _. refl)) (λ _. refl)))

  -- ---- moves by place

  module _ (w : List ℕ) (i k q p d x : ℕ) (c : Held) (b : ℕ) (n : ends_opening w b ≡ false) where
    abbrev here : Machine R
    here = mk R w i k q p d x c

    pub move_block : 3 ≤ i → i < long k → move R here b ≡ in_block R here (push w b) b
    unfolding move placed
    move_block a l = rw (n, ne_eqb i 0 (λ e. omega arith), ne_eqb i 1 (λ e. omega arith), ne_eqb i 2 (λ e. omega arith), lt-ltb i (long k) l)

    pub move_eor : 3 ≤ i → i ≡ long k → move R here b ≡ at_eor R here (push w b) b
    unfolding move placed
    move_eor a l =
        rw (n, ne_eqb i 0 (λ e. omega arith), ne_eqb i 1 (λ e. omega arith), ne_eqb i 2 (λ e. omega arith), le-ltb i (long k) (omega arith), eq-eqb i (long k) l)

    pub move_check : 3 ≤ long k → i ≡ suc (long k) → move R here b ≡ at_check R here (push w b) b
    unfolding move placed
    move_check a l =
        rw (
          n,
          ne_eqb i 0 (λ e. omega arith),
          ne_eqb i 1 (λ e. omega arith),
          ne_eqb i 2 (λ e. omega arith),
          le-ltb i (long k) (omega arith),
          ne_eqb i (long k) (λ e. omega arith),
          eq-eqb i (suc (long k)) l,
        )

    pub move_last : 3 ≤ long k → i ≡ suc (suc (long k)) → move R here b ≡ at_last R here (push w b) b
    unfolding move placed
    move_last a l =
        rw (
          n,
          ne_eqb i 0 (λ e. omega arith),
          ne_eqb i 1 (λ e. omega arith),
          ne_eqb i 2 (λ e. omega arith),
          le-ltb i (long k) (omega arith),
          ne_eqb i (long k) (λ e. omega arith),
          ne_eqb i (suc (long k)) (λ e. omega arith),
        )
