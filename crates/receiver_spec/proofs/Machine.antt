-- A receiver of framed texts, over any rules for what blocks hold. The theory of framing (opening, place, check byte,
-- part, due text, the way back) speaks of this machine; 01's receiver is one, as Instance proves. Assumes nothing.
use mathlib.Core.Path.{◌≡◌}
use mathlib.Core.Bool.{Bool, true, false, cond, not}
use mathlib.Core.List.{List, [], ◌∷◌, ◌++◌, append_assoc}
use Prim.Native.Nat.{ℕ, suc, ◌+◌}
use lib.Dec.{eqb, ltb}
use lib.ListN.{length}
use Rattle.text.specs.Text.{FD, EOR, TPAD, control_a, check_byte, text_of}
use Rattle.receiver_spec.specs.Seen.{push, ends_opening, due_byte}
use Rattle.receiver_spec.specs.Receiver.{◌⊕◌, BEGUN, TAKEN, COMPLETE}

-- What blocks hold: which codes are pictures and kinds, how long a block is, which block bytes are taken and where they
-- enter, which text is due, and what lets a part end
pub record Rules : Type 1 where
  -- what is held beside the frame: header, modes, grid
  pub Held : Type 0
  pub blank : Held
  pub is_picture : ℕ → Bool
  -- the row that a byte which is none breaks
  pub no_picture : ℕ → ℕ
  pub is_kind : ℕ → Bool
  pub is_start : ℕ → Bool
  pub is_end : ℕ → Bool
  pub long : ℕ → ℕ
  -- the kind of a part's due text, and the part of a kind
  pub due_kind : ℕ → ℕ → ℕ
  pub part_of : ℕ → ℕ
  pub picture_of : Held → ℕ
  -- a start kind is taken
  pub begin : ℕ → Held → Held
  -- block byte i of a kind's block: its rule, and where it enters
  pub takes : ℕ → Held → ℕ → ℕ → Bool
  pub enter : ℕ → Held → ℕ → ℕ → Held
  -- a start text is accepted
  pub settle : Held → Held
  pub first_due : ℕ → Held → ℕ
  pub next_due : ℕ → ℕ → ℕ
  pub closes : Held → Bool

module _ (R : Rules) where
  open R use {Held, blank, is_picture, no_picture, is_kind, is_start, is_end, long, due_kind, part_of, picture_of, begin, takes, enter, settle, first_due, next_due, closes}

  pub record Machine : Type 0 where
    pub seen : List ℕ
    pub place : ℕ
    pub kind : ℕ
    pub picture : ℕ
    pub part : ℕ
    pub due : ℕ
    pub check : ℕ
    pub held : Held

  pub record Out : Type 0 where
    pub answer : ℕ
    pub machine : Machine

  abbrev pub mk : List ℕ → ℕ → ℕ → ℕ → ℕ → ℕ → ℕ → Held → Machine
  mk w i k q p d x c = record { seen = w; place = i; kind = k; picture = q; part = p; due = d; check = x; held = c }

  abbrev pub answering : ℕ → Machine → Out
  answering a m = record { answer = a; machine = m }

  abbrev pub lost : List ℕ → Machine
  lost w = mk w 0 0 0 0 0 0 blank

  abbrev pub new : Machine
  new = lost []

  unfoldable pub opens : Machine → List ℕ → Out
  opens m w = cond (eqb m.place 0) (answering 0 (mk w 1 0 0 m.part m.due FD m.held)) (answering 11 (mk w 1 0 0 0 0 FD blank))

  unfoldable pub in_gap : Machine → List ℕ → ℕ → Out
  in_gap m w b =
      cond (eqb m.part 0) (answering 0 (mk w 0 0 0 0 0 0 m.held))
      (cond (eqb b (due_byte m.seen)) (answering 0 (mk w 0 0 0 m.part m.due 0 m.held))
      (answering 12 (lost w)))

  unfoldable pub at_picture : Machine → List ℕ → ℕ → Out
  at_picture m w b =
      cond (is_picture b) (answering 0 (mk w 2 0 b m.part m.due (m.check ⊕ b) m.held)) (answering (no_picture b) (lost w))

  abbrev pub begins : Machine → List ℕ → ℕ → Held → Machine
  begins m w b c = mk w 3 b m.picture 0 0 (m.check ⊕ b) (begin m.picture c)

  unfoldable pub at_kind : Machine → List ℕ → ℕ → Out
  at_kind m w b =
      cond (not (is_kind b)) (answering 14 (lost w))
      (cond (is_start b) (cond (eqb m.part 0) (answering 0 (begins m w b m.held)) (answering 15 (begins m w b blank)))
      (cond (eqb m.part 0) (answering 16 (lost w))
      (cond (not (eqb b (due_kind m.part m.due))) (answering 16 (lost w))
      (cond (eqb m.picture (picture_of m.held)) (answering 0 (mk w 3 b m.picture m.part m.due (m.check ⊕ b) m.held))
      (answering 17 (lost w))))))

  unfoldable pub in_block : Machine → List ℕ → ℕ → Out
  in_block m w b =
      cond (takes m.kind m.held m.place b)
      (answering 0 (mk w (suc m.place) m.kind m.picture m.part m.due (m.check ⊕ b) (enter m.kind m.held m.place b)))
      (answering 18 (lost w))

  unfoldable pub at_eor : Machine → List ℕ → ℕ → Out
  at_eor m w b =
      cond (eqb b EOR) (answering 0 (mk w (suc m.place) m.kind m.picture m.part m.due (m.check ⊕ b) m.held))
      (answering 19 (lost w))

  unfoldable pub at_check : Machine → List ℕ → ℕ → Out
  at_check m w b =
      cond (eqb b m.check) (answering 0 (mk w (suc m.place) m.kind m.picture m.part m.due m.check m.held))
      (answering 20 (lost w))

  unfoldable pub at_last : Machine → List ℕ → ℕ → Out
  at_last m w b =
      cond (not (eqb b TPAD)) (answering 21 (lost w))
      (cond (is_start m.kind) (answering BEGUN (mk w 0 0 0 (part_of m.kind) (first_due m.kind m.held) 0 (settle m.held)))
      (cond (is_end m.kind) (cond (closes m.held) (answering COMPLETE (mk w 0 0 0 0 0 0 m.held)) (answering 22 (lost w)))
      (answering TAKEN (mk w 0 0 0 m.part (next_due m.part m.kind) 0 m.held))))

  unfoldable pub placed : Machine → List ℕ → ℕ → Out
  placed m w b =
      cond (eqb m.place 0) (in_gap m w b)
      (cond (eqb m.place 1) (at_picture m w b)
      (cond (eqb m.place 2) (at_kind m w b)
      (cond (ltb m.place (long m.kind)) (in_block m w b)
      (cond (eqb m.place (long m.kind)) (at_eor m w b)
      (cond (eqb m.place (suc (long m.kind))) (at_check m w b)
      (at_last m w b))))))

  unfoldable pub move : Machine → ℕ → Out
  move m b = cond (ends_opening m.seen b) (opens m (push m.seen b)) (placed m (push m.seen b) b)

  -- bytes one by one
  unfoldable pub run : Machine → List ℕ → Machine
  run m [] = m
  run m (b ∷ bytes) = run (move m b).machine bytes

  -- bytes that are all answered 0, and the machine behind them
  pub data AllQuiet : Machine → List ℕ → Machine → Type 0 where
    quiet_none : {m : Machine} → AllQuiet m [] m
    quiet_byte : {m n o : Machine} {b : ℕ} {bytes : List ℕ} → move m b ≡ answering 0 n → AllQuiet n bytes o → AllQuiet m (b ∷ bytes) o

  -- the contents of a block, from byte i on: each byte keeps its rule, and what is held follows
  pub data BlockContents (k : ℕ) : Held → ℕ → List ℕ → Held → Type 0 where
    contents_end : {c : Held} {i : ℕ} → BlockContents k c i [] c
    contents_byte : {c e : Held} {i x : ℕ} {xs : List ℕ} → takes k c i x ≡ true → BlockContents k (enter k c i x) (suc i) xs e → BlockContents k c i (x ∷ xs) e

  -- a block, and a text but for its last byte
  abbrev pub block : ℕ → ℕ → List ℕ → List ℕ
  block q k xs = FD ∷ q ∷ k ∷ xs

  unfoldable pub most : List ℕ → List ℕ
  most b = control_a ++ (b ++ (EOR ∷ check_byte b ∷ []))

  abbrev pub text : List ℕ → List ℕ
  text b = most b ++ (TPAD ∷ [])

  -- it is what the definitions call a text
  pub text_same : (b : List ℕ) → text b ≡ text_of b
  unfolding most text_of
  text_same b = simp append_assoc

  -- an open part, which grows by a text; and a whole part, with what is held after it
  pub data Open : List ℕ → ℕ → ℕ → Held → Type 0 where
    begun : {q k : ℕ} {xs : List ℕ} {c : Held} → is_picture q ≡ true → is_start k ≡ true → 3 + length xs ≡ long k → BlockContents k (begin q blank) 3 xs c
        → Open (text (block q k xs)) (part_of k) (first_due k c) (settle c)
    more : {ys : List ℕ} {p d k : ℕ} {xs : List ℕ} {c e : Held} → Open ys p d c → is_picture (picture_of c) ≡ true → k ≡ due_kind p d → is_kind k ≡ true
        → is_start k ≡ false → is_end k ≡ false → 3 + length xs ≡ long k → BlockContents k c 3 xs e → Open (ys ++ text (block (picture_of c) k xs)) p (next_due p k) e

  pub data Whole : List ℕ → Held → Type 0 where
    whole : {ys : List ℕ} {p d k : ℕ} {xs : List ℕ} {c e : Held} → Open ys p d c → is_picture (picture_of c) ≡ true → k ≡ due_kind p d → is_kind k ≡ true
        → is_start k ≡ false → is_end k ≡ true → 3 + length xs ≡ long k → BlockContents k c 3 xs e → closes e ≡ true → Whole (ys ++ text (block (picture_of c) k xs)) e

  -- the blocks of an open part, and of a whole one, in order
  unfoldable pub open_blocks : {ys : List ℕ} {p d : ℕ} {c : Held} → Open ys p d c → List (List ℕ)
  open_blocks (begun {q} {k} {xs} hq hk l r) = block q k xs ∷ []
  open_blocks (more {k} {xs} {c} o hq hk g n m l r) = open_blocks o ++ (block (picture_of c) k xs ∷ [])

  unfoldable pub whole_blocks : {ys : List ℕ} {c : Held} → Whole ys c → List (List ℕ)
  whole_blocks (whole {k} {xs} {c} o hq hk g n m l r z) = open_blocks o ++ (block (picture_of c) k xs ∷ [])
