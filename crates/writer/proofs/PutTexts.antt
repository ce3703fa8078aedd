-- Bytes put into an output: texts one behind the other, each through its own part of it. Assumes nothing.
use mathlib.Core.Path.{◌≡◌, refl, sym, ap, ap₂, ◌∙◌}
use mathlib.Core.Bool.{Bool, true, false, not}
use mathlib.Core.List.{List, [], ◌∷◌, ◌++◌, append-nil, map}
use Prim.Native.Nat.{ℕ, zero, suc, ◌+◌, ◌*◌, ◌-◌, ◌≤◌}
use native.Mathlib.Nat.{zero-add, suc-mul, zero-mul}
use native.Mathlib.Omega.{arith}
use lib.Dec.{eqb, lit≤}
use lib.ListN.{length, set, take, drop, length-append, length-drop, length-map, replicate, drop_of_length-le}
use lib.Seq.{sets, sets-eq, length-sets, length-take-le, take_at}
use borrow.Author.Tests.{eqb-true, not-true}
use borrow.Author.Rules.{part_to_end}
use Rattle.general_laws.specs.Bytes.{every, put_at}
use Rattle.text.specs.Text.{control_b, check_byte, text_of}
use Rattle.text.specs.Kinds.{kind_of, is_part_number, data_block_length, data_texts, part_length, payload_length}
use Rattle.text.specs.StartBlock.{mode_byte, clock_bytes}
use Rattle.text.specs.DataBlock.{is_payload_byte}
use Rattle.text.specs.Part.{texts_of, part_bytes, zeros}
use Rattle.text.specs.declared.header.WriterHeader.{WriterHeader}
use Rattle.general_laws.proofs.Lists.{sets_append, put_fits}
use Rattle.text_laws.proofs.Framing.{text_length_lem}
use Rattle.general_laws.proofs.Tests.{and_split}
use Rattle.text_laws.proofs.KindTable.{by_part, data_least, no_texts}
use Rattle.writer_spec.specs.Written.{block_of, data_blocks, time_text, start_contents, end_contents, is_payload, writes_no_echo, written_part}

sets_none : (i : ℕ) (t : List ℕ) → sets [] i t ≡ []
sets_none i [] = refl
sets_none i (v ∷ t) = sets_none (suc i) t

sets_behind : (x : ℕ) (xs : List ℕ) (i : ℕ) (t : List ℕ) → sets (x ∷ xs) (suc i) t ≡ x ∷ sets xs i t
sets_behind x xs i [] = refl
sets_behind x xs i (v ∷ t) = sets_behind x (set xs i v) (suc i) t

-- what is put at the front of a lent part is put where the part begins
sets_part : (l : List ℕ) (at : ℕ) (t : List ℕ) → take at l ++ sets (drop at l) 0 t ≡ sets l at t
sets_part l zero t = refl
sets_part [] (suc at) t = sets_none 0 t ∙ sym (sets_none (suc at) t)
sets_part (x ∷ xs) (suc at) t = ap (λ r. x ∷ r) (sets_part xs at t) ∙ sym (sets_behind x xs at t)

-- the same, as a lender has the part back
pub sets_lent :
    (l : List ℕ) (at : ℕ) (t : List ℕ) {ys : List ℕ} → ys ≡ sets (take (length l - at) (drop at l)) 0 t →
    take at l ++ (ys ++ drop (length l - at) (drop at l)) ≡ sets l at t
sets_lent l at t {ys} e =
    let whole = part_to_end l at in
    let none = drop_of_length-le (drop at l) {i = length l - at} (omega (arith, length-drop at l)) in
    ap₂ (λ y z. take at l ++ (y ++ z)) (e ∙ ap (λ p. sets p 0 t) whole) none
    ∙ ap (λ y. take at l ++ y) (append-nil (sets (drop at l) 0 t))
    ∙ sets_part l at t

-- bytes at the front, and the rest as it was
pub sets_front : (l t : List ℕ) → length t ≤ length l → sets l 0 t ≡ t ++ drop (length t) l
sets_front l t h = sets-eq t l 0 (omega arith) ∙ ap (λ n. t ++ drop n l) (zero-add (length t))

-- the bytes of a text up to its block's end
abbrev front : ℕ → ℕ → List ℕ
front picture kind = 0x16 ∷ 0x16 ∷ 0x16 ∷ 0x10 ∷ 0x02 ∷ 0xFD ∷ picture ∷ kind ∷ []

-- three stretches put one behind the other, the check byte taken from the second and the first, are a text
module _ (output contents : List ℕ) (picture kind : ℕ) (room : length contents + 11 ≤ length output) where
  two : put_at (put_at output 0 (front picture kind)) 8 contents ≡ sets output 0 (front picture kind ++ contents)
  two =
      ap (λ l. put_at l 8 contents) (put_fits output 0 (front picture kind) (omega arith))
      ∙ put_fits (sets output 0 (front picture kind)) 8 contents (omega (arith, length-sets output 0 (front picture kind)))
      ∙ sym (sets_append output 0 (front picture kind) contents)

  block_there : take (8 + length contents - 5) (drop 5 (sets output 0 (front picture kind ++ contents))) ≡ block_of picture kind contents
  block_there =
      let block = block_of picture kind contents in
      let rest = drop (length (front picture kind ++ contents)) output in
      ap (λ l. take (8 + length contents - 5) (drop 5 l)) (sets_front output (front picture kind ++ contents) (omega arith))
      ∙ take_at block rest (8 + length contents - 5) (omega arith)

  pub text_put :
      (check : ℕ) → check ≡ check_byte (take (8 + length contents - 5) (drop 5 (put_at (put_at output 0 (front picture kind)) 8 contents))) →
      put_at (put_at (put_at output 0 (front picture kind)) 8 contents) (8 + length contents) (0xFE ∷ check ∷ 0xFF ∷ []) ≡ sets output 0 (text_of (block_of picture kind contents))
  unfolding text_of
  text_put check e =
      let block = block_of picture kind contents in
      let right : check ≡ check_byte block = e ∙ ap (λ l. check_byte (take (8 + length contents - 5) (drop 5 l))) two ∙ ap check_byte block_there in
      ap₂ (λ l c. put_at l (8 + length contents) (0xFE ∷ c ∷ 0xFF ∷ [])) two right
      ∙ put_fits (sets output 0 (front picture kind ++ contents)) (8 + length contents) (control_b block) (omega (arith, length-sets output 0 (front picture kind ++ contents)))
      ∙ ap (λ n. sets (sets output 0 (front picture kind ++ contents)) n (control_b block)) (omega arith)
      ∙ sym (sets_append output 0 (front picture kind ++ contents) (control_b block))

-- the data texts that are left: the first of them, and then the others behind it
pub texts_on :
    (part picture k left size : ℕ) (output : List ℕ) (at : ℕ) (payload : List ℕ) → size ≡ data_block_length part - 3 → size ≤ length payload →
    sets (sets output at (text_of (block_of picture (kind_of part k) (take size payload)))) (at + (size + 11)) (texts_of (data_blocks part picture (suc k) left (drop size payload)))
    ≡ sets output at (texts_of (data_blocks part picture k (suc left) payload))
unfolding texts_of data_blocks
texts_on part picture k left size output at payload e h =
    let text = text_of (block_of picture (kind_of part k) (take size payload)) in
    let rest = texts_of (data_blocks part picture (suc k) left (drop size payload)) in
    ap (λ n. sets (sets output at text) n rest) (omega (arith, text_length_lem (block_of picture (kind_of part k) (take size payload)), length-take-le size payload h))
    ∙ sym (sets_append output at text rest)
    ∙ ap (λ n. sets output at (text_of (block_of picture (kind_of part k) (take n payload)) ++ texts_of (data_blocks part picture (suc k) left (drop n payload)))) e

pub part_long : (p : ℕ) (no_echo : Bool) → is_part_number p ≡ true → part_length p no_echo ≡ 40 + (data_texts p no_echo * (data_block_length p + 8) + 40)
unfolding part_length
part_long p no_echo h = rw h

-- the length of n data texts
datas_long :
    (p q k n : ℕ) (payload : List ℕ) → 3 ≤ data_block_length p → n * (data_block_length p - 3) ≤ length payload →
    length (texts_of (data_blocks p q k n payload)) ≡ n * (data_block_length p + 8)
unfolding texts_of data_blocks
datas_long p q k zero payload l h = sym (zero-mul (data_block_length p + 8))
datas_long p q k (suc n) payload l h =
    let size = data_block_length p - 3 in
    let block = block_of q (kind_of p k) (take size payload) in
    let rest = texts_of (data_blocks p q (suc k) n (drop size payload)) in
    let first : length (take size payload) ≡ size = length-take-le size payload (omega (arith, suc-mul n size)) in
    let others = datas_long p q (suc k) n (drop size payload) l (omega (arith, suc-mul n size, length-drop size payload)) in
    omega (arith, length-append (text_of block) rest, text_length_lem block, first, others, suc-mul n (data_block_length p + 8))

-- a start text, data texts and an end text, put one behind the other
pub part_put : (output s d e : List ℕ) → length s ≡ 40 → sets (sets (sets output 0 s) 40 d) (40 + length d) e ≡ sets output 0 (s ++ (d ++ e))
part_put output s d e l =
    sym (
    sets_append output 0 s (d ++ e)
    ∙ ap (λ n. sets (sets output 0 s) n (d ++ e)) (omega arith)
    ∙ sets_append (sets output 0 s) 40 d e)

-- the payload has a share for each data text
shares : (p : ℕ) (no_echo : Bool) → is_part_number p ≡ true → data_texts p no_echo * (data_block_length p - 3) ≤ payload_length p
unfolding data_texts data_block_length payload_length
shares p true h = by_part (λ p. data_texts p true * (data_block_length p - 3) ≤ payload_length p) (lit≤ tt) (lit≤ tt) (lit≤ tt) p h
shares p false h = by_part (λ p. data_texts p false * (data_block_length p - 3) ≤ payload_length p) (lit≤ tt) (lit≤ tt) (lit≤ tt) p h

pub payload_long : (p : ℕ) (payload : List ℕ) → is_payload p payload ≡ true → length payload ≡ payload_length p
unfolding is_payload
payload_long p payload h = eqb-true (length payload) (payload_length p) (and_split (eqb (length payload) (payload_length p)) (every (is_payload_byte p) payload) h).0

-- with NO ECHO no data text is left
pub no_datas : (p : ℕ) (payload : List ℕ) → writes_no_echo p payload ≡ true → data_texts p true ≡ 0
unfolding writes_no_echo
no_datas p payload h = no_texts p (not-true (eqb p 3) (and_split (not (eqb p 3)) (every (λ b. eqb b 0) payload) h).0)

-- the lengths of the blocks from byte 3 on, and of what is written
pub start_long : (no_echo : Bool) (h : WriterHeader) (modes : List ℕ) → length h.radars ≡ 8 → length (start_contents no_echo h modes) ≡ 29
unfolding start_contents clock_bytes time_text
start_long no_echo h modes l = omega arith

pub end_long : (modes : List ℕ) → length modes ≡ 8 → length (end_contents modes) ≡ 29
unfolding end_contents zeros
end_long modes l = omega (arith, length-append (map mode_byte modes) (replicate 21 0), length-map modes mode_byte)

pub data_bytes_long :
    (p q : ℕ) (payload : List ℕ) (no_echo : Bool) → is_part_number p ≡ true → length payload ≡ payload_length p →
    length (texts_of (data_blocks p q 1 (data_texts p no_echo) payload)) ≡ data_texts p no_echo * (data_block_length p + 8)
data_bytes_long p q payload no_echo h l =
    datas_long p q 1 (data_texts p no_echo) payload (omega (arith, data_least p h)) (omega (arith, shares p no_echo h))

pub written_long :
    (p : ℕ) (h : WriterHeader) (modes payload : List ℕ) → is_part_number p ≡ true → length h.radars ≡ 8 → length modes ≡ 8 → length payload ≡ payload_length p →
    length (part_bytes (written_part p h modes payload)) ≡ part_length p (writes_no_echo p payload)
unfolding part_bytes written_part
written_long p h modes payload known eight modal l =
    let no_echo = writes_no_echo p payload in
    let start = block_of h.picture (kind_of p 0) (start_contents no_echo h modes) in
    let datas = texts_of (data_blocks p h.picture 1 (data_texts p no_echo) payload) in
    let end = block_of h.picture (kind_of p 11) (end_contents modes) in
    omega (
      arith,
      length-append (text_of start) (datas ++ text_of end),
      length-append datas (text_of end),
      text_length_lem start,
      text_length_lem end,
      start_long no_echo h modes eight,
      end_long modes modal,
      data_bytes_long p h.picture payload no_echo known l,
      part_long p no_echo known,
    )
