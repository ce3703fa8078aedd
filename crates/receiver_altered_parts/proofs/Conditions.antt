-- The claim on altered bytes needs its three conditions on the alterations: without "at least one in all", without "at most one in
-- each text" and without "none to `FD`" it is false. Assumes nothing.
use mathlib.Core.Path.{◌≡◌, refl, sym, ap, ◌∙◌, subst}
use mathlib.Core.Logic.{◌≢◌}
use mathlib.Core.Bool.{true}
use mathlib.Core.List.{List, [], ◌∷◌, ◌++◌, append_assoc, append-nil, map}
use Prim.Native.Nat.{ℕ}
use native.Mathlib.Omega.{arith}
use lib.ListN.{length, take, take-append-drop}
use Rattle.general_laws.specs.Bytes.{◌!◌}
use Rattle.text.specs.Text.{FD, EOR, TPAD, control_a, check_byte, text_of}
use Rattle.text.specs.Part.{Part, texts_of, part_bytes, is_part, UndamagedPart, AlteredTo}
use Rattle.receiver_spec.specs.Marks.{all_marks}
use Rattle.receiver_spec.specs.Calls.{byte, Call, on_grid, received}
use Rattle.receiver_spec.specs.Alterations.{AlteredTexts, blocks_of, nothing, are_alterations, altered_bytes}
use Rattle.receiver_spec.proofs.Laws.{demand_3, alterations_claim, every_marked, singly_taken}
use Rattle.receiver_altered_parts.proofs.SampleParts.{no_echo, altered_once, altered_twice, other_clock, holds_start, altered_to_fd, never_sent}
use Rattle.receiver_altered_parts.proofs.Samples.{two_in_one_text, one_to_fd}

-- To bytes that came so of an undamaged part no list of calls, whatever the marks, has complete for an answer
abbrev pub NeverComplete : (Part → List ℕ → Type 0) → Type 0
NeverComplete Came = (n : ℕ) (calls : List Call) (p : Part) → is_part p ≡ true → Came p (received n calls).taken → (i : ℕ) → (received n calls).said ! i ≢ 3

-- The claim: at most one altered in each text, none to `FD`, at least one in all
pub as_claimed : NeverComplete (λ p bytes. AlteredTexts (blocks_of p) bytes × (bytes ≢ part_bytes p))
as_claimed n calls p h (a, some) = (demand_3 n calls).several_altered (part_bytes p) (record { part = p; rules = h; framed = refl }) a some

-- a part's last byte
last_byte : (p : Part) → (front : List ℕ) × (part_bytes p ≡ front ++ (TPAD ∷ []))
unfolding part_bytes text_of
last_byte p = (text_of p.start ++ (texts_of p.datas ++ (control_a ++ (p.end ++ (EOR ∷ check_byte p.end ∷ [])))), simp append_assoc)

-- the claim is false of bytes that end with an undamaged part: by demand 3 the last of them is answered complete
false_of : (Came : Part → List ℕ → Type 0) (p other : Part) (bytes front : List ℕ) → is_part p ≡ true → Came p bytes → is_part other ≡ true → bytes ≡ front ++ part_bytes other → NeverComplete Came → ⊥
false_of Came p other bytes front h c k e claim =
    let ones = map (λ b. on_grid (byte b)) bytes in
    let taken = singly_taken all_marks bytes in
    let u : UndamagedPart (part_bytes other) = record { part = other; rules = k; framed = refl } in
    let (most, f) = last_byte other in
    let split : front ++ part_bytes other ≡ (front ++ most) ++ (TPAD ∷ []) = ap (λ t. front ++ t) f ∙ sym (append_assoc front most (TPAD ∷ [])) in
    claim all_marks ones p h (subst (Came p) (sym taken) c) (length (front ++ most))
    (((demand_3 all_marks ones).complete (front ++ most) TPAD [] (taken ∙ e ∙ split)).1
    (record { before = front; part = part_bytes other; split = sym split; whole = u; marked = every_marked u }))

-- nothing altered
pub needs_one : NeverComplete (λ p bytes. AlteredTexts (blocks_of p) bytes) → ⊥
unfolding part_bytes texts_of are_alterations altered_bytes no_echo
needs_one =
    let whole = two_in_one_text.undamaged in
    let as-they-were = nothing ∷ nothing ∷ [] in
    false_of (λ p bytes. AlteredTexts (blocks_of p) bytes) no_echo no_echo (altered_bytes (blocks_of no_echo) as-they-were) [] whole ((alterations_claim no_echo).each_list as-they-were refl) whole
    (ap (λ t. text_of no_echo.start ++ t) (append-nil (text_of no_echo.end)))

-- one byte of one text altered, and then once more one of that text, neither to `FD`, and all else as it was
pub record TwoAltered (p : Part) (bytes : List ℕ) : Type 0 where
  pub before : List (List ℕ)
  pub block : List ℕ
  pub behind : List (List ℕ)
  pub blocks : blocks_of p ≡ before ++ (block ∷ behind)
  pub v : ℕ
  pub w : ℕ
  pub once : List ℕ
  pub twice : List ℕ
  pub first : (v ≢ FD) × AlteredTo v (text_of block) once
  pub second : (w ≢ FD) × AlteredTo w once twice
  pub came : bytes ≡ texts_of before ++ (twice ++ texts_of behind)

-- The claim with this in place of "at most one in each text", which allows no more than two, in one text alone, is false; with any number
-- in any text it is so all the more. At least one byte is altered, as in the claim: none is taken back
pub needs_at_most_one : NeverComplete (λ p bytes. TwoAltered p bytes × (bytes ≢ part_bytes p)) → ⊥
unfolding texts_of part_bytes no_echo other_clock
needs_at_most_one =
    let sample = two_in_one_text in
    false_of (λ p bytes. TwoAltered p bytes × (bytes ≢ part_bytes p)) no_echo other_clock (altered_twice ++ text_of no_echo.end) [] sample.undamaged (
      record {
        before = [];
        block = no_echo.start;
        behind = no_echo.end ∷ [];
        blocks = refl;
        v = 0x4C;
        w = 0x4E;
        once = altered_once;
        twice = altered_twice;
        first = (λ e. omega arith, sample.first);
        second = (λ e. omega arith, sample.second);
        came = ap (λ t. altered_twice ++ t) (sym (append-nil (text_of no_echo.end)));
      },
      λ e. omega (arith, sym sample.differs.1 ∙ ap (λ t. t ! 11) e ∙ sample.differs.0),
    )
    sample.other (ap (λ t. t ++ text_of no_echo.end) sample.came)

-- one byte altered to `FD`
pub needs_no_fd : NeverComplete (λ p bytes. AlteredTo FD (part_bytes p) bytes) → ⊥
needs_no_fd =
    let sample = one_to_fd in
    false_of (λ p bytes. AlteredTo FD (part_bytes p) bytes) holds_start never_sent altered_to_fd (take 20110 altered_to_fd) sample.undamaged sample.first sample.other
    (sym (take-append-drop 20110 altered_to_fd) ∙ ap (λ t. take 20110 altered_to_fd ++ t) sample.came)
