-- Bytes are one undamaged part exactly when their last byte is answered 3 and they are as long as the part that ends with it. Assumes nothing.
use mathlib.Core.Path.{◌≡◌, refl, sym, ap, ap₂, ◌∙◌, subst}
use mathlib.Core.Logic.{◌↔◌}
use mathlib.Core.Bool.{Bool, true, false, ◌&&◌}
use mathlib.Core.List.{List, [], ◌∷◌, ◌++◌, append_assoc, map}
use Prim.Native.Nat.{ℕ, suc, ◌+◌, ◌-◌, ◌≤◌, ◌<◌}
use native.Mathlib.Omega.{arith}
use lib.Dec.{eqb}
use lib.ListN.{length, take, length-append, drop_of_length-le, get_or-append}
use lib.Seq.{split_at, length-take-le, get_or-append-add}
use borrow.Author.Tests.{eqb-true, eq-eqb}
use Rattle.general_laws.specs.Bytes.{◌!◌}
use Rattle.text.specs.Text.{control_b, text_of}
use Rattle.text.specs.Kinds.{is_kind, is_part_number, part_of, part_length}
use Rattle.text.specs.StartBlock.{no_echo_of, radars_of, header_of}
use Rattle.text.specs.Part.{texts_of, part_bytes, start_part, UndamagedPart, is_undamaged_part}
use Rattle.text.specs.declared.header.Header.{Header}
use Rattle.general_laws.proofs.Tests.{by_test, never, and_split, and_join}
use Rattle.text_laws.proofs.Framing.{text_length_lem}
use Rattle.text_laws.proofs.Blocks.{StartRules, start_rules, EndRules, end_rules, PartRules, part_rules}
use Rattle.text_laws.proofs.KindTable.{kind_part, text_back, start_is_kind, end_is_kind}
use Rattle.text_laws.proofs.Parts.{part_length_lem}
use Rattle.text_laws.proofs.Deciding.{part_decided}
use Rattle.receiver_spec.specs.Marks.{all_marks}
use Rattle.receiver_spec.specs.State.{State, fresh, empty_grid}
use Rattle.receiver_spec.specs.Calls.{byte, on_grid, singly, answers_of, state_after, Call}
use Rattle.receiver_spec.specs.Demand3.{EndsUndamaged}
use Rattle.receiver_spec.proofs.Laws.{calls_stepped, singly_taken, demand_3, held_then, every_marked}

-- ---- a part

module _ (bytes : List ℕ) (u : UndamagedPart bytes) where
  rules : PartRules u.part
  rules = part_rules u.part u.rules

  start_kept : StartRules u.part.start
  start_kept = start_rules u.part.start rules.start

  end_kept : EndRules (radars_of u.part.start) u.part.end
  end_kept = end_rules (radars_of u.part.start) u.part.end rules.end

  pub numbered : is_part_number (start_part u.part.start) ≡ true
  numbered = kind_part (u.part.start ! 2) (start_is_kind (u.part.start ! 2) start_kept.kind)

  long_is : length bytes ≡ part_length (start_part u.part.start) (no_echo_of (u.part.start ! 4))
  long_is = ap length u.framed ∙ part_length_lem u.part u.rules

  -- a start text and an end text at least
  pub part_long : 80 ≤ length bytes
  unfolding part_length
  part_long = rw (long_is, numbered) (omega arith)

  -- the end text's kind tells the part
  end_part : part_of (u.part.end ! 2) ≡ start_part u.part.start
  end_part =
      ap part_of rules.end_kind
      ∙ (text_back (start_part u.part.start) 11 (subst (λ t. is_kind t ≡ true) rules.end_kind (end_is_kind (u.part.end ! 2) end_kept.kind))).0

-- a byte of the last text, from the end
from_end : (front text : List ℕ) → length text ≡ 40 → (front ++ text) ! (length (front ++ text) - 33) ≡ text ! 7
from_end front text l =
    let place : length (front ++ text) - 33 ≡ length front + 7 = omega (arith, length-append front text) in
    ap (λ i. (front ++ text) ! i) place ∙ get_or-append-add front text 7 0

kind_in_text : (block : List ℕ) → length block ≡ 32 → text_of block ! 7 ≡ block ! 2
unfolding text_of
kind_in_text block l = get_or-append block (control_b block) 0 2 (omega arith)

-- ---- bytes that end with a part

state_behind : (bytes : List ℕ) → (singly all_marks bytes).state ≡ state_after (fresh all_marks) empty_grid bytes
state_behind bytes = (calls_stepped all_marks (map (λ b. on_grid (byte b)) bytes)).state ∙ ap (state_after (fresh all_marks) empty_grid) (singly_taken all_marks bytes)

said_behind : (bytes : List ℕ) → (singly all_marks bytes).said ≡ answers_of (fresh all_marks) empty_grid bytes
said_behind bytes = (calls_stepped all_marks (map (λ b. on_grid (byte b)) bytes)).said ∙ ap (answers_of (fresh all_marks) empty_grid) (singly_taken all_marks bytes)

-- the length that header and end text tell
abbrev pub expected_length : List ℕ → ℕ
expected_length bytes = part_length (part_of (bytes ! (length bytes - 33))) (state_after (fresh all_marks) empty_grid bytes).header.noecho

expected_length_right : (before part bytes : List ℕ) → UndamagedPart part → bytes ≡ before ++ part → expected_length bytes ≡ length part
unfolding part_bytes header_of
expected_length_right before part bytes u e = ap₂ part_length kind noecho ∙ sym (long_is part u)
  where
    front : List ℕ
    front = before ++ (text_of u.part.start ++ texts_of u.part.datas)

    ends : bytes ≡ front ++ text_of u.part.end
    ends = e ∙ ap (λ t. before ++ t) u.framed ∙ simp append_assoc

    kind : part_of (bytes ! (length bytes - 33)) ≡ start_part u.part.start
    kind =
        let long = (end_kept part u).long in
        ap part_of (ap (λ (t : List ℕ). t ! (length t - 33)) ends ∙ from_end front (text_of u.part.end) (omega (arith, text_length_lem u.part.end)) ∙ kind_in_text u.part.end long)
        ∙ end_part part u

    ones : List Call
    ones = map (λ b. on_grid (byte b)) bytes

    header : (state_after (fresh all_marks) empty_grid bytes).header ≡ header_of u.part.start
    header = ap (λ (s : State). s.header) (sym (state_behind bytes)) ∙ (held_then all_marks ones before part u (every_marked u) (singly_taken all_marks bytes ∙ e)).0

    noecho : (state_after (fresh all_marks) empty_grid bytes).header.noecho ≡ no_echo_of (u.part.start ! 4)
    noecho = ap (λ (h : Header). h.noecho) header

-- the last byte is answered 3 where the bytes end with a part
last_3 : (bytes : List ℕ) → 1 ≤ length bytes → (answers_of (fresh all_marks) empty_grid bytes ! (length bytes - 1) ≡ 3) ↔ EndsUndamaged all_marks bytes
last_3 bytes l = (
  λ h. subst (EndsUndamaged all_marks) (sym split) (complete.0 (said ∙ h)),
  λ u. sym said ∙ complete.1 (subst (EndsUndamaged all_marks) split u),
)
  where
    front : List ℕ
    front = take (length bytes - 1) bytes

    last : ℕ
    last = bytes ! (length bytes - 1)

    split : bytes ≡ front ++ (last ∷ [])
    split =
        split_at bytes (length bytes - 1) 0 (omega arith)
        ∙ ap (λ t. take (length bytes - 1) bytes ++ (bytes ! (length bytes - 1) ∷ t)) (drop_of_length-le bytes {i = suc (length bytes - 1)} (omega arith))

    complete : ((singly all_marks bytes).said ! length front ≡ 3) ↔ EndsUndamaged all_marks (front ++ (last ∷ []))
    complete = (demand_3 all_marks (map (λ b. on_grid (byte b)) bytes)).complete front last [] (singly_taken all_marks bytes ∙ split)

    said : (singly all_marks bytes).said ! length front ≡ answers_of (fresh all_marks) empty_grid bytes ! (length bytes - 1)
    said = ap₂ (λ (t : List ℕ) i. t ! i) (said_behind bytes) (length-take-le (length bytes - 1) bytes (omega arith))

no_front : (before part : List ℕ) → length (before ++ part) ≡ length part → before ++ part ≡ part
no_front [] part e = refl
no_front (x ∷ before) part e = absurd (omega (arith, length-append before part))

-- ---- the decision

pub decided : (bytes : List ℕ) → 80 ≤ length bytes
    → (eqb (answers_of (fresh all_marks) empty_grid bytes ! (length bytes - 1)) 3 && eqb (length bytes) (expected_length bytes)) ≡ is_undamaged_part bytes
decided bytes l =
    by_test (is_undamaged_part bytes) (λ h. whole ((part_decided bytes).0 h) ∙ sym h) (λ h. by_test test (λ t. never h ((part_decided bytes).1 (found t))) (λ t. t ∙ sym h))
  where
    some : 1 ≤ length bytes
    some = omega arith

    test : Bool
    test = eqb (answers_of (fresh all_marks) empty_grid bytes ! (length bytes - 1)) 3 && eqb (length bytes) (expected_length bytes)

    whole : UndamagedPart bytes → test ≡ true
    whole u =
        and_join (eq-eqb _ _ ((last_3 bytes some).1 (record { before = []; part = bytes; split = refl; whole = u; marked = every_marked u })))
        (eq-eqb _ _ (sym (expected_length_right [] bytes bytes u refl)))

    found : test ≡ true → UndamagedPart bytes
    found t =
        let (said, long) = and_split _ _ t in
        let ends = (last_3 bytes some).0 (eqb-true _ _ said) in
        let same : length bytes ≡ length ends.part = eqb-true _ _ long ∙ expected_length_right ends.before ends.part bytes ends.whole ends.split in
        subst UndamagedPart (sym (ends.split ∙ no_front ends.before ends.part (ap length (sym ends.split) ∙ same))) ends.whole

pub too_short : (bytes : List ℕ) → length bytes < 80 → false ≡ is_undamaged_part bytes
too_short bytes l =
    by_test (is_undamaged_part bytes) (λ h. absurd (omega (arith, part_long bytes ((part_decided bytes).0 h)))) (λ h. sym h)
