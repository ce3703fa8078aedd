-- What a receiver without the mark makes of an undamaged part: 51 at block byte 1 of each of its texts, and nothing held. Assumes
-- nothing.
use mathlib.Core.Path.{◌≡◌, refl, sym, ap, ◌∙◌, subst}
use mathlib.Core.Logic.{◌≢◌}
use mathlib.Core.Bool.{Bool, true, false, not}
use mathlib.Core.List.{List, [], ◌∷◌, ◌++◌}
use Prim.Native.Nat.{ℕ, suc, ◌+◌, ◌-◌}
use native.Mathlib.Omega.{arith}
use lib.Dec.{eqb, ltb}
use lib.ListN.{length, drop, length-append, length-drop, get_or-eq_default}
use lib.Seq.{get_or-drop}
use borrow.Author.Tests.{eq-eqb, ltb-true, ltb-false}
use Rattle.general_laws.specs.Bytes.{◌!◌, is_in, every}
use Rattle.general_laws.proofs.Tests.{by_test, never, every_at, every_append}
use Rattle.text.specs.Text.{LPAD, SYN, DLE, STX, FD, control_a, opening, check_byte, text_of}
use Rattle.text.specs.Pictures.{picture_codes, is_picture_code}
use Rattle.text.specs.Kinds.{is_kind}
use Rattle.text.specs.StartBlock.{is_start_block, radars_of, header_of}
use Rattle.text.specs.DataBlock.{payload_of, is_data_block}
use Rattle.text.specs.EndBlock.{is_end_block, modes_of, no_modes}
use Rattle.text.specs.Part.{Part, texts_of, part_bytes, in_order, start_part, UndamagedPart, zeros}
use Rattle.text_laws.proofs.Framing.{text_length_lem}
use Rattle.text_laws.proofs.KindTable.{start_is_kind, data_is_kind, end_is_kind, block_least}
use Rattle.text_laws.proofs.Blocks.{start_rules, data_rules, end_rules, PartRules, part_rules, split_3}
use Rattle.text_laws.proofs.Parts.{order_split, every_zeros}
use Rattle.receiver_spec.specs.Seen.{push}
use Rattle.receiver_spec.specs.Marks.{is_marked, all_marks}
use Rattle.receiver_spec.specs.State.{no_digits, empty_grid}
use Rattle.receiver_spec.specs.Demand3.{text_unmarked, texts_unmarked, part_unmarked}
use Rattle.receiver_spec.proofs.Machine.{Rules, Machine, mk, answering, lost, run, block}
use Rattle.receiver_spec.proofs.Opening.{pushes, seen_opening}
use Rattle.receiver_spec.proofs.WayBack.{any_open, kind_not_fd}
use Rattle.receiver_spec.proofs.Completing.{take_opening}
use Rattle.receiver_spec.proofs.Altered.{Quiet, quiet0, quiet1, closing, tail_quiet, bad_picture, idle_move}
use Rattle.receiver_spec.proofs.Opening.{only_fd}
use Rattle.receiver_spec.proofs.Instance.{Held, held, radar, radar_laws}
use Rattle.receiver_spec.proofs.BlockRules.{start_taken, data_taken, end_taken}
use Rattle.receiver_spec.proofs.PartAnswers.{Says, says_none, says_byte, says_append}

-- a block behind its picture code and kind: no opening ends in what follows the kind, up to the text's end
record Silent (block : List ℕ) (q : ℕ) : Type 0 where
  kind : ℕ
  contents : List ℕ
  is : block ≡ FD ∷ q ∷ kind ∷ contents
  known : is_kind kind ≡ true
  quiet : (w : List ℕ) (z : ℕ) → Quiet w (contents ++ closing z)

-- each block of an undamaged part is such
start_silent : (b : List ℕ) → is_start_block b ≡ true → Silent b (b ! 1)
start_silent b ok =
    let r = start_rules b ok in
    let xs = drop 3 b in
    let split : b ≡ FD ∷ b ! 1 ∷ b ! 2 ∷ xs = split_3 b (omega (arith, r.long)) r.first in
    let long : length xs ≡ 29 = omega (arith, length-drop 3 b, r.long) in
    let c = (start_taken all_marks (b ! 1) (b ! 2) (radar all_marks).blank (held (header_of (FD ∷ b ! 1 ∷ b ! 2 ∷ xs)) no_modes no_digits empty_grid) xs r.picture r.kind long).1 (subst (λ y. is_start_block y ≡ true) split ok, refl) in
    record { kind = b ! 2; contents = xs; is = split; known = start_is_kind (b ! 2) r.kind; quiet = tail_quiet (radar all_marks) (radar_laws all_marks) (start_is_kind (b ! 2) r.kind) c }

data_silent : (b : List ℕ) (q : ℕ) → is_data_block b ≡ true → b ! 1 ≡ q → Silent b q
data_silent b q ok e =
    let r = data_rules b ok in
    let known = data_is_kind (b ! 2) r.kind in
    let split : b ≡ FD ∷ b ! 1 ∷ b ! 2 ∷ payload_of b = split_3 b (omega (arith, r.long, block_least (b ! 2) known)) r.first in
    let c = (data_taken all_marks (b ! 2) (radar all_marks).blank _ (payload_of b) r.kind).1 (r.payload, refl) in
    record { kind = b ! 2; contents = payload_of b; is = split ∙ ap (λ t. FD ∷ t ∷ b ! 2 ∷ payload_of b) e; known = known; quiet = tail_quiet (radar all_marks) (radar_laws all_marks) known c }

end_silent : (start b : List ℕ) (q : ℕ) → is_end_block (radars_of start) b ≡ true → b ! 1 ≡ q → Silent b q
unfolding header_of
end_silent start b q ok e =
    let r = end_rules (radars_of start) b ok in
    let xs = drop 3 b in
    let known = end_is_kind (b ! 2) r.kind in
    let split : b ≡ FD ∷ b ! 1 ∷ b ! 2 ∷ xs = split_3 b (omega (arith, r.long)) r.first in
    let long : length xs ≡ 29 = omega (arith, length-drop 3 b, r.long) in
    let c = (end_taken all_marks (b ! 1) (b ! 2) (header_of start) no_modes no_digits empty_grid (held (header_of start) (modes_of (FD ∷ b ! 1 ∷ b ! 2 ∷ xs)) no_digits empty_grid) xs r.picture r.kind refl long).1 (subst (λ y. is_end_block (radars_of start) y ≡ true) split ok, refl) in
    record { kind = b ! 2; contents = xs; is = split ∙ ap (λ t. FD ∷ t ∷ b ! 2 ∷ xs) e; known = known; quiet = tail_quiet (radar all_marks) (radar_laws all_marks) known c }

module _ (marks q : ℕ) (listed : is_picture_code q ≡ true) (unmarked : is_marked marks q ≡ false) where
  abbrev R : Rules
  R = radar marks

  abbrev idle : List ℕ → Machine R
  idle w = lost R w

  -- nothing is under way: bytes that end no opening
  idle_says : {xs : List ℕ} (w : List ℕ) → Quiet w xs → Says marks (idle w) xs (zeros (length xs)) (idle (pushes w xs))
  unfolding zeros
  idle_says w quiet0 = says_none
  idle_says w (quiet1 {x} e r) = says_byte (idle_move R (radar_laws marks) w x R.blank e) (idle_says (push w x) r)

  not_fd : q ≢ FD
  unfolding is_picture_code picture_codes is_in
  not_fd e = never refl (subst (λ x. is_picture_code x ≡ true) e listed)

  -- a text from its picture code on, wherever its opening led
  behind_says : {b : List ℕ} (x : Silent b q) (p d : ℕ) (c : Held)
      → (w : List ℕ) × Says marks (mk R seen_opening 1 0 0 p d FD c) (q ∷ x.kind ∷ (x.contents ++ closing (check_byte b))) (51 ∷ zeros (length (text_of b) - 7)) (idle w)
  behind_says {b} x p d c =
      let rest = x.kind ∷ (x.contents ++ closing (check_byte b)) in
      let w = push seen_opening q in
      let long : length rest ≡ length (text_of b) - 7 = omega (arith, text_length_lem b, ap length x.is, length-append x.contents (closing (check_byte b))) in
      let quiet : Quiet w rest = quiet1 (only_fd w x.kind (kind_not_fd R (radar_laws marks) x.kind x.known)) (x.quiet _ _) in (
        pushes w rest,
        says_byte {a = 51} (bad_picture R (radar_laws marks) p d q c not_fd unmarked ∙ ap (λ a. answering R a (lost R w)) (rw listed))
            (subst (λ n. Says marks (idle w) rest (zeros n) (idle (pushes w rest))) long (idle_says w quiet)),
      )

  text_is : {b : List ℕ} (x : Silent b q) → text_of b ≡ opening ++ (q ∷ x.kind ∷ (x.contents ++ closing (check_byte b)))
  unfolding text_of
  text_is {b} x = ap (λ t. control_a ++ (t ++ closing (check_byte b))) x.is

  -- a whole text, with nothing under way before it
  control_quiet : (w : List ℕ) → Quiet w control_a
  control_quiet w =
      quiet1 (only_fd w LPAD (λ e. omega arith))
      (quiet1 (only_fd _ SYN (λ e. omega arith)) (quiet1 (only_fd _ SYN (λ e. omega arith)) (quiet1 (only_fd _ DLE (λ e. omega arith)) (quiet1 (only_fd _ STX (λ e. omega arith)) quiet0))))

  opening_says : (w : List ℕ) → Says marks (idle w) opening (zeros 6) (mk R seen_opening 1 0 0 0 0 FD R.blank)
  unfolding zeros
  opening_says w = says_append marks (idle_says w (control_quiet w)) (says_byte (take_opening R (radar_laws marks) 0 0 R.blank) says_none)

  text_says : {b : List ℕ} → Silent b q → (w : List ℕ) → (v : List ℕ) × Says marks (idle w) (text_of b) (text_unmarked b) (idle v)
  text_says {b} x w =
      let (v, rest) = behind_says x 0 0 R.blank in
      (v, subst (λ t. Says marks (idle w) t (text_unmarked b) (idle v)) (sym (text_is x)) (says_append marks (opening_says w) rest))

  datas_say : (p k : ℕ) (datas : List (List ℕ)) → in_order q p k datas ≡ true → (w : List ℕ) → (v : List ℕ) × Says marks (idle w) (texts_of datas) (texts_unmarked datas) (idle v)
  unfolding texts_of texts_unmarked
  datas_say p k [] h w = (w, says_none)
  datas_say p k (b ∷ datas) h w =
      let (ok, picture, _, later) = order_split q p k b datas h in
      let (v, here) = text_says (data_silent b q ok picture) w in
      let (u, rest) = datas_say p (suc k) datas later v in
      (u, says_append marks here rest)

-- An undamaged part whose picture is unmarked, given to a receiver in any state: its first six bytes, an opening, and how those
-- behind them are answered
pub record Refused (marks : ℕ) {part : List ℕ} (u : UndamagedPart part) : Type 0 where
  pub tail : List ℕ
  pub split : part ≡ opening ++ tail
  pub says : (m : Machine (radar marks)) → (w : List ℕ) × Says marks (run (radar marks) m opening) tail (part_unmarked u.part) (lost (radar marks) w)

pub part_refused : (marks : ℕ) {part : List ℕ} (u : UndamagedPart part) → is_marked marks (u.part.start ! 1) ≡ false → Refused marks u
unfolding part_bytes zeros
part_refused marks {part} u hm =
    record {
      tail = first ++ (texts_of p.datas ++ text_of p.end);
      split = u.framed ∙ ap (λ t. t ++ (texts_of p.datas ++ text_of p.end)) (text_is marks q listed hm start);
      says = λ m. let o = any_open (radar marks) (radar_laws marks) m in
          let (v, a) = behind_says marks q listed hm start o.0 o.1 o.2 in
          let (w, b) = datas_say marks q listed hm (start_part p.start) 1 p.datas r.order v in
          let (x, c) = text_says marks q listed hm (end_silent p.start p.end q r.end r.end_picture) w in
          (x, subst (λ t. Says marks t (first ++ (texts_of p.datas ++ text_of p.end)) (part_unmarked p) (lost (radar marks) x)) (sym o.3) (says_append marks a (says_append marks b c)));
    }
  where
    p : Part
    p = u.part

    r : PartRules p
    r = part_rules p u.rules

    q : ℕ
    q = p.start ! 1

    listed : is_picture_code q ≡ true
    listed = (start_rules p.start r.start).picture

    start : Silent p.start q
    start = start_silent p.start r.start

    first : List ℕ
    first = q ∷ start.kind ∷ (start.contents ++ closing (check_byte p.start))

-- ---- no such answer is 3

other : ℕ → Bool
other a = not (eqb a 3)

text_other : (block : List ℕ) → every other (text_unmarked block) ≡ true
unfolding every other
text_other block = every_append other (zeros 6) (51 ∷ zeros (length (text_of block) - 7)) (every_zeros other 6 refl) (every_zeros other (length (text_of block) - 7) refl)

texts_other : (blocks : List (List ℕ)) → every other (texts_unmarked blocks) ≡ true
unfolding every texts_unmarked
texts_other [] = refl
texts_other (block ∷ blocks) = every_append other (text_unmarked block) (texts_unmarked blocks) (text_other block) (texts_other blocks)

pub unmarked_other : (p : Part) (i : ℕ) → part_unmarked p ! i ≢ 3
unfolding other
unmarked_other p i e =
    let all = text_unmarked p.start ++ (texts_unmarked p.datas ++ text_unmarked p.end) in
    let each : every other all ≡ true =
    every_append other (text_unmarked p.start) _ (text_other p.start) (every_append other (texts_unmarked p.datas) _ (texts_other p.datas) (text_other p.end)) in
    let here : all ! (6 + i) ≡ 3 = sym (get_or-drop 6 all i 0) ∙ e in
    by_test (ltb (6 + i) (length all))
    (λ t. never (ap not (eq-eqb (all ! (6 + i)) 3 here)) (every_at other all each (6 + i) (ltb-true (6 + i) (length all) t)))
    (λ t. omega (arith, here, get_or-eq_default all 0 (ltb-false (6 + i) (length all) t)))
