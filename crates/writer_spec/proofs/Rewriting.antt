-- Complete is rewritten: what a receiver holds after an undamaged part is written again as that part. Assumes nothing.
use mathlib.Core.Path.{◌≡◌, refl, sym, ap, ap₂, ◌∙◌, subst}
use mathlib.Core.Bool.{Bool, true, false, not, ◌&&◌, and-true, and-false}
use mathlib.Core.List.{List, [], ◌∷◌, ◌++◌, map}
use Prim.Native.Nat.{ℕ, zero, suc, ◌+◌, ◌-◌, ◌≤◌, ◌<◌}
use native.Mathlib.Omega.{arith}
use lib.Dec.{eqb, lit≤}
use lib.ListN.{length}
use lib.Seq.{sets, length-sets}
use borrow.Author.Tests.{eqb-true, not-true}
use Rattle.general_laws.specs.Bytes.{◌!◌, is_in, every}
use Rattle.text.specs.Text.{text_of, check_byte}
use Rattle.text.specs.Kinds.{is_part_number, data_texts, payload_length}
use Rattle.text.specs.StartBlock.{no_echo_of, mode_byte, clock_bytes, radars_of, header_of}
use Rattle.text.specs.EndBlock.{modes_of}
use Rattle.text.specs.Part.{Part, texts_of, part_bytes, data_texts_after, is_part, UndamagedPart, payloads_of, zeros, part_modes}
use Rattle.general_laws.proofs.Places.{places}
use Rattle.general_laws.proofs.Lists.{suc_add}
use Rattle.general_laws.proofs.Tests.{by_test, and_split, neither}
use Rattle.text_laws.proofs.KindTable.{by_part, no_texts}
use Rattle.text_laws.proofs.Framing.{text_length_lem}
use Rattle.text_laws.proofs.Blocks.{PartRules, part_rules}
use Rattle.text_laws.proofs.Parts.{start_long, end_long, every_zeros}
use Rattle.writer_spec.specs.Written.{writes_no_echo, status_byte, time_text, block_of, start_contents, end_contents, data_blocks, written_part}
use Rattle.writer_spec.specs.Demand2.{held_part, held_payload, rewritten_part, has_all_zero_data, end_at, start_places, end_places, may_differ, plain_status, plain_mode, is_plain, no_echo_start, no_echo_end, Rewritten, is_plain_start, is_plain_end}
use Rattle.writer_spec.proofs.Places.{in_shifted, append_agrees, sets_at, sets_same, text_agrees, start_byte_at, end_byte_at, bytes_long, start_check_at, end_check_at}
use Rattle.writer_spec.proofs.WrittenAgain.{start_again, end_again, datas_again}
use Rattle.writer_spec.proofs.HeldPart.{is_part_number_lem, held_payload_lem, radars_long, held_taken}

-- ---- how many data texts

-- quality has its data text whatever its NO ECHO bit says
texts_plain : (p : ℕ) (no_echo : Bool) → data_texts p (no_echo && not (eqb p 3)) ≡ data_texts p no_echo
unfolding data_texts
texts_plain p no_echo = by_test (eqb p 3) (λ e. rw e) (λ e. rw (e, and-true no_echo))

-- a part without NO ECHO has data texts
some_texts : (p : ℕ) → is_part_number p ≡ true → eqb (data_texts p false) 0 ≡ false
unfolding data_texts
some_texts = by_part (λ p. eqb (data_texts p false) 0 ≡ false) refl refl refl

no_payloads : (blocks : List (List ℕ)) → length blocks ≡ 0 → payloads_of blocks ≡ []
unfolding payloads_of
no_payloads [] h = refl
no_payloads (block ∷ blocks) h = absurd (omega arith)

-- ---- mode bytes by place

map_place : (f : ℕ → ℕ) (n m i : ℕ) → i < m → map f (places n m) ! i ≡ f (n + i)
map_place f n zero i h = absurd (omega arith)
map_place f n (suc m) zero h = ap f (first n)
  where
    first : (n : ℕ) → n ≡ n + 0
    first n = omega arith
map_place f n (suc m) (suc i) h = map_place f (suc n) m i (omega arith) ∙ ap f (suc_add n i)

map_same : (f g : ℕ → ℕ) (js : List ℕ) → every (λ j. eqb (f j) (g j)) js ≡ true → map f js ≡ map g js
unfolding every
map_same f g [] h = refl
map_same f g (j ∷ js) h =
    let (a, b) = and_split (eqb (f j) (g j)) (every (λ j. eqb (f j) (g j)) js) h in
    ap₂ (λ x xs. x ∷ xs) (eqb-true (f j) (g j) a) (map_same f g js b)

-- ---- a part with plain status and mode bytes

abbrev plain_start : Part → List ℕ
plain_start part = plain_status (held_part part) (part.start ! 4) ∷ plain_mode (part.start ! 5) ∷ []

abbrev plain_end : Part → List ℕ
plain_end part = map (λ j. plain_mode (part.end ! j)) (places 3 8)

abbrev plain_part : Part → Part
plain_part part = record { start = sets part.start 4 (plain_start part); datas = part.datas; end = sets part.end 3 (plain_end part) }

module _ (part : Part) (h : is_part part ≡ true) where
  abbrev rules : PartRules part
  rules = part_rules part h

  -- ---- what is written

  -- with NO ECHO, intensity and top have no payload but zeros
  no_echo_read : eqb (held_part part) 3 ≡ false → no_echo_of (part.start ! 4) ≡ true → every (λ b. eqb b 0) (held_payload part) ≡ true
  no_echo_read e t =
      let none : length part.datas ≡ 0 = rules.count ∙ ap (data_texts (held_part part)) t ∙ no_texts (held_part part) e in
      let zero : held_payload part ≡ zeros (payload_length (held_part part) - 0) =
      held_payload_lem part h ∙ ap (λ t. t ++ zeros (payload_length (held_part part) - length t)) (no_payloads part.datas none) in
      subst (λ t. every (λ b. eqb b 0) t ≡ true) (sym zero) (every_zeros (λ b. eqb b 0) (payload_length (held_part part) - 0) refl)

  -- NO ECHO is written as it came, but not in quality
  echo_again : has_all_zero_data part ≡ false → writes_no_echo (held_part part) (held_payload part) ≡ (no_echo_of (part.start ! 4) && not (eqb (held_part part) 3))
  unfolding writes_no_echo
  echo_again c =
      by_test (eqb (held_part part) 3) (λ e. rw e (sym (and-false (no_echo_of (part.start ! 4)))))
      (λ e. by_test (no_echo_of (part.start ! 4)) (λ t. rw (e, t, no_echo_read e t))
      (λ t. rw (e, t) (rw (e, t, some_texts (held_part part) (is_part_number_lem part h), and-true) at c)))

  start_same : has_all_zero_data part ≡ false → (rewritten_part part).start ≡ (plain_part part).start
  unfolding written_part header_of
  start_same c =
      start_again part.start (writes_no_echo (held_part part) (held_payload part)) (part_modes part) rules.start
      ∙ ap₂ (λ a m. sets part.start 4 (status_byte a ∷ mode_byte m ∷ [])) (echo_again c) (sym rules.mode)

  datas_same : has_all_zero_data part ≡ false → (rewritten_part part).datas ≡ part.datas
  unfolding written_part header_of
  datas_same c =
      let count : data_texts (held_part part) (writes_no_echo (held_part part) (held_payload part)) ≡ length part.datas =
      ap (data_texts (held_part part)) (echo_again c) ∙ texts_plain (held_part part) (no_echo_of (part.start ! 4)) ∙ sym rules.count in
      ap₂ (λ n t. data_blocks (held_part part) (part.start ! 1) 1 n t) count (held_payload_lem part h)
      ∙ datas_again (part.start ! 1) (held_part part) 1 part.datas (zeros (payload_length (held_part part) - length (payloads_of part.datas))) rules.order

  end_same : (rewritten_part part).end ≡ (plain_part part).end
  unfolding written_part header_of
  end_same =
      ap₂ (λ q k. block_of q k (end_contents (part_modes part))) (sym rules.end_picture) (sym rules.end_kind)
      ∙ end_again (radars_of part.start) part.end rules.end

  -- No data texts of all zeros: the same part, with plain status and mode bytes
  part_again : has_all_zero_data part ≡ false → rewritten_part part ≡ plain_part part
  part_again c = λ i. record { start = start_same c i; datas = datas_same c i; end = end_same i }

  -- ---- the bytes of the plain part

  start_text : length (text_of (plain_part part).start) ≡ length (text_of part.start)
  start_text = text_length_lem (plain_part part).start ∙ ap (λ n. n + 8) (length-sets part.start 4 (plain_start part)) ∙ sym (text_length_lem part.start)

  end_text : length (text_of (plain_part part).end) ≡ length (text_of part.end)
  end_text = text_length_lem (plain_part part).end ∙ ap (λ n. n + 8) (length-sets part.end 3 (plain_end part)) ∙ sym (text_length_lem part.end)

  plain_long : length (part_bytes (plain_part part)) ≡ length (part_bytes part)
  plain_long =
      bytes_long (plain_part part)
      ∙ ap₂ (λ a b. a + length (texts_of part.datas) + b) start_text end_text
      ∙ sym (bytes_long part)

  -- where the end text begins
  end_begins : end_at (part_bytes part) ≡ length (text_of part.start) + length (texts_of part.datas)
  end_begins = omega (arith, bytes_long part, text_length_lem part.end, end_long part h)

  plain_places : (i : ℕ) → may_differ (part_bytes part) i ≡ false → part_bytes (plain_part part) ! i ≡ part_bytes part ! i
  unfolding part_bytes
  plain_places i m =
      let (a, b) = neither (is_in i start_places) (is_in i (map (λ j. end_at (part_bytes part) + j) end_places)) m in
      append_agrees (text_of (plain_part part).start) (text_of part.start) (texts_of part.datas ++ text_of (plain_part part).end) (texts_of part.datas ++ text_of part.end) start_text i
      (λ _. text_agrees part.start 4 (plain_start part) i (start_long part h) a)
      (λ j e. append_agrees (texts_of part.datas) (texts_of part.datas) (text_of (plain_part part).end) (text_of part.end) refl j
      (λ _. refl)
      (λ k f. text_agrees part.end 3 (plain_end part) k (end_long part h) (free b k (omega (arith, end_begins, start_text)))))
    where
      free : is_in i (map (λ j. end_at (part_bytes part) + j) end_places) ≡ false → (k : ℕ) → i ≡ end_at (part_bytes part) + k → is_in k end_places ≡ false
      free b k e =
          sym (in_shifted (end_at (part_bytes part)) k end_places) ∙ ap (λ t. is_in t (map (λ j. end_at (part_bytes part) + j) end_places)) (sym e) ∙ b

  plain_long_start : 32 ≤ length (plain_part part).start
  plain_long_start = omega (arith, length-sets part.start 4 (plain_start part), start_long part h)

  plain_status_lem : part_bytes (plain_part part) ! 9 ≡ plain_status (held_part part) (part_bytes part ! 9)
  plain_status_lem =
      start_byte_at (plain_part part) 4 (omega (arith, plain_long_start))
      ∙ sets_at part.start 4 (plain_start part) 0 (omega (arith, start_long part h)) (lit≤ tt)
      ∙ ap (plain_status (held_part part)) (sym (start_byte_at part 4 (omega (arith, start_long part h))))

  plain_mode_lem : part_bytes (plain_part part) ! 10 ≡ plain_mode (part_bytes part ! 10)
  plain_mode_lem =
      start_byte_at (plain_part part) 5 (omega (arith, plain_long_start))
      ∙ sets_at part.start 4 (plain_start part) 1 (omega (arith, start_long part h)) (lit≤ tt)
      ∙ ap plain_mode (sym (start_byte_at part 5 (omega (arith, start_long part h))))

  plain_modes : (i : ℕ) → i < 8 → part_bytes (plain_part part) ! (end_at (part_bytes part) + (8 + i)) ≡ plain_mode (part_bytes part ! (end_at (part_bytes part) + (8 + i)))
  plain_modes i l =
      let n = end_at (part_bytes part) in
      let place : n + (8 + i) ≡ n + (5 + (3 + i)) = omega arith in
      ap (λ t. part_bytes (plain_part part) ! t) place
      ∙ end_byte_at (plain_part part) n (3 + i) (omega (arith, end_begins, start_text)) (omega (arith, length-sets part.end 3 (plain_end part), end_long part h))
      ∙ sets_at part.end 3 (plain_end part) i (omega (arith, end_long part h)) l
      ∙ map_place (λ j. plain_mode (part.end ! j)) 3 8 i l
      ∙ ap plain_mode (sym (end_byte_at part n (3 + i) end_begins (omega (arith, end_long part h))) ∙ ap (λ t. part_bytes part ! t) (sym place))

  -- plain bytes are left as they are
  plain_start_lem : is_plain_start part ≡ true → (plain_part part).start ≡ part.start
  plain_start_lem p =
      let (a, b) = and_split (eqb (plain_status (held_part part) (part.start ! 4)) (part.start ! 4)) (eqb (plain_mode (part.start ! 5)) (part.start ! 5)) p in
      ap₂ (λ s t. sets part.start 4 (s ∷ t ∷ [])) (eqb-true _ _ a) (eqb-true _ _ b) ∙ sets_same part.start 4 2

  plain_end_lem : is_plain_end part ≡ true → (plain_part part).end ≡ part.end
  plain_end_lem p = ap (λ t. sets part.end 3 t) (map_same (λ j. plain_mode (part.end ! j)) (λ j. part.end ! j) (places 3 8) p) ∙ sets_same part.end 3 8

  plain_same : is_plain part ≡ true → plain_part part ≡ part
  plain_same p =
      let (s, e) = and_split (is_plain_start part) (is_plain_end part) p in
      λ i. record { start = plain_start_lem s i; datas = part.datas; end = plain_end_lem e i }

  -- the check bytes
  plain_end_long : length (plain_part part).end ≡ 32
  plain_end_long = length-sets part.end 3 (plain_end part) ∙ end_long part h

  plain_checks : (part_bytes (plain_part part) ! 38 ≡ check_byte (plain_part part).start) × (part_bytes (plain_part part) ! (end_at (part_bytes part) + 38) ≡ check_byte (plain_part part).end)
  plain_checks = (
    start_check_at (plain_part part) (length-sets part.start 4 (plain_start part) ∙ start_long part h),
    end_check_at (plain_part part) (end_at (part_bytes part)) (omega (arith, end_begins, start_text)) plain_end_long,
  )

  own_checks : (part_bytes part ! 38 ≡ check_byte part.start) × (part_bytes part ! (end_at (part_bytes part) + 38) ≡ check_byte part.end)
  own_checks = (start_check_at part (start_long part h), end_check_at part (end_at (part_bytes part)) end_begins (end_long part h))

  -- ---- data texts of all zeros

  zero_echo : has_all_zero_data part ≡ true → writes_no_echo (held_part part) (held_payload part) ≡ true
  zero_echo c = (and_split (writes_no_echo (held_part part) (held_payload part)) (not (eqb (data_texts_after part.start) 0)) c).0

  zero_part : has_all_zero_data part ≡ true → eqb (held_part part) 3 ≡ false
  unfolding writes_no_echo
  zero_part c = not-true _ (and_split (not (eqb (held_part part) 3)) (every (λ b. eqb b 0) (held_payload part)) (zero_echo c)).0

  zero_datas : has_all_zero_data part ≡ true → (rewritten_part part).datas ≡ []
  unfolding written_part data_blocks
  zero_datas c =
      ap (λ n. data_blocks (held_part part) (header_of part.start).picture 1 n (held_payload part))
      (ap (data_texts (held_part part)) (zero_echo c) ∙ no_texts (held_part part) (zero_part c))

  zero_start : has_all_zero_data part ≡ true → (rewritten_part part).start ≡ no_echo_start part
  unfolding written_part header_of status_byte
  zero_start c =
      start_again part.start (writes_no_echo (held_part part) (held_payload part)) (part_modes part) rules.start
      ∙ ap₂ (λ a m. sets part.start 4 (status_byte a ∷ mode_byte m ∷ [])) (zero_echo c) (sym rules.mode)

  zero_bytes : has_all_zero_data part ≡ true → part_bytes (rewritten_part part) ≡ text_of (no_echo_start part) ++ text_of (no_echo_end part)
  unfolding part_bytes texts_of
  zero_bytes c =
      ap (λ t. text_of (rewritten_part part).start ++ (texts_of t ++ text_of (rewritten_part part).end)) (zero_datas c)
      ∙ ap₂ (λ s e. text_of s ++ text_of e) (zero_start c) end_same

  again_start_long : length (rewritten_part part).start ≡ 32
  unfolding written_part start_contents clock_bytes time_text header_of
  again_start_long = omega (arith, radars_long part h)

  again_end_long : length (rewritten_part part).end ≡ 32
  unfolding written_part end_contents modes_of zeros
  again_end_long = refl

  zero_long : has_all_zero_data part ≡ true → length (part_bytes (rewritten_part part)) ≡ 80
  unfolding texts_of
  zero_long c =
      bytes_long (rewritten_part part)
      ∙ ap (λ t. length (text_of (rewritten_part part).start) + length (texts_of t) + length (text_of (rewritten_part part).end)) (zero_datas c)
      ∙ omega (arith, text_length_lem (rewritten_part part).start, text_length_lem (rewritten_part part).end, again_start_long, again_end_long)

-- Complete is rewritten
pub rewritten : (bytes : List ℕ) (u : UndamagedPart bytes) → Rewritten bytes u
rewritten bytes u =
    record {
      taken = held_taken part h;
      long = λ c. ap (λ t. length (part_bytes t)) (part_again part h c) ∙ plain_long part h ∙ ap length (sym framed);
      places = λ c i m. again c i ∙ plain_places part h i (subst (λ t. may_differ t i ≡ false) framed m) ∙ ap (λ t. t ! i) (sym framed);
      status = λ c. (
        again c 9 ∙ plain_status_lem part h ∙ ap (λ t. plain_status (held_part part) (t ! 9)) (sym framed),
        again c 10 ∙ plain_mode_lem part h ∙ ap (λ t. plain_mode (t ! 10)) (sym framed),
      );
      modes = λ c i l. again c (end_at bytes + (8 + i)) ∙ subst (λ t. part_bytes (plain_part part) ! (end_at t + (8 + i)) ≡ plain_mode (t ! (end_at t + (8 + i)))) (sym framed) (plain_modes part h i l);
      checks = λ c. (
        again c 38 ∙ (plain_checks part h).0 ∙ ap (λ t. check_byte t.start) (sym (part_again part h c)),
        again c (end_at bytes + 38) ∙ ap (λ t. part_bytes (plain_part part) ! (end_at t + 38)) framed ∙ (plain_checks part h).1
            ∙ ap (λ t. check_byte t.end) (sym (part_again part h c)),
      );
      start_check = λ c p. again c 38 ∙ (plain_checks part h).0 ∙ ap check_byte (plain_start_lem part h p) ∙ sym (own_checks part h).0 ∙ ap (λ t. t ! 38) (sym framed);
      end_check = λ c p.
          again c (end_at bytes + 38) ∙ ap (λ t. part_bytes (plain_part part) ! (end_at t + 38)) framed ∙ (plain_checks part h).1 ∙ ap check_byte (plain_end_lem part h p)
          ∙ sym (own_checks part h).1 ∙ ap (λ t. t ! (end_at t + 38)) (sym framed);
      same = λ c p. ap part_bytes (part_again part h c ∙ plain_same part h p) ∙ sym framed;
      all_zero_data = λ c. (zero_bytes part h c, zero_long part h c);
    }
  where
    part : Part
    part = u.part

    h : is_part part ≡ true
    h = u.rules

    framed : bytes ≡ part_bytes part
    framed = u.framed

    again : has_all_zero_data part ≡ false → (i : ℕ) → part_bytes (rewritten_part part) ! i ≡ part_bytes (plain_part part) ! i
    again c i = ap (λ t. part_bytes t ! i) (part_again part h c)
