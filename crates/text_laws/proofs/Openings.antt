-- Inside an undamaged text an opening ends only at the block's byte 0.
-- Two bytes besides may be `FD`, and neither ends an opening, since the byte before it is no STX:
-- before status 1 stands the NULL byte, before the check byte the EOR. Assumes nothing.
use mathlib.Core.Path.{◌≡◌, refl, sym, ap, ◌∙◌, subst}
use mathlib.Core.Logic.{◌⊎◌, inl, inr, ◌≢◌, ⊎_elim}
use mathlib.Core.Bool.{Bool, true, false, not, ◌&&◌, ◌||◌}
use mathlib.Core.List.{List, [], ◌∷◌, ◌++◌, append_assoc, head-eq_of_cons-eq, tail-eq_of_cons-eq}
use Prim.Native.Nat.{ℕ, zero, suc, ◌+◌, ◌-◌, ◌≤◌, ◌<◌}
use native.Mathlib.Omega.{arith}
use lib.Dec.{eqb, ltb}
use lib.ListN.{length, take, drop, length-append, length-take, length-drop, take-append-drop, get_or-append}
use lib.Seq.{get_or-append-add, get_or-drop, get_or-take, take-suc, take-append-le, length-take-le}
use borrow.Author.Tests.{eqb-true, ltb-true, ltb-false}
use Rattle.general_laws.specs.Bytes.{◌!◌, bit, is_in}
use Rattle.text.specs.Text.{LPAD, SYN, DLE, FD, STX, control_a, control_b, opening, text_of}
use Rattle.text.specs.Pictures.{is_picture_code, picture_codes}
use Rattle.text.specs.Kinds.{is_kind, is_start_kind, is_data_kind, is_end_kind, part_of, text_number, kinds}
use Rattle.text.specs.StartBlock.{mode_of, has_mode, is_clock_byte, is_time_text, time_text_of, digit_places, stop_places, is_digit, is_radar_code, radar_codes, rising, is_radar_list, radars_of}
use Rattle.text.specs.DataBlock.{is_payload_byte, payload_of}
use Rattle.text.specs.EndBlock.{radar_places, is_mode_byte}
use Rattle.text.specs.Part.{Block, start_block, data_block, end_block, UndamagedText}
use Rattle.general_laws.proofs.Tests.{by_test, never, and_split, or_split, rule_at, every_at, every_in}
use Rattle.general_laws.proofs.Computed.{tabled}
use Rattle.text_laws.proofs.Framing.{text_length_lem, append_parts}
use Rattle.text_laws.proofs.Payload.{payload_below}
use Rattle.text_laws.proofs.Blocks.{StartRules, start_rules, DataRules, data_rules, EndRules, end_rules}

-- a byte that passes a test which v fails is another byte
pub passes_not : (test : ℕ → Bool) {v : ℕ} (b : ℕ) → test v ≡ false → test b ≡ true → b ≢ v
passes_not test b f h e = never f (sym (ap test e) ∙ h)

-- ---- blocks: where `FD` may stand after byte 0

-- a byte of a radar list is `00` or a radar code
rising_at : (before : ℕ) (rs : List ℕ) → rising before rs ≡ true → (i : ℕ) → i < length rs → (rs ! i ≡ 0) ⊎ (is_radar_code (rs ! i) ≡ true)
unfolding rising
rising_at before [] h i l = absurd (omega arith)
rising_at before (r ∷ rs) h i l = pick i l (rising_at r rs)
  where
    pick : (i : ℕ) → i < length (r ∷ rs) → (rising r rs ≡ true → (i : ℕ) → i < length rs → (rs ! i ≡ 0) ⊎ (is_radar_code (rs ! i) ≡ true))
        → ((r ∷ rs) ! i ≡ 0) ⊎ (is_radar_code ((r ∷ rs) ! i) ≡ true)
    pick zero l ih = by_test (eqb r 0) (λ e. inl (eqb-true r 0 e)) (λ e. inr (and_split (is_radar_code r) (ltb before r) (and_split (is_radar_code r && ltb before r) (rising r rs) (rw e at h)).0).0)
    pick (suc i) l ih =
        by_test (eqb r 0) (λ e. inl (eqb-true (rs ! i) 0 (every_at (λ b. eqb b 0) rs (rw e at h) i (omega arith))))
        (λ e. ih (and_split (is_radar_code r && ltb before r) (rising r rs) (rw e at h)).1 i (omega arith))

radar_not_fd : (rs : List ℕ) → is_radar_list rs ≡ true → (i : ℕ) → i < length rs → rs ! i ≢ FD
unfolding is_radar_list is_radar_code radar_codes is_in
radar_not_fd rs h i l e =
    ⊎_elim (λ z. absurd (omega arith)) (λ k. passes_not is_radar_code (rs ! i) refl k e) (rising_at 0 rs (rule_at _ h 2) i l)

-- every place of the time is a digit's or a stop's
timed : (i : ℕ) → i < 16 → (is_in i digit_places ≡ true) ⊎ (is_in i stop_places ≡ true)
unfolding is_in
timed i l = or_split _ _ (tabled (λ i. is_in i digit_places || is_in i stop_places) 16 tt i l)

time_not_fd : (chars : List ℕ) → is_time_text chars ≡ true → (i : ℕ) → i < 16 → chars ! i ≢ FD
unfolding is_time_text is_digit
time_not_fd chars h i l =
    ⊎_elim (λ m. passes_not is_digit (chars ! i) refl (every_in (λ i. is_digit (chars ! i)) digit_places i (rule_at _ h 0) m))
    (λ m. passes_not (λ c. eqb c 0x2E) (chars ! i) refl (every_in (λ i. eqb (chars ! i) 0x2E) stop_places i (rule_at _ h 1) m)) (timed i l)

-- a start block: status 1 alone
start_fd : (block : List ℕ) → StartRules block → (j : ℕ) → 1 ≤ j → j < 32 → block ! j ≡ FD → j ≡ 4
unfolding is_picture_code picture_codes is_start_kind is_kind part_of text_number kinds has_mode mode_of bit is_clock_byte is_in
start_fd block r j h l e =
    by_test (ltb j 8) (λ t. small j h (ltb-true j 8 t) e)
    (λ t. by_test (ltb j 24) (λ u. absurd (in_time (ltb-false j 8 t) (ltb-true j 24 u)))
    (λ u. absurd (in_radars (ltb-false j 24 u))))
  where
    small : (j : ℕ) → 1 ≤ j → j < 8 → block ! j ≡ FD → j ≡ 4
    small zero h l e = absurd (omega arith)
    small (suc zero) h l e = absurd (passes_not is_picture_code (block ! 1) refl r.picture e)
    small (suc (suc zero)) h l e = absurd (passes_not is_start_kind (block ! 2) refl r.kind e)
    small (suc (suc (suc zero))) h l e = absurd (omega (arith, r.null))
    small (suc (suc (suc (suc zero)))) h l e = refl
    small (suc (suc (suc (suc (suc zero))))) h l e = absurd (passes_not has_mode (block ! 5) refl r.mode e)
    small (suc (suc (suc (suc (suc (suc zero)))))) h l e = absurd (passes_not is_clock_byte (block ! 6) refl r.clock_high e)
    small (suc (suc (suc (suc (suc (suc (suc zero))))))) h l e = absurd (passes_not is_clock_byte (block ! 7) refl r.clock_low e)
    small (suc (suc (suc (suc (suc (suc (suc (suc j)))))))) h l e = absurd (omega arith)

    in_time : 8 ≤ j → j < 24 → ⊥
    in_time low high =
        let i = j - 8 in
        let at : 8 + i ≡ j = omega arith in
        time_not_fd (time_text_of block) r.time i (omega arith)
        (get_or-take 16 (drop 8 block) i 0 (omega arith) ∙ get_or-drop 8 block i 0 ∙ ap (λ n. block ! n) at ∙ e)

    in_radars : 24 ≤ j → ⊥
    in_radars low =
        let i = j - 24 in
        let at : 24 + i ≡ j = omega arith in
        let long : i < length (radars_of block) = simp (length-take, length-drop) (omega (arith, r.long)) in
        radar_not_fd (radars_of block) r.radars i long
        (get_or-take 8 (drop 24 block) i 0 (omega arith) ∙ get_or-drop 24 block i 0 ∙ ap (λ n. block ! n) at ∙ e)

-- a data block: nowhere
data_fd : (block : List ℕ) → DataRules block → (j : ℕ) → 1 ≤ j → j < length block → block ! j ≢ FD
unfolding is_picture_code picture_codes is_data_kind is_kind part_of text_number kinds is_in
data_fd block r zero h l e = omega arith
data_fd block r (suc zero) h l e = passes_not is_picture_code (block ! 1) refl r.picture e
data_fd block r (suc (suc zero)) h l e = passes_not is_data_kind (block ! 2) refl r.kind e
data_fd block r (suc (suc (suc i))) h l e =
    let p = part_of (block ! 2) in
    let at : payload_of block ! i ≡ FD = get_or-drop 3 block i 0 ∙ ap (λ n. block ! n) (three i) ∙ e in
    let fits : i < length (payload_of block) = simp length-drop (omega arith) in
    omega (arith, payload_below p (payload_of block ! i) (every_at (is_payload_byte p) (payload_of block) r.payload i fits))
  where
    three : (i : ℕ) → 3 + i ≡ suc (suc (suc i))
    three i = omega arith

-- an end block: nowhere
end_fd : (radars block : List ℕ) → EndRules radars block → (j : ℕ) → 1 ≤ j → j < 32 → block ! j ≢ FD
unfolding is_picture_code picture_codes is_end_kind is_kind part_of text_number kinds is_mode_byte has_mode mode_of bit is_in
end_fd radars block r j h l e =
    by_test (ltb j 3) (λ t. small j h (ltb-true j 3 t) e)
    (λ t. by_test (ltb j 11) (λ u. in_modes (ltb-false j 3 t) (ltb-true j 11 u)) (λ u. in_zeros (ltb-false j 11 u)))
  where
    small : (j : ℕ) → 1 ≤ j → j < 3 → block ! j ≢ FD
    small zero h l e = omega arith
    small (suc zero) h l e = passes_not is_picture_code (block ! 1) refl r.picture e
    small (suc (suc zero)) h l e = passes_not is_end_kind (block ! 2) refl r.kind e
    small (suc (suc (suc j))) h l e = omega arith

    modeless : (radar : ℕ) → is_mode_byte radar FD ≡ false
    modeless radar = by_test (eqb radar 0) (λ t. rw t) (λ t. rw t)

    in_modes : 3 ≤ j → j < 11 → ⊥
    in_modes low high =
        let i = j - 3 in
        let at : 3 + i ≡ j = omega arith in
        let known : is_mode_byte (radars ! i) (block ! (3 + i)) ≡ true =
        every_in (λ i. is_mode_byte (radars ! i) (block ! (3 + i))) radar_places i r.modes (tabled (λ i. is_in i radar_places) 8 tt i (omega arith)) in
        passes_not (is_mode_byte (radars ! i)) (block ! (3 + i)) (modeless (radars ! i)) known (ap (λ n. block ! n) at ∙ e)

    in_zeros : 11 ≤ j → ⊥
    in_zeros low =
        let i = j - 11 in
        let at : 11 + i ≡ j = omega arith in
        let long : i < length (drop 11 block) = simp length-drop (omega (arith, r.long)) in
        let zero : drop 11 block ! i ≡ 0 = eqb-true _ _ (every_at (λ b. eqb b 0) (drop 11 block) r.zeros i long) in
        omega (arith, zero, get_or-drop 11 block i 0 ∙ ap (λ n. block ! n) at ∙ e)

-- so within a block no `FD` after byte 0 has an STX before it
pub block_no_opening : (block : List ℕ) → Block block → (j : ℕ) → suc j < length block → block ! suc j ≡ FD → block ! j ≢ STX
block_no_opening block (start_block h) j l e =
    let r = start_rules block h in
    let four : j ≡ 3 = omega (arith, start_fd block r (suc j) (omega arith) (omega (arith, r.long)) e) in
    λ s. omega (arith, r.null, ap (λ n. block ! n) (sym four) ∙ s)
block_no_opening block (data_block h) j l e = absurd (data_fd block (data_rules block h) (suc j) (omega arith) l e)
block_no_opening block (end_block radars g h) j l e =
    let r = end_rules radars block h in
    absurd (end_fd radars block r (suc j) (omega arith) (omega (arith, r.long)) e)

-- ---- texts

-- two lists that end alike in two bytes
last_two : (xs ys : List ℕ) {a b c d : ℕ} → xs ++ (a ∷ b ∷ []) ≡ ys ++ (c ∷ d ∷ []) → (a ≡ c) × (b ≡ d)
last_two xs ys {a} {b} {c} {d} e =
    let long : length xs ≡ length ys = omega (arith, simp length-append at (ap length e)) in
    let q = (append_parts xs ys long e).1 in
    (head-eq_of_cons-eq q, head-eq_of_cons-eq (tail-eq_of_cons-eq q))

-- the bytes of a text by place: control bytes, block, EOR, check byte, TPAD
data At (block : List ℕ) : ℕ → Type 0 where
  at_control : {n : ℕ} → n < 5 → At block n
  at_block : (j : ℕ) → j < length block → At block (5 + j)
  at_end : (j : ℕ) → j < 3 → At block (5 + (length block + j))

place : (block : List ℕ) (n : ℕ) → n < length block + 8 → At block n
place block n l =
    by_test (ltb n 5) (λ t. at_control (ltb-true n 5 t))
    (λ t. let low = ltb-false n 5 t in
    by_test (ltb (n - 5) (length block))
    (λ u. subst (At block) (omega arith) (at_block (n - 5) (ltb-true (n - 5) (length block) u)))
    (λ u. let mid = ltb-false (n - 5) (length block) u in
    subst (At block) (omega arith) (at_end (n - 5 - length block) (omega arith))))

control_at : (block : List ℕ) (n : ℕ) → n < 5 → text_of block ! n ≡ control_a ! n
unfolding text_of
control_at block n l = get_or-append control_a (block ++ control_b block) 0 n l

-- a text's byte of its block
pub block_at : (block : List ℕ) (j : ℕ) → j < length block → text_of block ! (5 + j) ≡ block ! j
unfolding text_of
block_at block j l = get_or-append-add control_a (block ++ control_b block) j 0 ∙ get_or-append block (control_b block) 0 j l

end_at : (block : List ℕ) (j : ℕ) → text_of block ! (5 + (length block + j)) ≡ control_b block ! j
unfolding text_of
end_at block j = get_or-append-add control_a (block ++ control_b block) (length block + j) 0 ∙ get_or-append-add block (control_b block) j 0

no_control_fd : (n : ℕ) → n < 5 → control_a ! n ≢ FD
no_control_fd n l = passes_not (λ b. not (eqb b FD)) (control_a ! n) refl (tabled (λ n. not (eqb (control_a ! n) FD)) 5 tt n l)

-- an `FD` with an STX before it is the block's byte 0
pub opening_place : (block : List ℕ) → Block block → (m : ℕ) → suc m < length (text_of block) → text_of block ! m ≡ STX → text_of block ! suc m ≡ FD → suc m ≡ 5
opening_place block r m l s e = go (place block (suc m) (omega (arith, text_length_lem block))) refl
  where
    before : (j : ℕ) → suc m ≡ 5 + suc j → text_of block ! (5 + j) ≡ STX
    before j f = ap (λ n. text_of block ! n) (back j f) ∙ s
      where
        back : (j : ℕ) → suc m ≡ 5 + suc j → 5 + j ≡ m
        back j f = omega arith

    in_block : (j : ℕ) → j < length block → suc m ≡ 5 + j → suc m ≡ 5
    in_block zero k f = f ∙ omega arith
    in_block (suc j) k f =
        absurd (block_no_opening block r j k (sym (block_at block (suc j) k) ∙ sym (ap (λ n. text_of block ! n) f) ∙ e)
        (sym (block_at block j (omega arith)) ∙ before j f))

    behind : (j : ℕ) → j < 3 → suc m ≡ 5 + (length block + j) → ⊥
    behind zero k f = omega (arith, sym (end_at block 0) ∙ sym (ap (λ n. text_of block ! n) f) ∙ e)
    behind (suc zero) k f =
        let g : 5 + (length block + 0) ≡ m = omega arith in
        omega (arith, sym (end_at block 0) ∙ ap (λ n. text_of block ! n) g ∙ s)
    behind (suc (suc zero)) k f = omega (arith, sym (end_at block 2) ∙ sym (ap (λ n. text_of block ! n) f) ∙ e)
    behind (suc (suc (suc j))) k f = omega arith

    go : {n : ℕ} → At block n → suc m ≡ n → suc m ≡ 5
    go {n} (at_control k) f = absurd (no_control_fd n k (sym (control_at block n k) ∙ sym (ap (λ i. text_of block ! i) f) ∙ e))
    go (at_block j k) f = in_block j k f
    go (at_end j k) f = absurd (behind j k f)

-- an opening's last byte, and its last two
abbrev four_control : List ℕ
four_control = LPAD ∷ SYN ∷ SYN ∷ DLE ∷ []

take_two : (t : List ℕ) (m : ℕ) → suc m < length t → take (suc (suc m)) t ≡ take m t ++ (t ! m ∷ t ! suc m ∷ [])
take_two t m l =
    take-suc t (suc m) 0 l ∙ ap (λ s. s ++ (t ! suc m ∷ [])) (take-suc t m 0 (omega arith)) ∙ append_assoc (take m t) (t ! m ∷ []) (t ! suc m ∷ [])

-- Inside an undamaged text an opening ends only at the block's byte 0, whatever bytes came before the text
pub opening_ends : (text : List ℕ) → UndamagedText text → (before others : List ℕ) (n : ℕ) → n < length text
    → before ++ take (suc n) text ≡ others ++ opening → n ≡ 5
opening_ends text u before others n l e = go n (subst (λ t. n < length t) u.framed l) (subst (λ t. before ++ take (suc n) t ≡ others ++ opening) u.framed e)
  where
    t : List ℕ
    t = text_of u.block

    go : (n : ℕ) → n < length t → before ++ take (suc n) t ≡ others ++ opening → n ≡ 5
    go zero l e =
        let two : before ++ take 1 t ≡ (others ++ control_a) ++ (FD ∷ []) = e ∙ sym (append_assoc others control_a (FD ∷ [])) in
        let one : take 1 t ≡ t ! 0 ∷ [] = take-suc t 0 0 l in
        let long : length before ≡ length (others ++ control_a) = omega (arith, length-append others control_a, simp length-append at (ap length (ap (λ s. before ++ s) (sym one) ∙ two))) in
        let last : t ! 0 ≡ FD = head-eq_of_cons-eq (sym one ∙ (append_parts before (others ++ control_a) long two).1) in
        absurd (no_control_fd 0 (omega arith) (sym (control_at u.block 0 (omega arith)) ∙ last))
    go (suc m) l e =
        let (s, f) = last_two (before ++ take m t) (others ++ four_control)
        (append_assoc before (take m t) (t ! m ∷ t ! suc m ∷ []) ∙ ap (λ x. before ++ x) (sym (take_two t m l)) ∙ e
        ∙ sym (append_assoc others four_control (STX ∷ FD ∷ []))) in
        opening_place u.block u.rules m l s f

-- So in an undamaged text's front, with whatever stood before it, no opening is later than the text's own
pub no_later_opening : (before behind rest other others : List ℕ) → UndamagedText (opening ++ (behind ++ rest))
    → before ++ (opening ++ behind) ≡ other ++ (opening ++ others) → length others ≤ length behind → others ≡ behind
no_later_opening before behind rest other others u e l = sym (append_parts (before ++ opening) (other ++ opening) long whole).1
  where
    d : ℕ
    d = length behind - length others

    whole : (before ++ opening) ++ behind ≡ (other ++ opening) ++ others
    whole = append_assoc before opening behind ∙ e ∙ sym (append_assoc other opening others)

    -- the bytes up to that opening's end
    cut : (before ++ (opening ++ take d behind)) ++ drop d behind ≡ (other ++ opening) ++ others
    cut =
        append_assoc before (opening ++ take d behind) (drop d behind)
        ∙ ap (λ t. before ++ (opening ++ t)) (take-append-drop d behind) ∙ e ∙ sym (append_assoc other opening others)

    sizes : length (before ++ (opening ++ behind)) ≡ length (other ++ (opening ++ others))
    sizes = ap length e

    front : before ++ (opening ++ take d behind) ≡ other ++ opening
    front =
        (append_parts (before ++ (opening ++ take d behind)) (other ++ opening)
        (omega (
          arith,
          length-append before (opening ++ take d behind),
          length-append other opening,
          length-append before (opening ++ behind),
          length-append other (opening ++ others),
          sizes,
          length-take-le d behind (omega (arith, l)),
          l,
        ))
        cut).0

    none : suc (suc (suc (suc (suc d)))) ≡ 5
    none =
        opening_ends (opening ++ (behind ++ rest)) u before other (suc (suc (suc (suc (suc d)))))
        (omega (arith, length-append behind rest, l))
        (ap (λ t. before ++ (opening ++ t)) (take-append-le d behind rest (omega (arith, l))) ∙ front)

    long : length (before ++ opening) ≡ length (other ++ opening)
    long = omega (arith, none, l, sizes, length-append before opening, length-append other opening, length-append before (opening ++ behind), length-append other (opening ++ others))
