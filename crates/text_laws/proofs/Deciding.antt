-- The tests decide: a text or a part passes its test exactly when it is undamaged. Assumes nothing.
use mathlib.Core.Path.{◌≡◌, refl, ap, ◌∙◌, subst}
use mathlib.Core.Logic.{◌↔◌, ⊎_elim}
use mathlib.Core.Bool.{Bool, true, false, cond, ◌&&◌, ◌||◌, or-true}
use mathlib.Core.List.{List, [], ◌∷◌}
use Prim.Native.Nat.{ℕ, zero, suc, ◌+◌}
use lib.Dec.{eqb, ltb}
use lib.ListN.{length, get_or-eq_default}
use borrow.Author.Tests.{eqb-true, eqb-false, eq-eqb, ne_eqb, ltb-true, ltb-false, not-true}
use Rattle.general_laws.specs.Bytes.{◌!◌, every, all_of, is_in, same, bit}
use Rattle.text.specs.Text.{text_of}
use Rattle.text.specs.StartBlock.{mode_of, has_mode, is_radar_code, radar_codes, rising, is_radar_list, is_start_block}
use Rattle.text.specs.DataBlock.{is_data_block}
use Rattle.text.specs.EndBlock.{radar_places, is_mode_byte, is_end_block}
use Rattle.text.specs.Part.{Block, start_block, data_block, end_block, UndamagedText, part_bytes, is_part, UndamagedPart, block_in, radar_for, radars_for, is_block, is_undamaged_text, cut_part, is_undamaged_part}
use Rattle.general_laws.proofs.Tests.{by_test, never, and_split, and_join, or_split, rule_at, every_at, every_in, same_eq, same_refl}
use Rattle.text_laws.proofs.Framing.{block_in_text}
use Rattle.text_laws.proofs.Blocks.{EndRules, end_rules, end_keeps}
use Rattle.text_laws.proofs.Parts.{cut_part_lem}

-- ---- parts

pub part_decided : (bytes : List ℕ) → (is_undamaged_part bytes ≡ true) ↔ UndamagedPart bytes
unfolding is_undamaged_part
part_decided bytes = (sound, complete)
  where
    sound : same bytes (part_bytes (cut_part bytes)) && is_part (cut_part bytes) ≡ true → UndamagedPart bytes
    sound h =
        let (p, q) = and_split (same bytes (part_bytes (cut_part bytes))) (is_part (cut_part bytes)) h in
        record { part = cut_part bytes; rules = q; framed = same_eq bytes (part_bytes (cut_part bytes)) p }

    complete : UndamagedPart bytes → same bytes (part_bytes (cut_part bytes)) && is_part (cut_part bytes) ≡ true
    complete u =
        let cut : cut_part bytes ≡ u.part = ap cut_part u.framed ∙ cut_part_lem u.part u.rules in
        rw cut (and_join (subst (λ t. same bytes t ≡ true) u.framed (same_refl bytes)) u.rules)

-- ---- texts

-- a byte with a mode is not `00`
zero_modeless : has_mode 0 ≡ false
unfolding has_mode mode_of bit
zero_modeless = refl

-- in a radar list no code stands behind a `00`
no_gap : (before : ℕ) (rs : List ℕ) → rising before rs ≡ true → (i : ℕ) → rs ! i ≡ 0 → rs ! suc i ≡ 0
unfolding rising
no_gap before [] h i e = refl
no_gap before (r ∷ rs) h i e = pick i e (no_gap r rs)
  where
    tail : eqb r 0 ≡ true → (i : ℕ) → rs ! i ≡ 0
    tail z i = by_test (ltb i (length rs)) (λ l. eqb-true (rs ! i) 0 (every_at (λ b. eqb b 0) rs (rw z at h) i (ltb-true i (length rs) l))) (λ l. get_or-eq_default rs 0 (ltb-false i (length rs) l))

    pick : (i : ℕ) → (r ∷ rs) ! i ≡ 0 → (rising r rs ≡ true → (i : ℕ) → rs ! i ≡ 0 → rs ! suc i ≡ 0) → rs ! i ≡ 0
    pick zero e ih = tail (eq-eqb r 0 e) 0
    pick (suc i) e ih =
        by_test (eqb r 0) (λ z. tail z (suc i))
        (λ z. ih (and_split (is_radar_code r && ltb before r) (rising r rs) (rw z at h)).1 i e)

-- so these radars are a list, wherever the `00` begin
pattern : (a b c d e f g : Bool) → (a ≡ true → b ≡ true) → (b ≡ true → c ≡ true) → (c ≡ true → d ≡ true) → (d ≡ true → e ≡ true) → (e ≡ true → f ≡ true) → (f ≡ true → g ≡ true)
    → is_radar_list (0xA0 ∷ cond a 0 0xA1 ∷ cond b 0 0xA2 ∷ cond c 0 0xA3 ∷ cond d 0 0xA4 ∷ cond e 0 0xA5 ∷ cond f 0 0xA7 ∷ cond g 0 0xA8 ∷ []) ≡ true
unfolding is_radar_list rising is_radar_code radar_codes is_in every all_of
pattern true b c d e f g p q r s t u =
    let bᵗ : b ≡ true = p refl in
    let cᵗ : c ≡ true = q bᵗ in
    let dᵗ : d ≡ true = r cᵗ in
    let eᵗ : e ≡ true = s dᵗ in
    let fᵗ : f ≡ true = t eᵗ in
    let gᵗ : g ≡ true = u fᵗ in
    rw (bᵗ, cᵗ, dᵗ, eᵗ, fᵗ, gᵗ)
pattern false true c d e f g p q r s t u =
    let cᵗ : c ≡ true = q refl in
    let dᵗ : d ≡ true = r cᵗ in
    let eᵗ : e ≡ true = s dᵗ in
    let fᵗ : f ≡ true = t eᵗ in
    let gᵗ : g ≡ true = u fᵗ in
    rw (cᵗ, dᵗ, eᵗ, fᵗ, gᵗ)
pattern false false true d e f g p q r s t u =
    let dᵗ : d ≡ true = r refl in
    let eᵗ : e ≡ true = s dᵗ in
    let fᵗ : f ≡ true = t eᵗ in
    let gᵗ : g ≡ true = u fᵗ in
    rw (dᵗ, eᵗ, fᵗ, gᵗ)
pattern false false false true e f g p q r s t u =
    let eᵗ : e ≡ true = s refl in
    let fᵗ : f ≡ true = t eᵗ in
    let gᵗ : g ≡ true = u fᵗ in
    rw (eᵗ, fᵗ, gᵗ)
pattern false false false false true f g p q r s t u =
    let fᵗ : f ≡ true = t refl in
    let gᵗ : g ≡ true = u fᵗ in
    rw (fᵗ, gᵗ)
pattern false false false false false true g p q r s t u =
    let gᵗ : g ≡ true = u refl in
    rw (gᵗ)
pattern false false false false false false true p q r s t u = refl
pattern false false false false false false false p q r s t u = refl

module _ (radars block : List ℕ) (listed : is_radar_list radars ≡ true) (kept : is_end_block radars block ≡ true) where
  rules : EndRules radars block
  rules = end_rules radars block kept

  -- a radar stands exactly where the end block's byte is not `00`
  radar_zero : (i : ℕ) → is_in i radar_places ≡ true → (radars ! i ≡ 0) ↔ (block ! (3 + i) ≡ 0)
  unfolding is_mode_byte
  radar_zero i m = (
    λ e. eqb-true _ _ (rw (eq-eqb (radars ! i) 0 e) at known),
    λ z. by_test (eqb (radars ! i) 0) (λ e. eqb-true _ _ e) (λ e. never zero_modeless (subst (λ b. has_mode b ≡ true) z (rw e at known))),
  )
    where
      known : is_mode_byte (radars ! i) (block ! (3 + i)) ≡ true
      known = every_in (λ i. is_mode_byte (radars ! i) (block ! (3 + i))) radar_places i rules.modes m

  after_zero : (i : ℕ) → is_in i radar_places ≡ true → is_in (suc i) radar_places ≡ true → eqb (block ! (3 + i)) 0 ≡ true → eqb (block ! (3 + suc i)) 0 ≡ true
  unfolding is_radar_list
  after_zero i m n e =
      eq-eqb _ _ ((radar_zero (suc i) n).0 (no_gap 0 radars (rule_at _ listed 2) i ((radar_zero i m).1 (eqb-true _ _ e))))

  first_radar : eqb (block ! 3) 0 ≡ false
  unfolding is_radar_list is_in
  first_radar = ne_eqb (block ! 3) 0 (λ z. eqb-false (radars ! 0) 0 (not-true _ (rule_at _ listed 1)) ((radar_zero 0 refl).1 z))

  listed_for : is_radar_list (radars_for block) ≡ true
  unfolding radars_for is_in
  listed_for =
      rw first_radar
      (pattern _ _ _ _ _ _ _ (after_zero 1 refl refl) (after_zero 2 refl refl) (after_zero 3 refl refl) (after_zero 4 refl refl) (after_zero 5 refl refl) (after_zero 6 refl refl))

  moded_for : (code i : ℕ) → eqb code 0 ≡ false → is_in i radar_places ≡ true → is_mode_byte (radar_for code (block ! (3 + i))) (block ! (3 + i)) ≡ true
  unfolding is_mode_byte
  moded_for code i c m =
      by_test (eqb (block ! (3 + i)) 0) (λ z. rw z)
      (λ z. rw (z, c)
      (by_test (eqb (radars ! i) 0) (λ e. never z (eq-eqb _ _ ((radar_zero i m).0 (eqb-true _ _ e))))
      (λ e. rw e at (every_in (λ i. is_mode_byte (radars ! i) (block ! (3 + i))) radar_places i rules.modes m))))

  kept_for : is_end_block (radars_for block) block ≡ true
  unfolding radars_for every is_in
  kept_for =
      end_keeps (radars_for block) block
      (record {
        long = rules.long;
        first = rules.first;
        picture = rules.picture;
        kind = rules.kind;
        modes =
            rw (
              moded_for 0xA0 0 refl refl,
              moded_for 0xA1 1 refl refl,
              moded_for 0xA2 2 refl refl,
              moded_for 0xA3 3 refl refl,
              moded_for 0xA4 4 refl refl,
              moded_for 0xA5 5 refl refl,
              moded_for 0xA7 6 refl refl,
              moded_for 0xA8 7 refl refl,
            );
        zeros = rules.zeros;
      })

pub block_decided : (block : List ℕ) → (is_block block ≡ true) ↔ Block block
unfolding is_block
block_decided block = (sound, complete)
  where
    alone : Bool
    alone = is_radar_list (radars_for block) && is_end_block (radars_for block) block

    sound : is_start_block block || is_data_block block || alone ≡ true → Block block
    sound h =
        ⊎_elim (λ a. ⊎_elim (λ s. start_block s) (λ d. data_block d) (or_split (is_start_block block) (is_data_block block) a))
        (λ e. let (p, q) = and_split (is_radar_list (radars_for block)) (is_end_block (radars_for block) block) e in end_block (radars_for block) p q)
        (or_split (is_start_block block || is_data_block block) alone h)

    complete : Block block → is_start_block block || is_data_block block || alone ≡ true
    complete (start_block s) = rw s
    complete (data_block d) = rw (d, or-true)
    complete (end_block radars p q) = rw (listed_for radars block p q, kept_for radars block p q, or-true)

pub text_decided : (bytes : List ℕ) → (is_undamaged_text bytes ≡ true) ↔ UndamagedText bytes
unfolding is_undamaged_text
text_decided bytes = (sound, complete)
  where
    sound : same bytes (text_of (block_in bytes)) && is_block (block_in bytes) ≡ true → UndamagedText bytes
    sound h =
        let (p, q) = and_split (same bytes (text_of (block_in bytes))) (is_block (block_in bytes)) h in
        record { block = block_in bytes; rules = (block_decided (block_in bytes)).0 q; framed = same_eq bytes (text_of (block_in bytes)) p }

    complete : UndamagedText bytes → same bytes (text_of (block_in bytes)) && is_block (block_in bytes) ≡ true
    complete u =
        let cut : block_in bytes ≡ u.block = ap block_in u.framed ∙ block_in_text u.block in
        rw cut (and_join (subst (λ t. same bytes t ≡ true) u.framed (same_refl bytes)) ((block_decided u.block).1 u.rules))
