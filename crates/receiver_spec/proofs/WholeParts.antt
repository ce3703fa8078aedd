-- The whole parts of 01's machine are the undamaged parts, and what is held after one is what the part says. Assumes nothing.
use mathlib.Core.Path.{◌≡◌, refl, sym, ap, ap₂, ◌∙◌, subst, subst₂}
use mathlib.Core.Bool.{Bool, true, false, cond, not, ◌&&◌, ◌||◌}
use mathlib.Core.List.{List, [], ◌∷◌, ◌++◌, append_assoc, append-nil}
use Prim.Native.Nat.{ℕ, zero, suc, ◌+◌, ◌*◌, ◌-◌, ◌≤◌, ◌<◌}
use native.Mathlib.Nat.{add-zero, mul-le-mul_right, suc-mul, zero-mul}
use native.Mathlib.Omega.{arith}
use lib.Dec.{eqb, ltb, lit≤}
use lib.ListN.{length, drop, length-append, length-drop}
use lib.Seq.{sets, sets-eq, take-append_seam, drop-append-add}
use borrow.Author.Tests.{eqb-true, eqb-false, ltb-true, ltb-false, eq-eqb, lt-ltb, le-ltb}
use Rattle.general_laws.specs.Bytes.{◌!◌, every}
use Rattle.text.specs.Text.{FD, text_of}
use Rattle.text.specs.Pictures.{is_picture_code}
use Rattle.text.specs.Kinds.{is_kind, is_start_kind, is_end_kind, is_data_kind, part_of, text_number, kind_of, block_length, data_block_length, data_texts}
use Rattle.text.specs.StartBlock.{no_echo_of, mode_of, radars_of, is_start_block, header_of}
use Rattle.text.specs.DataBlock.{is_payload_byte, payload_of, is_data_block}
use Rattle.text.specs.EndBlock.{is_end_block, modes_of, highest, no_modes}
use Rattle.text.specs.Part.{Part, texts_of, part_bytes, is_text_of, in_order, start_part, UndamagedPart, grid_length, payloads_of, zeros, grid_of, part_header, part_modes}
use Rattle.text.specs.declared.header.Header.{Header}
use Rattle.general_laws.proofs.Tests.{by_test, never, and_split, and_join, by_if}
use Rattle.text_laws.proofs.Framing.{text_length_lem}
use Rattle.text_laws.proofs.KindTable.{text_back, data_is_kind, end_is_kind, data_block_length_lem, few_texts, block_least, start_block_length, end_block_length, end_not_start}
use Rattle.text_laws.proofs.Blocks.{start_rules, DataRules, data_rules, data_keeps, EndRules, end_rules, PartRules, part_rules, part_keeps, split_3}
use Rattle.text_laws.proofs.Parts.{data_sized, payloads_length, payload_fits, order_split, zeros_long, one_reading}
use Rattle.receiver_spec.specs.Alterations.{blocks_of}
use Rattle.receiver_spec.specs.Marks.{is_marked}
use Rattle.receiver_spec.specs.State.{no_digits, empty_grid}
use Rattle.receiver_spec.specs.Receiver.{BEGUN, TAKEN, COMPLETE, first_due, next_due, mode_is_highest}
use Rattle.receiver_spec.specs.Calls.{spread}
use Rattle.receiver_spec.specs.Demand3.{data_answers, part_answers}
use Rattle.receiver_spec.proofs.MarkLaws.{marked_listed}
use Rattle.receiver_spec.proofs.Machine.{Rules, BlockContents, block, text, Open, begun, more, Whole, whole, open_blocks, whole_blocks, text_same}
use Rattle.receiver_spec.proofs.Instance.{Held, held, radar}
use Rattle.receiver_spec.proofs.BlockRules.{start_taken, data_taken, end_taken, data_only}

-- ---- the grid grows by a payload

pub grid_with : List (List ℕ) → List ℕ
grid_with datas = payloads_of datas ++ zeros (grid_length - length (payloads_of datas))

grid_of_lem : (p : Part) → grid_of p ≡ grid_with p.datas
unfolding grid_of grid_with
grid_of_lem p = refl

grid_none : empty_grid ≡ grid_with []
unfolding grid_with payloads_of
grid_none = refl

payloads_snoc : (datas : List (List ℕ)) (b : List ℕ) → payloads_of (datas ++ (b ∷ [])) ≡ payloads_of datas ++ payload_of b
unfolding payloads_of
payloads_snoc [] b = append-nil (payload_of b)
payloads_snoc (a ∷ datas) b = ap (λ t. payload_of a ++ t) (payloads_snoc datas b) ∙ sym (append_assoc (payload_of a) (payloads_of datas) (payload_of b))

drop_zeros : (n m : ℕ) → drop n (zeros m) ≡ zeros (m - n)
unfolding zeros
drop_zeros zero m = ap zeros (same m)
  where
    same : (m : ℕ) → m ≡ m - 0
    same m = omega arith
drop_zeros (suc n) zero = ap zeros (none n)
  where
    none : (n : ℕ) → 0 ≡ 0 - suc n
    none n = omega arith
drop_zeros (suc n) (suc m) = drop_zeros n m ∙ ap zeros (less n m)
  where
    less : (n m : ℕ) → m - n ≡ suc m - suc n
    less n m = omega arith

grid_more : (datas : List (List ℕ)) (b : List ℕ) → length (payloads_of datas) + length (payload_of b) ≤ grid_length
    → sets (grid_with datas) (length (payloads_of datas)) (payload_of b) ≡ grid_with (datas ++ (b ∷ []))
unfolding grid_with
grid_more datas b h =
    let p = payloads_of datas in
    let v = payload_of b in
    let z = zeros (grid_length - length p) in
    let room : length p + length v ≤ length (p ++ z) = omega (arith, length-append p z, zeros_long (grid_length - length p)) in
    let left : grid_length - length p - length v ≡ grid_length - length (p ++ v) = omega (arith, length-append p v) in
    sets-eq v (p ++ z) (length p) room
    ∙ ap₂ (λ a b. (a ++ v) ++ b) (take-append_seam p z) (drop-append-add p z (length v) ∙ drop_zeros (length v) (grid_length - length p) ∙ ap zeros left)
    ∙ ap (λ t. t ++ zeros (grid_length - length t)) (sym (payloads_snoc datas b))

-- ---- which text is due behind m data texts

abbrev pub due_after : ℕ → Bool → ℕ → ℕ
due_after p e m = cond (ltb m (data_texts p e)) (suc m) 11

pub first_due_lem : (p : ℕ) (h : Header) → first_due p h ≡ due_after p h.noecho 0
unfolding first_due
first_due_lem p h =
    by_test (eqb (data_texts p h.noecho) 0) (λ t. rw (t, le-ltb 0 (data_texts p h.noecho) (omega (arith, eqb-true (data_texts p h.noecho) 0 t))))
    (λ t. rw (t, lt-ltb 0 (data_texts p h.noecho) (omega (arith, eqb-false (data_texts p h.noecho) 0 t))))

-- a part with data texts has them all
some_all : (p : ℕ) (e : Bool) → 0 < data_texts p e → data_texts p e ≡ data_texts p false
unfolding data_texts
some_all p true h = by_test (eqb p 3) (λ t. rw t) (λ t. absurd (omega (arith, subst (λ x. 0 < cond x 1 0) t h)))
some_all p false h = refl

next_due_lem : (p : ℕ) (e : Bool) (m : ℕ) → m < data_texts p e → next_due p (suc m) ≡ due_after p e (suc m)
unfolding next_due
next_due_lem p e m h = ap (λ n. cond (ltb (suc m) n) (suc (suc m)) 11) (sym (some_all p e (omega arith)))

-- only intensity has more than one data text
data_place : (p : ℕ) (e : Bool) (m : ℕ) → m < data_texts p e → 2000 * m ≡ m * (data_block_length p - 3)
unfolding data_texts data_block_length
data_place p e m h =
    by_test (eqb p 1) (λ t. rw t (omega arith))
    (λ t. let one : m ≡ 0 = first t in rw one (sym (zero-mul (data_block_length p - 3))))
  where
    first : eqb p 1 ≡ false → m ≡ 0
    first t =
        let top : data_texts p e ≤ 1 =
        by_if (λ n. n ≤ 1) (eqb p 3) (λ _. lit≤ tt) (λ _. by_if (λ n. n ≤ 1) e (λ _. lit≤ tt) (λ _. rw t (by_if (λ n. n ≤ 1) (eqb p 2) (λ _. lit≤ tt) (λ _. lit≤ tt)))) in
        omega arith

-- the due text is a data text exactly while some are missing
due_data : (p d m : ℕ) (e : Bool) → d ≡ due_after p e m → is_kind (kind_of p d) ≡ true → is_end_kind (kind_of p d) ≡ false → (d ≡ suc m) × (m < data_texts p e)
unfolding is_end_kind
due_data p d m e h k n =
    by_test (ltb m (data_texts p e)) (λ t. (h ∙ rw t, ltb-true m (data_texts p e) t))
    (λ t. let last : d ≡ 11 = h ∙ rw t in never n (and_join k (eq-eqb _ _ ((text_back p d k).1 ∙ last))))

due_end : (p d m : ℕ) (e : Bool) → d ≡ due_after p e m → m ≤ data_texts p e → is_kind (kind_of p d) ≡ true → is_end_kind (kind_of p d) ≡ true → (d ≡ 11) × (m ≡ data_texts p e)
unfolding is_end_kind
due_end p d m e h l k n =
    let last : d ≡ 11 = sym (text_back p d k).1 ∙ eqb-true _ _ (and_split (is_kind (kind_of p d)) (eqb (text_number (kind_of p d)) 11) n).1 in
    by_test (ltb m (data_texts p e))
    (λ t. let ten : d ≡ suc m = h ∙ rw t in absurd (omega (arith, few_texts p e, ltb-true m (data_texts p e) t)))
    (λ t. (last, omega (arith, ltb-false m (data_texts p e) t)))

-- ---- from the machine's parts to 01's

header_facts : (start : List ℕ) → ((header_of start).noecho ≡ no_echo_of (start ! 4)) × ((header_of start).picture ≡ start ! 1) × ((header_of start).radars ≡ radars_of start) × ((header_of start).mode ≡ mode_of (start ! 5))
unfolding header_of
header_facts start = (refl, refl, refl, refl)

order_snoc : (q p k : ℕ) (datas : List (List ℕ)) (b : List ℕ) → in_order q p k datas ≡ true → is_data_block b ≡ true → b ! 1 ≡ q → b ! 2 ≡ kind_of p (k + length datas)
    → in_order q p k (datas ++ (b ∷ [])) ≡ true
unfolding in_order
order_snoc q p k [] b h ok eq ek =
    and_join (and_join ok (and_join (eq-eqb _ _ eq) (eq-eqb _ _ (ek ∙ ap (kind_of p) (add-zero k))))) refl
order_snoc q p k (a ∷ datas) b h ok eq ek =
    let (x, y) = and_split (is_data_block a && is_text_of q p k a) (in_order q p (suc k) datas) h in
    and_join x (order_snoc q p (suc k) datas b y ok eq (ek ∙ ap (kind_of p) (far k (length datas))))
  where
    far : (k n : ℕ) → k + suc n ≡ suc k + n
    far k n = omega arith

texts_snoc : (datas : List (List ℕ)) (b : List ℕ) → texts_of (datas ++ (b ∷ [])) ≡ texts_of datas ++ text_of b
unfolding texts_of
texts_snoc [] b = append-nil (text_of b)
texts_snoc (a ∷ datas) b = ap (λ t. text_of a ++ t) (texts_snoc datas b) ∙ sym (append_assoc (text_of a) (texts_of datas) (text_of b))

is_data : (k : ℕ) → is_kind k ≡ true → is_start_kind k ≡ false → is_end_kind k ≡ false → is_data_kind k ≡ true
unfolding is_data_kind is_start_kind is_end_kind
is_data k h s e = both (is_kind k) (eqb (text_number k) 0) (eqb (text_number k) 11) h s e
  where
    both : (a b c : Bool) → a ≡ true → a && b ≡ false → a && c ≡ false → a && not (b || c) ≡ true
    both true false false h s e = refl
    both true false true h s e = never e refl
    both true true c h s e = never s refl
    both false b c h s e = h

-- what is held after a part
abbrev pub held_of : Part → Held
held_of p = held (part_header p) (part_modes p) no_digits (grid_of p)

module _ (marks : ℕ) where
  abbrev R : Rules
  R = radar marks

  record Begun (ys : List ℕ) (p d : ℕ) (c : Held) : Type 0 where
    start : List ℕ
    datas : List (List ℕ)
    rules : is_start_block start ≡ true
    part : start_part start ≡ p
    order : in_order (start ! 1) p 1 datas ≡ true
    few : length datas ≤ data_texts p (no_echo_of (start ! 4))
    due : d ≡ due_after p (no_echo_of (start ! 4)) (length datas)
    holds : c ≡ held (header_of start) no_modes no_digits (grid_with datas)
    bytes : ys ≡ text_of start ++ texts_of datas

  begun_start : (q : ℕ) {k : ℕ} {xs : List ℕ} {c : Held} → is_marked marks q ≡ true → is_start_kind k ≡ true → 3 + length xs ≡ block_length k → BlockContents R k (R.begin q R.blank) 3 xs c
      → Begun (text R (block R q k xs)) (part_of k) (first_due (part_of k) c.header) (held c.header no_modes c.digits empty_grid)
  unfolding in_order texts_of
  begun_start q {k} {xs} {c} hq hk l r =
      let b = block R q k xs in
      let (ok, e) = (start_taken marks q k R.blank c xs (marked_listed marks q hq) hk (omega (arith, start_block_length k hk))).0 r in
      let header : c.header ≡ header_of b = ap (λ (x : Held). x.header) e in
      record {
        start = b;
        datas = [];
        rules = ok;
        part = refl;
        order = refl;
        few = omega arith;
        due = first_due_lem (part_of k) c.header ∙ ap (λ n. due_after (part_of k) n 0) (ap (λ (h : Header). h.noecho) header ∙ (header_facts b).0);
        holds = ap₂ (λ h ds. held h no_modes ds empty_grid) header (ap (λ (x : Held). x.digits) e) ∙ ap (λ g. held (header_of b) no_modes no_digits g) grid_none;
        bytes = text_same R b ∙ sym (append-nil (text_of b));
      }

  begun_more : {ys : List ℕ} {p d k : ℕ} {xs : List ℕ} {c e : Held} → Begun ys p d c → is_marked marks c.header.picture ≡ true → k ≡ kind_of p d → is_kind k ≡ true → is_start_kind k ≡ false
      → is_end_kind k ≡ false → 3 + length xs ≡ block_length k → BlockContents R k c 3 xs e → Begun (ys ++ text R (block R c.header.picture k xs)) p (next_due p (text_number k)) e
  begun_more {ys} {p} {d} {k} {xs} {c} {e} a hq hk g n v l r =
      record {
        start = a.start;
        datas = a.datas ++ (b ∷ []);
        rules = a.rules;
        part = a.part;
        order = order_snoc (a.start ! 1) p 1 a.datas b a.order ok picture (hk ∙ ap (kind_of p) (missing.0 ∙ one));
        few = omega (arith, length-append a.datas (b ∷ []), missing.1);
        due = ap (next_due p) number ∙ next_due_lem p echo m missing.1 ∙ ap (due_after p echo) (sym more_long);
        holds = enters ∙ ap₂ (λ (x : Held) j. held x.header x.modes x.digits (sets x.grid j xs)) a.holds place ∙ ap (λ t. held (header_of a.start) no_modes no_digits t) (grid_more a.datas b room);
        bytes = ap₂ (λ x y. x ++ y) a.bytes (text_same R b) ∙ append_assoc (text_of a.start) (texts_of a.datas) (text_of b) ∙ ap (λ t. text_of a.start ++ t) (sym (texts_snoc a.datas b));
      }
    where
      echo : Bool
      echo = no_echo_of (a.start ! 4)

      m : ℕ
      m = length a.datas

      b : List ℕ
      b = block R c.header.picture k xs

      is : is_data_kind k ≡ true
      is = is_data k g n v

      known : is_kind (kind_of p d) ≡ true
      known = subst (λ t. is_kind t ≡ true) hk g

      missing : (d ≡ suc m) × (m < data_texts p echo)
      missing = due_data p d m echo a.due known (subst (λ t. is_end_kind t ≡ false) hk v)

      one : suc m ≡ 1 + m
      one = omega arith

      number : text_number k ≡ suc m
      number = ap text_number hk ∙ (text_back p d known).1 ∙ missing.0

      whose : part_of k ≡ p
      whose = ap part_of hk ∙ (text_back p d known).0

      taken : (every (is_payload_byte (part_of k)) xs ≡ true) × (e ≡ held c.header c.modes c.digits (sets c.grid (2000 * (text_number k - 1)) xs))
      taken = (data_taken marks k c e xs is).0 r

      enters : e ≡ held c.header c.modes c.digits (sets c.grid (2000 * (text_number k - 1)) xs)
      enters = taken.1

      ok : is_data_block b ≡ true
      ok = data_keeps b (record { long = shape l; first = refl; picture = marked_listed marks c.header.picture hq; kind = is; payload = taken.0 })
        where
          shape : 3 + length xs ≡ block_length k → length b ≡ block_length k
          shape l = omega arith

      picture : c.header.picture ≡ a.start ! 1
      picture = ap (λ (x : Held). x.header.picture) a.holds ∙ (header_facts a.start).1

      more_long : length (a.datas ++ (b ∷ [])) ≡ suc m
      more_long = omega (arith, length-append a.datas (b ∷ []))

      sized : length (payloads_of a.datas) ≡ m * (data_block_length p - 3)
      sized = payloads_length (data_sized (a.start ! 1) p 1 a.datas a.order)

      place : 2000 * (text_number k - 1) ≡ length (payloads_of a.datas)
      place = ap (λ t. 2000 * (t - 1)) number ∙ back ∙ data_place p echo m missing.1 ∙ sym sized
        where
          back : 2000 * (suc m - 1) ≡ 2000 * m
          back = omega arith

      room : length (payloads_of a.datas) + length xs ≤ grid_length
      room =
          let long : length xs ≡ data_block_length p - 3 = omega (arith, data_block_length_lem k is, ap data_block_length whose) in
          omega (arith, sized, payload_fits p echo, mul-le-mul_right (data_block_length p - 3) missing.1, suc-mul m (data_block_length p - 3))

  open_begun : {ys : List ℕ} {p d : ℕ} {c : Held} → Open R ys p d c → Begun ys p d c
  open_begun (begun {q} hq hk l r) = begun_start q hq hk l r
  open_begun (more o hq hk g n v l r) = begun_more (open_begun o) hq hk g n v l r

  bytes_of : (p : Part) → part_bytes p ≡ text_of p.start ++ (texts_of p.datas ++ text_of p.end)
  unfolding part_bytes
  bytes_of p = refl

  mode_highest_eq : (h : Header) (modes : List ℕ) → mode_is_highest h modes ≡ true → h.mode ≡ highest modes
  unfolding mode_is_highest
  mode_highest_eq h modes t = eqb-true h.mode (highest modes) t

  eq_mode_highest : (h : Header) (modes : List ℕ) → h.mode ≡ highest modes → mode_is_highest h modes ≡ true
  unfolding mode_is_highest
  eq_mode_highest h modes t = eq-eqb h.mode (highest modes) t

  pub whole_undamaged : {zs : List ℕ} {c : Held} → Whole R zs c → (u : UndamagedPart zs) × (c ≡ held_of u.part) × (is_marked marks (u.part.start ! 1) ≡ true)
  whole_undamaged (whole {ys} {p} {d} {k} {xs} {c} {e} o hq hk g n v l r z) = go (open_begun o)
    where
      go : Begun ys p d c → (u : UndamagedPart (ys ++ text R (block R c.header.picture k xs))) × (e ≡ held_of u.part) × (is_marked marks (u.part.start ! 1) ≡ true)
      go a = (
        record {
          part = part;
          rules = part_keeps part
              (record {
                start = a.rules;
                count = (due_end p d (length a.datas) echo a.due a.few known ends).1 ∙ ap (λ t. data_texts t echo) (sym a.part);
                order = subst (λ t. in_order (a.start ! 1) t 1 a.datas ≡ true) (sym a.part) a.order;
                end = subst (λ t. is_end_block t b ≡ true) (header_facts a.start).2 taken.0;
                end_picture = picture;
                end_kind = hk ∙ ap₂ kind_of (sym a.part) (due_end p d (length a.datas) echo a.due a.few known ends).0;
                mode = modes;
              });
          framed = ap₂ (λ x y. x ++ y) a.bytes (text_same R b) ∙ append_assoc (text_of a.start) (texts_of a.datas) (text_of b) ∙ sym (bytes_of part);
        },
        taken.1 ∙ ap (λ t. held (header_of a.start) (modes_of b) no_digits t) (sym (grid_of_lem part)),
        subst (λ q. is_marked marks q ≡ true) picture hq,
      )
        where
          echo : Bool
          echo = no_echo_of (a.start ! 4)

          b : List ℕ
          b = block R c.header.picture k xs

          part : Part
          part = record { start = a.start; datas = a.datas; end = b }

          known : is_kind (kind_of p d) ≡ true
          known = subst (λ t. is_kind t ≡ true) hk g

          ends : is_end_kind (kind_of p d) ≡ true
          ends = subst (λ t. is_end_kind t ≡ true) hk v

          long : length xs ≡ 29
          long = omega (arith, end_block_length k v)

          picture : c.header.picture ≡ a.start ! 1
          picture = ap (λ (x : Held). x.header.picture) a.holds ∙ (header_facts a.start).1

          taken : (is_end_block (header_of a.start).radars b ≡ true) × (e ≡ held (header_of a.start) (modes_of b) no_digits (grid_with a.datas))
          taken = (end_taken marks c.header.picture k (header_of a.start) no_modes no_digits (grid_with a.datas) e xs (marked_listed marks c.header.picture hq) v refl long).0 (subst (λ (t : Held). BlockContents R k t 3 xs e) a.holds r)

          modes : mode_of (a.start ! 5) ≡ highest (modes_of b)
          modes = sym (header_facts a.start).3 ∙ mode_highest_eq (header_of a.start) (modes_of b) (subst (λ (t : Held). mode_is_highest t.header t.modes ≡ true) taken.1 z)

  -- ---- and back

  -- how the texts of an open part are answered, from the start text's last byte on; and those of a whole one
  unfoldable pub open_answers : {ys : List ℕ} {p d : ℕ} {c : Held} → Open R ys p d c → List ℕ
  open_answers (begun hq hk l r) = BEGUN ∷ []
  open_answers (more {k} {xs} {c} o hq hk g n v l r) = open_answers o ++ spread (length (text R (block R c.header.picture k xs))) TAKEN

  unfoldable pub whole_answers : {zs : List ℕ} {e : Held} → Whole R zs e → List ℕ
  whole_answers (whole {k} {xs} {c} o hq hk g n v l r z) = open_answers o ++ spread (length (text R (block R c.header.picture k xs))) COMPLETE

  record OpenSaid (ys : List ℕ) (p d : ℕ) (c : Held) (answers : List ℕ) : Type 0 where
    opens : Open R ys p d c
    says : open_answers opens ≡ answers

  pub record WholeSaid (zs : List ℕ) (e : Held) (answers : List ℕ) : Type 0 where
    pub is_whole : Whole R zs e
    pub says : whole_answers is_whole ≡ answers

  cast : {ys zs : List ℕ} {p r d f : ℕ} {c e : Held} {vs us : List ℕ} → ys ≡ zs → p ≡ r → d ≡ f → c ≡ e → vs ≡ us → OpenSaid ys p d c vs → OpenSaid zs r f e us
  cast {ys} {zs} {p} {r} {d} {f} {c} {e} {vs} {us} a x b g s o = rw (← a, ← x, ← b, ← g, ← s) o

  open_start : (start : List ℕ) → is_start_block start ≡ true → is_marked marks (start ! 1) ≡ true
      → OpenSaid (text_of start) (start_part start) (due_after (start_part start) (no_echo_of (start ! 4)) 0) (held (header_of start) no_modes no_digits (grid_with [])) (1 ∷ [])
  unfolding open_answers
  open_start start ok hm =
      let r = start_rules start ok in
      let whole : start ≡ block R q k xs = split_3 start (omega (arith, r.long)) r.first in
      let long : length xs ≡ 29 = omega (arith, length-drop 3 start, r.long) in
      let h = held (header_of start) no_modes no_digits empty_grid in
      let contents = (start_taken marks q k R.blank h xs r.picture r.kind long).1 (subst (λ t. is_start_block t ≡ true) whole ok, ap (λ t. held (header_of t) no_modes no_digits empty_grid) whole) in
      cast {vs = 1 ∷ []} (text_same R (block R q k xs) ∙ ap text_of (sym whole)) refl
      (first_due_lem (start_part start) (header_of start) ∙ ap (λ n. due_after (start_part start) n 0) (header_facts start).0)
      (ap (λ g. held (header_of start) no_modes no_digits g) grid_none) refl
      (record { opens = begun hm r.kind (omega (arith, long, start_block_length k r.kind)) contents; says = refl {a = 1 ∷ []} })
    where
      q : ℕ
      q = start ! 1

      k : ℕ
      k = start ! 2

      xs : List ℕ
      xs = drop 3 start

  module _ (p q : ℕ) (echo : Bool) (h : Header) (hq : h.picture ≡ q) (hm : is_marked marks q ≡ true) where
    open_data : (rest datas : List (List ℕ)) {ys vs : List ℕ} → in_order q p (suc (length datas)) rest ≡ true → in_order q p 1 datas ≡ true → length datas + length rest ≤ data_texts p echo
        → OpenSaid ys p (due_after p echo (length datas)) (held h no_modes no_digits (grid_with datas)) vs
        → OpenSaid (ys ++ texts_of rest) p (due_after p echo (length datas + length rest)) (held h no_modes no_digits (grid_with (datas ++ rest))) (vs ++ data_answers rest)
    unfolding texts_of data_answers open_answers
    open_data [] datas {ys} {vs} t u l o =
        cast (sym (append-nil ys)) refl (ap (due_after p echo) (sym (add-zero (length datas)))) (ap (λ d. held h no_modes no_digits (grid_with d)) (sym (append-nil datas)))
        (sym (append-nil vs)) o
    open_data (b ∷ rest) datas {ys} {vs} t u l o =
        cast (append_assoc ys (text_of b) (texts_of rest)) refl (ap (due_after p echo) far) (ap (λ d. held h no_modes no_digits (grid_with d)) (append_assoc datas (b ∷ []) rest))
        (append_assoc vs (spread (length (text_of b)) 2) (data_answers rest))
        (open_data rest (datas ++ (b ∷ [])) (subst (λ n. in_order q p (suc n) rest ≡ true) (sym long) one.3)
        (order_snoc q p 1 datas b u one.0 one.1 (one.2 ∙ ap (kind_of p) shift)) (omega (arith, long)) grown)
      where
        m : ℕ
        m = length datas

        one : (is_data_block b ≡ true) × (b ! 1 ≡ q) × (b ! 2 ≡ kind_of p (suc m)) × (in_order q p (suc (suc m)) rest ≡ true)
        one = order_split q p (suc m) b rest t

        shift : suc m ≡ 1 + m
        shift = omega arith

        long : length (datas ++ (b ∷ [])) ≡ suc m
        long = omega (arith, length-append datas (b ∷ []))

        far : length (datas ++ (b ∷ [])) + length rest ≡ m + suc (length rest)
        far = omega (arith, long)

        missing : m < data_texts p echo
        missing = room l
          where
            room : m + suc (length rest) ≤ data_texts p echo → m < data_texts p echo
            room l = omega arith

        r : DataRules b
        r = data_rules b one.0

        k : ℕ
        k = b ! 2

        known : is_kind (kind_of p (suc m)) ≡ true
        known = subst (λ n. is_kind n ≡ true) one.2 (data_is_kind k r.kind)

        number : text_number k ≡ suc m
        number = ap text_number one.2 ∙ (text_back p (suc m) known).1

        whose : part_of k ≡ p
        whose = ap part_of one.2 ∙ (text_back p (suc m) known).0

        whole : 3 ≤ length b → b ≡ block R q k (payload_of b)
        whole n = split_3 b n r.first ∙ ap (λ t. FD ∷ t ∷ k ∷ payload_of b) one.1

        lengthy : length b ≡ data_block_length p
        lengthy = r.long ∙ data_block_length_lem k r.kind ∙ ap data_block_length whose

        three : 3 ≤ length b
        three = omega (arith, r.long, block_least k (data_is_kind k r.kind))

        sized : length (payloads_of datas) ≡ m * (data_block_length p - 3)
        sized = payloads_length (data_sized q p 1 datas u)

        room : length (payloads_of datas) + length (payload_of b) ≤ grid_length
        room = omega (arith, sized, lengthy, length-drop 3 b, payload_fits p echo, mul-le-mul_right (data_block_length p - 3) missing, suc-mul m (data_block_length p - 3))

        place : 2000 * (text_number k - 1) ≡ length (payloads_of datas)
        place = ap (λ t. 2000 * (t - 1)) number ∙ back ∙ data_place p echo m missing ∙ sym sized
          where
            back : 2000 * (suc m - 1) ≡ 2000 * m
            back = omega arith

        contents : BlockContents R k (held h no_modes no_digits (grid_with datas)) 3 (payload_of b) (held h no_modes no_digits (grid_with (datas ++ (b ∷ []))))
        contents =
            (data_taken marks k (held h no_modes no_digits (grid_with datas)) (held h no_modes no_digits (grid_with (datas ++ (b ∷ [])))) (payload_of b) r.kind).1
            (r.payload, ap (λ g. held h no_modes no_digits g) (sym (grid_more datas b room) ∙ ap (λ j. sets (grid_with datas) j (payload_of b)) (sym place)))

        due : k ≡ kind_of p (due_after p echo m)
        due = one.2 ∙ ap (kind_of p) (sym (rw (lt-ltb m (data_texts p echo) missing)))

        bytes : text R (block R h.picture k (payload_of b)) ≡ text_of b
        bytes = ap (λ x. text R (block R x k (payload_of b))) hq ∙ text_same R (block R q k (payload_of b)) ∙ ap text_of (sym (whole three))

        again : Open R (ys ++ text R (block R h.picture k (payload_of b))) p (next_due p (text_number k)) (held h no_modes no_digits (grid_with (datas ++ (b ∷ []))))
        again = more {xs = payload_of b} o.opens (subst (λ x. is_marked marks x ≡ true) (sym hq) hm) due (data_is_kind k r.kind) (data_only k r.kind).0 (data_only k r.kind).1 (omega (arith, length-drop 3 b, r.long, three)) contents

        grown : OpenSaid (ys ++ text_of b) p (due_after p echo (length (datas ++ (b ∷ [])))) (held h no_modes no_digits (grid_with (datas ++ (b ∷ [])))) (vs ++ spread (length (text_of b)) 2)
        grown =
            cast (ap (λ t. ys ++ t) bytes) refl (ap (next_due p) number ∙ next_due_lem p echo m missing ∙ ap (due_after p echo) (sym long)) refl refl
            (record { opens = again; says = ap₂ (λ x n. x ++ spread n 2) o.says (ap length bytes) })

  order_none : (q p : ℕ) → in_order q p 1 [] ≡ true
  unfolding in_order
  order_none q p = refl

  pub undamaged_said : {zs : List ℕ} (u : UndamagedPart zs) → is_marked marks (u.part.start ! 1) ≡ true → WholeSaid zs (held_of u.part) (part_answers u.part)
  unfolding whole_answers
  undamaged_said {zs} u hm =
      subst (λ t. WholeSaid t (held_of p) (part_answers p)) (append_assoc (text_of p.start) (texts_of p.datas) (text_of p.end) ∙ sym (bytes_of p) ∙ sym u.framed)
      (subst (λ t. WholeSaid ((text_of p.start ++ texts_of p.datas) ++ t) (held_of p) (part_answers p)) bytes
      (record { is_whole = ended; says = ap₂ (λ x n. x ++ spread n 3) opened.says (ap length bytes ∙ text_length_lem p.end ∙ ap (λ n. n + 8) er.long) }))
    where
      p : Part
      p = u.part

      r : PartRules p
      r = part_rules p u.rules

      er : EndRules (radars_of p.start) p.end
      er = end_rules (radars_of p.start) p.end r.end

      q : ℕ
      q = p.start ! 1

      k : ℕ
      k = p.end ! 2

      xs : List ℕ
      xs = drop 3 p.end

      echo : Bool
      echo = no_echo_of (p.start ! 4)

      picture : (header_of p.start).picture ≡ q
      picture = (header_facts p.start).1

      split : p.end ≡ block R q k xs
      split = split_3 p.end (omega (arith, er.long)) er.first ∙ ap (λ t. FD ∷ t ∷ k ∷ xs) r.end_picture

      long : length xs ≡ 29
      long = omega (arith, length-drop 3 p.end, er.long)

      full : due_after (start_part p.start) echo (0 + length p.datas) ≡ 11
      full = rw (le-ltb (0 + length p.datas) (data_texts (start_part p.start) echo) (omega (arith, r.count)))

      opened : OpenSaid (text_of p.start ++ texts_of p.datas) (start_part p.start) 11 (held (header_of p.start) no_modes no_digits (grid_with p.datas)) (1 ∷ data_answers p.datas)
      opened =
          cast refl refl full refl refl
          (open_data (start_part p.start) q echo (header_of p.start) picture hm p.datas [] r.order (order_none q (start_part p.start)) (omega (arith, r.count)) (open_start p.start r.start hm))

      contents : BlockContents R k (held (header_of p.start) no_modes no_digits (grid_with p.datas)) 3 xs (held_of p)
      contents =
          (end_taken marks q k (header_of p.start) no_modes no_digits (grid_with p.datas) (held_of p) xs (subst (λ x. is_picture_code x ≡ true) r.end_picture er.picture) er.kind refl long).1 (
            subst₂ (λ a b. is_end_block a b ≡ true) (sym (header_facts p.start).2) split r.end,
            ap₂ (λ m g. held (header_of p.start) m no_digits g) (ap modes_of split) (grid_of_lem p),
          )

      bytes : text R (block R (header_of p.start).picture k xs) ≡ text_of p.end
      bytes = ap (λ x. text R (block R x k xs)) picture ∙ text_same R (block R q k xs) ∙ ap text_of (sym split)

      ended : Whole R ((text_of p.start ++ texts_of p.datas) ++ text R (block R (header_of p.start).picture k xs)) (held_of p)
      ended =
          whole {xs = xs} opened.opens (subst (λ x. is_marked marks x ≡ true) (sym (header_facts p.start).1) hm) r.end_kind (end_is_kind k er.kind) (end_not_start k er.kind) er.kind
          (omega (arith, long, end_block_length k er.kind)) contents
          (eq_mode_highest (header_of p.start) (modes_of p.end) ((header_facts p.start).3 ∙ r.mode))

  pub undamaged_whole : {zs : List ℕ} (u : UndamagedPart zs) → is_marked marks (u.part.start ! 1) ≡ true → Whole R zs (held_of u.part)
  undamaged_whole u hm = (undamaged_said u hm).is_whole

  -- its blocks are the part's

  open_blocks_lem : {ys : List ℕ} {p d : ℕ} {c : Held} (o : Open R ys p d c) → open_blocks R o ≡ (open_begun o).start ∷ (open_begun o).datas
  unfolding open_blocks open_begun begun_start begun_more
  open_blocks_lem (begun hq hk l r) = refl
  open_blocks_lem (more {k} {xs} {c} o hq hk g n v l r) = ap (λ t. t ++ (block R c.header.picture k xs ∷ [])) (open_blocks_lem o)

  whole_blocks_lem : {zs : List ℕ} {c : Held} (w : Whole R zs c) → whole_blocks R w ≡ blocks_of (whole_undamaged w).0.part
  unfolding whole_blocks whole_undamaged
  whole_blocks_lem (whole {k} {xs} {c} o hq hk g n v l r z) = ap (λ t. t ++ (block R c.header.picture k xs ∷ [])) (open_blocks_lem o)

  pub part_blocks : {zs : List ℕ} (u : UndamagedPart zs) (hm : is_marked marks (u.part.start ! 1) ≡ true) → whole_blocks R (undamaged_whole u hm) ≡ blocks_of u.part
  part_blocks {zs} u hm = whole_blocks_lem (undamaged_whole u hm) ∙ ap blocks_of (one_reading zs (whole_undamaged (undamaged_whole u hm)).0 u)
