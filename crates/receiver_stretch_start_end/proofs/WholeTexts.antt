-- A whole start or end text, from its `FD` to its check byte, is a stretch. Assumes nothing.
use mathlib.Core.Path.{◌≡◌, refl, sym, ap, ap₂, ◌∙◌, subst, subst₂}
use mathlib.Core.Bool.{true, false, cond, ◌&&◌, and-false}
use mathlib.Core.List.{List, [], ◌∷◌, ◌++◌, tail-eq_of_cons-eq}
use Prim.Native.Nat.{ℕ, zero, suc, ◌≤◌, ◌<◌}
use native.Mathlib.Nat.{zero-add}
use native.Mathlib.Omega.{arith}
use lib.Dec.{eqb, leb, lit≤}
use lib.ListN.{length, get_or, take, drop, length-drop}
use lib.Seq.{take_all, take-add, length-take-le, get_or-take}
use borrow.Author.Tests.{eqb-true, le-leb, lt-leb}
use Rattle.std.specs.Prelude.{Option, Some, None, MatchOption}
use Rattle.general_laws.specs.Bytes.{◌!◌}
use Rattle.text.specs.Text.{FD, EOR, check_byte}
use Rattle.text.specs.Kinds.{kind_of, block_length}
use Rattle.text.specs.StartBlock.{is_start_block, header_of}
use Rattle.text.specs.EndBlock.{no_modes, is_end_block, modes_of}
use Rattle.general_laws.proofs.Tests.{by_test, by_if, and_split}
use Rattle.text_laws.proofs.KindTable.{end_is_kind, start_block_length, end_block_length, end_not_start}
use Rattle.text_laws.proofs.Blocks.{start_rules, end_rules, split_3}
use Rattle.text_start_block.specs.Read.{start_read}
use Rattle.text_end_block.specs.Read.{end_read}
use Rattle.receiver_spec.specs.Seen.{ends_opening}
use Rattle.receiver_spec.specs.Marks.{is_marked}
use Rattle.receiver_spec.proofs.Laws.{Rules, Machine, mk, AllQuiet, block, opening_seen, seen_control, seen_check, start_quiet, due_quiet, held, radar, radar_laws, machine, start_taken, end_taken}
use Rattle.receiver_bytes_seen.specs.AsNumber.{seen_of}
use Rattle.receiver_bytes_seen.specs.Behind.{seen_after}
use Rattle.receiver_bytes_seen.proofs.Laws.{count_five}
use Rattle.general_laws.proofs.Lists.{from_on, Bytes, bytes_front}
use Rattle.receiver_state.specs.Meaning.{state_of}
use Rattle.receiver_spec.specs.State.{no_digits}
use Rattle.receiver_state.specs.declared.state.State.{State}
use Rattle.receiver_decisions.specs.Decisions.{frame, state}
use Rattle.receiver_stretches.specs.Run.{passed, run}
use Rattle.receiver_stretches.proofs.Laws.{state_of_machine, quiet_passed}
use Rattle.receiver_stretch_start_end.specs.Ahead.{is_idle, is_gap, block_ahead, is_framed, start_ahead, end_ahead, text_ahead, start_entered, is_due_end, end_entered, behind_text, framed, WholeOrNone}
use Rattle.receiver_stretch_start_end.proofs.BetweenTexts.{idle_has, gap_has}

-- quiet bytes, five or more
long_passed :
    (s : State) {m n : Machine (radar s.marks)} (g : List ℕ) (len : ℕ) (bytes : List ℕ) → machine s.marks (state_of s) g ≡ m → AllQuiet (radar s.marks) m (take len bytes) n → Bytes bytes
    → len ≤ length bytes → 5 ≤ len
    → run s g (take len bytes) 0 ≡ passed (state_of_machine s.marks s.marks (seen_after s.seen (take len bytes)) 5 n) n.held.grid len
long_passed s {n} g len bytes e q small inside five =
    let xs = take len bytes in
    let size : length xs ≡ len = length-take-le len bytes inside in
    quiet_passed s.marks s g 0 q refl e (bytes_front len bytes small)
    ∙ ap₂ (λ c i. passed (state_of_machine s.marks s.marks (seen_after s.seen xs) c n) n.held.grid i) (count_five s.frame.count xs (omega (arith, size, five))) (zero-add (length xs) ∙ size)

module _ (s : State) (bytes : List ℕ) (opened : ends_opening (seen_of s.seen s.frame.count) FD ≡ true)
    (inside : 34 ≤ length bytes) (small : Bytes bytes) (eor : bytes ! 32 ≡ EOR) (checked : bytes ! 33 ≡ check_byte (block_ahead bytes)) (marked : is_marked s.marks (bytes ! 1) ≡ true) where
  abbrev R : Rules
  R = radar s.marks

  abbrev here : List ℕ
  here = block_ahead bytes

  abbrev seen : ℕ
  seen = seen_after s.seen (take 34 bytes)

  -- the block, EOR and the check byte
  stretch : take 34 bytes ≡ here ++ (EOR ∷ check_byte here ∷ [])
  stretch =
      take-add 32 2 bytes
      ∙ ap (λ t. here ++ take 2 t) (from_on bytes 32 33 refl (omega (arith, inside)) ∙ ap (λ t. get_or bytes 32 0 ∷ t) (from_on bytes 33 34 refl inside))
      ∙ ap₂ (λ x y. here ++ (x ∷ y ∷ [])) eor checked

  long : length here ≡ 32
  long = length-take-le 32 bytes (omega (arith, inside))

  control : seen_of s.seen s.frame.count ≡ seen_control
  control = tail-eq_of_cons-eq (opening_seen (seen_of s.seen s.frame.count) FD opened)

  abbrev q : ℕ
  q = here ! 1

  abbrev k : ℕ
  k = here ! 2

  abbrev xs : List ℕ
  xs = drop 3 here

  -- the picture code is that of the block
  marked_here : is_marked s.marks q ≡ true
  marked_here = subst (λ x. is_marked s.marks x ≡ true) (sym (get_or-take 32 bytes 1 0 (lit≤ tt))) marked

  size : length xs ≡ 29
  size = omega (arith, long, length-drop 3 here)

  pub start_whole : is_idle s.frame ≡ true → is_start_block here ≡ true → (g : List ℕ)
      → run s g (take 34 bytes) 0 ≡ passed (state seen (frame 34 k q 0 0 (check_byte here) 5) (header_of here) no_modes no_digits s.marks) g 34
  start_whole idle ok g =
      let r = start_rules here ok in
      let (place, part, kind, picture, due, check) = idle_has s idle in
      let before = held s.header s.modes s.digits g in
      let after = held (header_of here) no_modes no_digits g in
      let whole : here ≡ block R q k xs = split_3 here (omega (arith, long)) r.first in
      let contents = (start_taken s.marks q k before after xs r.picture r.kind size).1 (subst (λ b. is_start_block b ≡ true) whole ok, ap (λ b. held (header_of b) no_modes no_digits g) whole) in
      let quiet = start_quiet R (radar_laws s.marks) marked_here r.kind (omega (arith, size, start_block_length k r.kind)) contents in
      subst₂ (λ i b. run s g (take 34 bytes) 0 ≡ passed (state_of_machine s.marks s.marks seen 5 (mk R [] i k q 0 0 (check_byte b) after)) g 34)
      (ap (λ n. suc (suc n)) (start_block_length k r.kind)) (sym whole)
      (long_passed s g 34 bytes (rw (place, part, kind, picture, due, check, control))
      (subst (λ t. AllQuiet R (mk R seen_control 0 0 0 0 0 0 before) t (mk R (seen_check R (radar_laws s.marks) q k xs) (suc (suc (block_length k))) k q 0 0 (check_byte (block R q k xs)) after))
      (sym (stretch ∙ ap (λ b. b ++ (EOR ∷ check_byte b ∷ [])) whole)) quiet)
      small inside (omega arith))

  pub end_whole : length s.modes ≡ 8 → is_gap s.frame ≡ true → q ≡ s.header.picture → k ≡ kind_of s.frame.part s.frame.due
      → is_end_block s.header.radars here ≡ true → (g : List ℕ)
      → run s g (take 34 bytes) 0 ≡ passed (state seen (frame 34 k q s.frame.part s.frame.due (check_byte here) 5) s.header (modes_of here) s.digits s.marks) g 34
  end_whole eight gap hq hk ok g =
      let r = end_rules s.header.radars here ok in
      let (place, part, kind, picture, check) = gap_has s gap in
      let p = s.frame.part in
      let d = s.frame.due in
      let before = held s.header s.modes s.digits g in
      let after = held s.header (modes_of here) s.digits g in
      let whole : here ≡ block R q k xs = split_3 here (omega (arith, long)) r.first in
      let contents = (end_taken s.marks q k s.header s.modes s.digits g after xs r.picture r.kind eight size).1 (subst (λ b. is_end_block s.header.radars b ≡ true) whole ok, ap (λ b. held s.header (modes_of b) s.digits g) whole) in
      let quiet = due_quiet R (radar_laws s.marks) {c = before} p d part (subst (λ x. is_marked s.marks x ≡ true) hq marked_here) hk (end_is_kind k r.kind) (end_not_start k r.kind) (omega (arith, size, end_block_length k r.kind)) contents in
      let framed : here ≡ block R s.header.picture k xs = whole ∙ ap (λ x. block R x k xs) hq in
      subst (λ i. run s g (take 34 bytes) 0 ≡ passed (state_of_machine s.marks s.marks seen 5 (mk R [] i k q p d (check_byte here) after)) g 34) (ap (λ n. suc (suc n)) (end_block_length k r.kind))
      (subst₂ (λ x b. run s g (take 34 bytes) 0 ≡ passed (state_of_machine s.marks s.marks seen 5 (mk R [] (suc (suc (block_length k))) k x p d (check_byte b) after)) g 34) (sym hq) (sym framed)
      (long_passed s g 34 bytes (rw (place, kind, picture, check, control))
      (subst (λ t. AllQuiet R (mk R seen_control 0 0 0 p d 0 before) t (mk R (seen_check R (radar_laws s.marks) s.header.picture k xs) (suc (suc (block_length k))) k s.header.picture p d (check_byte (block R s.header.picture k xs)) after))
      (sym (stretch ∙ ap (λ b. b ++ (EOR ∷ check_byte b ∷ [])) framed)) quiet)
      small inside (omega arith)))

-- nothing is passed
pub none_passed : {n : ℕ} (s : State) (bytes g : List ℕ) → n ≡ 0 → passed s g 0 ≡ run s g (take n bytes) 0
unfolding run
none_passed s bytes g e = sym (ap (λ k. run s g (take k bytes) 0) e)

-- ---- the same, step by step

-- what was found of a text of 34 bytes: none, or the state behind it
abbrev pub Found : State → List ℕ → Option State → Type 0
Found s text r = MatchOption r (text_ahead s text ≡ 0) (λ t. (text_ahead s text ≡ 34) × ((g : List ℕ) → run s g text 0 ≡ passed t g 34))

-- the first bytes of the first bytes
take_less : (n m : ℕ) (xs : List ℕ) → n ≤ m → take n (take m xs) ≡ take n xs
take_less zero m xs l = refl
take_less (suc n) zero xs l = absurd (omega arith)
take_less (suc n) (suc m) [] l = refl
take_less (suc n) (suc m) (x ∷ xs) l = ap (λ ys. x ∷ ys) (take_less n m xs (omega arith))

-- of more bytes it is the same
module _ (s : State) (bytes text : List ℕ) (e : text ≡ take 34 bytes) (inside : 34 ≤ length bytes) where
  same_ahead : text_ahead s text ≡ text_ahead s bytes
  unfolding text_ahead start_ahead end_ahead
  same_ahead =
      rw (
        e,
        le-leb 34 (length (take 34 bytes)) (omega (arith, length-take-le 34 bytes inside)),
        le-leb 34 (length bytes) inside,
        get_or-take 34 bytes 1 0 (lit≤ tt),
        get_or-take 34 bytes 32 0 (lit≤ tt),
        get_or-take 34 bytes 33 0 (lit≤ tt),
        take_less 32 34 bytes (lit≤ tt),
      )

  pub found : (r : Option State) → Found s text r → WholeOrNone s bytes r
  found None h = sym same_ahead ∙ h
  found (Some t) (n, p) = λ g. sym (p g) ∙ ap (λ xs. run s g xs 0) (e ∙ ap (λ i. take i bytes) (sym n ∙ same_ahead))

pub no_room : (s : State) (bytes : List ℕ) → length bytes < 34 → text_ahead s bytes ≡ 0
unfolding text_ahead
no_room s bytes l = rw (lt-leb 34 (length bytes) l)

module _ (s : State) (text : List ℕ) where
  pub no_opening : ends_opening (seen_of s.seen s.frame.count) FD ≡ false → text_ahead s text ≡ 0
  unfolding text_ahead
  no_opening f = simp (f, and-false)

  pub no_mark : is_marked s.marks (text ! 1) ≡ false → text_ahead s text ≡ 0
  unfolding text_ahead
  no_mark f = by_if (λ n. n ≡ 0) (leb 34 (length text) && ends_opening (seen_of s.seen s.frame.count) FD) (λ _. rw f) (λ _. refl)

-- behind an opening, of a marked picture
module _ (s : State) (text : List ℕ) (size : length text ≡ 34) (small : Bytes text) (opened : ends_opening (seen_of s.seen s.frame.count) FD ≡ true)
    (marked : is_marked s.marks (text ! 1) ≡ true) where
  place : (i : ℕ) → i < 32 → block_ahead text ! i ≡ text ! i
  place i l = get_or-take 32 text i 0 l

  all : take 34 text ≡ text
  all = take_all 34 text (omega (arith, size))

  ahead_start : is_idle s.frame ≡ true → text_ahead s text ≡ cond (is_framed text && is_start_block (block_ahead text)) 34 0
  unfolding text_ahead start_ahead
  ahead_start i = rw (le-leb 34 (length text) (omega (arith, size)), opened, marked, i)

  ahead_end : is_idle s.frame ≡ false
      → text_ahead s text ≡ cond (is_due_end s text && is_framed text && is_end_block s.header.radars (block_ahead text)) 34 0
  unfolding text_ahead end_ahead
  ahead_end i =
      rw (le-leb 34 (length text) (omega (arith, size)), opened, marked, i, place 1 (lit≤ tt), place 2 (lit≤ tt))

  -- the state behind the text, by its parts
  behind_is : {t : State} → t.seen ≡ s.seen → t.frame ≡ s.frame
      → state (seen_after s.seen (take 34 text)) (frame 34 (block_ahead text ! 2) (block_ahead text ! 1) s.frame.part s.frame.due (check_byte (block_ahead text)) 5) t.header t.modes t.digits t.marks
      ≡ behind_text t text
  behind_is v f = rw (v, f, all, place 2 (lit≤ tt), place 1 (lit≤ tt), count_five s.frame.count text (omega (arith, size)))

  framed_has : is_framed text ≡ true → (text ! 32 ≡ EOR) × (text ! 33 ≡ check_byte (block_ahead text))
  framed_has h =
      let (e, c) = and_split (eqb (text ! 32) EOR) (eqb (text ! 33) (check_byte (block_ahead text))) h in
      (eqb-true (text ! 32) EOR e, eqb-true (text ! 33) (check_byte (block_ahead text)) c)

  start_on : is_idle s.frame ≡ true → is_start_block (block_ahead text) ≡ true
      → Found s text (framed (state s.seen s.frame (header_of (block_ahead text)) no_modes no_digits s.marks) text)
  unfolding framed
  start_on idle ok =
      by_test (is_framed text)
      (λ f.
      let (eor, checked) = framed_has f in
      let (at, part, kind, picture, due, check) = idle_has s idle in
      rw f (
        ahead_start idle ∙ rw (f, ok),
        λ g. ap (λ xs. run s g xs 0) (sym all)
            ∙ start_whole s text opened (omega (arith, size)) small eor checked marked idle ok g
            ∙ ap₂ (λ p d. passed (state (seen_after s.seen (take 34 text)) (frame 34 (block_ahead text ! 2) (block_ahead text ! 1) p d (check_byte (block_ahead text)) 5) (header_of (block_ahead text)) no_modes no_digits s.marks) g 34) (sym part) (sym due)
            ∙ ap (λ (t : State). passed t g 34) (behind_is {t = state s.seen s.frame (header_of (block_ahead text)) no_modes no_digits s.marks} refl refl),
      ))
      (λ f. rw f (ahead_start idle ∙ rw f))

  pub start_found : is_idle s.frame ≡ true → MatchOption (start_entered s text) (text_ahead s text ≡ 0) (λ t. Found s text (framed t text))
  unfolding start_entered start_read
  start_found idle =
      by_test (is_start_block (block_ahead text)) (λ ok. rw ok (start_on idle ok)) (λ no. rw no (ahead_start idle ∙ simp (no, and-false)))

  end_on : length s.modes ≡ 8 → is_idle s.frame ≡ false → is_due_end s text ≡ true → is_end_block s.header.radars (block_ahead text) ≡ true
      → Found s text (framed (state s.seen s.frame s.header (modes_of (block_ahead text)) s.digits s.marks) text)
  unfolding framed
  end_on eight idle due ok =
      by_test (is_framed text)
      (λ f.
      let (eor, checked) = framed_has f in
      let (front, last) = and_split (is_gap s.frame && eqb (text ! 1) s.header.picture) (eqb (text ! 2) (kind_of s.frame.part s.frame.due)) due in
      let (waits, picture) = and_split (is_gap s.frame) (eqb (text ! 1) s.header.picture) front in
      rw f (
        ahead_end idle ∙ rw (due, f, ok),
        λ g. ap (λ xs. run s g xs 0) (sym all)
            ∙ end_whole s text opened (omega (arith, size)) small eor checked marked eight waits (place 1 (lit≤ tt) ∙ eqb-true _ _ picture) (place 2 (lit≤ tt) ∙ eqb-true _ _ last) ok g
            ∙ ap (λ (t : State). passed t g 34) (behind_is {t = state s.seen s.frame s.header (modes_of (block_ahead text)) s.digits s.marks} refl refl),
      ))
      (λ f. rw f (ahead_end idle ∙ simp (f, and-false)))

  pub end_found : length s.modes ≡ 8 → is_idle s.frame ≡ false → MatchOption (end_entered s text) (text_ahead s text ≡ 0) (λ t. Found s text (framed t text))
  unfolding end_entered end_read
  end_found eight idle =
      by_test (is_due_end s text)
      (λ due. rw due
      (by_test (is_end_block s.header.radars (block_ahead text)) (λ ok. rw ok (end_on eight idle due ok)) (λ no. rw no (ahead_end idle ∙ simp (no, and-false)))))
      (λ no. rw no (ahead_end idle ∙ rw no))
