-- Demand 3, for every list of receiving calls. Assumes nothing.
use mathlib.Core.Path.{◌≡◌, refl, sym, ap, ap₂, ◌∙◌, subst}
use mathlib.Core.Logic.{◌≢◌, ◌↔◌}
use mathlib.Core.Bool.{true, false, not}
use mathlib.Core.List.{List, [], ◌∷◌, ◌++◌, append_assoc, append-nil, map}
use Prim.Native.Nat.{ℕ, suc, ◌+◌, ◌-◌, ◌≤◌, ◌<◌}
use native.Mathlib.Omega.{arith}
use lib.ListN.{length, get_or, take, drop, length-append, length-drop, get_or-append, get_or-eq_default}
use lib.Dec.{eqb, ltb}
use lib.Seq.{take_at, drop_at, split_at, take-suc, length-take-le, get_or-append-add, get_or-take, get_or-drop}
use borrow.Author.Tests.{eqb-false, eq-eqb, ltb-true, ltb-false}
use Rattle.general_laws.specs.Bytes.{◌!◌, is_in}
use Rattle.text.specs.Text.{FD, TPAD, opening, text_of}
use Rattle.text.specs.Kinds.{part_of}
use Rattle.text.specs.StartBlock.{is_start_block, header_of}
use Rattle.text.specs.Part.{start_part, StartText, UndamagedPart, AlteredTo, zeros, part_header, part_modes, grid_of}
use Rattle.text.specs.EndBlock.{no_modes}
use Rattle.general_laws.proofs.Tests.{by_test, never, neither}
use Rattle.general_laws.proofs.Computed.{tabled}
use Rattle.general_laws.proofs.Lists.{at_least_one}
use Rattle.text_laws.proofs.Parts.{start_byte}
use Rattle.text_laws.proofs.Blocks.{StartRules, start_rules, part_rules, split_3}
use Rattle.receiver_spec.specs.Alterations.{AlteredTexts, blocks_of}
use Rattle.receiver_spec.specs.Seen.{push}
use Rattle.receiver_spec.specs.Marks.{is_marked, are_marks, all_marks, marks_from}
use Rattle.receiver_spec.specs.State.{State, fresh, dropped, no_digits, empty_grid}
use Rattle.receiver_spec.specs.Receiver.{Step, step}
use Rattle.receiver_spec.specs.Calls.{Reply, quiet, part_begun, text_taken, part_complete, part_dropped, refused, number, answered, CallOutcome, Request, byte, slice, Call, on_grid, elsewhere, ask, After, start, spread, add, next, after, received, singly, answers_of, state_after, grid_after}
use Rattle.receiver_spec.specs.Demand3.{IsAnswer, CallMade, Marked, Unmarked, part_answers, part_unmarked, EndsUndamaged, WayBack, PartUnmarked, Demand3}
use Rattle.receiver_spec.proofs.MarkLaws.{all_marked}
use Rattle.receiver_spec.proofs.Opening.{only_fd, pushes}
use Rattle.receiver_spec.proofs.Machine.{Rules, Machine, Out, mk, lost, move, run, new, BlockContents, block, most, Whole, whole, text_same}
use Rattle.receiver_spec.proofs.Steps.{run_append}
use Rattle.receiver_spec.proofs.WayBack.{start_run, way_back_lem}
use Rattle.receiver_spec.proofs.Completing.{part_open}
use Rattle.receiver_spec.proofs.History.{snoc_inj, complete_only, complete_if}
use Rattle.receiver_spec.proofs.Altered.{idle_move, plain, altered_never}
use Rattle.receiver_spec.proofs.ListsOfAlterations.{alterations_claim}
use Rattle.receiver_spec.proofs.DigitRows.{waiting_so, minute_waits}
use Rattle.receiver_spec.proofs.Instance.{Held, held, radar, machine, out, step_is_move, step_marks, radar_laws}
use Rattle.text_laws.proofs.KindTable.{start_block_length}
use Rattle.receiver_spec.proofs.BlockRules.{start_taken}
use Rattle.receiver_spec.proofs.WholeParts.{held_of, whole_undamaged, undamaged_whole, part_blocks}
use Rattle.receiver_spec.proofs.PartAnswers.{Says, said_answers, says_run, part_said}
use Rattle.receiver_spec.proofs.Unmarked.{Refused, part_refused, unmarked_other}
use Rattle.receiver_spec.proofs.Answers.{step_told, three_complete}
use Rattle.receiver_spec.proofs.NotBefore.{not_before}
use Rattle.receiver_spec.proofs.CallLists.{wrong_grid, byte_taken, slice_taken, number_answered, answers_append, state_append, Stepped, calls_stepped, calls_sound, singly_taken, spread_last}

-- ---- steps are moves

-- bytes keep the marks
pub marks_after : (bytes : List ℕ) (s : State) (g : List ℕ) → (state_after s g bytes).marks ≡ s.marks
unfolding state_after
marks_after [] s g = refl
marks_after (b ∷ bytes) s g = marks_after bytes (step s g b).state (step s g b).grid ∙ step_marks s g b

module _ (marks : ℕ) where
  pub machine_after : (bytes : List ℕ) (s : State) (g : List ℕ) → s.marks ≡ marks → machine marks (state_after s g bytes) (grid_after s g bytes) ≡ run (radar marks) (machine marks s g) bytes
  unfolding state_after grid_after run
  machine_after [] s g k = refl
  machine_after (b ∷ bytes) s g k =
      machine_after bytes (step s g b).state (step s g b).grid (step_marks s g b ∙ k) ∙ ap (λ (o : Out (radar marks)). run (radar marks) o.machine bytes) (step_is_move marks s g b k)

  -- the answer of the byte behind others
  answer_at : (before : List ℕ) (b : ℕ) (rest : List ℕ) (s : State) (g : List ℕ) → s.marks ≡ marks
      → answers_of s g (before ++ (b ∷ rest)) ! length before ≡ (move (radar marks) (run (radar marks) (machine marks s g) before) b).answer
  unfolding answers_of run
  answer_at [] b rest s g k = ap (λ (o : Out (radar marks)). o.answer) (step_is_move marks s g b k)
  answer_at (x ∷ before) b rest s g k =
      answer_at before b rest (step s g x).state (step s g x).grid (step_marks s g x ∙ k)
      ∙ ap (λ (o : Out (radar marks)). (move (radar marks) (run (radar marks) o.machine before) b).answer) (step_is_move marks s g x k)

  -- a state and a grid are what their machine is, with the marks
  state_is : (s t : State) (g h : List ℕ) → machine marks s g ≡ machine marks t h → s.marks ≡ t.marks → s ≡ t
  state_is s t g h e k = λ i. record {
    seen = (e i).seen;
    place = (e i).place;
    kind = (e i).kind;
    picture = (e i).picture;
    part = (e i).part;
    due = (e i).due;
    check = (e i).check;
    header = (e i).held.header;
    modes = (e i).held.modes;
    digits = (e i).held.digits;
    marks = k i;
  }

  step_same : (s t : State) (g h : List ℕ) (b : ℕ) → s.marks ≡ marks → t.marks ≡ marks → move (radar marks) (machine marks s g) b ≡ move (radar marks) (machine marks t h) b → step s g b ≡ step t h b
  step_same s t g h b ks kt e =
      let f : out marks (step s g b) ≡ out marks (step t h b) = step_is_move marks s g b ks ∙ e ∙ sym (step_is_move marks t h b kt) in
      let kept : (step s g b).state.marks ≡ (step t h b).state.marks = step_marks s g b ∙ ks ∙ sym kt ∙ sym (step_marks t h b) in
      λ i. record {
        answer = (f i).answer;
        state = state_is (step s g b).state (step t h b).state (step s g b).grid (step t h b).grid (ap (λ (o : Out (radar marks)). o.machine) f) kept i;
        grid = (f i).machine.held.grid;
      }

-- ---- answers and places

pub answers_long : (bytes : List ℕ) (s : State) (g : List ℕ) → length (answers_of s g bytes) ≡ length bytes
unfolding answers_of
answers_long [] s g = refl
answers_long (b ∷ bytes) s g = ap suc (answers_long bytes (step s g b).state (step s g b).grid)

answers_from : (xs ys : List ℕ) (s : State) (g : List ℕ) (n : ℕ) → length xs ≡ n → drop n (answers_of s g (xs ++ ys)) ≡ answers_of (state_after s g xs) (grid_after s g xs) ys
answers_from xs ys s g n l = ap (drop n) (answers_append xs ys s g) ∙ drop_at (answers_of s g xs) (answers_of (state_after s g xs) (grid_after s g xs) ys) n (answers_long xs s g ∙ l)

answers_one : (s t : State) (g h : List ℕ) (b : ℕ) (rest : List ℕ) → step s g b ≡ step t h b → answers_of s g (b ∷ rest) ≡ answers_of t h (b ∷ rest)
unfolding answers_of
answers_one s t g h b rest e = ap (λ (o : Step). o.answer ∷ answers_of o.state o.grid rest) e

-- ---- replies, and calls one behind the other

-- the part that a reply tells
abbrev part_in : Reply → ℕ
part_in quiet = 0
part_in part_begun = 0
part_in text_taken = 0
part_in (part_complete p) = p
part_in (part_dropped n) = 0
part_in (refused n) = 0

tells_is : (q n p : ℕ) → answered q n ≡ part_complete p → p ≡ q
unfolding answered
tells_is q n p e =
    let three : n ≡ 3 = sym (number_answered q n) ∙ ap number e in
    sym (ap part_in (subst (λ m. answered q m ≡ part_complete p) three e))

pub after_last : (calls : List Call) (c : Call) (a : After) → after a (calls ++ (c ∷ [])) ≡ next (after a calls) c
unfolding after
after_last [] c a = refl
after_last (d ∷ calls) c a = after_last calls c (next a d)

-- with all twenty marks every picture is marked
all_whole : {part : List ℕ} (u : UndamagedPart part) → is_marked all_marks (u.part.start ! 1) ≡ true
all_whole u = all_marked (u.part.start ! 1) ∙ (start_rules u.part.start (part_rules u.part u.rules).start).picture

pub every_marked : {part : List ℕ} (u : UndamagedPart part) → Marked all_marks u.part.start
unfolding marks_from are_marks
every_marked u = all_whole u

module _ (asked : ℕ) where
  abbrev marks : ℕ
  marks = marks_from asked

  abbrev R : Rules
  R = radar marks

  -- ---- a start text

  module _ (t : List ℕ) (u : StartText t) (hm : Marked asked u.block) where
    abbrev b : List ℕ
    b = u.block

    rules : StartRules b
    rules = start_rules b u.rules

    abbrev q : ℕ
    q = b ! 1

    abbrev k : ℕ
    k = b ! 2

    abbrev xs : List ℕ
    xs = drop 3 b

    split : b ≡ block R q k xs
    split = split_3 b (omega (arith, rules.long)) rules.first

    -- the text but for its last byte
    front : List ℕ
    front = most R (block R q k xs)

    text_is : t ≡ front ++ (TPAD ∷ [])
    unfolding front
    text_is = u.framed ∙ ap text_of split ∙ sym (text_same R (block R q k xs))

    long : length xs ≡ 29
    long = omega (arith, length-drop 3 b, rules.long)

    contents : BlockContents R k (R.begin q R.blank) 3 xs (held (header_of (block R q k xs)) no_modes no_digits empty_grid)
    contents = (start_taken marks q k R.blank (held (header_of (block R q k xs)) no_modes no_digits empty_grid) xs rules.picture rules.kind long).1 (subst (λ y. is_start_block y ≡ true) split u.rules, refl)

    -- it is answered 1 at its last byte
    begins : (m : Machine R) → (move R (run R m front) TPAD).answer ≡ 1
    unfolding front
    begins m =
        ap (λ (o : Out R). o.answer)
        (start_run R (radar_laws marks) hm rules.kind (omega (arith, long, start_block_length k rules.kind)) contents m)

    -- from there on it makes no difference what came before
    same_move : (m n : Machine R) → move R (run R m front) TPAD ≡ move R (run R n front) TPAD
    unfolding front
    same_move m n =
        way_back_lem R (radar_laws marks) hm rules.kind (omega (arith, long, start_block_length k rules.kind)) contents m n

    same_run : (m n : Machine R) (rest : List ℕ) → run R m (t ++ rest) ≡ run R n (t ++ rest)
    unfolding run
    same_run m n rest =
        over m ∙ ap (λ (o : Out R). run R o.machine rest) (same_move m n) ∙ sym (over n)
      where
        over : (m : Machine R) → run R m (t ++ rest) ≡ run R (move R (run R m front) TPAD).machine rest
        over m = ap (λ y. run R m (y ++ rest)) text_is ∙ ap (run R m) (append_assoc front (TPAD ∷ []) rest) ∙ run_append R m front (TPAD ∷ rest)

    same_step : (before : List ℕ) → step (state_after (fresh asked) empty_grid (before ++ front)) (grid_after (fresh asked) empty_grid (before ++ front)) TPAD
        ≡ step (state_after (fresh asked) empty_grid front) (grid_after (fresh asked) empty_grid front) TPAD
    same_step before =
        step_same marks _ _ _ _ TPAD (marks_after (before ++ front) (fresh asked) empty_grid) (marks_after front (fresh asked) empty_grid)
        (ap (λ m. move R m TPAD) (machine_after marks (before ++ front) (fresh asked) empty_grid refl ∙ run_append R (machine marks (fresh asked) empty_grid) before front)
        ∙ same_move (run R (machine marks (fresh asked) empty_grid) before) (machine marks (fresh asked) empty_grid) ∙ ap (λ m. move R m TPAD) (sym (machine_after marks front (fresh asked) empty_grid refl)))

    -- and the header is then its block's
    begun_header_lem : (calls : List Call) (before : List ℕ) → (received asked calls).taken ≡ before ++ t → (received asked calls).state.header ≡ header_of b
    unfolding run front
    begun_header_lem calls before e =
        let x = calls_stepped asked calls in
        let m = machine marks (fresh asked) empty_grid in
        ap (λ (s : State). s.header) (x.state ∙ ap (state_after (fresh asked) empty_grid) (e ∙ ap (λ y. before ++ y) text_is ∙ sym (append_assoc before front (TPAD ∷ []))))
        ∙ ap (λ (n : Machine R). n.held.header)
        (machine_after marks ((before ++ front) ++ (TPAD ∷ [])) (fresh asked) empty_grid refl
        ∙ run_append R m (before ++ front) (TPAD ∷ [])
        ∙ ap (λ n. (move R n TPAD).machine) (run_append R m before front)
        ∙ ap (λ (o : Out R). o.machine) (start_run R (radar_laws marks) hm rules.kind (omega (arith, long, start_block_length k rules.kind)) contents (run R m before)))
        ∙ ap header_of (sym split)

    found : (calls : List Call) (before rest : List ℕ) → (received asked calls).taken ≡ before ++ (t ++ rest) → WayBack asked (received asked calls) before t rest
    found calls before rest e =
        record {
          state = x.state ∙ ap (state_after (fresh asked) empty_grid) e ∙ state_is marks _ _ _ _ machines (marks_after (before ++ (t ++ rest)) (fresh asked) empty_grid ∙ sym (marks_after (t ++ rest) (fresh asked) empty_grid)) ∙ ap (state_after (fresh asked) empty_grid) (sym taken) ∙ sym y.state;
          grid = x.grid ∙ ap (grid_after (fresh asked) empty_grid) e ∙ ap (λ (m : Machine R). m.held.grid) machines ∙ ap (grid_after (fresh asked) empty_grid) (sym taken) ∙ sym y.grid;
          begun =
              ap₂ (λ (y : List ℕ) i. y ! i) (x.said ∙ ap (answers_of (fresh asked) empty_grid) (e ∙ parts before)) (omega (arith, length-append before front, long))
              ∙ answer_at marks (before ++ front) TPAD rest (fresh asked) empty_grid refl
              ∙ ap (λ m. (move R m TPAD).answer) (run_append R (machine marks (fresh asked) empty_grid) before front) ∙ begins (run R (machine marks (fresh asked) empty_grid) before);
          answers = ap (drop (length before + (length t - 1))) (x.said ∙ ap (answers_of (fresh asked) empty_grid) e) ∙ ends ∙ ap (drop (length t - 1)) (ap (answers_of (fresh asked) empty_grid) (sym taken) ∙ sym y.said);
        }
      where
        x : Stepped asked calls
        x = calls_stepped asked calls

        ones : List Call
        ones = map (λ b. on_grid (byte b)) (t ++ rest)

        y : Stepped asked ones
        y = calls_stepped asked ones

        taken : (singly asked (t ++ rest)).taken ≡ t ++ rest
        taken = singly_taken asked (t ++ rest)

        machines : machine marks (state_after (fresh asked) empty_grid (before ++ (t ++ rest))) (grid_after (fresh asked) empty_grid (before ++ (t ++ rest))) ≡ machine marks (state_after (fresh asked) empty_grid (t ++ rest)) (grid_after (fresh asked) empty_grid (t ++ rest))
        machines =
            machine_after marks (before ++ (t ++ rest)) (fresh asked) empty_grid refl ∙ run_append R (machine marks (fresh asked) empty_grid) before (t ++ rest)
            ∙ same_run (run R (machine marks (fresh asked) empty_grid) before) (machine marks (fresh asked) empty_grid) rest ∙ sym (machine_after marks (t ++ rest) (fresh asked) empty_grid refl)

        long : length t ≡ suc (length front)
        long = ap length text_is ∙ length-append front (TPAD ∷ []) ∙ one (length front)
          where
            one : (n : ℕ) → n + 1 ≡ suc n
            one n = omega arith

        parts : (ys : List ℕ) → ys ++ (t ++ rest) ≡ (ys ++ front) ++ (TPAD ∷ rest)
        parts ys = ap (λ z. ys ++ (z ++ rest)) text_is ∙ ap (λ z. ys ++ z) (append_assoc front (TPAD ∷ []) rest) ∙ sym (append_assoc ys front (TPAD ∷ rest))

        from_last : (ys : List ℕ) (n : ℕ) → length (ys ++ front) ≡ n
            → drop n (answers_of (fresh asked) empty_grid (ys ++ (t ++ rest))) ≡ answers_of (state_after (fresh asked) empty_grid (ys ++ front)) (grid_after (fresh asked) empty_grid (ys ++ front)) (TPAD ∷ rest)
        from_last ys n l = ap (λ z. drop n (answers_of (fresh asked) empty_grid z)) (parts ys) ∙ answers_from (ys ++ front) (TPAD ∷ rest) (fresh asked) empty_grid n l

        ends : drop (length before + (length t - 1)) (answers_of (fresh asked) empty_grid (before ++ (t ++ rest))) ≡ drop (length t - 1) (answers_of (fresh asked) empty_grid (t ++ rest))
        ends =
            from_last before (length before + (length t - 1)) (omega (arith, length-append before front, long))
            ∙ same_answers before
            ∙ sym (from_last [] (length t - 1) (omega (arith, long)))
          where
            same_answers : (before : List ℕ) → answers_of (state_after (fresh asked) empty_grid (before ++ front)) (grid_after (fresh asked) empty_grid (before ++ front)) (TPAD ∷ rest)
                ≡ answers_of (state_after (fresh asked) empty_grid front) (grid_after (fresh asked) empty_grid front) (TPAD ∷ rest)
            same_answers before = answers_one _ _ _ _ TPAD rest (same_step before)

  -- ---- complete

  -- an undamaged part ends with TPAD
  last_byte : {zs : List ℕ} {c : Held} → Whole R zs c → (h : List ℕ) × (zs ≡ h ++ (TPAD ∷ []))
  last_byte (whole {ys} {k} {xs} {c} o hq hk g n v l r z) =
      (ys ++ most R (block R c.header.picture k xs), sym (append_assoc ys (most R (block R c.header.picture k xs)) (TPAD ∷ [])))

  -- with no part open, bytes without `FD` leave all but the bytes seen
  idle_rest : (rest w : List ℕ) (c : Held) → is_in FD rest ≡ false → run R (mk R w 0 0 0 0 0 0 c) rest ≡ mk R (pushes w rest) 0 0 0 0 0 0 c
  unfolding run is_in
  idle_rest [] w c h = refl
  idle_rest (b ∷ rest) w c h =
      let (other, free) = neither (eqb FD b) (is_in FD rest) h in
      ap (λ (o : Out R). run R o.machine rest) (idle_move R (radar_laws marks) w b c (only_fd w b (λ e. eqb-false FD b other (sym e))))
      ∙ idle_rest rest (push w b) c free

  module _ (calls : List Call) where
    stepped : Stepped asked calls
    stepped = calls_stepped asked calls

    kept_marks : (received asked calls).state.marks ≡ marks
    kept_marks = ap (λ (s : State). s.marks) stepped.state ∙ marks_after (received asked calls).taken (fresh asked) empty_grid

    said_at : (before : List ℕ) (b : ℕ) (rest : List ℕ) → (received asked calls).taken ≡ before ++ (b ∷ rest)
        → (received asked calls).said ! length before ≡ (move R (run R (new R) before) b).answer
    said_at before b rest e =
        ap (λ t. t ! length before) (stepped.said ∙ ap (answers_of (fresh asked) empty_grid) e) ∙ answer_at marks before b rest (fresh asked) empty_grid refl

    completed : (before : List ℕ) (b : ℕ) (rest : List ℕ) → (received asked calls).taken ≡ before ++ (b ∷ rest)
        → ((received asked calls).said ! length before ≡ 3) ↔ EndsUndamaged asked (before ++ (b ∷ []))
    completed before b rest e = (
      λ h. let (z, ys, f, w) = complete_only R (radar_laws marks) before b (sym (said_at before b rest e) ∙ h) in
          let (u, _, hm) = whole_undamaged marks w in record { before = z; part = ys; split = f; whole = u; marked = hm },
      λ u. said_at before b rest e ∙ (complete_if R (radar_laws marks) before b (held_of u.whole.part) (u.before, u.part, u.split, undamaged_whole marks u.whole u.marked)).0,
    )

    holds : (before part rest : List ℕ) (u : UndamagedPart part) → Marked asked u.part.start → is_in FD rest ≡ false → (received asked calls).taken ≡ before ++ (part ++ rest)
        → ((received asked calls).state.header ≡ part_header u.part) × ((received asked calls).state.modes ≡ part_modes u.part) × ((received asked calls).grid ≡ grid_of u.part)
    unfolding run
    holds before part rest u hm free e =
        let w = undamaged_whole marks u hm in
        let (h, f) = last_byte w in
        let split : before ++ part ≡ (before ++ h) ++ (TPAD ∷ []) = ap (λ t. before ++ t) f ∙ sym (append_assoc before h (TPAD ∷ [])) in
        let (_, seen, end) = complete_if R (radar_laws marks) (before ++ h) TPAD (held_of u.part) (before, part, sym split, w) in
        let bytes : (received asked calls).taken ≡ (before ++ h) ++ (TPAD ∷ rest) =
        e ∙ sym (append_assoc before part rest) ∙ ap (λ t. t ++ rest) split ∙ append_assoc (before ++ h) (TPAD ∷ []) rest in
        let here : machine marks (received asked calls).state (received asked calls).grid ≡ run R (move R (run R (new R) (before ++ h)) TPAD).machine rest =
        ap₂ (λ s g. machine marks s g) stepped.state stepped.grid ∙ machine_after marks (received asked calls).taken (fresh asked) empty_grid refl ∙ ap (run R (new R)) bytes ∙ run_append R (new R) (before ++ h) (TPAD ∷ rest) in
        let all : held (received asked calls).state.header (received asked calls).state.modes (received asked calls).state.digits (received asked calls).grid ≡ held_of u.part =
        ap (λ (m : Machine R). m.held) (here ∙ ap (λ m. run R m rest) end) ∙ ap (λ (m : Machine R). m.held) (idle_rest rest seen (held_of u.part) free) in
        (ap (λ (c : Held). c.header) all, ap (λ (c : Held). c.modes) all, ap (λ (c : Held). c.grid) all)

    part_answered_lem : (before part : List ℕ) (u : UndamagedPart part) → Marked asked u.part.start → (received asked calls).taken ≡ before ++ part
        → drop (length before + 39) (received asked calls).said ≡ part_answers u.part
    part_answered_lem before part u hm e =
        let (front, tail, split, long, says) = part_said marks u hm (run R (machine marks (fresh asked) empty_grid) before) in
        ap (drop (length before + 39)) (stepped.said ∙ ap (answers_of (fresh asked) empty_grid) (e ∙ ap (λ t. before ++ t) split ∙ sym (append_assoc before front tail)))
        ∙ answers_from (before ++ front) tail (fresh asked) empty_grid (length before + 39) (omega (arith, length-append before front, long))
        ∙ says (state_after (fresh asked) empty_grid (before ++ front)) (grid_after (fresh asked) empty_grid (before ++ front)) (marks_after (before ++ front) (fresh asked) empty_grid)
        (machine_after marks (before ++ front) (fresh asked) empty_grid refl ∙ run_append R (machine marks (fresh asked) empty_grid) before front)

    -- a byte answered 3 is one of those taken
    answered_within : (i : ℕ) → (received asked calls).said ! i ≡ 3 → i < length (received asked calls).taken
    answered_within i e =
        by_test (ltb i (length (received asked calls).taken)) (λ t. ltb-true i (length (received asked calls).taken) t)
        (λ t. let l = ltb-false i (length (received asked calls).taken) t in
        let long : length (received asked calls).said ≡ length (received asked calls).taken = ap length stepped.said ∙ answers_long (received asked calls).taken (fresh asked) empty_grid in
        let none : (received asked calls).said ! i ≡ 0 = get_or-eq_default (received asked calls).said 0 (omega arith) in
        absurd (omega arith))

    -- where a byte is answered 3, a receiver with all twenty marks would answer 3 too; and to an altered part it does not
    never_complete : (part : List ℕ) (u : UndamagedPart part) → AlteredTexts (blocks_of u.part) (received asked calls).taken → (received asked calls).taken ≢ part → (i : ℕ) → (received asked calls).said ! i ≢ 3
    never_complete part u a some i e =
        let l = answered_within i e in
        let bytes = (received asked calls).taken in
        let split = split_at bytes i 0 l in
        let at : length (take i bytes) ≡ i = length-take-le i bytes (omega arith) in
        let ends = (completed (take i bytes) (bytes ! i) (drop (suc i) bytes) split).0 (ap (λ j. (received asked calls).said ! j) at ∙ e) in
        altered_never (radar all_marks) (radar_laws all_marks) (undamaged_whole all_marks u (all_whole u)) (subst (λ t. AlteredTexts t bytes) (sym (part_blocks all_marks u (all_whole u))) a) some
        (take i bytes) (bytes ! i) (drop (suc i) bytes) split
        (complete_if (radar all_marks) (radar_laws all_marks) (take i bytes) (bytes ! i) (held_of ends.whole.part) (ends.before, ends.part, ends.split, undamaged_whole all_marks ends.whole (all_whole ends.whole))).0

    -- one altered byte is a case of it
    one_never : (part : List ℕ) (v : ℕ) → UndamagedPart part → v ≢ FD → AlteredTo v part (received asked calls).taken → (i : ℕ) → (received asked calls).said ! i ≢ 3
    one_never part v u n a =
        let bytes = (received asked calls).taken in
        let (texts, some) = (alterations_claim u.part).one_in_all v bytes n (subst (λ t. AlteredTo v t bytes) u.framed a) in
        never_complete part u texts (λ e. some (e ∙ u.framed))

    -- a part whose picture is unmarked
    module _ (before part rest : List ℕ) (u : UndamagedPart part) (hm : Unmarked asked u.part.start) (e : (received asked calls).taken ≡ before ++ (part ++ rest)) where
      shown : Refused marks u
      shown = part_refused marks u hm

      -- the bytes up to its first picture code
      abbrev up_to : List ℕ
      up_to = before ++ opening

      bytes_split : (received asked calls).taken ≡ up_to ++ (shown.tail ++ rest)
      bytes_split = e ∙ ap (λ t. before ++ (t ++ rest)) shown.split ∙ simp append_assoc

      seven : length up_to ≡ length before + 6
      seven = length-append before opening

      tail_long : length part ≡ 6 + length shown.tail
      tail_long = ap length shown.split ∙ length-append opening shown.tail

      abbrev there : State
      there = state_after (fresh asked) empty_grid up_to

      abbrev grid_there : List ℕ
      grid_there = grid_after (fresh asked) empty_grid up_to

      before_machine : machine marks there grid_there ≡ run R (run R (machine marks (fresh asked) empty_grid) before) opening
      before_machine = machine_after marks up_to (fresh asked) empty_grid refl ∙ run_append R (machine marks (fresh asked) empty_grid) before opening

      told_so : (w : List ℕ) × Says marks (run R (run R (machine marks (fresh asked) empty_grid) before) opening) shown.tail (part_unmarked u.part) (lost R w)
      told_so = shown.says (run R (machine marks (fresh asked) empty_grid) before)

      -- the answers from there on: the part's, and those behind it
      from_there : drop (length before + 6) (received asked calls).said ≡ answers_of there grid_there (shown.tail ++ rest)
      from_there = ap (drop (length before + 6)) (stepped.said ∙ ap (answers_of (fresh asked) empty_grid) bytes_split) ∙ answers_from up_to (shown.tail ++ rest) (fresh asked) empty_grid (length before + 6) seven

      part_answers_lem : answers_of there grid_there shown.tail ≡ part_unmarked u.part
      part_answers_lem = said_answers marks told_so.1 there grid_there (marks_after up_to (fresh asked) empty_grid) before_machine

      unmarked_answers : take (length part - 6) (drop (length before + 6) (received asked calls).said) ≡ part_unmarked u.part
      unmarked_answers =
          let long : length (answers_of there grid_there shown.tail) ≡ length part - 6 = omega (arith, answers_long shown.tail there grid_there, tail_long) in
          ap (take (length part - 6)) (from_there ∙ answers_append shown.tail rest there grid_there)
          ∙ take_at (answers_of there grid_there shown.tail) (answers_of (state_after there grid_there shown.tail) (grid_after there grid_there shown.tail) rest) (length part - 6) long
          ∙ part_answers_lem

      last_machine : is_in FD rest ≡ false → machine marks (received asked calls).state (received asked calls).grid ≡ machine marks (dropped marks (pushes told_so.0 rest)) empty_grid
      last_machine free =
          ap₂ (λ s g. machine marks s g) stepped.state stepped.grid ∙ machine_after marks (received asked calls).taken (fresh asked) empty_grid refl
          ∙ ap (run R (machine marks (fresh asked) empty_grid)) bytes_split ∙ run_append R (machine marks (fresh asked) empty_grid) up_to (shown.tail ++ rest)
          ∙ ap (λ m. run R m (shown.tail ++ rest)) (run_append R (machine marks (fresh asked) empty_grid) before opening)
          ∙ run_append R (run R (run R (machine marks (fresh asked) empty_grid) before) opening) shown.tail rest
          ∙ ap (λ m. run R m rest) (says_run marks told_so.1) ∙ idle_rest rest told_so.0 R.blank free

      last_state : is_in FD rest ≡ false → (received asked calls).state ≡ dropped marks (pushes told_so.0 rest)
      last_state free = state_is marks _ _ _ _ (last_machine free) kept_marks

      -- the opening has no TPAD, and the answers behind it are no 3
      opening_other : (j : ℕ) → j < 6 → opening ! j ≢ TPAD
      opening_other j l t = never (ap not (eq-eqb (opening ! j) TPAD t)) (tabled (λ j. not (eqb (opening ! j) TPAD)) 6 tt j l)

      never_there : (i : ℕ) → length before ≤ i → i < length before + length part → (received asked calls).said ! i ≢ 3
      never_there i l within three =
          by_test (ltb (i - length before) 6)
          (λ t. let bytes = (received asked calls).taken in
          let taken = answered_within i three in
          let j = i - length before in
          let at : length (take i bytes) ≡ i = length-take-le i bytes (omega (arith, taken)) in
          let split = split_at bytes i 0 taken in
          let far : length before + j ≡ i = omega (arith, l) in
          let byte_is : bytes ! i ≡ opening ! j =
          ap₂ (λ (t : List ℕ) n. t ! n) (e ∙ ap (λ t. before ++ (t ++ rest)) shown.split) (sym far) ∙ get_or-append-add before ((opening ++ shown.tail) ++ rest) j 0
          ∙ get_or-append opening (shown.tail ++ rest) 0 j (ltb-true j 6 t) in
          plain R (radar_laws marks) (run R (new R) (take i bytes)) (bytes ! i) (λ f. opening_other j (ltb-true j 6 t) (sym byte_is ∙ f))
          (sym (said_at (take i bytes) (bytes ! i) (drop (suc i) bytes) split) ∙ ap (λ n. (received asked calls).said ! n) at ∙ three))
          (λ t. let n = length before + 6 in
          let far : n + (i - n) ≡ i = omega (arith, ltb-false (i - length before) 6 t, l) in
          let inside : i - n < length part - 6 = omega (arith, ltb-false (i - length before) 6 t, l, within) in
          unmarked_other u.part (i - n)
          (ap (λ t. t ! (i - n)) (sym unmarked_answers) ∙ get_or-take (length part - 6) (drop n (received asked calls).said) (i - n) 0 inside
          ∙ get_or-drop n (received asked calls).said (i - n) 0 ∙ ap (λ m. (received asked calls).said ! m) far ∙ three))

      unmarked_part : PartUnmarked asked (received asked calls) before part rest u
      unmarked_part =
          record {
            never = never_there;
            answers = unmarked_answers;
            state = λ free. last_state free ∙ ap (λ (s : State). dropped marks s.seen) (sym (last_state free));
            grid = λ free. ap (λ (m : Machine R). m.held.grid) (last_machine free);
          }

  -- ---- each call of a list

  made : (calls : List Call) (call : Call) → CallMade (received asked calls) call (next (received asked calls) call)
  unfolding next
  made calls (on_grid (byte b)) =
      let a = received asked calls in
      let o = step a.state a.grid b in
      let e = byte_taken a.state a.grid b (calls_sound asked calls).possible (calls_sound asked calls).long in (
        e,
        subst (λ (outcome : CallOutcome). IsAnswer outcome.reply) (sym e) (step_told a.state.part a.state a.grid b),
        ap (add a (byte b)) e
            ∙ ap (λ n. record { state = o.state; grid = o.grid; taken = a.taken ++ (b ∷ []); said = a.said ++ (n ∷ []) }) (number_answered a.state.part o.answer),
      )
  made calls (on_grid (slice bytes)) =
      let a = received asked calls in
      (slice_taken a.state a.grid bytes (calls_sound asked calls).possible (calls_sound asked calls).long, refl)
  made calls (elsewhere r grid other) =
      let a = received asked calls in
      let e = wrong_grid a.state grid r other in (
        e,
        ap (λ (outcome : CallOutcome). number outcome.reply) e,
        ap (λ (outcome : CallOutcome). add a r (record { reply = outcome.reply; count = outcome.count; state = a.state; grid = a.grid })) e
            ∙ (λ i. record { state = a.state; grid = a.grid; taken = append-nil a.taken i; said = append-nil a.said i }),
      )

  -- ---- the part that complete tells

  -- the part open before the last byte of an undamaged part
  open_before : (bytes : List ℕ) (b : ℕ) (before part : List ℕ) (u : UndamagedPart part) → Marked asked u.part.start → bytes ++ (b ∷ []) ≡ before ++ part
      → (state_after (fresh asked) empty_grid bytes).part ≡ start_part u.part.start
  open_before bytes b before part u hm e =
      let (front, f, before_last) = part_open R (radar_laws marks) (undamaged_whole marks u hm) in
      let same = (snoc_inj bytes (before ++ front) b TPAD (e ∙ ap (λ t. before ++ t) f ∙ sym (append_assoc before front (TPAD ∷ [])))).0 in
      ap (λ (m : Machine R). m.part) (machine_after marks bytes (fresh asked) empty_grid refl ∙ ap (run R (new R)) same ∙ run_append R (new R) before front)
      ∙ before_last (run R (new R) before) ∙ ap part_of (sym (start_byte part u 2 (omega arith)))

  complete_tells_lem : (calls : List Call) (r : Request) (p : ℕ) → (ask (received asked calls).state (received asked calls).grid r).reply ≡ part_complete p
      → (before part : List ℕ) (u : UndamagedPart part) → Marked asked u.part.start → (received asked (calls ++ (on_grid r ∷ []))).taken ≡ before ++ part → p ≡ start_part u.part.start
  complete_tells_lem calls (byte b) p h before part u hm e =
      let a = received asked calls in
      let (returned, _, here) = made calls (on_grid (byte b)) in
      let taken : a.taken ++ (b ∷ []) ≡ before ++ part = sym (ap (λ (z : After). z.taken) (after_last calls (on_grid (byte b)) (start asked) ∙ here)) ∙ e in
      tells_is a.state.part (step a.state a.grid b).answer p (sym (ap (λ (o : CallOutcome). o.reply) returned) ∙ h)
      ∙ ap (λ (s : State). s.part) (calls_stepped asked calls).state ∙ open_before a.taken b before part u hm taken
  complete_tells_lem calls (slice bytes) p h before part u hm e =
      let a = received asked calls in
      let (sliced, here) = made calls (on_grid (slice bytes)) in
      let outcome = ask a.state a.grid (slice bytes) in
      let some : 1 ≤ outcome.count = at_least_one outcome.count (λ z. omega (arith, ap number (sym (sliced.none z) ∙ h))) in
      let n = outcome.count - 1 in
      let cut : take outcome.count bytes ≡ take n bytes ++ (get_or bytes n 0 ∷ []) =
      ap (λ m. take m bytes) (one_more outcome.count some) ∙ take-suc bytes n 0 (omega (arith, some, sliced.within)) in
      let taken : (a.taken ++ take n bytes) ++ (get_or bytes n 0 ∷ []) ≡ before ++ part =
      append_assoc a.taken (take n bytes) (get_or bytes n 0 ∷ []) ∙ ap (λ t. a.taken ++ t) (sym cut)
      ∙ sym (ap (λ (z : After). z.taken) (after_last calls (on_grid (slice bytes)) (start asked) ∙ here)) ∙ e in
      tells_is (state_after a.state a.grid (take n bytes)).part (number outcome.reply) p (sym sliced.answer ∙ h)
      ∙ ap₂ (λ s g. (state_after s g (take n bytes)).part) (calls_stepped asked calls).state (calls_stepped asked calls).grid
      ∙ ap (λ (s : State). s.part) (sym (state_append a.taken (take n bytes) (fresh asked) empty_grid))
      ∙ open_before (a.taken ++ take n bytes) (get_or bytes n 0) before part u hm taken
    where
      one_more : (n : ℕ) → 1 ≤ n → n ≡ suc (n - 1)
      one_more n l = omega arith

  -- the reply of a call on the list's grid is an answer
  told : (calls : List Call) (r : Request) → IsAnswer (ask (received asked calls).state (received asked calls).grid r).reply
  told calls (byte b) = (made calls (on_grid (byte b))).1
  told calls (slice bytes) = (made calls (on_grid (slice bytes))).0.is_answer

  -- so it is the answer to the last byte taken
  last_of : (calls : List Call) (n : ℕ) (before part more : List ℕ) → length more ≡ suc n → (received asked calls).taken ++ more ≡ before ++ part → 1 ≤ length part
      → {said : List ℕ} → said ≡ (received asked calls).said ++ spread (suc n) 3 → (i : ℕ) × (length before ≤ i) × (i < length before + length part) × (said ! i ≡ 3)
  last_of calls n before part more long e l f =
      let a = received asked calls in
      let same : length a.said ≡ length a.taken = ap length (calls_stepped asked calls).said ∙ answers_long a.taken (fresh asked) empty_grid in
      let all : length a.taken + length more ≡ length before + length part = sym (length-append a.taken more) ∙ ap length e ∙ length-append before part in
      (length a.said + n, omega (arith, same, all, long, l), omega (arith, same, all, long), ap (λ t. t ! (length a.said + n)) f ∙ get_or-append-add a.said (spread (suc n) 3) n 0 ∙ spread_last n 3)

  last_said : (calls : List Call) (r : Request) → number (ask (received asked calls).state (received asked calls).grid r).reply ≡ 3
      → (before part : List ℕ) → (received asked (calls ++ (on_grid r ∷ []))).taken ≡ before ++ part → 1 ≤ length part
      → (i : ℕ) × (length before ≤ i) × (i < length before + length part) × ((received asked (calls ++ (on_grid r ∷ []))).said ! i ≡ 3)
  last_said calls (byte b) three before part e l =
      let a = received asked calls in
      let (returned, _, here) = made calls (on_grid (byte b)) in
      let z = after_last calls (on_grid (byte b)) (start asked) ∙ here in
      let answer : (step a.state a.grid b).answer ≡ 3 = sym (number_answered a.state.part (step a.state a.grid b).answer) ∙ sym (ap (λ (o : CallOutcome). number o.reply) returned) ∙ three in
      let said : a.said ++ ((step a.state a.grid b).answer ∷ []) ≡ a.said ++ spread 1 3 = ap (λ n. a.said ++ (n ∷ [])) answer in
      last_of calls 0 before part (b ∷ []) refl (sym (ap (λ (z : After). z.taken) z) ∙ e) l (ap (λ (z : After). z.said) z ∙ said)
  last_said calls (slice bytes) three before part e l =
      let a = received asked calls in
      let (sliced, here) = made calls (on_grid (slice bytes)) in
      let z = after_last calls (on_grid (slice bytes)) (start asked) ∙ here in
      let outcome = ask a.state a.grid (slice bytes) in
      let n = outcome.count - 1 in
      let some : 1 ≤ outcome.count = at_least_one outcome.count (λ z. omega (arith, ap number (sym (sliced.none z)) ∙ three)) in
      let one : outcome.count ≡ suc n = omega (arith, some) in
      last_of calls n before part (take outcome.count bytes) (length-take-le outcome.count bytes sliced.within ∙ one) (sym (ap (λ (z : After). z.taken) z) ∙ e) l
      (ap (λ (z : After). z.said) z ∙ ap₂ (λ m x. a.said ++ spread m x) one three)

  complete_told : (calls : List Call) (r : Request) → number (ask (received asked calls).state (received asked calls).grid r).reply ≡ 3
      → (before part : List ℕ) (u : UndamagedPart part) → (received asked (calls ++ (on_grid r ∷ []))).taken ≡ before ++ part
      → (ask (received asked calls).state (received asked calls).grid r).reply ≡ part_complete (start_part u.part.start)
  complete_told calls r three before part u e =
      let (p, h) = three_complete (told calls r) three in
      by_test (is_marked marks (u.part.start ! 1)) (λ hm. h ∙ ap part_complete (complete_tells_lem calls r p h before part u hm e))
      (λ hm. let (i, l, within, said) = last_said calls r three before part e (omega (arith, ap length (part_refused marks u hm).split, length-append opening (part_refused marks u hm).tail)) in absurd ((unmarked_part (calls ++ (on_grid r ∷ [])) before part [] u hm (e ∙ ap (λ t. before ++ t) (sym (append-nil part)))).never i l within said))

  -- The theorem
  pub demand_3 : (calls : List Call) → Demand3 asked calls
  unfolding start after zeros
  demand_3 calls =
      record {
        begin = refl;
        each = λ earlier call later e. subst (CallMade (received asked earlier) call) (sym (after_last earlier call (start asked))) (made earlier call);
        marks = λ earlier later e. kept_marks earlier;
        digits = λ earlier later e. waiting_so (received asked earlier).state (calls_sound asked earlier).possible.waiting;
        minute = λ earlier later e. minute_waits asked earlier;
        way_back = λ earlier later e before text rest u hm f. found text u hm earlier before rest f;
        begun_header = λ earlier later e before text u hm f. begun_header_lem text u hm earlier before f;
        complete = completed calls;
        held = λ earlier later e. holds earlier;
        part_answered = λ earlier later e. part_answered_lem earlier;
        complete_tells = λ earlier r later e. complete_told earlier r;
        unmarked = λ earlier later e. unmarked_part earlier;
        altered = one_never calls;
        several_altered = never_complete calls;
      }

  -- a receiver that is given an undamaged part one by one with the byte call does not answer complete before its last byte, whatever its
  -- marks
  pub never_before : (bytes : List ℕ) (u : UndamagedPart bytes) (i : ℕ) → suc i < length bytes → (singly asked bytes).said ! i ≢ 3
  never_before bytes u i l =
      by_test (is_marked marks (u.part.start ! 1)) (λ hm. not_before asked bytes u hm i l)
      (λ hm. (unmarked_part (map (λ b. on_grid (byte b)) bytes) [] bytes [] u hm (singly_taken asked bytes ∙ sym (append-nil bytes))).never i (omega arith) (omega arith))

  -- in particular, where nothing has come behind an undamaged part
  pub held_then : (calls : List Call) (before part : List ℕ) (u : UndamagedPart part) → Marked asked u.part.start → (received asked calls).taken ≡ before ++ part
      → ((received asked calls).state.header ≡ part_header u.part) × ((received asked calls).state.modes ≡ part_modes u.part) × ((received asked calls).grid ≡ grid_of u.part)
  unfolding is_in
  held_then calls before part u hm e =
      (demand_3 calls).held calls [] (sym (append-nil calls)) before part [] u hm refl (e ∙ ap (λ t. before ++ t) (sym (append-nil part)))
