-- 01's receiver is a machine of Machine: its rules, its laws, and that a step of one is a move of the other. Assumes nothing.
use mathlib.Core.Path.{◌≡◌, refl, ap, ap₂, subst}
use mathlib.Core.Logic.{◌⊎◌, inl, inr, ◌≢◌}
use mathlib.Core.Bool.{Bool, true, false, cond, not, ◌||◌}
use mathlib.Core.List.{List, ◌∷◌}
use Prim.Native.Nat.{ℕ, suc, ◌-◌, ◌≤◌, ◌<◌}
use native.Mathlib.Omega.{arith}
use lib.Dec.{eqb, leb, ltb, lit≤}
use borrow.Author.Tests.{eqb-true, eqb-false, eq-eqb, ne_eqb}
use Rattle.general_laws.specs.Bytes.{◌!◌, bit, is_in}
use Rattle.text.specs.Text.{SYN, STX, FD, EOR, TPAD}
use Rattle.text.specs.Pictures.{is_picture_code, picture_codes}
use Rattle.text.specs.Kinds.{kinds, is_kind, is_start_kind, is_end_kind, part_of, text_number, kind_of, block_length}
use Rattle.text.specs.StartBlock.{mode_of, has_mode, is_clock_byte, stop_places, is_digit, radar_codes, is_radar_code, follows, blank_header}
use Rattle.text.specs.DataBlock.{is_payload_byte}
use Rattle.text.specs.EndBlock.{is_mode_byte, no_modes}
use Rattle.text.specs.declared.header.Header.{Header}
use Rattle.general_laws.proofs.Tests.{by_test, by_if, ReadAs, reads, both_read, never}
use Rattle.text_laws.proofs.KindTable.{start_is_kind, block_least, start_block_length}
use Rattle.text_laws.proofs.Payload.{payload_below}
use Rattle.receiver_spec.specs.Seen.{push, ends_opening, due_byte}
use Rattle.receiver_spec.specs.Marks.{is_marked}
use Rattle.receiver_spec.specs.State.{State, no_digits, empty_grid}
use Rattle.receiver_spec.specs.Contents.{time_takes, start_takes, begun_header, enter_header, enter_digits, end_takes, enter_modes, enter_grid, takes_byte}
use Rattle.receiver_spec.specs.Receiver.{Step, opened, gap_byte, picture_byte, kind_byte, block_byte, eor_byte, checked_byte, first_due, next_due, mode_is_highest, last_byte, placed_byte, step}
use Rattle.receiver_spec.proofs.MarkLaws.{unlisted_unmarked}
use Rattle.receiver_spec.proofs.Machine.{Rules, Machine, Out, mk, answering, opens, in_gap, at_picture, at_kind, in_block, at_eor, at_check, at_last, placed, move, BlockContents, contents_end, contents_byte}
use Rattle.receiver_spec.proofs.Steps.{RuleLaws, Free, free0, free1}

pub record Held : Type 0 where
  pub header : Header
  pub modes : List ℕ
  pub digits : List ℕ
  pub grid : List ℕ

abbrev pub held : Header → List ℕ → List ℕ → List ℕ → Held
held h m ds g = record { header = h; modes = m; digits = ds; grid = g }

-- a start kind is taken; a block byte enters
abbrev pub begin_held : ℕ → Held → Held
begin_held q c = held (begun_header q) no_modes no_digits c.grid

abbrev pub enter_held : ℕ → Held → ℕ → ℕ → Held
enter_held k c i b =
    held (cond (is_start_kind k) (enter_header c.header c.digits i b) c.header) (cond (is_end_kind k) (enter_modes c.modes i b) c.modes)
    (cond (is_start_kind k) (enter_digits c.digits i b) c.digits)
    (cond (is_start_kind k || is_end_kind k) c.grid (enter_grid c.grid (text_number k) i b))

-- the rules of a receiver with these marks: the marked pictures are its pictures, and another byte breaks row 13, or row
-- 51 where it is a listed code (Request 101)
abbrev pub radar : ℕ → Rules
radar marks =
    record {
      Held = Held;
      blank = held blank_header no_modes no_digits empty_grid;
      is_picture = is_marked marks;
      no_picture = λ b. cond (is_picture_code b) 51 13;
      is_kind = is_kind;
      is_start = is_start_kind;
      is_end = is_end_kind;
      long = block_length;
      due_kind = kind_of;
      part_of = part_of;
      picture_of = λ c. c.header.picture;
      begin = begin_held;
      takes = λ k c i b. takes_byte k c.header c.digits i b;
      enter = enter_held;
      settle = λ c. held c.header no_modes c.digits empty_grid;
      first_due = λ k c. first_due (part_of k) c.header;
      next_due = λ p k. next_due p (text_number k);
      closes = λ c. mode_is_highest c.header c.modes;
    }

-- ---- a step keeps the marks

module _ (s : State) (g w : List ℕ) (b : ℕ) where
  abbrev Keeps : Step → Type 0
  Keeps o = o.state.marks ≡ s.marks

  opened_keeps : Keeps (opened s g w)
  unfolding opened
  opened_keeps = by_if Keeps (eqb s.place 0) (λ _. refl) (λ _. refl)

  gap_keeps : Keeps (gap_byte s g w b)
  unfolding gap_byte
  gap_keeps = by_if Keeps (eqb s.part 0) (λ _. refl) (λ _. by_if Keeps (eqb b (due_byte s.seen)) (λ _. refl) (λ _. refl))

  picture_keeps : Keeps (picture_byte s g w b)
  unfolding picture_byte
  picture_keeps = by_if Keeps (not (is_picture_code b)) (λ _. refl) (λ _. by_if Keeps (not (is_marked s.marks b)) (λ _. refl) (λ _. refl))

  kind_keeps : Keeps (kind_byte s g w b)
  unfolding kind_byte
  kind_keeps =
      by_if Keeps (not (is_kind b)) (λ _. refl)
      (λ _. by_if Keeps (is_start_kind b) (λ _. by_if Keeps (eqb s.part 0) (λ _. refl) (λ _. refl))
      (λ _. by_if Keeps (eqb s.part 0) (λ _. refl)
      (λ _. by_if Keeps (not (eqb b (kind_of s.part s.due))) (λ _. refl)
      (λ _. by_if Keeps (eqb s.picture s.header.picture) (λ _. refl) (λ _. refl)))))

  last_keeps : Keeps (last_byte s g w b)
  unfolding last_byte
  last_keeps =
      by_if Keeps (not (eqb b TPAD)) (λ _. refl)
      (λ _. by_if Keeps (is_start_kind s.kind) (λ _. refl)
      (λ _. by_if Keeps (is_end_kind s.kind) (λ _. by_if Keeps (mode_is_highest s.header s.modes) (λ _. refl) (λ _. refl)) (λ _. refl)))

  placed_keeps : Keeps (placed_byte s g w b)
  unfolding placed_byte block_byte eor_byte checked_byte
  placed_keeps =
      by_if Keeps (eqb s.place 0) (λ _. gap_keeps)
      (λ _. by_if Keeps (eqb s.place 1) (λ _. picture_keeps)
      (λ _. by_if Keeps (eqb s.place 2) (λ _. kind_keeps)
      (λ _. by_if Keeps (ltb s.place (block_length s.kind))
      (λ _. by_if Keeps (takes_byte s.kind s.header s.digits s.place b) (λ _. refl) (λ _. refl))
      (λ _. by_if Keeps (eqb s.place (block_length s.kind)) (λ _. by_if Keeps (eqb b EOR) (λ _. refl) (λ _. refl))
      (λ _. by_if Keeps (eqb s.place (suc (block_length s.kind))) (λ _. by_if Keeps (eqb b s.check) (λ _. refl) (λ _. refl)) (λ _. last_keeps))))))

pub step_marks : (s : State) (g : List ℕ) (b : ℕ) → (step s g b).state.marks ≡ s.marks
unfolding step
step_marks s g b =
    by_if (λ (o : Step). o.state.marks ≡ s.marks) (ends_opening s.seen b) (λ _. opened_keeps s g (push s.seen b) b)
    (λ _. placed_keeps s g (push s.seen b) b)

module _ (marks : ℕ) where
  abbrev R : Rules
  R = radar marks

  -- ---- a step is a move

  abbrev pub machine : State → List ℕ → Machine R
  machine s g = mk R s.seen s.place s.kind s.picture s.part s.due s.check (held s.header s.modes s.digits g)

  abbrev pub out : Step → Out R
  out o = answering R o.answer (machine o.state o.grid)

  -- a step that leaves what the machine does
  abbrev Means : Step → Out R → Type 0
  Means = ReadAs out

  module _ (s : State) (g w : List ℕ) (b : ℕ) (same-marks : s.marks ≡ marks) where
    opened_is : Means (opened s g w) (opens R (machine s g) w)
    unfolding opened opens
    opened_is = both_read (eqb s.place 0) reads reads

    gap_is : Means (gap_byte s g w b) (in_gap R (machine s g) w b)
    unfolding gap_byte in_gap
    gap_is = both_read (eqb s.part 0) reads (both_read (eqb b (due_byte s.seen)) reads reads)

    picture_is : Means (picture_byte s g w b) (at_picture R (machine s g) w b)
    unfolding picture_byte at_picture
    picture_is =
        rw same-marks
        (by_test (is_picture_code b)
        (λ e. by_test (is_marked marks b) (λ f. rw (e, f) reads) (λ f. rw (e, f) reads))
        (λ e. rw (e, unlisted_unmarked marks b e) reads))

    kind_is : Means (kind_byte s g w b) (at_kind R (machine s g) w b)
    unfolding kind_byte at_kind
    kind_is =
        both_read (not (is_kind b)) reads
        (both_read (is_start_kind b) (both_read (eqb s.part 0) reads reads)
        (both_read (eqb s.part 0) reads
        (both_read (not (eqb b (kind_of s.part s.due))) reads
        (both_read (eqb s.picture s.header.picture) reads reads))))

    block_is : Means (block_byte s g w b) (in_block R (machine s g) w b)
    unfolding block_byte in_block
    block_is = both_read (takes_byte s.kind s.header s.digits s.place b) reads reads

    eor_is : Means (eor_byte s g w b) (at_eor R (machine s g) w b)
    unfolding eor_byte at_eor
    eor_is = both_read (eqb b EOR) reads reads

    check_is : Means (checked_byte s g w b) (at_check R (machine s g) w b)
    unfolding checked_byte at_check
    check_is = both_read (eqb b s.check) reads reads

    last_is : Means (last_byte s g w b) (at_last R (machine s g) w b)
    unfolding last_byte at_last
    last_is =
        both_read (not (eqb b TPAD)) reads
        (both_read (is_start_kind s.kind) reads
        (both_read (is_end_kind s.kind) (both_read (mode_is_highest s.header s.modes) reads reads) reads))

    placed_is : Means (placed_byte s g w b) (placed R (machine s g) w b)
    unfolding placed_byte placed
    placed_is =
        both_read (eqb s.place 0) gap_is
        (both_read (eqb s.place 1) picture_is
        (both_read (eqb s.place 2) kind_is
        (both_read (ltb s.place (block_length s.kind)) block_is
        (both_read (eqb s.place (block_length s.kind)) eor_is
        (both_read (eqb s.place (suc (block_length s.kind))) check_is last_is)))))

  move_is : (s : State) (g : List ℕ) (b : ℕ) → s.marks ≡ marks → Means (step s g b) (move R (machine s g) b)
  unfolding step move
  move_is s g b e = both_read (ends_opening s.seen b) (opened_is s g (push s.seen b) b e) (placed_is s g (push s.seen b) b e)

  pub step_is_move : (s : State) (g : List ℕ) (b : ℕ) → s.marks ≡ marks → out (step s g b) ≡ move R (machine s g) b
  step_is_move s g b e = (move_is s g b e).same

  -- ---- the laws

  -- `FD` is taken as status 1 alone
  start_fd : (h : Header) (ds : List ℕ) (i : ℕ) → start_takes h ds i FD ≡ true → i ≡ 4
  unfolding start_takes time_takes has_mode mode_of bit is_clock_byte is_digit is_radar_code radar_codes follows is_in
  start_fd h ds i t =
      by_if P (eqb i 3) (λ e t. never refl t)
      (λ _. by_if P (eqb i 4) (λ e t. eqb-true i 4 e)
      (λ _. by_if P (eqb i 5) (λ e t. never refl t)
      (λ _. by_if P (leb i 7) (λ e t. never refl t)
      (λ _. by_if P (leb i 23) (λ e. by_if P (is_in (i - 8) stop_places) (λ e t. never refl t) (λ e t. never refl t))
      (λ _. by_if P (eqb i 24) (λ e t. never refl t) (λ e t. never refl t)))))) t
    where
      P : Bool → Type 0
      P t = t ≡ true → i ≡ 4

  mode_fd : (code v : ℕ) → eqb v 0 ≡ false → has_mode v ≡ false → is_mode_byte code v ≡ false
  unfolding is_mode_byte
  mode_fd code v z n = by_test (eqb code 0) (λ e. rw (e, z)) (λ e. rw (e, n))

  -- a byte that no mode and no `00` is, above the payload's, is taken by no end or data block
  none_takes : (k v : ℕ) (h : Header) (ds : List ℕ) (i : ℕ) → is_start_kind k ≡ false → 0xFD ≤ v → has_mode v ≡ false → takes_byte k h ds i v ≡ false
  unfolding takes_byte end_takes
  none_takes k v h ds i s l n =
      let z : eqb v 0 ≡ false = ne_eqb v 0 (λ e. omega arith) in
      rw s
      (by_if (λ t. t ≡ false) (is_end_kind k) (λ _. by_if (λ t. t ≡ false) (leb i 10) (λ _. mode_fd (h.radars ! (i - 3)) v z n) (λ _. z))
      (λ _. by_test (is_payload_byte (part_of k) v) (λ t. absurd (omega (arith, payload_below (part_of k) v t))) (λ t. t)))

  modeless_fd : has_mode FD ≡ false
  unfolding has_mode mode_of bit
  modeless_fd = refl

  modeless_eor : has_mode EOR ≡ false
  unfolding has_mode mode_of bit
  modeless_eor = refl

  fd_only : (k : ℕ) (h : Header) (ds : List ℕ) (i : ℕ) → takes_byte k h ds i FD ≡ true → (is_start_kind k ≡ true) × (i ≡ 4)
  unfolding takes_byte
  fd_only k h ds i t =
      by_test (is_start_kind k) (λ s. (s, start_fd h ds i (rw s at t))) (λ s. never (none_takes k FD h ds i s (lit≤ tt) modeless_fd) t)

  -- the NULL byte
  null_only : (k b : ℕ) (h : Header) (ds : List ℕ) → is_start_kind k ≡ true → takes_byte k h ds 3 b ≡ true → b ≡ 0
  unfolding takes_byte start_takes
  null_only k b h ds s t = eqb-true b 0 (rw s at t)

  free_eor : {k i : ℕ} {c d : Held} {xs : List ℕ} → is_start_kind k ≡ false → BlockContents R k c i xs d → Free EOR xs
  free_eor s contents_end = free0
  free_eor {k} {i} {c} s (contents_byte {x} h r) =
      free1 (λ e. never (none_takes k EOR c.header c.digits i s (lit≤ tt) modeless_eor) (subst (λ v. takes_byte k c.header c.digits i v ≡ true) e h)) (free_eor s r)

  free_fd : {k i : ℕ} {c d : Held} {xs : List ℕ} → 4 < i → BlockContents R k c i xs d → Free FD xs
  free_fd l contents_end = free0
  free_fd {k} {i} {c} l (contents_byte {x} h r) =
      free1 {x = x} (λ e. omega (arith, (fd_only k c.header c.digits i (subst (λ v. takes_byte k c.header c.digits i v ≡ true) e h)).1)) (free_fd (omega arith) r)

  fd_places_lem : (k : ℕ) (c e : Held) (xs : List ℕ) → is_kind k ≡ true → BlockContents R k c 3 xs e → Free FD xs ⊎ ((vs : List ℕ) × (xs ≡ 0 ∷ FD ∷ vs) × Free FD vs)
  fd_places_lem k c e xs hk r = first r
    where
      second : {d e : Held} {x : ℕ} {ys : List ℕ} → (is_start_kind k ≡ true → x ≡ 0) → x ≢ FD → BlockContents R k d 4 ys e → Free FD (x ∷ ys) ⊎ ((vs : List ℕ) × (x ∷ ys ≡ 0 ∷ FD ∷ vs) × Free FD vs)
      second f n contents_end = inl (free1 n free0)
      second {d} {x} f n (contents_byte {x = y} {xs = ys} h r) =
          by_test (eqb y FD)
          (λ t. let g = eqb-true y FD t in
          inr (ys, ap₂ (λ a b. a ∷ b ∷ ys) (f (fd_only k d.header d.digits 4 (subst (λ v. takes_byte k d.header d.digits 4 v ≡ true) g h)).0) g, free_fd (omega arith) r))
          (λ t. inl (free1 n (free1 (eqb-false y FD t) (free_fd (omega arith) r))))

      first : {c e : Held} {ys : List ℕ} → BlockContents R k c 3 ys e → Free FD ys ⊎ ((vs : List ℕ) × (ys ≡ 0 ∷ FD ∷ vs) × Free FD vs)
      first contents_end = inl free0
      first {c} (contents_byte {x} h r) =
          second (λ s. null_only k x c.header c.digits s h) (λ g. omega (arith, (fd_only k c.header c.digits 3 (subst (λ v. takes_byte k c.header c.digits 3 v ≡ true) g h)).1)) r

  -- a start block does not look at the grid
  abbrev over : Held → List ℕ → Held
  over c g = held c.header c.modes c.digits g

  contents_over : {k i : ℕ} {c d : Held} {xs : List ℕ} (g : List ℕ) → is_start_kind k ≡ true → BlockContents R k c i xs d → BlockContents R k (over c g) i xs (over d g)
  contents_over g s contents_end = contents_end
  contents_over {k} {i} {c} {d} g s (contents_byte {x} {xs} h r) =
      contents_byte h (subst (λ e. BlockContents R k e (suc i) xs (over d g)) same (contents_over g s r))
    where
      same : over (R.enter k c i x) g ≡ R.enter k (over c g) i x
      same = rw s

  part_some : (k : ℕ) → is_start_kind k ≡ true → part_of k ≢ 0
  unfolding is_kind
  part_some k h e = never (ap not (eq-eqb (part_of k) 0 e)) (start_is_kind k h)

  pub radar_laws : RuleLaws R
  unfolding is_picture_code picture_codes is_kind part_of kinds is_in
  radar_laws =
      record {
        fd_picture = unlisted_unmarked marks FD refl;
        no_picture_lem = λ b. by_if (λ n. n ≢ 3) (is_picture_code b) (λ _ e. omega (arith, e)) (λ _ e. omega (arith, e));
        fd_kind = refl;
        start_kind = start_is_kind;
        part_some = part_some;
        long_3 = λ k h. omega (arith, block_least k h);
        fd_first = λ k c _. by_test (takes_byte k c.header c.digits 3 FD) (λ t. absurd (omega (arith, (fd_only k c.header c.digits 3 t).1))) (λ t. t);
        fd_after = λ k i c h. after k i c h;
        begin_any = λ k q a b d xs s r. (over d b.grid, contents_over b.grid s r, refl, refl);
        tpad_picture = unlisted_unmarked marks TPAD refl;
        syn_picture = unlisted_unmarked marks SYN refl;
        fd_places = fd_places_lem;
        eor_places = λ k c e xs _ s r. free_eor s r;
        shortest = λ j k s h. omega (arith, start_block_length j s, block_least k h);
      }
    where
      after : (k i : ℕ) (c : Held) → takes_byte k c.header c.digits i STX ≡ true → takes_byte k (R.enter k c i STX).header (R.enter k c i STX).digits (suc i) FD ≡ false
      after k i c h =
          by_test (takes_byte k (R.enter k c i STX).header (R.enter k c i STX).digits (suc i) FD)
          (λ t. let (s, e) = fd_only k (R.enter k c i STX).header (R.enter k c i STX).digits (suc i) t in
          let three : i ≡ 3 = omega arith in
          absurd (omega (arith, null_only k STX c.header c.digits s (subst (λ n. takes_byte k c.header c.digits n STX ≡ true) three h))))
          (λ t. t)
