-- What the code decides about a byte is 01's step. Assumes nothing.
use mathlib.Core.Path.{◌≡◌, ap, ◌∙◌}
use mathlib.Core.Bool.{true, false, cond}
use mathlib.Core.List.{List}
use Prim.Native.Nat.{ℕ, suc}
use native.Mathlib.Omega.{arith}
use lib.Dec.{eqb, ltb}
use borrow.Author.Tests.{eqb-false}
use Rattle.text.specs.Pictures.{is_picture_code}
use Rattle.text.specs.Kinds.{is_kind, is_start_kind, kind_of, block_length}
use Rattle.general_laws.proofs.Tests.{by_test, both_read, reads}
use Rattle.text_laws.proofs.KindTable.{start_is_kind}
use Rattle.receiver_spec.specs.Seen.{push, ends_opening, due_byte}
use Rattle.receiver_spec.specs.Marks.{is_marked}
use Rattle.receiver_spec.specs.State
use Rattle.receiver_spec.proofs.Laws.{unlisted_unmarked}
use Rattle.receiver_spec.specs.Contents.{begun_header}
use Rattle.receiver_spec.specs.Receiver as R
use Rattle.receiver_spec.specs.Receiver.{step}
use Rattle.receiver_bytes_seen.specs.AsNumber.{seen_of, push_seen, push_count}
use Rattle.receiver_state.specs.Meaning.{state_of, row_number, applied}
use Rattle.receiver_state.specs.declared.state.State.{State}
use Rattle.receiver_state.specs.declared.answer.Row.{Row}
use Rattle.receiver_state.specs.declared.answer.Row.TheVariants.{NotDueByte, NoPictureCode, NoKind, NotDueKind, OtherPicture, UnmarkedPicture}
use Rattle.receiver_decisions.specs.Decisions.{goes_on, begins, drops, meaning}
use Rattle.receiver_rest_of_text.specs.RestOfText.{text_decided}
use Rattle.receiver_rest_of_text.proofs.Laws as rest-of-text
use Rattle.receiver_rest_of_text.proofs.Laws.{Means}
use Rattle.receiver_step.specs.Decide.{onward, opened_text, gap_decided, picture_decided, start_decided, kind_row, kind_decided, pushed_state, decide}

module _ (s : State) (g : List ℕ) (b : ℕ) where
  -- the state with the byte among its bytes seen, and these
  abbrev t : State
  t = pushed_state s b

  abbrev u : List ℕ
  u = seen_of (push_seen s.seen b) (push_count s.frame.count)

  lost_same : (row : Row) → Means g b (drops t row) (R.drops (row_number row) (state_of s) u)
  unfolding pushed_state
  lost_same row = rest-of-text.lost_same t g b row

  opened_same : Means g b (opened_text t) (R.opened (state_of s) g u)
  unfolding opened_text goes_on begins begun_header applied pushed_state R.opened
  opened_same = both_read (eqb s.frame.place 0) reads reads

  gap_same : Means g b (gap_decided t (due_byte (seen_of s.seen s.frame.count)) b) (R.gap_byte (state_of s) g u b)
  unfolding gap_decided goes_on applied pushed_state R.gap_byte
  gap_same =
      both_read (eqb s.frame.part 0) reads (both_read (eqb b (due_byte (seen_of s.seen s.frame.count))) reads (lost_same NotDueByte))

  picture_same : Means g b (picture_decided t b) (R.picture_byte (state_of s) g u b)
  unfolding picture_decided goes_on onward applied pushed_state R.picture_byte
  picture_same =
      by_test (is_picture_code b)
      (λ e. by_test (is_marked s.marks b) (λ m. rw (e, m) reads) (λ m. rw (e, m) (lost_same UnmarkedPicture)))
      (λ e. rw (e, unlisted_unmarked s.marks b e) (lost_same NoPictureCode))

  -- a start kind, and another
  start_same : is_start_kind b ≡ true → Means g b (kind_decided t b) (R.kind_byte (state_of s) g u b)
  unfolding kind_decided start_decided begins begun_header applied pushed_state R.kind_byte
  start_same e = rw (e, start_is_kind b e) (both_read (eqb s.frame.part 0) reads reads)

  other_same : is_start_kind b ≡ false → Means g b (kind_decided t b) (R.kind_byte (state_of s) g u b)
  unfolding kind_decided kind_row goes_on onward applied pushed_state R.kind_byte
  other_same e =
      by_test (is_kind b)
      (λ k. by_test (eqb s.frame.part 0) (λ p. rw (e, k, p) (lost_same NotDueKind))
      (λ p. by_test (eqb b (kind_of s.frame.part s.frame.due))
      (λ d. by_test (eqb s.frame.picture s.header.picture) (λ q. rw (e, k, p, d, q) reads) (λ q. rw (e, k, p, d, q) (lost_same OtherPicture)))
      (λ d. rw (e, k, p, d) (lost_same NotDueKind))))
      (λ k. rw (e, k) (lost_same NoKind))

  kind_same : Means g b (kind_decided t b) (R.kind_byte (state_of s) g u b)
  kind_same = by_test (is_start_kind b) start_same other_same

  -- from the kind on
  text_same : eqb s.frame.place 0 ≡ false → eqb s.frame.place 1 ≡ false → eqb s.frame.place 2 ≡ false
      → Means g b (text_decided t b)
      (cond (ltb s.frame.place (block_length s.frame.kind)) (R.block_byte (state_of s) g u b)
      (cond (eqb s.frame.place (block_length s.frame.kind)) (R.eor_byte (state_of s) g u b)
      (cond (eqb s.frame.place (suc (block_length s.frame.kind))) (R.checked_byte (state_of s) g u b) (R.last_byte (state_of s) g u b))))
  unfolding pushed_state R.block_byte R.eor_byte R.checked_byte R.last_byte
  text_same x y z =
      rest-of-text.text_same t g b (omega (arith, eqb-false s.frame.place 0 x, eqb-false s.frame.place 1 y, eqb-false s.frame.place 2 z))

  decided_same : Means g b (decide s b)
      (cond (ends_opening (seen_of s.seen s.frame.count) b) (R.opened (state_of s) g u) (R.placed_byte (state_of s) g u b))
  unfolding decide R.placed_byte
  decided_same =
      both_read (ends_opening (seen_of s.seen s.frame.count) b) opened_same
      (by_test (eqb s.frame.place 0) (λ x. rw x gap_same)
      (λ x. by_test (eqb s.frame.place 1) (λ y. rw (x, y) picture_same)
      (λ y. by_test (eqb s.frame.place 2) (λ z. rw (x, y, z) kind_same) (λ z. rw (x, y, z) (text_same x y z)))))

  pub step_same : u ≡ push (seen_of s.seen s.frame.count) b → meaning g b (decide s b) ≡ step (state_of s) g b
  unfolding step
  step_same e =
      decided_same.same
      ∙ ap (λ v. cond (ends_opening (seen_of s.seen s.frame.count) b) (R.opened (state_of s) g v) (R.placed_byte (state_of s) g v b)) e
