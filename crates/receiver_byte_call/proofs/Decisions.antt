-- What every decision about a byte has: an answer that is 0 exactly where it is quiet, no refusal, and the byte among the
-- bytes seen and in their count. Assumes nothing.
use Rattle.std.proofs.Common.{Option, Some, None}
use mathlib.Core.Path.{◌≡◌, refl, ap, sym}
use borrow.Author.Tests.{ltb-true, ne_eqb}
use native.Mathlib.Omega.{arith}
use mathlib.Core.Bool.{Bool, cond, not, true}
use mathlib.Core.List.{List}
use Prim.Native.Nat.{ℕ, ◌+◌, ◌<◌}
use lib.Dec.{eqb, ltb}
use lib.ListN.{length}
use Rattle.text.specs.Text.{EOR, TPAD}
use Rattle.text.specs.Pictures.{is_picture_code}
use Rattle.text.specs.Kinds.{is_start_kind, is_end_kind, block_length}
use Rattle.text.specs.Part.{zeros, grid_length}
use Rattle.receiver_spec.specs.Marks.{is_marked}
use Rattle.receiver_spec.specs.Seen.{ends_opening, due_byte}
use Rattle.receiver_spec.specs.Receiver.{step, mode_is_highest}
use Rattle.receiver_spec.specs.Calls.{answered, part_dropped}
use Rattle.general_laws.proofs.Tests.{by_if}
use Rattle.receiver_bytes_seen.specs.AsNumber.{seen_of, push_seen, push_count}
use Rattle.receiver_decisions.specs.Decisions.{goes_on, begins, drops, quietly, meaning}
use Rattle.receiver_rest_of_text.specs.RestOfText.{entered_here, by_entered, block_decided, eor_decided, check_decided, begun_part, ended_part, taken_text, last_decided, text_decided}
use Rattle.receiver_step.specs.Decide.{onward, opened_text, gap_decided, picture_decided, start_decided, kind_row, by_row, kind_decided, pushed_state, decide}
use Rattle.receiver_bytes_seen.proofs.Laws.{push_seen_lem}
use Rattle.receiver_state.specs.Meaning.{state_of, row_number, number_of, applied, applied_to}
use Rattle.receiver_state.specs.declared.state.State.{State}
use Rattle.receiver_state.specs.declared.answer.Row.{Row}
use Rattle.receiver_state.specs.declared.answer.Row.TheVariants.{OpeningInText, NotDueByte, NoPictureCode, NoKind, StartInPart, NotDueKind, OtherPicture, BlockByte, NotFE, WrongCheckByte, NotFF, NotHighestMode, UnmarkedPicture}
use Rattle.receiver_block_bytes.specs.declared.byte.Entered.{Entered}
use Rattle.receiver_state.specs.declared.grid.Effect.{Effect}
use Rattle.receiver_state.specs.declared.grid.Effect.TheVariants.{Keep, Clear, Enter}
use Rattle.receiver_decisions.specs.declared.decision.Decision.{Decision}
use Rattle.receiver_step.proofs.Laws.{step_same}
use Rattle.receiver_byte_call.specs.Returned.{reply_of, is_quiet}

either : {A : Type 0} (P : A → Type 0) (c : Bool) {x y : A} → P x → P y → P (cond c x y)
either P c p q = by_if P c (λ _. p) (λ _. q)

-- a row's number is above 3, and such a number is a row that drops
row_above : (row : Row) → ltb 3 (row_number row) ≡ true
row_above OpeningInText = refl
row_above NotDueByte = refl
row_above NoPictureCode = refl
row_above NoKind = refl
row_above StartInPart = refl
row_above NotDueKind = refl
row_above OtherPicture = refl
row_above BlockByte = refl
row_above NotFE = refl
row_above WrongCheckByte = refl
row_above NotFF = refl
row_above NotHighestMode = refl
row_above UnmarkedPicture = refl

dropped_is : (part n : ℕ) → ltb 3 n ≡ true → part_dropped n ≡ answered part n
unfolding answered
dropped_is part n e =
    let l = ltb-true 3 n e in
    rw (ne_eqb n 0 (λ z. omega (arith, l)), ne_eqb n 1 (λ z. omega (arith, l)), ne_eqb n 2 (λ z. omega (arith, l)), ne_eqb n 3 (λ z. omega (arith, l)))

module _ (s : State) (b : ℕ) where
  abbrev t : State
  t = pushed_state s b

  abbrev pub Facts : Decision → Type 0
  Facts d =
      (is_quiet d.answer ≡ eqb (number_of d.answer) 0)
      × (reply_of d.answer ≡ answered s.frame.part (number_of d.answer))
      × (d.next.seen ≡ push_seen s.seen b)
      × (d.next.frame.count ≡ push_count s.frame.count)

  -- a drop; its number is none of 0 to 3
  lost : (row : Row) → Facts (drops t row)
  unfolding drops begins is_quiet reply_of answered pushed_state
  lost row =
      let e = row_above row in
      (sym (ne_eqb (row_number row) 0 (λ z. omega (arith, ltb-true 3 (row_number row) e))), dropped_is s.frame.part (row_number row) e, refl, refl)

  opened_facts : Facts (opened_text t)
  unfolding opened_text goes_on begins is_quiet reply_of answered pushed_state
  opened_facts = either Facts (eqb s.frame.place 0) (refl, refl, refl, refl) (refl, refl, refl, refl)

  gap_facts : Facts (gap_decided t (due_byte (seen_of s.seen s.frame.count)) b)
  unfolding gap_decided goes_on is_quiet reply_of answered pushed_state
  gap_facts =
      either Facts (eqb s.frame.part 0) (refl, refl, refl, refl)
      (either Facts (eqb b (due_byte (seen_of s.seen s.frame.count))) (refl, refl, refl, refl) (lost NotDueByte))

  picture_facts : Facts (picture_decided t b)
  unfolding picture_decided goes_on onward is_quiet reply_of answered pushed_state
  picture_facts = either Facts (is_marked s.marks b) (refl, refl, refl, refl) (either Facts (is_picture_code b) (lost UnmarkedPicture) (lost NoPictureCode))

  start_facts : Facts (start_decided t b)
  unfolding start_decided begins is_quiet reply_of answered pushed_state
  start_facts = either Facts (eqb s.frame.part 0) (refl, refl, refl, refl) (refl, refl, refl, refl)

  on_facts : Facts (quietly t (onward t.frame 3 b t.frame.picture b))
  unfolding goes_on onward is_quiet reply_of answered pushed_state
  on_facts = (refl, refl, refl, refl)

  row_facts : (row : Option Row) → Facts (by_row t b row)
  row_facts None = on_facts
  row_facts (Some row) = lost row

  kind_facts : Facts (kind_decided t b)
  unfolding kind_decided
  kind_facts = either Facts (is_start_kind b) start_facts (row_facts (kind_row t.frame t.header.picture b))

  entered_facts : (e : Option Entered) → Facts (by_entered t b e)
  unfolding goes_on is_quiet reply_of answered pushed_state
  entered_facts None = lost BlockByte
  entered_facts (Some e) = (refl, refl, refl, refl)

  block_facts : Facts (block_decided t b)
  unfolding block_decided
  block_facts = entered_facts (entered_here t b)

  eor_facts : Facts (eor_decided t b)
  unfolding eor_decided goes_on is_quiet reply_of answered pushed_state
  eor_facts = either Facts (eqb b EOR) (refl, refl, refl, refl) (lost NotFE)

  check_facts : Facts (check_decided t b)
  unfolding check_decided goes_on is_quiet reply_of answered pushed_state
  check_facts = either Facts (eqb b s.frame.check) (refl, refl, refl, refl) (lost WrongCheckByte)

  last_facts : Facts (last_decided t b)
  unfolding last_decided begun_part ended_part taken_text goes_on is_quiet reply_of answered pushed_state
  last_facts =
      either Facts (not (eqb b TPAD)) (lost NotFF)
      (either Facts (is_start_kind s.frame.kind) (refl, refl, refl, refl)
      (either Facts (is_end_kind s.frame.kind)
      (either Facts (mode_is_highest s.header s.modes) (refl, refl, refl, refl) (lost NotHighestMode)) (refl, refl, refl, refl)))

  text_facts : Facts (text_decided t b)
  unfolding text_decided pushed_state
  text_facts =
      either Facts (ltb s.frame.place (block_length s.frame.kind)) block_facts
      (either Facts (eqb s.frame.place (block_length s.frame.kind)) eor_facts
      (either Facts (eqb s.frame.place (block_length s.frame.kind + 1)) check_facts last_facts))

  pub decide_facts : Facts (decide s b)
  unfolding decide
  decide_facts =
      either Facts (ends_opening (seen_of s.seen s.frame.count) b) opened_facts
      (either Facts (eqb s.frame.place 0) gap_facts
      (either Facts (eqb s.frame.place 1) picture_facts (either Facts (eqb s.frame.place 2) kind_facts text_facts)))

-- and it means the step of `receiver_spec`
pub same_step : (s : State) (g : List ℕ) (b : ℕ) → b < 256 → meaning g b (decide s b) ≡ step (state_of s) g b
same_step s g b h = step_same s g b (push_seen_lem s.seen s.frame.count b h)

-- on a grid of 20,000 bytes an effect is the decision's
pub applied_here : (g : List ℕ) (e : Effect) (b : ℕ) → length g ≡ grid_length → applied_to g e b ≡ applied g e b
unfolding applied
applied_here g Keep b h = refl
applied_here g Clear b h = ap zeros h
applied_here g (Enter i) b h = refl
