-- What the code decides about a byte, from the kind on, is 01's step. Assumes nothing.
use Rattle.std.proofs.Common.{Some}
use mathlib.Core.Bool.{cond, not}
use mathlib.Core.List.{List}
use Prim.Native.Nat.{ℕ, suc, ◌≤◌, ◌<◌}
use native.Mathlib.Numerals.{add-one}
use lib.Dec.{eqb, ltb}
use borrow.Author.Tests.{le-leb, lt-ltb, ltb-true}
use Rattle.text.specs.Text.{EOR, TPAD}
use Rattle.text.specs.Kinds.{is_start_kind, is_end_kind, block_length}
use Rattle.receiver_spec.specs.State
use Rattle.receiver_spec.specs.Contents.{begun_header, takes_byte, enter_grid}
use Rattle.receiver_spec.specs.Receiver as R
use Rattle.receiver_spec.specs.Receiver.{Step, mode_is_highest}
use Rattle.general_laws.proofs.Tests.{by_test, ReadAs, reads, both_read}
use Rattle.text_laws.proofs.KindTable.{start_not_end}
use Rattle.receiver_bytes_seen.specs.AsNumber.{seen_of}
use Rattle.receiver_state.specs.Meaning.{state_of, row_number, applied}
use Rattle.receiver_state.specs.declared.state.State.{State}
use Rattle.receiver_state.specs.declared.answer.Row.{Row}
use Rattle.receiver_state.specs.declared.answer.Row.TheVariants.{BlockByte, NotFE, WrongCheckByte, NotFF, NotHighestMode}
use Rattle.receiver_decisions.specs.Decisions.{goes_on, begins, drops, meaning}
use Rattle.receiver_decisions.specs.declared.decision.Decision.{Decision}
use Rattle.receiver_block_bytes.specs.BlockByte.{is_taken, enters, entered}
use Rattle.receiver_rest_of_text.specs.RestOfText.{by_entered, block_decided, eor_decided, check_decided, begun_part, ended_part, taken_text, last_decided, text_decided}

-- a decision that means this step
abbrev pub Means : List ℕ → ℕ → Decision → Step → Type 0
Means g b = ReadAs (meaning g b)

-- t has the byte among its bytes seen, which are these
module _ (t : State) (g : List ℕ) (b : ℕ) where
  abbrev u : List ℕ
  u = seen_of t.seen t.frame.count

  pub lost_same : (row : Row) → Means g b (drops t row) (R.drops (row_number row) (state_of t) u)
  unfolding drops begins begun_header applied
  lost_same row = reads

  eor_same : Means g b (eor_decided t b) (R.eor_byte (state_of t) g u b)
  unfolding eor_decided goes_on applied R.eor_byte
  eor_same = both_read (eqb b EOR) (rw add-one reads) (lost_same NotFE)

  check_same : Means g b (check_decided t b) (R.checked_byte (state_of t) g u b)
  unfolding check_decided goes_on applied R.checked_byte
  check_same = both_read (eqb b t.frame.check) (rw add-one reads) (lost_same WrongCheckByte)

  last_same : Means g b (last_decided t b) (R.last_byte (state_of t) g u b)
  unfolding last_decided begun_part ended_part taken_text goes_on applied R.last_byte
  last_same =
      both_read (not (eqb b TPAD)) (lost_same NotFF)
      (both_read (is_start_kind t.frame.kind) reads
      (both_read (is_end_kind t.frame.kind) (both_read (mode_is_highest t.header t.modes) reads (lost_same NotHighestMode)) reads))

  module _ (three : 3 ≤ t.frame.place) where
    -- a byte that is taken enters by its kind
    entered_same :
        Means g b (by_entered t b (Some (enters t.frame.kind t.header t.modes t.digits t.frame.place b)))
        (R.answers 0 (R.entered (state_of t) u b) (R.entered_grid (state_of t) g b))
    unfolding enters goes_on applied enter_grid
    entered_same =
        by_test (is_start_kind t.frame.kind) (λ e. rw (e, start_not_end t.frame.kind e, add-one) reads)
        (λ e. by_test (is_end_kind t.frame.kind) (λ f. rw (e, f, add-one) reads) (λ f. rw (e, f, add-one) reads))

    block_same : t.frame.place < block_length t.frame.kind → Means g b (block_decided t b) (R.block_byte (state_of t) g u b)
    unfolding block_decided entered is_taken R.block_byte
    block_same short =
        rw (le-leb 3 t.frame.place three, lt-ltb t.frame.place (block_length t.frame.kind) short)
        (by_test (takes_byte t.frame.kind t.header t.digits t.frame.place b) (λ r. rw r entered_same) (λ r. rw r (lost_same BlockByte)))

    pub text_same : Means g b (text_decided t b)
        (cond (ltb t.frame.place (block_length t.frame.kind)) (R.block_byte (state_of t) g u b)
        (cond (eqb t.frame.place (block_length t.frame.kind)) (R.eor_byte (state_of t) g u b)
        (cond (eqb t.frame.place (suc (block_length t.frame.kind))) (R.checked_byte (state_of t) g u b) (R.last_byte (state_of t) g u b))))
    unfolding text_decided
    text_same =
        by_test (ltb t.frame.place (block_length t.frame.kind))
        (λ e. rw e (block_same (ltb-true t.frame.place (block_length t.frame.kind) e)))
        (λ e. rw (e, add-one (block_length t.frame.kind))
        (both_read (eqb t.frame.place (block_length t.frame.kind)) eor_same
        (both_read (eqb t.frame.place (suc (block_length t.frame.kind))) check_same last_same)))
