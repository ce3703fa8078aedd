-- What the writer takes and what it refuses: written means accepted with room, and any other call is refused by its row. Assumes nothing.
use mathlib.Core.Path.{◌≡◌, ap}
use mathlib.Core.Bool.{not}
use mathlib.Core.List.{List}
use Prim.Native.Nat.{ℕ, ◌≤◌}
use native.Mathlib.Omega.{arith}
use lib.Dec.{ltb}
use lib.ListN.{length}
use borrow.Author.Tests.{ltb-false, lt-ltb, not-false}
use Rattle.text.specs.Kinds.{is_part_number, part_length}
use Rattle.text.specs.WriterInput.{is_writer_input}
use Rattle.text.specs.declared.header.WriterHeader.{WriterHeader}
use Rattle.general_laws.proofs.Tests.{by_if}
use Rattle.writer_spec.specs.Written.{is_payload, writes_no_echo, WriteAnswer, bytes_written, refused, WriteOutcome, writes}
use Rattle.writer_spec.specs.Demand2.{Accepted, written, RefusedByRow}
use Rattle.writer_spec.proofs.ReadsBack.{reads_back_lem}

-- an answer is a number of bytes or a refusal
abbrev is_refusal : WriteAnswer → ℕ
is_refusal (bytes_written n) = 0
is_refusal (refused n) = 1

module _ (p : ℕ) (h : WriterHeader) (modes payload output : List ℕ) where
  abbrev long : ℕ
  long = part_length p (writes_no_echo p payload)

  abbrev Kept : WriteOutcome → Type 0
  Kept o = (n : ℕ) → o.answer ≡ bytes_written n → Accepted p h modes payload × (length (written p h modes payload) ≤ length output)

  refusal : {row n : ℕ} → refused row ≡ bytes_written n → ⊥
  refusal e = omega (arith, ap is_refusal e)

  pub nothing_else_lem : length h.radars ≡ 8 → length modes ≡ 8 → Kept (writes p h modes payload output)
  unfolding writes
  nothing_else_lem radars places =
      by_if Kept (not (is_part_number p)) (λ _ n e. absurd (refusal e))
      (λ part. by_if Kept (not (is_writer_input h modes)) (λ _ n e. absurd (refusal e))
      (λ input. by_if Kept (not (is_payload p payload)) (λ _ n e. absurd (refusal e))
      (λ allowed. by_if Kept (ltb (length output) long) (λ _ n e. absurd (refusal e))
      (λ room n e. let accepted : Accepted p h modes payload = record {
        part = not-false _ part;
        input = not-false _ input;
        allowed = not-false _ allowed;
        radars = radars;
        places = places;
      } in
      (accepted, omega (arith, (reads_back_lem p h modes payload accepted).long, ltb-false (length output) long room))))))

  pub refused_by_row : RefusedByRow p h modes payload output
  unfolding writes
  refused_by_row =
      record {
        row31 = λ part. rw part;
        row32 = λ part input. rw (part, input);
        row33 = λ part input allowed. rw (part, input, allowed);
        row34 = λ part input allowed short. rw (part, input, allowed, lt-ltb (length output) long short);
      }
