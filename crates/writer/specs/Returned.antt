-- What a call of the code returned, in the terms of `writer_spec`'s definition. Assumes nothing.
use Rattle.std.specs.Prelude.{ℕ, List, Result, Ok, Err}
use Rattle.refusals.specs.declared.refusal.Refusal.{Refusal}
use Rattle.refusals.specs.Rows.{row_of}
use Rattle.writer_spec.specs.Written.{WriteAnswer, bytes_written, refused, WriteOutcome}

-- 01's numbers: the length written, or the row of a refusal
unfoldable pub answer_of : Result ℕ Refusal → WriteAnswer
answer_of (Ok n) = bytes_written n
answer_of (Err refusal) = refused (row_of refusal)

-- how many bytes were written: none on a refusal
unfoldable pub count_of : Result ℕ Refusal → ℕ
count_of (Ok n) = n
count_of (Err refusal) = 0

-- a call's result, with the output at its exit
unfoldable pub outcome_of : Result ℕ Refusal → List ℕ → WriteOutcome
outcome_of r output = record { answer = answer_of r; count = count_of r; output = output }
