-- The five rules of the definition, four of them from calls. Assumes nothing.
use mathlib.Core.Bool.{and-true, and_assoc}
use Rattle.general_laws.specs.Bytes.{all_of}
use Rattle.receiver_spec.specs.State.{fits_part, kind_unread, kind_read, awaits_time, are_waiting, is_possible}
use Rattle.receiver_state_ranges.specs.FrameFits.{frame_fits}
use Rattle.receiver_state_ranges.specs.DigitsFit.{digits_fit}
use Rattle.receiver_bytes_seen.proofs.Laws.{length_seen}
use Rattle.receiver_state_ranges.proofs.ranges.is_possible.Goals as goal

pub returns : goal.returns
unfolding is_possible kind_unread kind_read fits_part awaits_time are_waiting frame_fits digits_fit all_of
returns c =
    simp (
      c.is_due.ensures,
      c.frame_fits.ensures,
      c.are_marks.ensures,
      c.digits_fit.ensures,
      length_seen,
      and-true,
      and_assoc,
    )
