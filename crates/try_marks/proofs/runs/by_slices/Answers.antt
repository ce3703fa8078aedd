-- A slice call takes no more bytes than it is given. Assumes nothing.
use Rattle.receiver_slice_call.proofs.Laws.{count_most}
use Rattle.try_marks.proofs.runs.by_slices.Goals as goal

pub split_at-requires : goal.split_at-requires
split_at-requires g c = count_most c.slice_call-result.result _ _ _ _ c.slice_call-result.ensures.grid_after
