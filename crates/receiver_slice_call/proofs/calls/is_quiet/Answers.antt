-- Answer 0, or another. Assumes nothing.
use mathlib.Core.Path.{◌≡◌, refl}
use mathlib.Core.Bool.{false}
use Rattle.receiver_state.specs.declared.answer.Answer.{Answer}
use Rattle.receiver_state.specs.declared.answer.Answer.TheVariants.{Quiet, Begun, Taken, Complete, Dropped, Refused}
use Rattle.receiver_byte_call.specs.Returned.{is_quiet}
use Rattle.receiver_slice_call.proofs.calls.is_quiet.Goals as goal

other : (a : Answer) → (a ≡ Quiet → ⊥) → false ≡ is_quiet a
unfolding is_quiet
other Quiet h = absurd (h refl)
other Begun h = refl
other Taken h = refl
other (Complete part) h = refl
other (Dropped row) h = refl
other (Refused refusal) h = refl

pub returns-in-Quiet : goal.returns-in-Quiet
unfolding is_quiet
returns-in-Quiet c = cc

pub returns-in_default : goal.returns-in_default
returns-in_default c = other c.args.a c.in_default.not-Quiet
