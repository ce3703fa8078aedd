-- 01's number of an answer: the code's enum and the definition's reply have the same. Assumes nothing.
use mathlib.Core.Path.{◌≡◌, refl}
use Rattle.receiver_spec.specs.Calls.{number}
use Rattle.receiver_state.specs.Meaning.{number_of}
use Rattle.receiver_state.specs.declared.answer.Answer.{Answer}
use Rattle.receiver_state.specs.declared.answer.Answer.TheVariants.{Quiet, Begun, Taken, Complete, Dropped, Refused}
use Rattle.receiver_byte_call.specs.Returned.{reply_of}

pub number_same : (a : Answer) → number (reply_of a) ≡ number_of a
unfolding reply_of
number_same Quiet = refl
number_same Begun = refl
number_same Taken = refl
number_same (Complete part) = refl
number_same (Dropped row) = refl
number_same (Refused refusal) = refl
