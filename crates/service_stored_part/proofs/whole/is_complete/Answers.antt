-- Answer 3, or another. Assumes nothing.
use mathlib.Core.Path.{◌≡◌, refl}
use mathlib.Core.Bool.{false}
use Prim.Native.Nat.{ℕ}
use lib.Dec.{eqb}
use Rattle.refusals.specs.Rows.{row_of}
use Rattle.refusals.specs.declared.refusal.Refusal.{Refusal}
use Rattle.refusals.specs.declared.refusal.Refusal.TheVariants.{ReceiverGridLength, ImpossibleState, PartNumber, HeaderOrModes, Payload, OutputLength, MeshOrLevel, GridLength, Level15}
use Rattle.receiver_state.specs.Meaning.{row_number, number_of}
use Rattle.receiver_state.specs.declared.answer.Row.{Row}
use Rattle.receiver_state.specs.declared.answer.Row.TheVariants.{OpeningInText, NotDueByte, NoPictureCode, NoKind, StartInPart, NotDueKind, OtherPicture, BlockByte, NotFE, WrongCheckByte, NotFF, NotHighestMode, UnmarkedPicture}
use Rattle.receiver_state.specs.declared.answer.Answer.{Answer}
use Rattle.receiver_state.specs.declared.answer.Answer.TheVariants.{Quiet, Begun, Taken, Complete, Dropped, Refused}
use Rattle.service_stored_part.proofs.whole.is_complete.Goals as goal

-- no row has number 3, and no refusal
row : (r : Row) → false ≡ eqb (row_number r) 3
row OpeningInText = refl
row NotDueByte = refl
row NoPictureCode = refl
row NoKind = refl
row StartInPart = refl
row NotDueKind = refl
row OtherPicture = refl
row BlockByte = refl
row NotFE = refl
row WrongCheckByte = refl
row NotFF = refl
row NotHighestMode = refl
row UnmarkedPicture = refl

refusal : (r : Refusal) → false ≡ eqb (row_of r) 3
refusal ReceiverGridLength = refl
refusal ImpossibleState = refl
refusal PartNumber = refl
refusal HeaderOrModes = refl
refusal Payload = refl
refusal OutputLength = refl
refusal MeshOrLevel = refl
refusal GridLength = refl
refusal Level15 = refl

other : (a : Answer) → ((part : ℕ) → a ≡ Complete part → ⊥) → false ≡ eqb (number_of a) 3
other Quiet h = refl
other Begun h = refl
other Taken h = refl
other (Complete part) h = absurd (h part refl)
other (Dropped r) h = row r
other (Refused r) h = refusal r

pub returns-in-Complete : goal.returns-in-Complete
returns-in-Complete c = rw c.in-Complete.is

pub returns-in_default : goal.returns-in_default
returns-in_default c = other c.args.a c.in_default.not-Complete
