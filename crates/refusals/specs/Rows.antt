-- The row of the terminal's table that each refusal is. Assumes nothing.
use Rattle.std.specs.Prelude.{ℕ}
use Rattle.refusals.specs.declared.refusal.Refusal.{Refusal}
use Rattle.refusals.specs.declared.refusal.Refusal.TheVariants.{ReceiverGridLength, ImpossibleState, PartNumber, HeaderOrModes, Payload, OutputLength, MeshOrLevel, GridLength, Level15}

-- each refusal is a row of its own
abbrev pub row_of : Refusal → ℕ
row_of ReceiverGridLength = 1
row_of ImpossibleState = 2
row_of PartNumber = 31
row_of HeaderOrModes = 32
row_of Payload = 33
row_of OutputLength = 34
row_of MeshOrLevel = 41
row_of GridLength = 42
row_of Level15 = 43
