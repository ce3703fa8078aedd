-- What a refusal prints as. Assumes nothing.
use Rattle.std.specs.Prelude.{ℕ, List, codes}
use Rattle.refusals.specs.declared.refusal.Refusal.{Refusal}
use Rattle.refusals.specs.declared.refusal.Refusal.TheVariants.{ReceiverGridLength, ImpossibleState, PartNumber, HeaderOrModes, Payload, OutputLength, MeshOrLevel, GridLength, Level15}

abbrev pub words_of : Refusal → List ℕ
words_of ReceiverGridLength = codes "the receiver's grid has not 20,000 bytes"
words_of ImpossibleState = codes "no receiver is ever in this state"
words_of PartNumber = codes "no part has this number"
words_of HeaderOrModes = codes "the header or the modes break a rule"
words_of Payload = codes "the payload is of another length, or breaks a rule"
words_of OutputLength = codes "the output is too short"
words_of MeshOrLevel = codes "no mesh, or no level, has this number"
words_of GridLength = codes "a grid has not 20,000 bytes"
words_of Level15 = codes "a grid has a mesh at level 15"
