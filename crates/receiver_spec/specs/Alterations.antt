-- Request 113: a part with altered bytes, at most one in each of its texts. Nothing here speaks of a receiver. Assumes nothing.
use Rattle.std.specs.Prelude.{◌≡◌, ◌≢◌, ◌↔◌, ℕ, suc, Bool, true, false, not, ◌&&◌, List, [], ◌∷◌, ◌++◌, eqb, ltb, length, take, drop}
use Rattle.general_laws.specs.Bytes.{◌!◌}
use Rattle.text.specs.Text.{FD, text_of}
use Rattle.text.specs.Part.{Part, part_bytes, AlteredTo}

-- What came of a text: the text as it was, or with one byte altered, to a value other than `FD`
pub data AtMostOneAltered : List ℕ → List ℕ → Type 0 where
  as_it_was : {text : List ℕ} → AtMostOneAltered text text
  one_altered : {v : ℕ} {text bytes : List ℕ} → v ≢ FD → AlteredTo v text bytes → AtMostOneAltered text bytes

-- What came of the texts of these blocks, with nothing between: at most one byte altered in each text
pub data AlteredTexts : List (List ℕ) → List ℕ → Type 0 where
  no_text : AlteredTexts [] []
  next_text : {block bytes rest : List ℕ} {blocks : List (List ℕ)} → AtMostOneAltered (text_of block) bytes → AlteredTexts blocks rest
      → AlteredTexts (block ∷ blocks) (bytes ++ rest)

-- The blocks of a part, in order. Notice 49, 4(1)(1-1)(a), 4(1)(1-2)(a), 4(2)(a)
abbrev pub blocks_of : Part → List (List ℕ)
blocks_of p = p.start ∷ (p.datas ++ (p.end ∷ []))

-- The same by a list of alterations, one for each text: nothing, or the byte at a place, from 0 on, became v
pub data Alteration : Type 0 where
  nothing : Alteration
  became : (place v : ℕ) → Alteration

-- one of this text: a place in it, and a value that differs from what stood there and is not `FD`
abbrev pub is_alteration : List ℕ → Alteration → Bool
is_alteration text nothing = true
is_alteration text (became place v) = ltb place (length text) && not (eqb (text ! place) v) && not (eqb v FD)

-- the text with it
abbrev pub altered_text : List ℕ → Alteration → List ℕ
altered_text text nothing = text
altered_text text (became place v) = take place text ++ (v ∷ drop (suc place) text)

-- the list has one for each text, and each is one of that text
unfoldable pub are_alterations : List (List ℕ) → List Alteration → Bool
are_alterations [] [] = true
are_alterations [] (a ∷ list) = false
are_alterations (block ∷ blocks) [] = false
are_alterations (block ∷ blocks) (a ∷ list) = is_alteration (text_of block) a && are_alterations blocks list

-- what came of the texts, each with its alteration; of a list that is too short, and so no list of alterations, nothing is said
unfoldable pub altered_bytes : List (List ℕ) → List Alteration → List ℕ
altered_bytes [] list = []
altered_bytes (block ∷ blocks) [] = []
altered_bytes (block ∷ blocks) (a ∷ list) = altered_text (text_of block) a ++ altered_bytes blocks list

-- at least one byte is altered
unfoldable pub some_altered : List Alteration → Bool
some_altered [] = false
some_altered (nothing ∷ list) = some_altered list
some_altered (became place v ∷ list) = true

-- Of every part: AlteredTexts says exactly what the lists of alterations say, since each list gives such bytes, and such
-- bytes come of a list; at least one byte is altered exactly where they are not the part's own; and one altered byte in
-- all, which demand 3 has besides, is a case of it
pub record AlterationsClaim (p : Part) : Type 0 where
  pub each_list : (list : List Alteration) → are_alterations (blocks_of p) list ≡ true → AlteredTexts (blocks_of p) (altered_bytes (blocks_of p) list)
  pub no_other : (bytes : List ℕ) → AlteredTexts (blocks_of p) bytes
      → (list : List Alteration) × (are_alterations (blocks_of p) list ≡ true) × (bytes ≡ altered_bytes (blocks_of p) list)
  pub at_least_one : (list : List Alteration) → are_alterations (blocks_of p) list ≡ true → (some_altered list ≡ true) ↔ (altered_bytes (blocks_of p) list ≢ part_bytes p)
  pub one_in_all : (v : ℕ) (bytes : List ℕ) → v ≢ FD → AlteredTo v (part_bytes p) bytes → AlteredTexts (blocks_of p) bytes × (bytes ≢ part_bytes p)
