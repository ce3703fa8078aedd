-- How long until this text ends (Request 106): what the number of bytes left means, for every list of receiving calls,
-- so that the relay may plan by it. Assumes nothing.
use Rattle.std.specs.Prelude.{◌≡◌, ◌≢◌, ◌↔◌, ℕ, suc, ◌+◌, ◌≤◌, true, List, [], ◌∷◌, ◌++◌, length}
use Rattle.general_laws.specs.Bytes.{◌!◌, is_in}
use Rattle.text.specs.Text.{TPAD, opening}
use Rattle.text.specs.Part.{grid_length, UndamagedText}
use Rattle.receiver_spec.specs.Calls.{number, Request, byte, Call, on_grid, elsewhere, ask, After, received}
use Rattle.service_bytes_left.specs.BytesLeft.{LeftAnswer, left, bytes_left}

-- The bytes left after a list of receiving calls, whose receiver was asked for with this number. Requests 106 and 101
abbrev pub left_after : ℕ → List Call → LeftAnswer
left_after marks calls = bytes_left (received marks calls).state

-- A text is under way, and its kind has been read. Request 106
abbrev pub UnderWayWithKindRead : After → Type 0
UnderWayWithKindRead here = (here.state.place ≢ 0) × (here.state.kind ≢ 0)

-- The opening which started the text under way: place counts the bytes taken from its `FD` on, the second byte behind
-- it is the kind, and no other opening among the bytes taken is later. Request 106
pub record StartedBy (here : After) : Type 0 where
  pub before : List ℕ
  pub behind : List ℕ
  pub split : here.taken ≡ before ++ (opening ++ behind)
  pub place : here.state.place ≡ suc (length behind)
  pub kind : here.state.kind ≡ behind ! 1
  pub latest : (earlier later : List ℕ) → here.taken ≡ earlier ++ (opening ++ later) → length behind ≤ length later

-- What one more call, by byte or by slice, does to the number while a text is under way with its kind read. Answered 0
-- to 3, it falls by the count of bytes taken, and it is 0 after that exactly if the answer is 1, 2 or 3: at the text's
-- last byte. Answered 11 or more, the text is dropped and it is 0 (of these only rows 11 and 18 to 22 can come here).
-- There is no other answer, and no refusal: demand 3's `each`. Request 106
pub record Falls (old new : LeftAnswer) (count answer : ℕ) : Type 0 where
  pub by_bytes : answer ≤ 3 → (n : ℕ) × (old ≡ left (count + n)) × (new ≡ left n) × ((answer ≡ 0) ↔ (1 ≤ n))
  pub dropped : 11 ≤ answer → new ≡ left 0

-- What the number means after a list of calls, whatever marks its receiver was asked for with. Requests 106 and 101
pub record UntilTextEnds (marks : ℕ) (calls : List Call) : Type 0 where
  -- It is 0 between texts, and before the kind is read
  pub between : (received marks calls).state.place ≡ 0 → left_after marks calls ≡ left 0
  pub unread : (received marks calls).state.kind ≡ 0 → left_after marks calls ≡ left 0
  -- Once the kind is read: the text under way began with the last opening taken
  pub started : UnderWayWithKindRead (received marks calls) → StartedBy (received marks calls)
  -- A number is told, and no refusal. Every undamaged text of that kind (byte 7 of a text, counted from 0), whatever its
  -- other bytes, has five control bytes, as many bytes more as the place, and then as many as the number says; so the
  -- number is this also where the bytes taken can no longer become an undamaged text
  pub of_kind : UnderWayWithKindRead (received marks calls)
      → (n : ℕ) × (left_after marks calls ≡ left n)
      × ((text : List ℕ) → UndamagedText text → text ! 7 ≡ (received marks calls).state.kind → length text ≡ 5 + ((received marks calls).state.place + n))
  -- Take any opening among the bytes taken. If it and all bytes taken behind it are the front of an undamaged text, the
  -- rest of that text has as many bytes as the number says, and that opening is the one which started the text under way
  pub exact : UnderWayWithKindRead (received marks calls) → (before behind rest : List ℕ) → (received marks calls).taken ≡ before ++ (opening ++ behind)
      → UndamagedText (opening ++ (behind ++ rest))
      → (left_after marks calls ≡ left (length rest)) × ((received marks calls).state.place ≡ suc (length behind))
  -- An undamaged text that later calls bring to its end, its last byte answered 1, 2 or 3: after each call since its kind
  -- was taken it was under way, and the number was the count of bytes still to come. (Such a byte is the last that its
  -- call takes, so the bytes taken can end with it)
  pub accepted : (later : List Call) (before behind most : List ℕ) (b : ℕ) → (received marks calls).taken ≡ before ++ (opening ++ behind) → 2 ≤ length behind
      → (received marks (calls ++ later)).taken ≡ (received marks calls).taken ++ (most ++ (b ∷ []))
      → UndamagedText (opening ++ (behind ++ (most ++ (b ∷ []))))
      → 1 ≤ (received marks (calls ++ later)).said ! length ((received marks calls).taken ++ most) → (received marks (calls ++ later)).said ! length ((received marks calls).taken ++ most) ≤ 3
      → UnderWayWithKindRead (received marks calls) × (left_after marks calls ≡ left (length (most ++ (b ∷ []))))
  -- One call more: with each byte taken inside the text the number falls by one
  pub falls : UnderWayWithKindRead (received marks calls) → (r : Request)
      → let outcome = ask (received marks calls).state (received marks calls).grid r in
      Falls (left_after marks calls) (left_after marks (calls ++ (on_grid r ∷ []))) outcome.count (number outcome.reply)
  -- The number is 1 exactly where the `FF` is due: there, and there alone, an `FF` ends the text, answered 1, 2 or 3 or
  -- with row 22
  pub last : UnderWayWithKindRead (received marks calls)
      → (left_after marks calls ≡ left 1) ↔ (is_in (number (ask (received marks calls).state (received marks calls).grid (byte TPAD)).reply) (1 ∷ 2 ∷ 3 ∷ 22 ∷ []) ≡ true)
  -- A call that is lent a grid of another length leaves the number as it was
  pub kept : (r : Request) (grid : List ℕ) (other : length grid ≢ grid_length) → left_after marks (calls ++ (elsewhere r grid other ∷ [])) ≡ left_after marks calls
