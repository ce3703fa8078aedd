-- Request 101: the marks of the pictures that a receiver takes, one number with a mark for each of 01's twenty picture
-- codes. Assumes nothing.
use Rattle.std.specs.Prelude.{ℕ, zero, suc, ◌+◌, ◌/◌, ◌%◌, ◌^◌, ◌<◌, ◌≤◌, ◌≡◌, ◌↔◌, Bool, true, false, cond, List, [], ◌∷◌, ltb, length}
use Rattle.general_laws.specs.Bytes.{◌!◌, bit, is_in}
use Rattle.text.specs.Pictures.{picture_codes, is_picture_code}

-- those of these codes that are marked; bit i is the mark of the first. Request 101
unfoldable pub marked_among : ℕ → ℕ → List ℕ → List ℕ
marked_among marks i [] = []
marked_among marks i (code ∷ codes) = cond (bit marks i) (code ∷ marked_among marks (suc i) codes) (marked_among marks (suc i) codes)

-- the marked pictures: one mark for each picture code in 01's order, `C0` at bit 0. Request 101; Notice 49, 5(1)
unfoldable pub marked_pictures : ℕ → List ℕ
marked_pictures marks = marked_among marks 0 picture_codes

-- a listed code that is marked. Request 101; Notice 49, 5(1)
unfoldable pub is_marked : ℕ → ℕ → Bool
is_marked marks code = is_in code (marked_pictures marks)

-- how many of the twenty marks are set. Request 101
unfoldable pub marks_set : ℕ → ℕ
marks_set marks = length (marked_pictures marks)

-- no mark beyond the twentieth: bits 20 and up are 0, so the number is below 2 to the power of 20. Request 101
unfoldable pub are_marks : ℕ → Bool
are_marks marks = ltb marks 1048576

-- all twenty, and none. Request 101
abbrev pub all_marks : ℕ
all_marks = 1048575

abbrev pub no_marks : ℕ
no_marks = 0

-- the marks of a receiver asked for with this number: with a mark beyond the twentieth it has no mark at all.
-- Request 101
unfoldable pub marks_from : ℕ → ℕ
marks_from n = cond (are_marks n) n no_marks

-- how many of a number's lowest bits are set, one by one
abbrev pub bits_below : ℕ → ℕ → ℕ
bits_below number zero = 0
bits_below number (suc k) = bits_below number k + number / 2 ^ k % 2

-- What the marks come to. Request 101
pub record MarksClaim : Type 0 where
  -- the code at place i of 01's list has its mark at bit i, and no code has a mark that is not listed
  pub each : (marks i : ℕ) → i < 20 → is_marked marks (picture_codes ! i) ≡ bit marks i
  pub listed : (marks code : ℕ) → is_marked marks code ≡ true → is_picture_code code ≡ true
  -- the twenty codes, in 01's order
  pub order : marked_pictures all_marks
      ≡ 0xC0 ∷ 0xC1 ∷ 0xC2 ∷ 0xC4 ∷ 0xC5 ∷ 0xC8 ∷ 0xC9 ∷ 0xCC ∷ 0xD2 ∷ 0xD3
      ∷ 0xD4 ∷ 0xD5 ∷ 0xD8 ∷ 0xDC ∷ 0xE0 ∷ 0xE1 ∷ 0xE4 ∷ 0xE5 ∷ 0xF0 ∷ 0xF1 ∷ []
  -- twenty of all, none of none, and of any number as many as of its lowest twenty bits: others are not counted
  pub all : marks_set all_marks ≡ 20
  pub none : marks_set no_marks ≡ 0
  pub lowest : (marks : ℕ) → marks_set marks ≡ marks_set (marks % 1048576)
  pub sum : (marks : ℕ) → marks_set marks ≡ bits_below marks 20
  -- no mark is beyond the twentieth exactly where every bit from 20 on is 0
  pub judged : (n : ℕ) → (are_marks n ≡ true) ↔ ((i : ℕ) → 20 ≤ i → bit n i ≡ false)
  -- a receiver has the marks that it is asked for with, and none where one is beyond the twentieth
  pub asked : (n : ℕ) → n < 1048576 → marks_from n ≡ n
  pub beyond : (n : ℕ) → 1048576 ≤ n → marks_from n ≡ 0
