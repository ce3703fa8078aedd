-- The payload of a data text of a stored part. Assumes nothing.
use Rattle.std.specs.Prelude.{◌≡◌, ℕ, ◌+◌, ◌-◌, ◌*◌, ◌≤◌, Bool, cond, ◌&&◌, List, [], leb, length, get_or, take, drop}
use Rattle.text.specs.DataBlock.{payload_of}
use Rattle.text.specs.Part.{cut_part, is_undamaged_part}

-- whether these bytes are exactly one undamaged part that has data text k
unfoldable pub has_text : List ℕ → ℕ → Bool
has_text bytes k = is_undamaged_part bytes && leb 1 k && leb k (length (cut_part bytes).datas)

-- 01: the payload of data text k; empty unless these bytes are exactly one undamaged part that has text k.
-- Notice 49, 4(1)(1-1)(c)(エ), 4(1)(1-2)(c)(エ), 4(2)(c)(エ)
unfoldable pub text_payload : List ℕ → ℕ → List ℕ
text_payload bytes k = cond (has_text bytes k) (payload_of (get_or (cut_part bytes).datas (k - 1) [])) []

-- where it begins, in a part whose data blocks have this length
abbrev pub payload_at : ℕ → ℕ → ℕ
payload_at block k = 48 + (k - 1) * (block - 3 + 11)

-- what holds of a text that is there
pub record PayloadPlace (bytes : List ℕ) (block k : ℕ) : Type 0 where
  pub first : 1 ≤ k
  pub size : 103 ≤ block
  pub room : payload_at block k + (block - 3) ≤ length bytes
  pub given : take (payload_at block k + (block - 3) - payload_at block k) (drop (payload_at block k) bytes) ≡ text_payload bytes k
