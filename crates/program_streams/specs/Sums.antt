-- Adler-32 begun at 0.
use Rattle.std.specs.Prelude.{ℕ, ◌+◌, ◌*◌, ◌/◌, ◌%◌, List, fold}

-- the sum with one byte more: in the low half a sum of the bytes, in the high half a sum of these sums
unfoldable pub with_byte : ℕ → ℕ → ℕ
with_byte sum b =
    let low = (sum % 65536 + b) % 65521 in
    (sum / 65536 + low) % 65521 * 65536 + low

-- the sum over some bytes
abbrev pub adler : List ℕ → ℕ
adler bytes = fold with_byte 0 bytes
