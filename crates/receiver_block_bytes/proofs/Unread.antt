-- Byte 23 of a start block alone looks at the digits that wait; and what it does with them. Assumes nothing.
use mathlib.Core.Path.{◌≡◌}
use mathlib.Core.Logic.{◌≢◌}
use mathlib.Core.Bool.{true, ◌&&◌}
use mathlib.Core.List.{List}
use Prim.Native.Nat.{ℕ, ◌-◌, ◌≤◌, ◌<◌}
use native.Mathlib.Omega.{arith}
use lib.Dec.{leb, ltb}
use borrow.Author.Tests.{ne_eqb, leb-true, ltb-true}
use Rattle.general_laws.specs.Bytes.{is_in}
use Rattle.text.specs.Kinds.{is_start_kind, block_length}
use Rattle.text.specs.declared.header.Header.{Header}
use Rattle.general_laws.proofs.Tests.{by_test, and_split}
use Rattle.text_laws.proofs.KindTable.{start_block_length}
use Rattle.receiver_spec.specs.State.{no_digits}
use Rattle.receiver_spec.specs.Contents.{time_takes, start_takes, takes_byte, enter_header, enter_digits}
use Rattle.receiver_block_bytes.specs.BlockByte.{is_taken, enters, entered, time_entered}

time_unread : (ds : List ℕ) (i b : ℕ) → i ≢ 15 → time_takes ds i b ≡ time_takes no_digits i b
unfolding time_takes
time_unread ds i b n = rw (ne_eqb i 15 n)

start_unread : (h : Header) (ds : List ℕ) (i b : ℕ) → i ≢ 23 → start_takes h ds i b ≡ start_takes h no_digits i b
unfolding start_takes
start_unread h ds i b n = rw (time_unread ds (i - 8) b (λ e. n (omega (arith, e))))

pub taken_unread : (k : ℕ) (h : Header) (ds : List ℕ) (i b : ℕ) → (is_start_kind k ≡ true → i ≢ 23) → is_taken k h ds i b ≡ is_taken k h no_digits i b
unfolding is_taken takes_byte
taken_unread k h ds i b n = by_test (is_start_kind k) (λ e. rw (e, start_unread h ds i b (n e))) (λ e. rw e)

pub header_unread : (h : Header) (ds : List ℕ) (i b : ℕ) → i ≢ 23 → enter_header h ds i b ≡ enter_header h no_digits i b
unfolding enter_header
header_unread h ds i b n = rw (ne_eqb i 23 n)

pub time_whole : (k : ℕ) (h : Header) (m ds : List ℕ) (b : ℕ) → is_start_kind k ≡ true → entered k h m ds 23 b ≡ time_entered h m ds b
unfolding entered time_entered is_taken enters takes_byte start_takes time_takes enter_header enter_digits is_in
time_whole k h m ds b s = rw (start_block_length k s, s)

-- ---- what a byte that is taken keeps

pub taken_has : (k : ℕ) (h : Header) (i b : ℕ) → is_taken k h no_digits i b ≡ true → (3 ≤ i) × (i < block_length k) × (takes_byte k h no_digits i b ≡ true)
unfolding is_taken
taken_has k h i b t =
    let (front, rule) = and_split (leb 3 i && ltb i (block_length k)) (takes_byte k h no_digits i b) t in
    let (low, high) = and_split (leb 3 i) (ltb i (block_length k)) front in
    (leb-true 3 i low, ltb-true i (block_length k) high, rule)
