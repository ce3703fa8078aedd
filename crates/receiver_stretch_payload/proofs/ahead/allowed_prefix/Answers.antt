-- All of them, or those before the first that breaks the rule. Assumes nothing.
use mathlib.Core.Path.{◌≡◌, refl, sym, ap, ◌∙◌}
use mathlib.Core.Bool.{not}
use mathlib.Core.List.{List}
use Prim.Native.Nat.{ℕ}
use native.Mathlib.Omega.{arith}
use lib.Dec.{ltb}
use lib.ListN.{length}
use borrow.Author.Tests.{ltb-false}
use Rattle.std.specs.List.{position, position_or_len}
use Rattle.std.specs.Prelude.{unwrap_or}
use Rattle.std.proofs.lemmas.List.Recursion.{is_position_or_len}
use Rattle.general_laws.proofs.Tests.{by_test}
use Rattle.text.specs.DataBlock.{is_payload_byte}
use Rattle.receiver_stretch_payload.specs.Ahead.{allowed_prefix}
use Rattle.receiver_stretch_payload.proofs.InPayload.{allowed_all, allowed_most}
use Rattle.receiver_stretch_payload.proofs.ahead.allowed_prefix.Goals as goal

-- they end where the first byte breaks the rule
until : (p : ℕ) (xs : List ℕ) → allowed_prefix p xs ≡ position_or_len (λ b. not (is_payload_byte p b)) xs
unfolding allowed_prefix
until p =
    is_position_or_len (allowed_prefix p) (λ b. not (is_payload_byte p b)) refl
    (λ b xs. by_test (is_payload_byte p b) (λ t. rw t (omega arith)) (λ t. rw t))

found : (p : ℕ) (xs : List ℕ) → unwrap_or (position (λ b. not (is_payload_byte p b)) xs) (length xs) ≡ allowed_prefix p xs
found p xs =
    by_test (ltb (position_or_len (λ b. not (is_payload_byte p b)) xs) (length xs)) (λ t. rw t (sym (until p xs)))
    (λ t. rw t (omega (arith, until p xs, allowed_most p xs, ltb-false (position_or_len (λ b. not (is_payload_byte p b)) xs) (length xs) t)))

pub returns-then-are_payload_bytes : goal.returns-then-are_payload_bytes
returns-then-are_payload_bytes c =
    sym (allowed_all c.args.part c.args.bytes.now (sym c.are_payload_bytes.ensures ∙ c.if-are_payload_bytes.true))

pub returns : goal.returns
returns c =
    c.unwrap_or.ensures ∙ ap (λ r. unwrap_or r (length c.args.bytes.now)) c.first_broken.ensures ∙ found c.args.part c.args.bytes.now
