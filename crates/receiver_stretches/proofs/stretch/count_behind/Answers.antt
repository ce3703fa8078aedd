-- Five bytes are counted at most. Assumes nothing.
use mathlib.Core.Path.{◌≡◌, refl, sym, ◌∙◌}
use mathlib.Core.List.{List, [], ◌∷◌}
use Prim.Native.Nat.{ℕ, ◌+◌, ◌≤◌, ◌<◌, min}
use native.Mathlib.Omega.{arith}
use lib.Dec.{ltb}
use lib.ListN.{length}
use borrow.Author.Tests.{eqb-true, eqb-false, ltb-true, ltb-false}
use Rattle.general_laws.proofs.Tests.{by_test}
use Rattle.receiver_bytes_seen.specs.AsNumber.{push_count}
use Rattle.receiver_bytes_seen.specs.Behind.{count_after}
use Rattle.receiver_stretches.proofs.stretch.count_behind.Goals as goal

-- from a count of five or fewer
up_to_five : (n : ℕ) (xs : List ℕ) → n ≤ 5 → count_after n xs ≡ min (n + length xs) 5
unfolding count_after push_count
up_to_five n [] h = omega arith
up_to_five n (b ∷ xs) h =
    by_test (ltb n 5) (λ t. rw t (up_to_five (n + 1) xs (omega (arith, ltb-true n 5 t)) ∙ omega arith))
    (λ t. rw t (up_to_five 5 xs (omega arith) ∙ omega (arith, ltb-false n 5 t)))

none : (n : ℕ) (xs : List ℕ) → length xs ≡ 0 → n ≡ count_after n xs
unfolding count_after
none n [] e = refl
none n (b ∷ xs) e = absurd (omega arith)

some : (n : ℕ) (xs : List ℕ) → n < 256 → 1 ≤ length xs → min (min (n + min (length xs) 5) 255) 5 ≡ count_after n xs
unfolding count_after push_count
some n [] h l = absurd (omega arith)
some n (b ∷ xs) h l =
    by_test (ltb n 5) (λ t. rw t (sym (up_to_five (n + 1) xs (omega (arith, ltb-true n 5 t)) ∙ omega arith)))
    (λ t. rw t (sym (up_to_five 5 xs (omega arith) ∙ omega (arith, ltb-false n 5 t))))

pub returns-then-is_empty : goal.returns-then-is_empty
returns-then-is_empty c = none c.args.count c.args.bytes.now (eqb-true _ _ (sym c.is_empty.ensures ∙ c.if-is_empty.true))

pub returns : goal.returns
returns c =
    let long : 1 ≤ length c.args.bytes.now = omega (arith, eqb-false _ _ (sym c.is_empty.ensures ∙ c.if-is_empty.false)) in
    rw (c.min-2.ensures, c.saturating_add.ensures, c.min.ensures) (some c.args.count c.args.bytes.now (omega arith) long)
