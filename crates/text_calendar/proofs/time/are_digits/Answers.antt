-- All are digits exactly where the one at each place is. Assumes nothing.
use mathlib.Core.Path.{◌≡◌, sym, ◌∙◌}
use mathlib.Core.Bool.{Bool, true}
use mathlib.Core.List.{List}
use Prim.Native.Nat.{ℕ, ◌≤◌}
use native.Mathlib.Omega.{arith}
use lib.Dec.{leb}
use lib.ListN.{length, get_or}
use borrow.Author.Rules.{rules}
use borrow.Author.Tests.{le-leb, leb-true}
use Rattle.std.specs.Prelude.{IsTrue, EachIndex, ◌↔◌}
use Rattle.general_laws.specs.Bytes.{every}
use Rattle.general_laws.proofs.Tests.{by_test, never, every_at}
use Rattle.general_laws.proofs.Places.{places_true, every_by_place}
use Rattle.text_calendar.proofs.time.are_digits.Goals as goal

by_place :
    (r : Bool) (ds : List ℕ) → length ds ≡ 12 → (IsTrue r ↔ EachIndex ds (λ k. get_or ds k 0 ≤ 9)) →
    r ≡ every (λ d. leb d 9) ds
by_place r ds n h =
    by_test (every (λ d. leb d 9) ds)
    (λ e. h.1 (λ k l. leb-true _ _ (every_at (λ d. leb d 9) ds e k l)) ∙ sym e)
    (λ e. by_test r (λ t. never e (passed t)) (λ f. f ∙ sym e))
  where
    passed : r ≡ true → every (λ d. leb d 9) ds ≡ true
    passed t =
        every_by_place (λ d. leb d 9) 12 ds n
        ∙ places_true _ 0 12 (λ k l m. le-leb _ _ (h.0 t k (omega arith)))

pub returns : goal.returns
returns c =
    let e : IsTrue c.all.result ↔ EachIndex c.args.digits (λ k. get_or c.args.digits k 0 ≤ 9) = search rules in
    by_place c.all.result c.args.digits (search rules) e
