-- One byte more counts where it equals the value. Assumes nothing.
use mathlib.Core.Path.{◌≡◌, sym, ap, ◌∙◌, refl}
use mathlib.Core.List.{List}
use Prim.Native.Nat.{ℕ, ◌+◌, ◌<◌}
use native.Mathlib.Nat.{add-zero}
use native.Mathlib.Omega.{arith}
use lib.Dec.{eqb}
use lib.ListN.{length, take, get_or}
use lib.Seq.{take_all}
use mir.Val.{bool_byte}
use Rattle.std.proofs.lemmas.List.Sums.{count_by_more_yes, count_by_more_no}
use Rattle.general_laws.proofs.Tests.{by_test, bool_byte_less}
use Rattle.decode.specs.Count.{count_of}
use Rattle.decode.proofs.counts.bytes_at.Goals as goal

module _ (bytes : List ℕ) (value i count : ℕ) (so_far : count ≡ count_of (take i bytes) value) (more : i < length bytes) where
  one_more : count + bool_byte (eqb (get_or bytes i 0) value) ≡ count_of (take (i + 1) bytes) value
  one_more =
      by_test (eqb (get_or bytes i 0) value)
      (λ yes. ap (λ b. count + bool_byte b) yes ∙ ap (λ n. n + 1) so_far ∙ sym (count_by_more_yes (λ b. eqb b value) bytes i 0 more yes))
      (λ no. ap (λ b. count + bool_byte b) no ∙ add-zero count ∙ so_far ∙ sym (count_by_more_no (λ b. eqb b value) bytes i 0 more no))

pub loop-b-init : goal.loop-b-init
loop-b-init c = (omega arith, refl)

pub overflow_add-count : goal.overflow_add-count
overflow_add-count c = simp bool_byte_less (omega (arith, c.loop-b.invariant.0))

pub loop-b-preserved : goal.loop-b-preserved
loop-b-preserved c =
    let a = c.args in (
      simp bool_byte_less (omega (arith, c.loop-b.invariant.0)),
      one_more a.bytes.now a.value c.loop-b.b-index c.loop-b.count c.loop-b.invariant.1 c.loop-b-test.true,
    )

pub returns : goal.returns
returns c =
    let a = c.args in
    c.loop-b.invariant.1 ∙ ap (λ s. count_of s a.value) (take_all c.loop-b.b-index a.bytes.now (omega arith))
