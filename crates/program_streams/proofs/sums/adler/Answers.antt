-- The two sums, with one byte more, are those of `with_byte`. Assumes nothing.
use Rattle.std.proofs.Common.{arith, refl, sym, ap, ◌∙◌, ◌≡◌, ℕ, ◌+◌, ◌*◌, ◌<◌, ◌/◌, ◌%◌, get_or, take_all}
use Rattle.std.proofs.lemmas.List.Sums.{fold_more}
use Rattle.program_streams.specs.Sums
use Rattle.program_streams.specs.Sums.{with_byte}
use Rattle.program_streams.proofs.sums.adler.Goals as goal

-- the sum with one byte more, of two sums side by side
packed : (low high b : ℕ) → low < 65521 → (high + (low + b) % 65521) % 65521 * 65536 + (low + b) % 65521 ≡ with_byte (high * 65536 + low) b
unfolding with_byte
packed low high b l =
    let first : (high * 65536 + low) % 65536 ≡ low = omega arith in
    let second : (high * 65536 + low) / 65536 ≡ high = omega arith in
    rw (first, second) refl

pub loop-b-init : goal.loop-b-init
loop-b-init c = record { sum = refl; low_bound = omega arith; high_bound = omega arith }

pub overflow_add-low : goal.overflow_add-low
overflow_add-low c = omega (arith, c.loop-b.invariant.low_bound, c.type_inv.bytes c.loop-b.b-index)

pub overflow_add-high : goal.overflow_add-high
overflow_add-high c = omega (arith, c.loop-b.invariant.high_bound)

pub loop-b-preserved : goal.loop-b-preserved
loop-b-preserved c =
    let bytes = c.args.bytes.now in
    let i = c.loop-b.b-index in
    record {
      sum =
          packed c.loop-b.low c.loop-b.high (get_or bytes i 0) c.loop-b.invariant.low_bound
          ∙ ap (λ s. with_byte s (get_or bytes i 0)) c.loop-b.invariant.sum
          ∙ sym (fold_more with_byte 0 bytes i 0 c.loop-b-test.true);
      low_bound = omega arith;
      high_bound = omega arith;
    }

pub overflow_mul-result : goal.overflow_mul-result
overflow_mul-result c = omega (arith, c.loop-b.invariant.high_bound)

pub overflow_add-result : goal.overflow_add-result
overflow_add-result c = omega (arith, c.loop-b.invariant.high_bound, c.loop-b.invariant.low_bound)

pub returns : goal.returns
returns c = c.loop-b.invariant.sum ∙ ap Sums.adler (take_all c.loop-b.b-index c.args.bytes.now (omega arith))
