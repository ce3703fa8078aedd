-- The number of a data text is 1 to 10. Assumes nothing.
use native.Mathlib.Omega.{arith}
use borrow.Author.Rules.{rules}
use Rattle.receiver_stretch_payload.proofs.InPayload.{bounds}
use Rattle.receiver_stretch_payload.proofs.ahead.payload_base.Goals as goal

pub overflow_sub-result : goal.overflow_sub-result
overflow_sub-result c =
    omega (arith, c.text_of_kind.ensures, bounds c.args.f (search rules) c.requires)

pub overflow_cast-result : goal.overflow_cast-result
overflow_cast-result c =
    omega (arith, c.text_of_kind.ensures, bounds c.args.f (search rules) c.requires)

pub overflow_mul-result : goal.overflow_mul-result
overflow_mul-result c =
    omega (arith, c.text_of_kind.ensures, bounds c.args.f (search rules) c.requires)

pub overflow_sub-result-2 : goal.overflow_sub-result-2
overflow_sub-result-2 c = omega (arith, bounds c.args.f (search rules) c.requires)

pub overflow_cast-result-2 : goal.overflow_cast-result-2
overflow_cast-result-2 c = omega (arith, bounds c.args.f (search rules) c.requires)

pub overflow_add-result : goal.overflow_add-result
overflow_add-result c =
    omega (arith, c.text_of_kind.ensures, bounds c.args.f (search rules) c.requires)

pub returns : goal.returns
returns c =
    record {
      value = simp c.text_of_kind.ensures;
      place_bound = omega (arith, c.text_of_kind.ensures, bounds c.args.f (search rules) c.requires);
    }
