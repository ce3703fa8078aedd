-- Each part's rule, and none where there is no such part. Assumes nothing.
use Rattle.std.proofs.Common.{◌≢◌, arith}
use borrow.Author.Tests.{ne_eqb}
use Rattle.text.specs.DataBlock.{odd_level, even_level, is_intensity_byte, is_top_byte, is_quality_byte, is_payload_byte}
use Rattle.text.proofs.payload.is_payload_byte.Goals as goal

pub returns-in-1 : goal.returns-in-1
unfolding odd_level even_level is_intensity_byte is_payload_byte
returns-in-1 c = simp c.in-1.is

pub returns-in-2 : goal.returns-in-2
unfolding is_top_byte is_payload_byte
returns-in-2 c = simp c.in-2.is

pub returns-in-3 : goal.returns-in-3
unfolding is_quality_byte is_payload_byte
returns-in-3 c = simp c.in-3.is

pub returns-in_default : goal.returns-in_default
unfolding is_payload_byte
returns-in_default c =
    let part = c.args.part in
    let not_1 : part ≢ 1 = omega arith in
    let not_2 : part ≢ 2 = omega arith in
    let not_3 : part ≢ 3 = omega arith in
    simp (ne_eqb part 1 not_1, ne_eqb part 2 not_2, ne_eqb part 3 not_3)
