-- The exclusive or over a slice from its two halves. Assumes nothing.
use Rattle.std.proofs.Common.{ap, ap₂, ◌∙◌, ◌/◌, bit_xor, length, arith}
use Rattle.text.specs.Text.{xor_all}
use Rattle.text.proofs.CheckByte.{xor_all_none, xor_all_one, xor_all_halves}
use Rattle.text.proofs.check.+xor_all.Goals as goal

pub returns-in-empty : goal.returns-in-empty
returns-in-empty t c = xor_all_none c.args.block.now (omega arith)

pub returns-in-len1 : goal.returns-in-len1
returns-in-len1 t c = xor_all_one c.args.block.now (omega arith)

pub returns-in_default : goal.returns-in_default
returns-in_default t c =
    let s = c.args.block.now in
    ap₂ bit_xor (c.xor_all.ensures ∙ ap xor_all c.split_at.ensures.front) (c.xor_all-in_default.ensures ∙ ap xor_all c.split_at.ensures.back)
    ∙ xor_all_halves s (length s / 2)
