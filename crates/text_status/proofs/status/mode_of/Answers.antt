-- The mode is settled by the three masked bits, at each of the 256 bytes. Assumes nothing.
use mathlib.Core.Path.{◌≡◌, sym, ap, ◌∙◌}
use mathlib.Core.Bool.{cond}
use Prim.Native.Nat.{ℕ, ◌<◌}
use lib.Dec.{eqb}
use lib.Bits.{bit_and}
use borrow.Author.Rules.{rules}
use native.Mathlib.Omega.{arith}
use Rattle.std.proofs.lemmas.Bool.Decides.{nat_tests}
use Rattle.general_laws.specs.Bytes.{bit}
use Rattle.text.specs.StartBlock.{mode_of}
use Rattle.general_laws.proofs.Computed.{same_numbers}
use Rattle.text_status.proofs.status.mode_of.Goals as goal

abbrev by_mask : ℕ → ℕ
by_mask x = cond (eqb x 0x04) 1 (cond (eqb x 0x10) 2 (cond (eqb x 0x40) 3 0))

rule : (b : ℕ) → b < 256 → by_mask (bit_and b 0x54) ≡ mode_of b
unfolding mode_of bit
rule = same_numbers 256 (λ b. by_mask (bit_and b 0x54)) mode_of tt

pub returns-in-4 : goal.returns-in-4
returns-in-4 c = sym (ap by_mask c.in-4.is) ∙ rule c.args.b (search rules)

pub returns-in-16 : goal.returns-in-16
returns-in-16 c = sym (ap by_mask c.in-16.is) ∙ rule c.args.b (search rules)

pub returns-in-64 : goal.returns-in-64
returns-in-64 c = sym (ap by_mask c.in-64.is) ∙ rule c.args.b (search rules)

pub returns-in_default : goal.returns-in_default
returns-in_default c =
    rw (← rule c.args.b (search rules)) (grind (arith, nat_tests))
