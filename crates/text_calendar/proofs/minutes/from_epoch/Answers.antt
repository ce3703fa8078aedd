-- A difference that fits. Assumes nothing.
use native.Mathlib.Omega.{arith}
use Prim.Native.Nat.{ℕ, suc, ◌-◌, ◌<◌, ◌^◌}
use mathlib.Core.Path.{ap, sym, ◌∙◌}
use mathlib.Core.Bool.{Bool, true, false, cond}
use lib.Dec.{ltb}
use lib.IntN.{ℤ, pos, negsuc, sub_ℕ, ◌-ℤ◌}
use mir.Syntax.{w64}
use mir.Val.{SFits}
use mir.Facts.{to_z_pos, to_z-of_z}
use Rattle.text_calendar_spec.proofs.Laws.{epoch_is}
use Rattle.text_calendar.proofs.minutes.from_epoch.Goals as goal

-- a difference of two numbers below 2 ^ 63 fits
fits_by : (a b : ℕ) → a < 2 ^ 63 → b < 2 ^ 63 → (t : Bool) → SFits w64 (cond t (negsuc (b - suc a)) (pos (a - b)))
fits_by a b p q true = record { sfits = omega arith }
fits_by a b p q false = record { sfits = omega arith }

sub_fits : (a b : ℕ) → a < 2 ^ 63 → b < 2 ^ 63 → SFits w64 (sub_ℕ a b)
sub_fits a b p q = fits_by a b p q (ltb a b)

pub overflow_sub-result : goal.overflow_sub-result
overflow_sub-result c = rw (to_z_pos w64 {n = c.args.n} (omega arith)) (sub_fits c.args.n _ (omega arith) (omega arith))

pub returns : goal.returns
returns c =
    to_z-of_z (overflow_sub-result c)
    ∙ ap (λ (z : ℤ). z -ℤ pos 1051898400) (to_z_pos w64 {n = c.args.n} (omega arith))
    ∙ ap (λ (e : ℕ). sub_ℕ c.args.n e) (sym epoch_is)
