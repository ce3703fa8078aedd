-- A sum that fits and is not negative. Assumes nothing.
use native.Mathlib.Omega.{arith}
use mathlib.Core.Path.{◌≡◌, ap, sym, ◌∙◌}
use mathlib.Core.Bool.{true}
use lib.IntN.{ℤ, pos, ◌+ℤ◌, nat_abs}
use mir.Syntax.{w64}
use mir.Val.{SFits, to_z, of_z}
use mir.Facts.{to_z-of_z}
use Rattle.text_calendar_spec.specs.Minutes.{is_minute}
use Rattle.text_calendar_spec.proofs.Laws.{from_year0, sum_is, moved_up, below}
use Rattle.text_calendar.proofs.minutes.from_year_0.Goals as goal

-- the sum fits
sum_fits : (z : ℤ) → is_minute z ≡ true → SFits w64 (z +ℤ pos 1051898400)
sum_fits z h = rw (sum_is z h) (record { sfits = omega (arith, below z h) })

-- what the machine reads back
read : (z : ℤ) → SFits w64 z → is_minute z ≡ true → to_z w64 (of_z w64 (to_z w64 (of_z w64 z) +ℤ pos 1051898400)) ≡ pos (from_year0 z)
read z f h = rw (to_z-of_z f) (to_z-of_z (sum_fits z h) ∙ sum_is z h)

pub overflow_add-result : goal.overflow_add-result
overflow_add-result c = rw (to_z-of_z c.ranges.minute) (sum_fits c.args.minute c.requires)

pub overflow_cast-result : goal.overflow_cast-result
overflow_cast-result c =
    rw (read c.args.minute c.ranges.minute c.requires) (tt, record { fits = omega (arith, below c.args.minute c.requires) })

pub returns : goal.returns
returns c = ap nat_abs (read c.args.minute c.ranges.minute c.requires) ∙ sym (moved_up c.args.minute c.requires)
