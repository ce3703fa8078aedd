-- The months before i are added. Assumes nothing.
use native.Mathlib.Omega.{arith}
use mathlib.Core.Path.{◌≡◌, sym, ap, ◌∙◌}
use Prim.Native.Nat.{◌+◌}
use Rattle.text_calendar_spec.specs.Minutes.{days_of_months}
use Rattle.text_calendar_spec.proofs.Laws.{month_step, month_most, no_months}
use Rattle.text_calendar.proofs.from_year_0.days_of_months.Goals as goal

pub loop-i-init : goal.loop-i-init
loop-i-init c = (sym (no_months c.args.year), omega arith)

pub overflow_add-days : goal.overflow_add-days
overflow_add-days c =
    omega (arith, c.days_in-days.ensures, month_most c.args.year (c.loop-i.i + 1))

pub loop-i-preserved : goal.loop-i-preserved
loop-i-preserved c =
    let y = c.args.year in
    let i = c.loop-i.i in
    (omega (arith, c.days_in-days.ensures, month_step y i), omega (arith, c.days_in-days.ensures, month_most y (i + 1)))

pub returns : goal.returns
returns c =
    let e : c.loop-i.i ≡ c.args.count = omega arith in
    c.loop-i.invariant.0 ∙ ap (days_of_months c.args.year) e
