-- The months that are past and the rest make the day. Assumes nothing.
use native.Mathlib.Omega.{arith}
use mathlib.Core.Path.{◌≡◌}
use Prim.Native.Nat.{◌+◌, ◌-◌}
use Rattle.text_calendar_spec.specs.Minutes.{days_of_months}
use Rattle.text_calendar_spec.proofs.Laws.{no_months, month_step, in_months, moment_found}
use Rattle.text_calendar.proofs.from_year_0.moment_in.Goals as goal

pub loop-rest-init : goal.loop-rest-init
loop-rest-init c = (omega arith, omega (arith, no_months c.args.year))

pub returns-then-rest-days : goal.returns-then-rest-days
returns-then-rest-days c =
    let a = c.args in
    let at = c.loop-rest in
    moment_found a.year at.past a.day at.rest a.n at.invariant.1 (omega (arith, c.days_in-days.ensures)) at.invariant.0

pub loop-rest-preserved : goal.loop-rest-preserved
loop-rest-preserved c =
    let a = c.args in
    let at = c.loop-rest in
    let e : days_of_months a.year (at.past + 1) + (at.rest - c.days_in-days.result) ≡ a.day =
    omega (arith, c.days_in-days.ensures, month_step a.year at.past) in
    (in_months a.year (at.past + 1) a.day (omega arith) c.requires, e)
