-- Years, months and days together. Assumes nothing.
use native.Mathlib.Omega.{arith}
use mathlib.Core.Path.{◌≡◌}
use mathlib.Core.Bool.{true}
use Prim.Native.Nat.{◌-◌}
use Rattle.text_calendar_spec.specs.Calendar.{is_in_calendar}
use Rattle.text_calendar_spec.specs.Minutes.{day_of}
use Rattle.text_calendar_spec.specs.declared.time.Moment.{Moment}
use Rattle.text_calendar_spec.proofs.Laws.{InCalendar, in_calendar, month_most, years_most, months_most}
use Rattle.text_calendar.proofs.from_year_0.day_of.Goals as goal

known : (t : Moment) → is_in_calendar t ≡ true → InCalendar t.year t.month t.day t.hour t.minute
known t h = in_calendar t.year t.month t.day t.hour t.minute h

pub days_before_year-years-requires : goal.days_before_year-years-requires
days_before_year-years-requires c = omega (arith, (known c.args.t c.requires).year)

pub overflow_sub-t : goal.overflow_sub-t
overflow_sub-t c = (known c.args.t c.requires).month_least

pub days_of_months-months-requires : goal.days_of_months-months-requires
days_of_months-months-requires c = omega (arith, (known c.args.t c.requires).month_most)

pub overflow_add-result : goal.overflow_add-result
overflow_add-result c =
    let t = c.args.t in
    let r = known t c.requires in
    omega (
      arith,
      r.year,
      r.month_most,
      c.days_before_year-years.ensures,
      c.days_of_months-months.ensures,
      years_most t.year,
      months_most t.year (t.month - 1),
    )

pub overflow_sub-result : goal.overflow_sub-result
overflow_sub-result c = (known c.args.t c.requires).day_least

pub overflow_add-result-2 : goal.overflow_add-result-2
overflow_add-result-2 c =
    let t = c.args.t in
    let r = known t c.requires in
    omega (
      arith,
      r.year,
      r.month_most,
      r.day_most,
      month_most t.year t.month,
      c.days_before_year-years.ensures,
      c.days_of_months-months.ensures,
      years_most t.year,
      months_most t.year (t.month - 1),
    )

pub returns : goal.returns
unfolding day_of
returns c = omega (arith, c.days_before_year-years.ensures, c.days_of_months-months.ensures)
