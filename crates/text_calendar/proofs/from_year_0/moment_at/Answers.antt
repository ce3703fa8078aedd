-- The year, then the day in it. Assumes nothing.
use native.Mathlib.Omega.{arith}
use mathlib.Core.Path.{◌≡◌}
use Prim.Native.Nat.{ℕ, ◌/◌, ◌<◌}
use Rattle.text_calendar_spec.specs.Minutes.{year_at, moment_at}
use Rattle.text_calendar_spec.proofs.Laws.{InYear, year_lies}
use Rattle.text_calendar.proofs.from_year_0.moment_at.Goals as goal

lies : (n year : ℕ) → year ≡ year_at (n / 1440) → n < 5259492000 → InYear (n / 1440) year
lies n year e h = rw e (year_lies (n / 1440) (omega arith))

pub returns : goal.returns
unfolding moment_at
returns c = rw (c.moment_in.ensures, c.days_before_year-before.ensures, c.year_at-year.ensures)

pub days_before_year-before-requires : goal.days_before_year-before-requires
days_before_year-before-requires c = omega (arith, (lies _ _ c.year_at-year.ensures c.requires).known)

pub overflow_sub-day : goal.overflow_sub-day
overflow_sub-day c = omega (arith, c.days_before_year-before.ensures, (lies _ _ c.year_at-year.ensures c.requires).begins)

pub moment_in-requires : goal.moment_in-requires
moment_in-requires c = rw c.days_before_year-before.ensures (lies _ _ c.year_at-year.ensures c.requires).ends
