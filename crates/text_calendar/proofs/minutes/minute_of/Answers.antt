-- The minutes before the moment, counted from the epoch. Assumes nothing.
use borrow.Author.Rules.{rules}
use native.Mathlib.Omega.{arith}
use mathlib.Core.Path.{ap, ◌∙◌}
use Prim.Native.Nat.{ℕ}
use lib.IntN.{sub_ℕ}
use mir.Syntax.{w64}
use mir.Val.{SFits}
use mir.Facts.{to_z-of_z}
use Rattle.text_calendar_spec.specs.Minutes.{epoch, minute_of}
use Rattle.text_calendar_spec.proofs.Laws.{in_calendar, minute_fits}
use Rattle.text_calendar.proofs.minutes.minute_of.Goals as goal

pub from_epoch-requires : goal.from_epoch-requires
from_epoch-requires c =
    let t = c.args.t in
    omega (
      arith,
      c.minutes_before.ensures,
      minute_fits _ _ _ _ _ (in_calendar t.year t.month t.day t.hour t.minute c.requires),
    )

pub returns : goal.returns
unfolding minute_of
returns c =
    let f : SFits w64 c.from_epoch.result = search rules in
    to_z-of_z f ∙ c.from_epoch.ensures ∙ ap (λ (n : ℕ). sub_ℕ n epoch) c.minutes_before.ensures
