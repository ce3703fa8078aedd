-- A minute of the years is moved to 1 January 0000; any other gives no moment. Assumes nothing.
use native.Mathlib.Omega.{arith}
use Prim.Native.Nat.{ℕ}
use mathlib.Core.Path.{◌≡◌, sym, ap, ◌∙◌}
use mathlib.Core.Bool.{Bool}
use lib.IntN.{ℤ, pos, ◌+ℤ◌, nat_abs}
use mir.Syntax.{w64}
use mir.Val.{SFits, to_z, of_z}
use mir.Facts.{to_z-of_z}
use Rattle.text_calendar_spec.specs.Minutes.{epoch, is_minute, moment_of}
use Rattle.text_calendar_spec.proofs.Laws.{moved_up, below}
use Rattle.text_calendar.proofs.minutes.moment_of.Goals as goal

-- a signed argument is read back from its bits
asked : (z : ℤ) → SFits w64 z → (r t : Bool) → r ≡ is_minute (to_z w64 (of_z w64 z)) → r ≡ t → is_minute z ≡ t
asked z f r t e h = ap is_minute (sym (to_z-of_z f)) ∙ sym e ∙ h

said : (z : ℤ) → SFits w64 z → (n : ℕ) → n ≡ nat_abs (to_z w64 (of_z w64 z) +ℤ pos epoch) → n ≡ nat_abs (z +ℤ pos epoch)
said z f n e = e ∙ ap (λ (y : ℤ). nat_abs (y +ℤ pos epoch)) (to_z-of_z f)

pub moment_at-requires : goal.moment_at-requires
moment_at-requires c =
    let z = c.args.minute in
    let h = asked z c.ranges.minute _ _ c.is_minute.ensures c.if-is_minute.true in
    omega (arith, said z c.ranges.minute _ c.from_year_0.ensures, moved_up z h, below z h)

pub returns-then-is_minute : goal.returns-then-is_minute
unfolding moment_of
returns-then-is_minute c =
    let z = c.args.minute in
    rw (
      c.moment_at.ensures,
      said z c.ranges.minute _ c.from_year_0.ensures,
      asked z c.ranges.minute _ _ c.is_minute.ensures c.if-is_minute.true,
    )

pub returns : goal.returns
unfolding moment_of
returns c = rw (asked c.args.minute c.ranges.minute _ _ c.is_minute.ensures c.if-is_minute.false)
