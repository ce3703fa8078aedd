-- The modes are right where those of the places that are left are. Assumes nothing.
use mathlib.Core.Path.{◌≡◌, sym, ◌∙◌}
use mathlib.Core.Logic.{inl, inr}
use Prim.Native.Nat.{ℕ}
use borrow.Author.Rules.{rules}
use mathlib.Core.List.{List}
use lib.ListN.{length}
use Rattle.text.specs.WriterInput.{is_mode_for, are_modes_for}
use Rattle.text_radars.proofs.Pairs.{pairs, passed, failed, ended, of_eight}
use Rattle.text_radars.proofs.places.are_modes_for.Goals as goal

said : (rs ms : List ℕ) → length rs ≡ 8 → length ms ≡ 8 → pairs is_mode_for rs ms ≡ are_modes_for rs ms
unfolding are_modes_for
said rs ms p q = of_eight is_mode_for rs ms p q

pub returns-then-not-is_mode_for : goal.returns-then-not-is_mode_for
returns-then-not-is_mode_for c =
    failed _ _ _ _ _ _ _ c.in-Some.ensures.steps (sym c.is_mode_for.ensures ∙ c.if-not-is_mode_for.true)
    ∙ c.loop-radar.invariant
    ∙ said c.args.radars c.args.modes (search rules) (search rules)

pub loop-radar-preserved : goal.loop-radar-preserved
loop-radar-preserved c =
    passed _ _ _ _ _ _ _ c.in-Some.ensures.steps (sym c.is_mode_for.ensures ∙ c.if-not-is_mode_for.false)
    ∙ c.loop-radar.invariant

pub returns : goal.returns
returns c =
    ended _ _ _ (elim c.in-None.ensures.steps [ inl p ↦ inl p.1.0 | inr p ↦ inr p.1.0 ])
    ∙ c.loop-radar.invariant
    ∙ said c.args.radars c.args.modes (search rules) (search rules)
