-- Each radar follows the one before it where each of those that are left does. Assumes nothing.
use mathlib.Core.Path.{◌≡◌, sym, ◌∙◌}
use mathlib.Core.Logic.{inl, inr}
use mathlib.Core.Bool.{true}
use mathlib.Core.List.{List}
use Prim.Native.Nat.{ℕ}
use borrow.Author.Rules.{rules}
use lib.ListN.{length, drop}
use Rattle.general_laws.specs.Bytes.{◌!◌}
use Rattle.text.specs.StartBlock.{follows, is_radar_code, is_radar_list}
use Rattle.text.proofs.Laws.{radars_by_place}
use Rattle.text_radars.proofs.Pairs.{pairs, passed, failed, ended, of_next}
use Rattle.text_radars.proofs.places.is_radar_list.Goals as goal

-- the rule of the list, where its first byte is a radar code
said : (rs : List ℕ) → length rs ≡ 8 → is_radar_code (rs ! 0) ≡ true → pairs follows rs (drop 1 rs) ≡ is_radar_list rs
said rs h k = rw (radars_by_place rs h, k) (of_next follows rs h)

pub returns-then-not-is_radar_code : goal.returns-then-not-is_radar_code
returns-then-not-is_radar_code c =
    rw (
      radars_by_place c.args.radars (search rules),
      sym c.is_radar_code.ensures ∙ c.if-not-is_radar_code.true,
    )

pub returns-then-not-radar_follows : goal.returns-then-not-radar_follows
returns-then-not-radar_follows c =
    failed _ _ _ _ _ _ _ c.in-Some.ensures.steps (sym c.radar_follows.ensures ∙ c.if-not-radar_follows.true)
    ∙ c.loop-before.invariant
    ∙ said c.args.radars (search rules) (sym c.is_radar_code.ensures ∙ c.if-not-is_radar_code.false)

pub loop-before-preserved : goal.loop-before-preserved
loop-before-preserved c =
    passed _ _ _ _ _ _ _ c.in-Some.ensures.steps (sym c.radar_follows.ensures ∙ c.if-not-radar_follows.false)
    ∙ c.loop-before.invariant

pub returns : goal.returns
returns c =
    ended _ _ _ (elim c.in-None.ensures.steps [ inl p ↦ inl p.1.0 | inr p ↦ inr p.1.0 ])
    ∙ c.loop-before.invariant
    ∙ said c.args.radars (search rules) (sym c.is_radar_code.ensures ∙ c.if-not-is_radar_code.false)
