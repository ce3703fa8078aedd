-- The modes that are left, put from place i on, give the definition. Assumes nothing.
use mathlib.Core.Path.{◌≡◌, ap, ◌∙◌}
use mathlib.Core.List.{List, ◌++◌, map}
use Prim.Native.Nat.{ℕ}
use native.Mathlib.Omega.{arith}
use lib.ListN.{length, drop, replicate, length-map}
use lib.Seq.{sets}
use borrow.Author.Rules.{rules}
use Rattle.text.specs.StartBlock.{mode_byte}
use Rattle.text.specs.Part.{zeros}
use Rattle.writer_spec.specs.Written.{end_contents}
use Rattle.writer.proofs.PutTexts.{sets_front}
use Rattle.writer.proofs.contents.end_contents.Goals as goal

-- all of them put from the first place on
first : (modes : List ℕ) → length modes ≡ 8 → sets (replicate 29 0) 0 (map mode_byte modes) ≡ end_contents modes
unfolding end_contents zeros
first modes h =
    let long : length (map mode_byte modes) ≡ 8 = length-map modes mode_byte ∙ h in
    sets_front (replicate 29 0) (map mode_byte modes) (omega arith) ∙ ap (λ n. map mode_byte modes ++ drop n (replicate 29 0)) long

pub loop-i-init : goal.loop-i-init
loop-i-init c = first c.args.modes (search (rules, c.well_formed))
