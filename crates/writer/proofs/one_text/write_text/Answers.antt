-- Three stretches put one behind the other; the check byte is that of the block among them. Assumes nothing.
use mathlib.Core.Path.{ap, ◌∙◌}
use mathlib.Core.List.{[], ◌∷◌}
use Prim.Native.Nat.{◌+◌, ◌-◌}
use lib.ListN.{length, take, drop}
use Rattle.general_laws.specs.Bytes.{put_at}
use Rattle.text.specs.Text.{check_byte}
use Rattle.writer.proofs.PutTexts.{text_put}
use Rattle.writer.proofs.one_text.write_text.Goals as goal

pub returns : goal.returns
returns c =
    let a = c.args in
    let n = length a.contents.now in
    let two = c.put-2.ensures ∙ ap (λ l. put_at l 8 a.contents.now) c.put.ensures in
    c.put-3.ensures
    ∙ ap (λ l. put_at l (8 + n) (0xFE ∷ c.check_byte-check.result ∷ 0xFF ∷ [])) two
    ∙ text_put a.output.now a.contents.now a.picture a.kind c.requires c.check_byte-check.result
    (c.check_byte-check.ensures ∙ ap (λ l. check_byte (take (8 + n - 5) (drop 5 l))) two)
