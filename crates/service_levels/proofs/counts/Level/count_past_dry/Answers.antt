-- Byte by byte, or all dry bytes at once. Assumes nothing.
use mathlib.Core.Path.{sym, ◌∙◌}
use Rattle.service_levels.proofs.Counting.{dry_bytes}
use Rattle.service_levels.proofs.counts.Level.count_past_dry.Goals as goal

pub returns : goal.returns
returns c =
    let a = c.args in
    let dry = sym c.are_zero.ensures ∙ c.if-not-are_zero.false in
    sym (dry_bytes a.bytes.now dry a.self.number c.requires)
