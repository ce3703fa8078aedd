-- Each way out follows the rules in their order: the first that fails breaks the block. Assumes nothing.
use mathlib.Core.Path.{sym, ◌∙◌}
use Rattle.text_end_block.specs.Read.{end_read}
use Rattle.text_end_block.proofs.Rules.{end_rules}
use Rattle.text_end_block.proofs.read.read_whole.Goals as goal

pub returns-then-not-block-known : goal.returns-then-not-block-known
unfolding end_read
returns-then-not-block-known c =
    let a = c.args in
    simp (
      end_rules a.radars a.block.now c.told-block,
      sym c.is_picture_code.ensures,
      sym c.is_end_kind.ensures,
      c.if-not-block-known.true,
    )

pub returns-then-not-are_mode_bytes : goal.returns-then-not-are_mode_bytes
unfolding end_read
returns-then-not-are_mode_bytes c =
    let a = c.args in
    simp (
      end_rules a.radars a.block.now c.told-block,
      sym c.is_picture_code.ensures,
      sym c.is_end_kind.ensures,
      c.if-not-block-known.false,
      sym c.are_mode_bytes.ensures ∙ c.if-not-are_mode_bytes.true,
    )

pub returns-then-not-is_zero_behind : goal.returns-then-not-is_zero_behind
unfolding end_read
returns-then-not-is_zero_behind c =
    let a = c.args in
    simp (
      end_rules a.radars a.block.now c.told-block,
      sym c.is_picture_code.ensures,
      sym c.is_end_kind.ensures,
      c.if-not-block-known.false,
      sym c.are_mode_bytes.ensures ∙ c.if-not-are_mode_bytes.false,
      sym c.is_zero_behind.ensures ∙ c.if-not-is_zero_behind.true,
    )

pub returns : goal.returns
unfolding end_read
returns c =
    let a = c.args in
    simp (
      c.modes_of.ensures,
      end_rules a.radars a.block.now c.told-block,
      sym c.is_picture_code.ensures,
      sym c.is_end_kind.ensures,
      c.if-not-block-known.false,
      sym c.are_mode_bytes.ensures ∙ c.if-not-are_mode_bytes.false,
      sym c.is_zero_behind.ensures ∙ c.if-not-is_zero_behind.false,
    )
