-- Each way out follows the rules in their order: the first that fails breaks the block. Assumes nothing.
use mathlib.Core.Path.{◌≡◌, sym, ap, ap₂, ◌∙◌}
use mathlib.Core.Bool.{true, ◌&&◌}
use mathlib.Core.List.{List}
use Prim.Native.Nat.{ℕ}
use lib.Dec.{eqb}
use lib.ListN.{length}
use borrow.Author.Rules.{rules}
use mir.Syntax.{w64}
use mir.Val.{SFits}
use mir.Facts.{to_z-of_z}
use Rattle.general_laws.specs.Bytes.{◌!◌, every}
use Rattle.text_calendar_spec.specs.TimeDigits.{is_time, minute_in, time_check}
use Rattle.text.specs.declared.header.Header.{Header}
use Rattle.text.specs.StartBlock.{is_digit, digit_places, stop_places, digits_of, time_text_of, radars_of, is_start_block, is_radar_list, header_of}
use Rattle.general_laws.proofs.Tests.{and_split}
use Rattle.text_start_block.specs.Read.{start_read, start_front}
use Rattle.text_calendar_spec.proofs.Laws.{checked_minute, checked_invalid}
use Rattle.text_start_block.proofs.Rules.{start_rules}
use Rattle.text_start_block.proofs.read.read_whole.Goals as goal

-- the rules, by the characters of the time
rules_by :
    (block chars : List ℕ) → length block ≡ 32 → chars ≡ time_text_of block →
    is_start_block block
    ≡ (start_front block
    && ((every (λ i. is_digit (chars ! i)) digit_places && every (λ i. eqb (chars ! i) 0x2E) stop_places)
    && (is_time (digits_of chars) && is_radar_list (radars_of block))))
rules_by block chars l e = rw e (start_rules block l)

-- behind digits and stops, the time and the radars are left to look at
rules_left :
    (block chars : List ℕ) → length block ≡ 32 → chars ≡ time_text_of block → start_front block ≡ true →
    (every (λ i. is_digit (chars ! i)) digit_places && every (λ i. eqb (chars ! i) 0x2E) stop_places) ≡ true →
    is_start_block block ≡ (is_time (digits_of chars) && is_radar_list (radars_of block))
rules_left block chars l e f t = simp (rules_by block chars l e, f, t)

pub returns-then-not-is_start_front : goal.returns-then-not-is_start_front
unfolding start_read
returns-then-not-is_start_front c =
    simp (
      start_rules c.args.block.now c.told-block,
      sym c.is_start_front.ensures ∙ c.if-not-is_start_front.true,
    )

pub returns-then-not-has_digits-has_stops : goal.returns-then-not-has_digits-has_stops
unfolding start_read
returns-then-not-has_digits-has_stops c =
    simp (
      rules_by c.args.block.now c.time_text_of-chars.result.now c.told-block c.time_text_of-chars.ensures,
      sym c.is_start_front.ensures ∙ c.if-not-is_start_front.false,
      sym c.has_digits.ensures,
      sym c.has_stops.ensures,
      c.if-not-has_digits-has_stops.true,
    )

pub digits_of-requires : goal.digits_of-requires
digits_of-requires c =
    sym c.has_digits.ensures ∙ (and_split c.has_digits.result c.has_stops.result c.if-not-has_digits-has_stops.false).0

-- the time check was asked once, of the block's digits
pub returns-in_err-minute : goal.returns-in_err-minute
unfolding start_read
returns-in_err-minute c =
    simp (
      c.from_residual.ensures,
      rules_left
          c.args.block.now
          c.time_text_of-chars.result.now
          c.told-block
          c.time_text_of-chars.ensures
          (sym c.is_start_front.ensures ∙ c.if-not-is_start_front.false)
          (sym (ap₂ ◌&&◌ c.has_digits.ensures c.has_stops.ensures) ∙ c.if-not-has_digits-has_stops.false),
      checked_invalid _ (sym (c.time_check-time.ensures ∙ ap time_check c.digits_of.ensures) ∙ c.in_err-minute.was),
    )

-- where it gave a minute, that is the time's
pub header_of-header-requires : goal.header_of-header-requires
header_of-header-requires c =
    let f : SFits w64 c.in_ok-minute.minute = search rules in
    to_z-of_z f
    ∙ (checked_minute _ _ (sym (c.time_check-time.ensures ∙ ap time_check c.digits_of.ensures) ∙ c.in_ok-minute.was)).1
    ∙ ap (λ (t : List ℕ). minute_in (digits_of t)) c.time_text_of-chars.ensures

pub returns-then-not-is_radar_list : goal.returns-then-not-is_radar_list
unfolding start_read header_of
returns-then-not-is_radar_list c =
    simp (
      rules_left
          c.args.block.now
          c.time_text_of-chars.result.now
          c.told-block
          c.time_text_of-chars.ensures
          (sym c.is_start_front.ensures ∙ c.if-not-is_start_front.false)
          (sym (ap₂ ◌&&◌ c.has_digits.ensures c.has_stops.ensures) ∙ c.if-not-has_digits-has_stops.false),
      (checked_minute _ _ (sym (c.time_check-time.ensures ∙ ap time_check c.digits_of.ensures) ∙ c.in_ok-minute.was)).0,
      ap (λ (h : Header). is_radar_list h.radars) (sym c.header_of-header.ensures) ∙ sym c.is_radar_list.ensures ∙ c.if-not-is_radar_list.true,
    )

pub returns : goal.returns
unfolding start_read header_of
returns c =
    simp (
      rules_left
          c.args.block.now
          c.time_text_of-chars.result.now
          c.told-block
          c.time_text_of-chars.ensures
          (sym c.is_start_front.ensures ∙ c.if-not-is_start_front.false)
          (sym (ap₂ ◌&&◌ c.has_digits.ensures c.has_stops.ensures) ∙ c.if-not-has_digits-has_stops.false),
      (checked_minute _ _ (sym (c.time_check-time.ensures ∙ ap time_check c.digits_of.ensures) ∙ c.in_ok-minute.was)).0,
      ap (λ (h : Header). is_radar_list h.radars) (sym c.header_of-header.ensures) ∙ sym c.is_radar_list.ensures ∙ c.if-not-is_radar_list.false,
      c.header_of-header.ensures,
    )
