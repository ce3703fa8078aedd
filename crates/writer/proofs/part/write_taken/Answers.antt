-- The start text, the data texts and the end text stand one behind the other; with NO ECHO there are no data texts. Assumes nothing.
use mathlib.Core.Path.{◌≡◌, sym, ap, ap₂, ◌∙◌}
use mathlib.Core.Bool.{Bool, true, false}
use mathlib.Core.List.{List, [], ◌∷◌, ◌++◌}
use Prim.Native.Nat.{ℕ, ◌+◌, ◌-◌, ◌≤◌}
use native.Mathlib.Omega.{arith}
use lib.Dec.{leb}
use lib.ListN.{length, length-drop}
use lib.Seq.{sets, length-sets}
use borrow.Author.Rules.{rules}
use borrow.Author.Tests.{leb-true}
use borrow.Author.Rules.{part_to_end}
use Rattle.text_calendar_spec.specs.Minutes.{is_minute}
use Rattle.text.specs.Text.{text_of}
use Rattle.text.specs.Pictures.{is_picture_code}
use Rattle.text.specs.Kinds.{kind_of, data_texts, part_length}
use Rattle.text.specs.StartBlock.{is_radar_list}
use Rattle.text.specs.Part.{texts_of, part_bytes}
use Rattle.text.specs.WriterInput.{is_writer_header, are_modes_for, is_writer_input}
use Rattle.text.specs.declared.header.WriterHeader.{WriterHeader}
use Rattle.general_laws.proofs.Tests.{and_split, rule_at}
use Rattle.text_laws.proofs.Framing.{text_length_lem}
use Rattle.writer_spec.specs.Written.{block_of, data_blocks, start_contents, end_contents, writes_no_echo, written_part}
use Rattle.writer.proofs.PutTexts.{sets_lent, part_long, part_put, payload_long, no_datas, start_long, end_long, data_bytes_long}
use Rattle.writer.proofs.part.write_taken.Goals.{then-not-noecho, else-not-noecho}
use Rattle.writer.proofs.part.write_taken.Goals as goal

-- what a start block's contents ask of a header
asked : (h : WriterHeader) (modes : List ℕ) → is_writer_input h modes ≡ true → (is_minute h.minute ≡ true) × (h.clock ≤ 16383)
unfolding is_writer_input is_writer_header
asked h modes t =
    let rules = rule_at (is_picture_code h.picture ∷ leb h.clock 16383 ∷ is_minute h.minute ∷ is_radar_list h.radars ∷ []) (and_split (is_writer_header h) (are_modes_for h.radars modes) t).0 in
    (rules 2, leb-true h.clock 16383 (rules 1))

module _ (output first : List ℕ) (part picture : ℕ) (payload : List ℕ) (no_echo : Bool) {now : List ℕ} where
  -- with data texts, and with NO ECHO
  with_datas :
      no_echo ≡ false → now ≡ sets output 40 (texts_of (data_blocks part picture 1 (data_texts part false) payload)) → output ≡ first →
      now ≡ sets first 40 (texts_of (data_blocks part picture 1 (data_texts part no_echo) payload))
  with_datas h e f = e ∙ ap₂ (λ l t. sets l 40 (texts_of (data_blocks part picture 1 (data_texts part t) payload))) f (sym h)

  without_datas :
      no_echo ≡ true → no_echo ≡ writes_no_echo part payload → now ≡ output → output ≡ first →
      now ≡ sets first 40 (texts_of (data_blocks part picture 1 (data_texts part no_echo) payload))
  unfolding texts_of data_blocks
  without_datas t w e f =
      let none : data_texts part no_echo ≡ 0 = ap (data_texts part) t ∙ no_datas part payload (sym w ∙ t) in
      e ∙ f ∙ sym (ap (λ n. sets first 40 (texts_of (data_blocks part picture 1 n payload))) none)

pub start_contents-start-requires : goal.start_contents-start-requires
start_contents-start-requires c =
    let (minute, clock) = asked c.args.header c.args.modes c.requires.modes_value in
    record { minute_value = minute; clock_bound = clock }

pub write_text-requires : goal.write_text-requires
write_text-requires c =
    let a = c.args in
    let eight : length a.header.radars ≡ 8 = search (rules, c.well_formed) in
    omega (
      arith,
      ap length c.start_contents-start.ensures,
      start_long a.noecho a.header a.modes eight,
      part_long a.part a.noecho c.requires.part_value,
      c.requires.noecho_in_bounds,
    )

pub write_datas-requires : goal.write_datas-requires
write_datas-requires c =
    let a = c.args in
    let same : length c.write_text.new.output ≡ length a.output.now = ap length c.write_text.ensures ∙ simp length-sets in
    record {
      part_value = c.requires.part_value;
      payload_len = payload_long a.part a.payload.now c.requires.payload_value;
      part_in_bounds =
          omega (
            arith,
            same,
            ap (part_length a.part) (c.if-not-noecho.true),
            part_long a.part false c.requires.part_value,
            c.requires.noecho_in_bounds,
          );
    }

pub overflow_sub-at : goal.overflow_sub-at
overflow_sub-at c =
    omega (arith, c.part_length-at.ensures, part_long c.args.part c.args.noecho c.requires.part_value)

pub write_text-requires-2 : goal.write_text-requires-2
write_text-requires-2 c =
    let a = c.args in
    let output = c.if-not-noecho.output in
    let at = c.part_length-at.result - 40 in
    let eight : length a.modes ≡ 8 = search (rules, c.well_formed) in
    omega (
      arith,
      ap length c.end_contents-end.ensures,
      end_long a.modes eight,
      ap length (part_to_end output at),
      length-drop at output,
      c.if-not-noecho.auto.output,
      c.part_length-at.ensures,
      part_long a.part a.noecho c.requires.part_value,
      c.requires.noecho_in_bounds,
    )

pub returns : goal.returns
unfolding part_bytes written_part
returns c =
    let a = c.args in
    let picture = a.header.picture in
    let output = c.if-not-noecho.output in
    let at = c.part_length-at.result - 40 in
    let eight : length a.header.radars ≡ 8 = search (rules, c.well_formed) in
    let block = block_of picture (kind_of a.part 0) (start_contents a.noecho a.header a.modes) in
    let datas = texts_of (data_blocks a.part picture 1 (data_texts a.part a.noecho) a.payload.now) in
    let end = text_of (block_of picture (kind_of a.part 11) (end_contents a.modes)) in
    let first =
    c.write_text.ensures
    ∙ ap₂ (λ k s. sets a.output.now 0 (text_of (block_of picture k s))) c.kind_of.ensures c.start_contents-start.ensures in
    let joined : output ≡ sets (sets a.output.now 0 (text_of block)) 40 datas =
    elim c.if-not-noecho.branch [
      | then-not-noecho w ↦ with_datas _ _ a.part picture a.payload.now a.noecho w.if-not-noecho.true (w.output-is ∙ w.write_datas.ensures) first
      | else-not-noecho w ↦ without_datas _ _ a.part picture a.payload.now a.noecho w.if-not-noecho.false c.requires.noecho_value w.output-is first
    ] in
    let place : at ≡ 40 + length datas =
    omega (
      arith,
      c.part_length-at.ensures,
      part_long a.part a.noecho c.requires.part_value,
      data_bytes_long a.part picture a.payload.now a.noecho c.requires.part_value (payload_long a.part a.payload.now c.requires.payload_value),
    ) in
    sets_lent output at (text_of (block_of picture c.kind_of-2.result c.end_contents-end.result)) c.write_text-2.ensures
    ∙ ap₂ (λ k e. sets output at (text_of (block_of picture k e))) c.kind_of-2.ensures c.end_contents-end.ensures
    ∙ ap₂ (λ l n. sets l n end) joined place
    ∙ part_put a.output.now (text_of block) datas end (omega (arith, text_length_lem block, start_long a.noecho a.header a.modes eight))
    ∙ ap (λ t. sets a.output.now 0 (text_of (block_of picture (kind_of a.part 0) (start_contents t a.header a.modes)) ++ (texts_of (data_blocks a.part picture 1 (data_texts a.part t) a.payload.now) ++ end))) c.requires.noecho_value
