-- Each refusal by the test before it, in the order of the definition; the part's bytes at the front by the call. Assumes nothing.
use mathlib.Core.Path.{◌≡◌, sym, ap, ap₂, ◌∙◌}
use mathlib.Core.Bool.{true, false, ◌||◌}
use mathlib.Core.List.{List, ◌++◌}
use Prim.Native.Nat.{ℕ, ◌≤◌}
use native.Mathlib.Omega.{arith}
use lib.Dec.{eqb, ltb}
use lib.ListN.{length, drop}
use borrow.Author.Rules.{rules}
use borrow.Author.Tests.{le-ltb, lt-ltb, not-true, not-false}
use Rattle.std.specs.Prelude.{Ok}
use Rattle.text.specs.Kinds.{is_part_number, part_length}
use Rattle.text.specs.Part.{part_bytes}
use Rattle.text.specs.WriterInput.{is_writer_input}
use Rattle.text.specs.declared.header.WriterHeader.{WriterHeader}
use Rattle.general_laws.proofs.Tests.{out_of}
use Rattle.writer_spec.specs.Written.{is_payload, writes_no_echo, written_part, writes, bytes_written, WriteOutcome}
use Rattle.writer.specs.Returned.{answer_of, count_of, outcome_of}
use Rattle.writer.proofs.PutTexts.{sets_front, payload_long, written_long}
use Rattle.writer.proofs.part.write_part.Goals as goal

-- the test of a part's number
outside : (p : ℕ) → eqb p 0 || ltb 3 p ≡ true → is_part_number p ≡ false
unfolding is_part_number
outside p h = not-true _ (out_of 3 p ∙ h)

inside : (p : ℕ) → eqb p 0 || ltb 3 p ≡ false → is_part_number p ≡ true
unfolding is_part_number
inside p h = not-false _ (out_of 3 p ∙ h)

-- what is sent where nothing is refused
taken :
    (p : ℕ) (h : WriterHeader) (modes payload output : List ℕ) {n : ℕ} {last : List ℕ} → is_part_number p ≡ true → is_writer_input h modes ≡ true → is_payload p payload ≡ true →
    n ≡ part_length p (writes_no_echo p payload) → n ≤ length output → last ≡ part_bytes (written_part p h modes payload) ++ drop n output →
    outcome_of (Ok n) last ≡ writes p h modes payload output
unfolding writes outcome_of answer_of count_of
taken p h modes payload output {n} {last} known input payload_long long room e =
    let most : ltb (length output) (part_length p (writes_no_echo p payload)) ≡ false = le-ltb (length output) (part_length p (writes_no_echo p payload)) (omega arith) in
    simp (known, input, payload_long, most)
    (ap₂ written_as long (e ∙ ap (λ m. part_bytes (written_part p h modes payload) ++ drop m output) long))
  where
    written_as : ℕ → List ℕ → WriteOutcome
    written_as m l = record { answer = bytes_written m; count = m; output = l }

pub returns-then-part : goal.returns-then-part
unfolding writes outcome_of answer_of count_of
returns-then-part c = simp (outside c.args.part c.if-part.true)

pub returns-then-not-is_writer_input : goal.returns-then-not-is_writer_input
unfolding writes outcome_of answer_of count_of
returns-then-not-is_writer_input c = simp (inside c.args.part c.if-part.false, sym c.is_writer_input.ensures ∙ c.if-not-is_writer_input.true)

pub returns-then-not-is_payload : goal.returns-then-not-is_payload
unfolding writes outcome_of answer_of count_of
returns-then-not-is_payload c =
    simp (
      inside c.args.part c.if-part.false,
      sym c.is_writer_input.ensures ∙ c.if-not-is_writer_input.false,
      sym c.is_payload.ensures ∙ c.if-not-is_payload.true,
    )

pub returns-then-output-long : goal.returns-then-output-long
unfolding writes outcome_of answer_of count_of
returns-then-output-long c =
    let a = c.args in
    let long = c.part_length-long.ensures ∙ ap (part_length a.part) c.writes_no_echo-noecho.ensures in
    simp (
      inside a.part c.if-part.false,
      sym c.is_writer_input.ensures ∙ c.if-not-is_writer_input.false,
      sym c.is_payload.ensures ∙ c.if-not-is_payload.false,
      lt-ltb (length a.output.now) (part_length a.part (writes_no_echo a.part a.payload.now)) (omega (arith, long, c.if-output-long.true)),
    )

pub write_taken-requires : goal.write_taken-requires
write_taken-requires c =
    let a = c.args in
    record {
      part_value = inside a.part c.if-part.false;
      modes_value = sym c.is_writer_input.ensures ∙ c.if-not-is_writer_input.false;
      payload_value = sym c.is_payload.ensures ∙ c.if-not-is_payload.false;
      noecho_value = c.writes_no_echo-noecho.ensures;
      noecho_in_bounds = omega (arith, c.part_length-long.ensures, c.if-output-long.false);
    }

pub returns : goal.returns
returns c =
    let a = c.args in
    let bytes = part_bytes (written_part a.part a.header a.modes a.payload.now) in
    let known = inside a.part c.if-part.false in
    let rule = sym c.is_payload.ensures ∙ c.if-not-is_payload.false in
    let size = c.part_length-long.ensures ∙ ap (part_length a.part) c.writes_no_echo-noecho.ensures in
    let eight : length a.header.radars ≡ 8 = search (rules, c.well_formed) in
    let modal : length a.modes ≡ 8 = search (rules, c.well_formed) in
    let long = written_long a.part a.header a.modes a.payload.now known eight modal (payload_long a.part a.payload.now rule) ∙ sym size in
    let room = c.if-output-long.false in
    taken a.part a.header a.modes a.payload.now a.output.now known (sym c.is_writer_input.ensures ∙ c.if-not-is_writer_input.false) rule size room
    (c.write_taken.ensures ∙ sets_front a.output.now bytes (omega (arith, long, room)) ∙ ap (λ n. bytes ++ drop n a.output.now) long)
