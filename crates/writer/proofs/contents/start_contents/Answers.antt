-- Status bytes and clock, time and radars, put one behind the other. Assumes nothing.
use mathlib.Core.Path.{◌≡◌, sym, ap, ap₂, ◌∙◌}
use mathlib.Core.Bool.{Bool, true}
use mathlib.Core.List.{List, ◌∷◌, ◌++◌}
use Prim.Native.Nat.{ℕ, ◌<◌, ◌≤◌}
use lib.Dec.{leb}
use lib.IntN.{ℤ}
use lib.ListN.{length, replicate}
use borrow.Author.Rules.{rules}
use borrow.Author.Tests.{leb-true}
use mir.Syntax.{w64}
use mir.Val.{SFits, to_z, of_z}
use mir.Facts.{to_z-of_z}
use Rattle.general_laws.specs.Bytes.{◌!◌, every, put_at}
use Rattle.text_calendar_spec.specs.Minutes.{is_minute}
use Rattle.text_calendar_spec.specs.TimeDigits.{is_time, digits_at}
use Rattle.text.specs.StartBlock.{mode_byte, clock_bytes}
use Rattle.text.specs.EndBlock.{highest}
use Rattle.text.specs.declared.header.WriterHeader.{WriterHeader}
use Rattle.general_laws.proofs.Places.{by_place}
use Rattle.general_laws.proofs.Tests.{and_split, every_at}
use Rattle.text_calendar_spec.proofs.Laws.{minute_kept}
use Rattle.writer_spec.specs.Written.{status_byte, time_text, start_contents}
use Rattle.writer.proofs.contents.start_contents.Goals.{then-noecho, else-noecho}
use Rattle.writer.proofs.contents.start_contents.Goals as goal

module _ (no_echo : Bool) (h : WriterHeader) (modes : List ℕ) (eight : length h.radars ≡ 8) where
  -- status bytes and clock; then the time; then the radars, put into 29 zeros
  abbrev front : List ℕ → List ℕ → List ℕ → List ℕ
  front status time radars = put_at (put_at (put_at (replicate 29 0) 1 status) 5 time) 21 radars

  all : front (status_byte no_echo ∷ mode_byte (highest modes) ∷ clock_bytes h.clock) (time_text (digits_at h.minute)) h.radars ≡ start_contents no_echo h modes
  unfolding put_at clock_bytes time_text start_contents
  all =
      let radars = by_place 8 h.radars eight in
      ap (front (status_byte no_echo ∷ mode_byte (highest modes) ∷ clock_bytes h.clock) (time_text (digits_at h.minute))) radars
      ∙ ap (λ rs. 0x00 ∷ status_byte no_echo ∷ mode_byte (highest modes) ∷ (clock_bytes h.clock ++ (time_text (digits_at h.minute) ++ rs))) (sym radars)

  whole : {s m : ℕ} {first second third time : List ℕ} → s ≡ status_byte no_echo → m ≡ mode_byte (highest modes) → time ≡ time_text (digits_at h.minute)
      → first ≡ put_at (replicate 29 0) 1 (s ∷ m ∷ clock_bytes h.clock) → second ≡ put_at first 5 time → third ≡ put_at second 21 h.radars
      → third ≡ start_contents no_echo h modes
  whole p q t e f g =
      g
      ∙ ap (λ x. put_at x 21 h.radars)
      (f ∙ ap₂ (λ x y. put_at x 5 y) (e ∙ ap₂ (λ x y. put_at (replicate 29 0) 1 (x ∷ y ∷ clock_bytes h.clock)) p q) t)
      ∙ all

-- a minute of the years has digits 0 to 9
small : (z : ℤ) → is_minute z ≡ true → (i : ℕ) → i < length (digits_at z) → digits_at z ! i ≤ 9
unfolding is_time
small z h i l =
    let digits = digits_at z in
    leb-true (digits ! i) 9 (every_at (λ d. leb d 9) digits (and_split (every (λ d. leb d 9) digits) _ (minute_kept z h).1).0 i l)

-- the digits worked out are those of the header's minute
minuted : {digits : List ℕ} {z : ℤ} → SFits w64 z → digits ≡ digits_at (to_z w64 (of_z w64 z)) → digits ≡ digits_at z
minuted f e = e ∙ ap digits_at (to_z-of_z f)

pub time_text-time-requires : goal.time_text-time-requires
time_text-time-requires c =
    let f : SFits w64 c.args.header.minute = search rules in
    rw (minuted f c.digits_of.ensures) (small c.args.header.minute c.requires.minute_value)

pub returns : goal.returns
unfolding status_byte clock_bytes
returns c =
    let a = c.args in
    let f : SFits w64 a.header.minute = search rules in
    let eight : length a.header.radars ≡ 8 = search (rules, c.well_formed) in
    let status : c.if-noecho.status1 ≡ status_byte a.noecho =
    elim c.if-noecho.branch [
      | then-noecho w ↦ w.status1-is ∙ rw w.if-noecho.true
      | else-noecho w ↦ w.status1-is ∙ rw w.if-noecho.false
    ] in
    whole a.noecho a.header a.modes eight status
    (c.mode_byte-status2.ensures ∙ ap mode_byte c.highest_mode.ensures) (c.time_text-time.ensures ∙ ap time_text (minuted f c.digits_of.ensures))
    c.put.ensures c.put-2.ensures c.put-3.ensures
