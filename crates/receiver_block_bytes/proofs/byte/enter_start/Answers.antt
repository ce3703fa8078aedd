-- Each way out is a case of the definition; byte 23 has its own. Assumes nothing.
use mathlib.Core.Path.{◌≡◌, sym, subst, ◌∙◌}
use mathlib.Core.Logic.{◌≢◌}
use mathlib.Core.Bool.{true, false}
use Rattle.std.specs.Prelude.{Some, None}
use mathlib.Core.List.{List}
use Prim.Native.Nat.{ℕ, ◌-◌, ◌≤◌, ◌<◌}
use native.Mathlib.Omega.{arith}
use borrow.Author.Tests.{ne_eqb, le-leb, lt-leb}
use Rattle.text.specs.Kinds.{is_start_kind}
use Rattle.text.specs.declared.header.Header.{Header}
use Rattle.text_laws.proofs.KindTable.{start_block_length}
use Rattle.receiver_spec.specs.State.{no_digits}
use Rattle.receiver_spec.specs.Contents.{time_takes, start_takes, takes_byte, enter_header, enter_digits}
use Rattle.receiver_state.specs.declared.grid.Effect.TheVariants.{Keep}
use Rattle.receiver_block_bytes.specs.BlockByte.{is_taken, leaves, enters, entered, time_entered}
use Rattle.receiver_block_bytes.proofs.Unread.{taken_unread, header_unread, time_whole, taken_has}
use Rattle.receiver_block_bytes.proofs.byte.enter_start.Goals as goal

module _ (k : ℕ) (h : Header) (m ds : List ℕ) (i b : ℕ) (s : is_start_kind k ≡ true) where
  whole : i ≡ 23 → time_entered h m ds b ≡ entered k h m ds i b
  whole e = subst (λ (n : ℕ). time_entered h m ds b ≡ entered k h m ds n b) (sym e) (sym (time_whole k h m ds b s))

  -- what a byte that is taken keeps
  start_has : is_taken k h no_digits i b ≡ true → (3 ≤ i) × (i < 32)
  start_has t = let (low, high, _) = taken_has k h i b t in (low, omega (arith, high, start_block_length k s))

  time_has : is_taken k h no_digits i b ≡ true → 8 ≤ i → i ≤ 22 → time_takes no_digits (i - 8) b ≡ true
  unfolding takes_byte start_takes
  time_has t low high =
      simp (
        s,
        ne_eqb i 3 (λ e. omega (arith, e, low)),
        ne_eqb i 4 (λ e. omega (arith, e, low)),
        ne_eqb i 5 (λ e. omega (arith, e, low)),
        lt-leb i 7 low,
        le-leb i 23 (omega (arith, high)),
      )
      at (taken_has k h i b t).2

  into_header : {g : Header} {es : List ℕ} → i ≢ 23 → is_taken k h no_digits i b ≡ true → g ≡ enter_header h no_digits i b → es ≡ enter_digits ds i b
      → Some (leaves g m es Keep) ≡ entered k h m ds i b
  unfolding entered enters
  into_header n t p q = rw (p, q, taken_unread k h ds i b (λ _. n), t, s, header_unread h ds i b n)

  broken : i ≢ 23 → is_taken k h no_digits i b ≡ false → None ≡ entered k h m ds i b
  unfolding entered
  broken n f = rw (taken_unread k h ds i b (λ _. n), f)

pub returns-then-i-eq23 : goal.returns-then-i-eq23
returns-then-i-eq23 c = c.enter_time.ensures ∙ whole _ _ _ _ _ _ c.requires c.if-i-eq23.true

pub is_taken-requires : goal.is_taken-requires
is_taken-requires c _ = c.if-i-eq23.false

pub returns-then-not-is_taken : goal.returns-then-not-is_taken
returns-then-not-is_taken c =
    broken _ _ _ _ _ _ c.requires c.if-i-eq23.false (sym c.is_taken.ensures ∙ c.if-not-is_taken.true)

pub enter_header-requires : goal.enter_header-requires
enter_header-requires c =
    let s = c.args.s in
    record {
      le_i = start_has s.frame.kind s.header s.modes s.digits s.frame.place c.args.b c.requires (sym c.is_taken.ensures ∙ c.if-not-is_taken.false);
      i_nonzero = c.if-i-eq23.false;
    }

pub enter_digits-requires : goal.enter_digits-requires
enter_digits-requires c =
    let s = c.args.s in
    time_has s.frame.kind s.header s.modes s.digits s.frame.place c.args.b c.requires (sym c.is_taken.ensures ∙ c.if-not-is_taken.false)

pub returns : goal.returns
returns c =
    into_header _ _ _ _ _ _ c.requires c.if-i-eq23.false (sym c.is_taken.ensures ∙ c.if-not-is_taken.false)
    c.enter_header.ensures c.enter_digits.ensures
