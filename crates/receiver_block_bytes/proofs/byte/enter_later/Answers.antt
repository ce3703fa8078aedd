-- Each way out is a case of the definition. Assumes nothing.
use mathlib.Core.Path.{◌≡◌, sym, ◌∙◌}
use mathlib.Core.Bool.{true, false, false≢true}
use Rattle.std.specs.Prelude.{Some, None}
use mathlib.Core.List.{List}
use Prim.Native.Nat.{ℕ, ◌+◌, ◌*◌, ◌-◌}
use Rattle.text.specs.Kinds.{is_start_kind, is_end_kind, text_number}
use Rattle.text.specs.declared.header.Header.{Header}
use Rattle.receiver_spec.specs.State.{no_digits}
use Rattle.receiver_spec.specs.Contents.{enter_modes}
use Rattle.receiver_state.specs.declared.grid.Effect.TheVariants.{Keep, Enter}
use Rattle.receiver_block_bytes.specs.BlockByte.{is_taken, leaves, enters, entered}
use Rattle.receiver_block_bytes.proofs.Unread.{taken_unread, taken_has}
use Rattle.receiver_block_bytes.proofs.byte.enter_later.Goals as goal

module _ (k : ℕ) (h : Header) (m ds : List ℕ) (i b : ℕ) (s : is_start_kind k ≡ false) where
  same : is_taken k h ds i b ≡ is_taken k h no_digits i b
  same = taken_unread k h ds i b (λ e. absurd (false≢true (sym s ∙ e)))

  into_modes : {n : List ℕ} → is_taken k h no_digits i b ≡ true → is_end_kind k ≡ true → n ≡ enter_modes m i b
      → Some (leaves h n ds Keep) ≡ entered k h m ds i b
  unfolding entered enters
  into_modes t f q = rw (same, t, s, f, q)

  into_grid : {at : ℕ} → is_taken k h no_digits i b ≡ true → is_end_kind k ≡ false → at ≡ 2000 * (text_number k - 1) + (i - 3)
      → Some (leaves h m ds (Enter at)) ≡ entered k h m ds i b
  unfolding entered enters
  into_grid t f q = rw (same, t, s, f, q)

  broken : is_taken k h no_digits i b ≡ false → None ≡ entered k h m ds i b
  unfolding entered
  broken f = rw (same, f)

pub is_taken-requires : goal.is_taken-requires
is_taken-requires c e = absurd (false≢true (sym c.requires ∙ e))

pub returns-then-not-is_taken : goal.returns-then-not-is_taken
returns-then-not-is_taken c =
    broken _ _ _ _ _ _ c.requires (sym c.is_taken.ensures ∙ c.if-not-is_taken.true)

pub enter_modes-requires : goal.enter_modes-requires
enter_modes-requires c =
    let s = c.args.s in
    (taken_has s.frame.kind s.header s.frame.place c.args.b (sym c.is_taken.ensures ∙ c.if-not-is_taken.false)).0

pub returns-then-is_end_kind : goal.returns-then-is_end_kind
returns-then-is_end_kind c =
    into_modes _ _ _ _ _ _ c.requires (sym c.is_taken.ensures ∙ c.if-not-is_taken.false)
    (sym c.is_end_kind.ensures ∙ c.if-is_end_kind.true) c.enter_modes.ensures

pub grid_place-requires : goal.grid_place-requires
grid_place-requires c =
    let s = c.args.s in
    let (low, high, rule) = taken_has s.frame.kind s.header s.frame.place c.args.b (sym c.is_taken.ensures ∙ c.if-not-is_taken.false) in
    record {
      le_i = low;
      i_bound = high;
      kind_value = c.requires;
      kind_value_2 = sym c.is_end_kind.ensures ∙ c.if-is_end_kind.false;
    }

pub returns : goal.returns
returns c =
    into_grid _ _ _ _ _ _ c.requires (sym c.is_taken.ensures ∙ c.if-not-is_taken.false)
    (sym c.is_end_kind.ensures ∙ c.if-is_end_kind.false) c.grid_place.ensures
