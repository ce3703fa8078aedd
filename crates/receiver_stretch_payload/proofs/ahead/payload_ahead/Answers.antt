-- The bytes up to the block's end, or none. Assumes nothing.
use mathlib.Core.Path.{◌≡◌, sym, ap, ◌∙◌}
use mathlib.Core.Logic.{⊎_elim}
use mathlib.Core.Bool.{Bool, true, false, not, ◌||◌, and-false}
use mathlib.Core.List.{List}
use Prim.Native.Nat.{ℕ, ◌+◌, ◌-◌, ◌≤◌, min}
use native.Mathlib.Omega.{arith}
use lib.Dec.{eqb}
use lib.ListN.{length, take}
use lib.Seq.{length-take-le, sets}
use borrow.Author.Tests.{eqb-true, not-true, not-false}
use Rattle.std.proofs.lemmas.List.{take_min}
use Rattle.general_laws.specs.Bytes.{every}
use Rattle.text.specs.Kinds.{part_of, block_length}
use Rattle.text.specs.DataBlock.{is_payload_byte}
use Rattle.text.specs.Part.{grid_length}
use Rattle.general_laws.proofs.Lists.{put_fits}
use Rattle.general_laws.proofs.Tests.{or_split, neither}
use Rattle.text_laws.proofs.KindTable.{block_most}
use Rattle.receiver_state.specs.declared.state.State.{State}
use Rattle.receiver_stretches.specs.Run.{run}
use Rattle.receiver_stretch_payload.specs.Ahead.{is_in_payload, allowed_prefix, payload_ahead}
use Rattle.receiver_stretch_payload.proofs.InPayload.{InPayload, in_payload_has, allowed_most, allowed_within, payload_passed_on}
use Rattle.receiver_stretch_payload.proofs.ahead.payload_ahead.Goals as goal

-- the test of the code, under the names of the definition
module _ (s : State) (g bytes : List ℕ) {p : Bool} (e : p ≡ is_in_payload s.frame) where
  -- no payload is under way, or no grid is there
  none : (not p || not (eqb (length g) grid_length)) ≡ true → payload_ahead s g bytes ≡ 0
  unfolding payload_ahead
  none h =
      ⊎_elim (λ q. simp (sym e ∙ not-true p q)) (λ l. simp (not-true (eqb (length g) grid_length) l, and-false))
      (or_split (not p) (not (eqb (length g) grid_length)) h)

  module _ (h : (not p || not (eqb (length g) grid_length)) ≡ false) where
    in_payload : InPayload s.frame
    in_payload = in_payload_has s.frame (sym e ∙ not-false p (neither (not p) (not (eqb (length g) grid_length)) h).0)

    long : length g ≡ 20000
    long = eqb-true (length g) grid_length (not-false _ (neither (not p) (not (eqb (length g) grid_length)) h).1)

    -- n bytes are there, up to the block's end, and `at` of them keep the rule
    module _ {size part n at : ℕ} (k : size ≡ block_length s.frame.kind) (q : part ≡ part_of s.frame.kind) (m : n ≡ min (size - s.frame.place) (length bytes))
        (a : at ≡ allowed_prefix part (take n bytes)) where
      ahead_is : payload_ahead s g bytes ≡ at
      unfolding payload_ahead
      ahead_is =
          let (pays, l) = neither (not p) (not (eqb (length g) grid_length)) h in
          simp (sym e ∙ not-false p pays, not-false (eqb (length g) grid_length) l)
          (ap (λ xs. allowed_prefix (part_of s.frame.kind) xs) (sym (take_min (block_length s.frame.kind - s.frame.place) bytes))
          ∙ rw (a, q, m, k))

      inside : at ≤ n
      inside = omega (arith, a, m, allowed_most part (take n bytes), length-take-le n bytes (omega (arith, m)))

      rule : every (is_payload_byte (part_of s.frame.kind)) (take at bytes) ≡ true
      rule = rw (a, q) (allowed_within (part_of s.frame.kind) n bytes)

      fits : (at ≤ length bytes) × (s.frame.place + at ≤ block_length s.frame.kind)
      fits = (omega (arith, m, inside), omega (arith, m, k, inside, in_payload.high))

pub returns-then-is_in_payload-grid : goal.returns-then-is_in_payload-grid
unfolding run
returns-then-is_in_payload-grid c =
    let a = c.args in
    sym (ap (λ n. run a.s a.grid.now (take n a.bytes.now) 0) (none a.s a.grid.now a.bytes.now c.is_in_payload.ensures c.if-is_in_payload-grid.true))

pub overflow_sub-left : goal.overflow_sub-left
overflow_sub-left c =
    let a = c.args in
    omega (arith, c.block_length.ensures, (in_payload a.s a.grid.now a.bytes.now c.is_in_payload.ensures c.if-is_in_payload-grid.false).high)

pub slice_bounds-payload-end : goal.slice_bounds-payload-end
slice_bounds-payload-end c =
    let a = c.args in
    let (there, within) = fits a.s a.grid.now a.bytes.now c.is_in_payload.ensures c.if-is_in_payload-grid.false c.block_length.ensures c.part_of_kind.ensures c.min.ensures
    c.allowed_prefix-at.ensures in
    sym (length-take-le c.allowed_prefix-at.result a.bytes.now there)

pub overflow_cast-at : goal.overflow_cast-at
overflow_cast-at c =
    let a = c.args in
    omega (
      arith,
      block_most a.s.frame.kind,
      fits a.s a.grid.now a.bytes.now c.is_in_payload.ensures c.if-is_in_payload-grid.false c.block_length.ensures c.part_of_kind.ensures c.min.ensures
          c.allowed_prefix-at.ensures,
    )

pub overflow_add-f : goal.overflow_add-f
overflow_add-f c =
    let a = c.args in
    omega (
      arith,
      block_most a.s.frame.kind,
      fits a.s a.grid.now a.bytes.now c.is_in_payload.ensures c.if-is_in_payload-grid.false c.block_length.ensures c.part_of_kind.ensures c.min.ensures
          c.allowed_prefix-at.ensures,
    )

pub returns : goal.returns
returns c =
    let a = c.args in
    let s = a.s in
    let g = a.grid.now in
    let bytes = a.bytes.now in
    let n = c.allowed_prefix-at.result in
    let xs = take n bytes in
    let e = c.is_in_payload.ensures in
    let f = c.if-is_in_payload-grid.false in
    let (there, within) = fits s g bytes e f c.block_length.ensures c.part_of_kind.ensures c.min.ensures c.allowed_prefix-at.ensures in
    let all : length xs ≡ n = length-take-le n bytes there in
    let room = put_fits g c.payload_base.result xs (omega (arith, c.payload_base.ensures.place_bound, within, all, long s g bytes e f)) in
    payload_passed_on s (in_payload s g bytes e f) xs g
    (rule s g bytes e f c.block_length.ensures c.part_of_kind.ensures c.min.ensures c.allowed_prefix-at.ensures) all within
    (c.put.ensures ∙ room ∙ ap (λ i. sets g i xs) c.payload_base.ensures.value) c.check_behind-check.ensures c.state_behind.ensures
    ∙ ap (λ i. run s g (take i bytes) 0)
    (sym (ahead_is s g bytes e f c.block_length.ensures c.part_of_kind.ensures c.min.ensures c.allowed_prefix-at.ensures))
