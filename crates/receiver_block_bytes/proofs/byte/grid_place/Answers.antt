-- The number of a data text is 1 to 10. Assumes nothing.
use mathlib.Core.Path.{◌≡◌}
use mathlib.Core.Bool.{false}
use Prim.Native.Nat.{ℕ, ◌≤◌, ◌<◌}
use native.Mathlib.Omega.{arith}
use borrow.Author.Rules.{rules}
use Rattle.text.specs.Kinds.{is_start_kind, is_end_kind, text_number, block_length}
use Rattle.text_laws.proofs.KindTable.{data_number, block_most}
use Rattle.receiver_block_bytes.proofs.byte.grid_place.Goals as goal

number : (k i : ℕ) → k < 256
    → 3 ≤ i → i < block_length k → is_start_kind k ≡ false → is_end_kind k ≡ false
    → ((1 ≤ text_number k) × (text_number k ≤ 10)) × (i < 2003)
number k i h three long s e =
    (data_number k h s e (omega (arith, three, long)), omega (arith, long, block_most k))

pub overflow_sub-result : goal.overflow_sub-result
overflow_sub-result c =
    let r = c.requires in
    let ((one, ten), most) = number c.args.kind c.args.i (search rules) r.le_i r.i_bound r.kind_value r.kind_value_2 in
    omega (arith, c.text_of_kind-text.ensures, one)

pub overflow_cast-result : goal.overflow_cast-result
overflow_cast-result c =
    let r = c.requires in
    let ((one, ten), most) = number c.args.kind c.args.i (search rules) r.le_i r.i_bound r.kind_value r.kind_value_2 in
    omega (arith, c.text_of_kind-text.ensures, one, ten)

pub overflow_mul-result : goal.overflow_mul-result
overflow_mul-result c =
    let r = c.requires in
    let ((one, ten), most) = number c.args.kind c.args.i (search rules) r.le_i r.i_bound r.kind_value r.kind_value_2 in
    omega (arith, c.text_of_kind-text.ensures, one, ten)

pub overflow_sub-result-2 : goal.overflow_sub-result-2
overflow_sub-result-2 c = c.requires.le_i

pub overflow_cast-result-2 : goal.overflow_cast-result-2
overflow_cast-result-2 c =
    let r = c.requires in
    let ((one, ten), most) = number c.args.kind c.args.i (search rules) r.le_i r.i_bound r.kind_value r.kind_value_2 in
    omega (arith, most)

pub overflow_add-result : goal.overflow_add-result
overflow_add-result c =
    let r = c.requires in
    let ((one, ten), most) = number c.args.kind c.args.i (search rules) r.le_i r.i_bound r.kind_value r.kind_value_2 in
    omega (arith, c.text_of_kind-text.ensures, one, ten, most)

pub returns : goal.returns
returns c = simp c.text_of_kind-text.ensures
