-- Two bytes of an array of bytes give a number that fits. Assumes nothing.
use native.Mathlib.Omega.{arith}
use borrow.Author.Rules.{rules}
use Prim.Native.Nat.{◌+◌}
use mir.Syntax.{w8}
use mir.Val.{Fits}
use Rattle.general_laws.specs.Bytes.{◌!◌}
use Rattle.text_calendar.proofs.time.two_digits.Goals as goal

pub overflow_mul-result : goal.overflow_mul-result
overflow_mul-result c =
    let a = c.args in
    let tens : Fits w8 (a.digits ! a.i) = search rules in
    omega arith

pub overflow_add-result-2 : goal.overflow_add-result-2
overflow_add-result-2 c =
    let a = c.args in
    let tens : Fits w8 (a.digits ! a.i) = search rules in
    let ones : Fits w8 (a.digits ! (a.i + 1)) = search rules in
    omega arith
