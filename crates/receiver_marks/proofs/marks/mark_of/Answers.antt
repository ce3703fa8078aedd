-- Two to the power of the code's place. Assumes nothing.
use mathlib.Core.Path.{sym, ap, ◌∙◌}
use mathlib.Core.Bool.{cond}
use native.Mathlib.Nat.{one-mul}
use lib.Dec.{lit≤}
use lib.Pow.{shl_exact}
use Prim.Native.Nat.{◌^◌, ◌<◌}
use native.Mathlib.Omega.{arith}
use Rattle.text.specs.Pictures.{picture_codes}
use Rattle.receiver_spec.specs.Contents.{index_in}
use Rattle.receiver_marks.specs.Places.{mark_of}
use Rattle.receiver_marks.proofs.PlaceLaws.{place_small, place_listed}
use Rattle.receiver_marks.proofs.marks.mark_of.Goals as goal

pub overflow_shl-result : goal.overflow_shl-result
overflow_shl-result c = omega (arith, c.place_of.ensures, place_small c.args.code (omega arith))

pub returns-then-is_picture_code : goal.returns-then-is_picture_code
unfolding mark_of
returns-then-is_picture_code c =
    let code = c.args.code in
    let small : code < 256 = omega arith in
    let listed = sym c.is_picture_code.ensures ∙ c.if-is_picture_code.true in
    let place = c.place_of.ensures ∙ place_listed code small listed in
    shl_exact {a = 1} 1 c.place_of.result 32 (lit≤ tt) (omega (arith, c.place_of.ensures, place_small code small)) ∙ one-mul (2 ^ c.place_of.result)
    ∙ ap (λ n. 2 ^ n) place ∙ ap (λ t. cond t (2 ^ index_in code picture_codes) 0) (sym listed)

pub returns : goal.returns
unfolding mark_of
returns c = simp (sym c.is_picture_code.ensures ∙ c.if-is_picture_code.false)
