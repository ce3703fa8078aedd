-- The bytes that are left come to what all come to. Assumes nothing.
use mathlib.Core.Path.{◌≡◌, sym, ap, ◌∙◌}
use mathlib.Core.List.{List}
use Prim.Native.Nat.{ℕ, ◌+◌, ◌-◌, ◌<◌, ◌≤◌}
use native.Mathlib.Omega.{arith}
use lib.ListN.{length, get_or, drop, drop_of_length-le, length-drop}
use lib.Seq.{take_all}
use Rattle.general_laws.proofs.Lists.{from_on}
use Rattle.receiver_bytes_seen.specs.AsNumber.{push_seen}
use Rattle.receiver_bytes_seen.specs.Behind.{seen_after}
use Rattle.receiver_bytes_seen.proofs.ManyBytes.{last_five}
use Rattle.receiver_bytes_seen.proofs.behind.seen_behind.Goals as goal

module _ (last : List ℕ) (i running end : ℕ) where
  one_more : {next : ℕ} → i < length last → next ≡ push_seen running (get_or last i 0)
      → seen_after running (drop i last) ≡ end → seen_after next (drop (i + 1) last) ≡ end
  unfolding seen_after
  one_more h e so_far =
      ap (λ v. seen_after v (drop (i + 1) last)) e
      ∙ sym (ap (seen_after running) (from_on last i (i + 1) (omega arith) (omega (arith, h))))
      ∙ so_far

  none_left : length last ≤ i → seen_after running (drop i last) ≡ end → running ≡ end
  unfolding seen_after
  none_left h so_far = sym (ap (seen_after running) (drop_of_length-le last h)) ∙ so_far

pub loop-b-init : goal.loop-b-init
loop-b-init c =
    let bytes = c.args.bytes.now in
    let k = c.saturating_sub.result in
    ap (seen_after c.args.seen) (take_all (length bytes - k) (drop k bytes) (omega (arith, length-drop k bytes)))
    ∙ last_five c.args.seen bytes k c.saturating_sub.ensures

pub loop-b-preserved : goal.loop-b-preserved
loop-b-preserved c = one_more _ _ _ _ c.loop-b-test.true c.pushed-running.ensures c.loop-b.invariant

pub returns : goal.returns
returns c = none_left _ _ _ _ c.loop-b-test.false c.loop-b.invariant
