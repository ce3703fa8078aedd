-- The data texts that are left, put from `at` on, give what all of them give from 40 on. Assumes nothing.
use mathlib.Core.Path.{◌≡◌}
use mathlib.Core.List.{List}
use Prim.Native.Nat.{ℕ, suc, ◌+◌, ◌*◌, ◌-◌, ◌≤◌}
use lib.ListN.{length, drop}
use lib.Seq.{sets}
use Rattle.text.specs.Part.{texts_of}
use Rattle.writer_spec.specs.Written.{data_blocks}
use Rattle.writer.proofs.data.write_datas.Given as goal

-- how many data texts are left, with room for them and a share of the payload for each
pub record TextsToWrite (output₀ : List ℕ) (part picture : ℕ) (payload : List ℕ) (last size : ℕ) (output : List ℕ) (k at from : ℕ) : Type 0 where
  pub left : ℕ
  pub count : k + left ≡ suc last
  pub shares : from + left * size ≤ length payload
  pub room : at + left * (size + 11) ≤ length output
  pub long : length output ≡ length output₀
  pub rest : sets output at (texts_of (data_blocks part picture k left (drop from payload))) ≡ sets output₀ 40 (texts_of (data_blocks part picture 1 last payload))

abbrev pub invariant-loop-k : goal.invariant-loop-k
invariant-loop-k l =
    TextsToWrite l.initial.output l.part l.picture l.payload l.last l.size l.output l.k (40 + (l.k - 1) * (l.size + 11)) ((l.k - 1) * l.size)
