-- The data texts that are left, put from `at` on, give what all of them give from 40 on. Assumes nothing.
use mathlib.Core.Path.{◌≡◌, refl, sym, ap, ap₂, ◌∙◌}
use mathlib.Core.Bool.{false}
use mathlib.Core.List.{List, ◌++◌}
use Prim.Native.Nat.{ℕ, suc, ◌+◌, ◌*◌, ◌-◌, ◌≤◌, ◌<◌}
use native.Mathlib.Nat.{suc-mul, zero-mul}
use native.Mathlib.Numerals.{add-one}
use native.Mathlib.Omega.{arith}
use lib.ListN.{length, take, drop, length-drop}
use lib.Seq.{sets, length-sets, drop-drop}
use Rattle.text.specs.Kinds.{kind_of, data_block_length, data_texts, payload_length}
use Rattle.text.specs.Text.{text_of}
use Rattle.text.specs.Part.{texts_of}
use Rattle.general_laws.proofs.Lists.{width}
use Rattle.text_laws.proofs.KindTable.{data_least}
use Rattle.writer_spec.specs.Written.{data_blocks, block_of}
use Rattle.writer.proofs.PutTexts.{sets_lent, texts_on}
use Rattle.writer.proofs.data.write_datas.Invariants.{TextsToWrite}
use Rattle.writer.proofs.data.write_datas.Goals as goal

module _ (output₀ : List ℕ) (part picture : ℕ) (payload : List ℕ) (last size : ℕ) where
  begun :
      size ≡ data_block_length part - 3 → 3 ≤ data_block_length part → last ≡ data_texts part false → length payload ≡ payload_length part →
      40 + data_texts part false * (data_block_length part + 8) ≤ length output₀ → TextsToWrite output₀ part picture payload last size output₀ 1 40 0
  unfolding payload_length
  begun e l n h fits =
      let wide : size + 11 ≡ data_block_length part + 8 = omega arith in
      record {
        left = last;
        count = omega arith;
        shares = omega (arith, ap₂ ◌*◌ n e);
        room = omega (arith, ap₂ ◌*◌ n wide);
        long = refl;
        rest = refl;
      }

  module _ {output : List ℕ} {k at from : ℕ} (v : TextsToWrite output₀ part picture payload last size output k at from) where
    -- one is left: it has its share and its room
    one : k ≤ last → v.left ≡ suc (v.left - 1)
    one h = omega (arith, v.count)

    share : k ≤ last → from + size ≤ length payload
    share h = omega (arith, v.shares, ap (λ m. m * size) (one h), suc-mul (v.left - 1) size)

    fits : k ≤ last → at + (size + 11) ≤ length output
    fits h = omega (arith, v.room, ap (λ m. m * (size + 11)) (one h), suc-mul (v.left - 1) (size + 11))

    turn :
        k ≤ last → size ≡ data_block_length part - 3 → {next : List ℕ} → next ≡ sets output at (text_of (block_of picture (kind_of part k) (take size (drop from payload)))) →
        TextsToWrite output₀ part picture payload last size next (k + 1) (at + (size + 11)) (from + size)
    turn h e {next} put =
        let n = v.left - 1 in
        let text = text_of (block_of picture (kind_of part k) (take size (drop from payload))) in
        let same : length next ≡ length output = ap length put ∙ length-sets output at text in
        record {
          left = n;
          count = omega (arith, v.count);
          shares = omega (arith, v.shares, ap (λ m. m * size) (one h), suc-mul n size);
          room = omega (arith, same, v.room, ap (λ m. m * (size + 11)) (one h), suc-mul n (size + 11));
          long = same ∙ v.long;
          rest =
              ap₂ (λ l m. sets l (at + (size + 11)) (texts_of (data_blocks part picture m n (drop (from + size) payload)))) put (add-one k)
              ∙ ap (λ p. sets (sets output at text) (at + (size + 11)) (texts_of (data_blocks part picture (suc k) n p))) (sym (drop-drop size from payload))
              ∙ texts_on part picture k n size output at (drop from payload) e (omega (arith, length-drop from payload, share h))
              ∙ ap (λ m. sets output at (texts_of (data_blocks part picture k m (drop from payload)))) (sym (one h))
              ∙ v.rest;
        }

    -- none is left
    over : last < k → output ≡ sets output₀ 40 (texts_of (data_blocks part picture 1 last payload))
    unfolding texts_of data_blocks
    over h =
        let none : v.left ≡ 0 = omega (arith, v.count) in
        sym (ap (λ m. sets output at (texts_of (data_blocks part picture k m (drop from payload)))) none) ∙ v.rest

  -- a turn of the loop: text k, put through the part of the output that is lent for it, with text k's share
  module _ {output : List ℕ} {k : ℕ} (v : TextsToWrite output₀ part picture payload last size output k (40 + (k - 1) * (size + 11)) ((k - 1) * size)) where
    turned :
        1 ≤ k → k ≤ last → size ≡ data_block_length part - 3 → {kind : ℕ} → kind ≡ kind_of part k → {lent : List ℕ} →
        let at = 40 + (k - 1) * (size + 11) in
        let from = (k - 1) * size in
        lent ≡ sets (take (length output - at) (drop at output)) 0 (text_of (block_of picture kind (take (from + size - from) (drop from payload)))) →
        TextsToWrite output₀ part picture payload last size (take at output ++ (lent ++ drop (length output - at) (drop at output))) (k + 1) (40 + (k + 1 - 1) * (size + 11)) ((k + 1 - 1) * size)
    turned p h e {kind} kinded {lent} put =
        let at = 40 + (k - 1) * (size + 11) in
        let from = (k - 1) * size in
        let text : ℕ → ℕ → List ℕ = λ q n. text_of (block_of picture q (take n (drop from payload))) in
        let next : k + 1 - 1 ≡ suc (k - 1) = omega arith in
        let at-next : 40 + (k + 1 - 1) * (size + 11) ≡ at + (size + 11) = omega (arith, ap (λ m. m * (size + 11)) next, suc-mul (k - 1) (size + 11)) in
        let from-next : (k + 1 - 1) * size ≡ from + size = omega (arith, ap (λ m. m * size) next, suc-mul (k - 1) size) in
        rw (at-next, from-next)
        (turn v h e (sets_lent output at (text kind (from + size - from)) put ∙ ap₂ (λ q n. sets output at (text q n)) kinded (width from size)))

pub overflow_sub-size : goal.overflow_sub-size
overflow_sub-size c = omega (arith, c.data_block_length.ensures, data_least c.args.part c.requires.part_value)

pub loop-k-init : goal.loop-k-init
loop-k-init c =
    let a = c.args in
    let size = c.data_block_length.result - 3 in
    rw (zero-mul (size + 11), zero-mul size)
    (begun a.output.now a.part a.picture a.payload.now _ _ (ap (λ n. n - 3) c.data_block_length.ensures) (omega (arith, data_least a.part c.requires.part_value))
    c.data_texts-last.ensures c.requires.payload_len c.requires.part_in_bounds)

pub loop-k-preserved : goal.loop-k-preserved
loop-k-preserved c =
    turned _ _ _ _ _ _ c.loop-k.invariant c.loop-k.auto.k c.loop-k-test.true (ap (λ n. n - 3) c.data_block_length.ensures) c.kind_of.ensures c.write_text.ensures

-- no turn, or the last one
pub returns : goal.returns
returns c =
    let a = c.args in
    over a.output.now a.part a.picture a.payload.now _ _ c.loop-k.invariant c.loop-k-test.false
    ∙ ap (λ n. sets a.output.now 40 (texts_of (data_blocks a.part a.picture 1 n a.payload.now))) c.data_texts-last.ensures

pub returns-2 : goal.returns-2
returns-2 c =
    let a = c.args in
    let last =
    turned _ _ _ _ _ _ c.loop-k.invariant c.loop-k.auto.k c.loop-k-test.true (ap (λ n. n - 3) c.data_block_length.ensures) c.kind_of.ensures c.write_text.ensures in
    over a.output.now a.part a.picture a.payload.now _ _ last (omega arith)
    ∙ ap (λ n. sets a.output.now 40 (texts_of (data_blocks a.part a.picture 1 n a.payload.now))) c.data_texts-last.ensures
