-- The rules of blocks and of a part, each as a fact under its own name. Assumes nothing.
use mathlib.Core.Path.{◌≡◌, ap}
use native.Mathlib.Omega.{arith}
use mathlib.Core.Bool.{true}
use mathlib.Core.List.{List, ◌∷◌, []}
use Prim.Native.Nat.{ℕ, ◌+◌, ◌≤◌}
use lib.Dec.{eqb}
use lib.ListN.{length, drop}
use borrow.Author.Tests.{eqb-true, eq-eqb}
use Rattle.general_laws.specs.Bytes.{◌!◌, every, all_of}
use Rattle.text.specs.Text.{FD}
use Rattle.text.specs.Pictures.{is_picture_code}
use Rattle.text.specs.Kinds.{part_of, kind_of, is_start_kind, is_data_kind, is_end_kind, block_length}
use Rattle.text.specs.StartBlock.{has_mode, is_clock_byte, is_time_text, time_text_of, is_radar_list, radars_of, mode_of, is_start_block}
use Rattle.text.specs.DataBlock.{is_payload_byte, payload_of, is_data_block}
use Rattle.text.specs.EndBlock.{radar_places, is_mode_byte, is_end_block, modes_of, highest}
use Rattle.text.specs.Part.{Part, start_part, data_texts_after, in_order, is_part}
use Rattle.general_laws.proofs.Tests.{rule_at, and_split}

pub record StartRules (block : List ℕ) : Type 0 where
  pub long : length block ≡ 32
  pub first : block ! 0 ≡ FD
  pub picture : is_picture_code (block ! 1) ≡ true
  pub kind : is_start_kind (block ! 2) ≡ true
  pub null : block ! 3 ≡ 0
  pub mode : has_mode (block ! 5) ≡ true
  pub clock_high : is_clock_byte (block ! 6) ≡ true
  pub clock_low : is_clock_byte (block ! 7) ≡ true
  pub time : is_time_text (time_text_of block) ≡ true
  pub radars : is_radar_list (radars_of block) ≡ true

pub start_rules : (block : List ℕ) → is_start_block block ≡ true → StartRules block
unfolding is_start_block
start_rules block h =
    record {
      long = eqb-true _ _ (rule_at _ h 0);
      first = eqb-true _ _ (rule_at _ h 1);
      picture = rule_at _ h 2;
      kind = rule_at _ h 3;
      null = eqb-true _ _ (rule_at _ h 4);
      mode = rule_at _ h 5;
      clock_high = rule_at _ h 6;
      clock_low = rule_at _ h 7;
      time = rule_at _ h 8;
      radars = rule_at _ h 9;
    }

pub start_keeps : (block : List ℕ) → StartRules block → is_start_block block ≡ true
unfolding is_start_block all_of
start_keeps block r =
    rw (
      eq-eqb _ _ r.long,
      eq-eqb _ _ r.first,
      r.picture,
      r.kind,
      eq-eqb _ _ r.null,
      r.mode,
      r.clock_high,
      r.clock_low,
      r.time,
      r.radars,
    )

pub record DataRules (block : List ℕ) : Type 0 where
  pub long : length block ≡ block_length (block ! 2)
  pub first : block ! 0 ≡ FD
  pub picture : is_picture_code (block ! 1) ≡ true
  pub kind : is_data_kind (block ! 2) ≡ true
  pub payload : every (is_payload_byte (part_of (block ! 2))) (payload_of block) ≡ true

pub data_rules : (block : List ℕ) → is_data_block block ≡ true → DataRules block
unfolding is_data_block
data_rules block h =
    record {
      long = eqb-true _ _ (rule_at _ h 0);
      first = eqb-true _ _ (rule_at _ h 1);
      picture = rule_at _ h 2;
      kind = rule_at _ h 3;
      payload = rule_at _ h 4;
    }

pub data_keeps : (block : List ℕ) → DataRules block → is_data_block block ≡ true
unfolding is_data_block all_of
data_keeps block r = rw (eq-eqb _ _ r.long, eq-eqb _ _ r.first, r.picture, r.kind, r.payload)

pub record EndRules (radars block : List ℕ) : Type 0 where
  pub long : length block ≡ 32
  pub first : block ! 0 ≡ FD
  pub picture : is_picture_code (block ! 1) ≡ true
  pub kind : is_end_kind (block ! 2) ≡ true
  pub modes : every (λ i. is_mode_byte (radars ! i) (block ! (3 + i))) radar_places ≡ true
  pub zeros : every (λ b. eqb b 0) (drop 11 block) ≡ true

pub end_rules : (radars block : List ℕ) → is_end_block radars block ≡ true → EndRules radars block
unfolding is_end_block
end_rules radars block h =
    record {
      long = eqb-true _ _ (rule_at _ h 0);
      first = eqb-true _ _ (rule_at _ h 1);
      picture = rule_at _ h 2;
      kind = rule_at _ h 3;
      modes = rule_at _ h 4;
      zeros = rule_at _ h 5;
    }

pub end_keeps : (radars block : List ℕ) → EndRules radars block → is_end_block radars block ≡ true
unfolding is_end_block all_of
end_keeps radars block r = rw (eq-eqb _ _ r.long, eq-eqb _ _ r.first, r.picture, r.kind, r.modes, r.zeros)

pub record PartRules (p : Part) : Type 0 where
  pub start : is_start_block p.start ≡ true
  pub count : length p.datas ≡ data_texts_after p.start
  pub order : in_order (p.start ! 1) (start_part p.start) 1 p.datas ≡ true
  pub end : is_end_block (radars_of p.start) p.end ≡ true
  pub end_picture : p.end ! 1 ≡ p.start ! 1
  pub end_kind : p.end ! 2 ≡ kind_of (start_part p.start) 11
  pub mode : mode_of (p.start ! 5) ≡ highest (modes_of p.end)

pub part_rules : (p : Part) → is_part p ≡ true → PartRules p
unfolding is_part
part_rules p h =
    let (q, k) = and_split (eqb (p.end ! 1) (p.start ! 1)) (eqb (p.end ! 2) (kind_of (start_part p.start) 11)) (rule_at _ h 4) in
    record {
      start = rule_at _ h 0;
      count = eqb-true _ _ (rule_at _ h 1);
      order = rule_at _ h 2;
      end = rule_at _ h 3;
      end_picture = eqb-true _ _ q;
      end_kind = eqb-true _ _ k;
      mode = eqb-true _ _ (rule_at _ h 5);
    }

pub part_keeps : (p : Part) → PartRules p → is_part p ≡ true
unfolding is_part all_of
part_keeps p r =
    rw (
      r.start,
      eq-eqb _ _ r.count,
      r.order,
      r.end,
      eq-eqb _ _ r.end_picture,
      eq-eqb _ _ r.end_kind,
      eq-eqb _ _ r.mode,
    )

-- a block is `FD`, picture code, kind and the bytes behind them
pub split_3 : (b : List ℕ) → 3 ≤ length b → b ! 0 ≡ FD → b ≡ FD ∷ b ! 1 ∷ b ! 2 ∷ drop 3 b
split_3 [] l e = absurd (omega arith)
split_3 (x ∷ []) l e = absurd (omega arith)
split_3 (x ∷ y ∷ []) l e = absurd (omega arith)
split_3 (x ∷ y ∷ z ∷ b) l e = ap (λ t. t ∷ y ∷ z ∷ b) e
