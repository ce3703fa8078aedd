-- The rules of a whole start block, in the order in which the code looks at them. Assumes nothing.
use mathlib.Core.Path.{◌≡◌}
use mathlib.Core.Bool.{◌&&◌, and-true, and_assoc}
use mathlib.Core.List.{List}
use Prim.Native.Nat.{ℕ}
use lib.Dec.{eqb}
use lib.ListN.{length}
use borrow.Author.Tests.{eq-eqb}
use Rattle.general_laws.specs.Bytes.{◌!◌, every, all_of}
use Rattle.text_calendar_spec.specs.TimeDigits.{is_time}
use Rattle.text.specs.StartBlock.{is_digit, digit_places, stop_places, digits_of, is_time_text, is_radar_list, time_text_of, radars_of, is_start_block}
use Rattle.text_start_block.specs.Read.{start_front}

pub start_rules :
    (block : List ℕ) → length block ≡ 32 →
    is_start_block block
    ≡ (start_front block
    && ((every (λ i. is_digit (time_text_of block ! i)) digit_places && every (λ i. eqb (time_text_of block ! i) 0x2E) stop_places)
    && (is_time (digits_of (time_text_of block)) && is_radar_list (radars_of block))))
unfolding is_start_block is_time_text start_front all_of
start_rules block h = simp (eq-eqb (length block) 32 h, and_assoc, and-true)
