-- How many bytes between texts a slice begins with, and whether a whole start or end text stands behind them, in the
-- code's terms. Assumes nothing.
use Rattle.std.specs.Prelude.{◌≡◌, Bool, cond, not, ◌&&◌, ◌||◌, List, [], ◌∷◌, ℕ, suc, ◌+◌, ◌≤◌, eqb, leb, length, take, drop, Option, Some, None, option_map, MatchOption}
use Rattle.general_laws.specs.Bytes.{◌!◌}
use Rattle.text.specs.Text.{FD, EOR, check_byte}
use Rattle.text.specs.Kinds.{kind_of}
use Rattle.text.specs.StartBlock.{is_start_block}
use Rattle.text.specs.EndBlock.{no_modes, is_end_block}
use Rattle.text_start_block.specs.Read.{start_read}
use Rattle.text_end_block.specs.Read.{end_read}
use Rattle.receiver_spec.specs.State.{no_digits}
use Rattle.receiver_spec.specs.Seen.{ends_opening, due_byte}
use Rattle.receiver_spec.specs.Marks.{is_marked}
use Rattle.receiver_bytes_seen.specs.AsNumber.{seen_of, push_seen, push_count}
use Rattle.receiver_bytes_seen.specs.Behind.{seen_after, count_after}
use Rattle.receiver_state.specs.declared.state.Frame.{Frame}
use Rattle.receiver_state.specs.declared.state.State.{State}
use Rattle.receiver_decisions.specs.Decisions.{frame, state}
use Rattle.receiver_byte_call.specs.InPayload.{advanced_state}
use Rattle.receiver_stretches.specs.declared.stretch.StretchResult.{StretchResult}
use Rattle.receiver_stretches.specs.Run.{Passes}

-- nothing is under way and no part is open
unfoldable pub is_idle : Frame → Bool
is_idle f =
    eqb f.place 0 && eqb f.part 0 && eqb f.kind 0 && eqb f.picture 0 && eqb f.due 0 && eqb f.check 0

-- a part is open and none of its texts is under way
unfoldable pub is_gap : Frame → Bool
is_gap f =
    eqb f.place 0 && not (eqb f.part 0) && eqb f.kind 0 && eqb f.picture 0 && eqb f.check 0

-- ---- bytes between texts

-- up to the next `FD`. Notice 49, 4(1)(1-1)(c)(ア)
unfoldable pub idle_length : List ℕ → ℕ
idle_length [] = 0
idle_length (b ∷ bytes) = cond (eqb b FD) 0 (suc (idle_length bytes))

-- as far as each is the opening's due byte, up to the `FD`. Notice 49, 4(1)(1-1)(a) and (c)(ア), 4(1)(1-2)(a), 4(2)(a)
unfoldable pub due_length : ℕ → ℕ → List ℕ → ℕ
due_length v n [] = 0
due_length v n (b ∷ bytes) = cond (eqb b FD || not (eqb b (due_byte (seen_of v n)))) 0 (suc (due_length (push_seen v b) (push_count n) bytes))

-- either. Notice 49, 4(1)(1-1)(a) and (c)(ア), 4(1)(1-2)(a), 4(2)(a)
unfoldable pub wait_length : State → List ℕ → ℕ
wait_length s bytes =
    cond (is_idle s.frame) (idle_length bytes) (cond (is_gap s.frame) (due_length s.seen s.frame.count bytes) 0)

-- the state behind them: the bytes seen have moved on
abbrev pub seen_on : State → ℕ → ℕ → State
seen_on s seen count = advanced_state s s.frame.place s.frame.check seen count

abbrev pub waited_for : State → List ℕ → State
waited_for s xs = seen_on s (seen_after s.seen xs) (count_after s.frame.count xs)

-- n bytes of a slice, between texts, and where they led
pub record Waited (s : State) (n : ℕ) (bytes : List ℕ) (r : StretchResult) : Type 0 where
  pub long : r.at ≡ n
  pub inside : n ≤ length bytes
  pub state_is : r.state ≡ waited_for s (take n bytes)
  pub runs : Passes s (take n bytes) r

-- ---- a whole start or end text from its `FD` on, up to its last byte: 34 bytes, or none

-- its block, 32 bytes. Notice 49, 4(1)(1-1)(b)(ア) and (ウ)
abbrev pub block_ahead : List ℕ → List ℕ
block_ahead bytes = take 32 bytes

-- `FE` and the check byte behind it. Notice 49, 4(1)(1-1)(c)(ア)
abbrev pub is_framed : List ℕ → Bool
is_framed bytes = eqb (bytes ! 32) EOR && eqb (bytes ! 33) (check_byte (block_ahead bytes))

-- a start text. Notice 49, 4(1)(1-1)(c)(ア) and (イ), (d)(イ)
unfoldable pub start_ahead : List ℕ → ℕ
start_ahead bytes = cond (is_framed bytes && is_start_block (block_ahead bytes)) 34 0

-- the due end text. Notice 49, 4(1)(1-1)(c)(ア) and (ウ), (d)(イ)
unfoldable pub end_ahead : State → List ℕ → ℕ
end_ahead s bytes =
    let block = block_ahead bytes in
    cond (
    is_gap s.frame
    && eqb (block ! 1) s.header.picture
    && eqb (block ! 2) (kind_of s.frame.part s.frame.due)
    && is_framed bytes
    && is_end_block s.header.radars block) 34 0

-- either, behind an opening, of a marked picture (Request 101). Notice 49, 4(1)(1-1)(c)(ア), 5(1)
unfoldable pub text_ahead : State → List ℕ → ℕ
text_ahead s bytes =
    cond (leb 34 (length bytes) && ends_opening (seen_of s.seen s.frame.count) FD)
    (cond (is_marked s.marks (bytes ! 1)) (cond (is_idle s.frame) (start_ahead bytes) (end_ahead s bytes)) 0) 0

-- ---- the same, step by step

-- a start text's block gives the header; modes and waiting digits are 0. Notice 49, 4(1)(1-1)(c)(イ) and (d)(イ)
unfoldable pub start_entered : State → List ℕ → Option State
start_entered s text =
    option_map (λ h. state s.seen s.frame h no_modes no_digits s.marks) (start_read (block_ahead text))

-- an end text's picture code and kind are the due ones
abbrev pub is_due_end : State → List ℕ → Bool
is_due_end s text =
    is_gap s.frame && eqb (text ! 1) s.header.picture && eqb (text ! 2) (kind_of s.frame.part s.frame.due)

-- its block gives the modes. Notice 49, 4(1)(1-1)(c)(ウ) and (d)(イ)
unfoldable pub end_entered : State → List ℕ → Option State
end_entered s text =
    cond (is_due_end s text)
    (option_map (λ m. state s.seen s.frame s.header m s.digits s.marks) (end_read s.header.radars (block_ahead text)))
    None

-- the state behind the check byte of a text of 34 bytes
abbrev pub behind_text : State → List ℕ → State
behind_text s text =
    state (seen_after s.seen text)
    (frame 34 (text ! 2) (text ! 1) s.frame.part s.frame.due (check_byte (block_ahead text)) (count_after s.frame.count text))
    s.header s.modes s.digits s.marks

-- if `FE` and that byte are there. Notice 49, 4(1)(1-1)(c)(ア)
unfoldable pub framed : State → List ℕ → Option State
framed s text = cond (is_framed text) (Some (behind_text s text)) None

-- the state behind such a text, or none where none stands there whole
abbrev pub WholeOrNone : State → List ℕ → Option State → Type 0
WholeOrNone s bytes r =
    MatchOption r (text_ahead s bytes ≡ 0) (λ t. Passes s (take (text_ahead s bytes) bytes) (record { state = t; at = 34 }))

-- ---- both, one behind the other

-- bytes between texts, and such a text behind them (Request 101: of a marked picture). Notice 49, 4(1)(1-1)(c)(ア), 5(1)
unfoldable pub edge_ahead : State → List ℕ → ℕ
edge_ahead s bytes =
    let n = wait_length s bytes in
    n + text_ahead (waited_for s (take n bytes)) (drop n bytes)
