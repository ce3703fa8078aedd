-- A payload byte of the text under way: the state that it comes to is possible, and what the decision is. Assumes nothing.
use mathlib.Core.Path.{◌≡◌, refl, sym, ap, ◌∙◌, subst}
use mathlib.Core.Logic.{◌≢◌}
use mathlib.Core.Bool.{true, false, not, and-false, true≢false}
use mathlib.Core.List.{List}
use Prim.Native.Nat.{ℕ, ◌+◌, ◌*◌, ◌-◌, ◌≤◌, ◌<◌}
use native.Mathlib.Omega.{arith}
use lib.Dec.{eqb}
use lib.ListN.{length}
use borrow.Author.Tests.{eqb-true, eqb-false, eq-eqb, ne_eqb, leb-true, le-leb, ltb-true, lt-ltb, not-true}
use Rattle.general_laws.specs.Bytes.{every, all_of}
use Rattle.text.specs.Pictures.{is_picture_code}
use Rattle.text.specs.Kinds.{kinds, is_kind, is_start_kind, is_end_kind, is_data_kind, part_of, text_number, kind_of, block_length, data_block_length}
use Rattle.text.specs.DataBlock.{is_payload_byte}
use Rattle.text_laws.proofs.KindTable.{text_back, data_block_length_lem, block_most}
use Rattle.general_laws.proofs.Tests.{and_split}
use Rattle.text_laws.proofs.Payload.{payload_below}
use Rattle.receiver_spec.specs.State.{is_due, fits_part, kind_read, awaits_time, are_waiting, is_possible}
use Rattle.receiver_spec.specs.Contents.{takes_byte}
use Rattle.receiver_spec.specs.Receiver.{◌⊕◌}
use Rattle.receiver_spec.proofs.Laws.{only_fd}
use Rattle.receiver_bytes_seen.specs.AsNumber.{seen_of, push_seen, push_count}
use Rattle.receiver_state.specs.Meaning.{state_of}
use Rattle.receiver_decisions.specs.Decisions.{goes_on}
use Rattle.receiver_block_bytes.specs.BlockByte.{is_taken, enters, entered}
use Rattle.receiver_rest_of_text.specs.RestOfText.{block_decided, text_decided}
use Rattle.receiver_step.specs.Decide.{pushed_state, decide}
use Rattle.receiver_state.specs.declared.state.Frame.{Frame}
use Rattle.receiver_state.specs.declared.state.State.{State}
use Rattle.receiver_state.specs.declared.answer.Answer.TheVariants.{Quiet}
use Rattle.receiver_state.specs.declared.grid.Effect.TheVariants.{Enter}
use Rattle.receiver_spec.specs.Marks.{are_marks}
use Rattle.receiver_bytes_seen.proofs.Laws.{length_seen}
use Rattle.receiver_byte_call.specs.InPayload.{advanced_state, is_payload_here}

-- where payload byte `place` of a kind's block enters the grid
abbrev pub grid_place : ℕ → ℕ → ℕ
grid_place kind place = 2000 * (text_number kind - 1) + (place - 3)

module _ (s : State) (place check seen count b : ℕ)
    (start : is_start_kind s.frame.kind ≡ false) (end : is_end_kind s.frame.kind ≡ false)
    (three : 3 ≤ place) (long : place < block_length s.frame.kind)
    (rule : is_payload_byte (part_of s.frame.kind) b ≡ true) where
  pub advanced_step :
      decide (advanced_state s place check seen count) b
      ≡ record { next = advanced_state s (place + 1) (check ⊕ b) (push_seen seen b) (push_count count); answer = Quiet; effect = Enter (grid_place s.frame.kind place) }
  unfolding decide pushed_state text_decided block_decided entered is_taken enters takes_byte goes_on advanced_state
  advanced_step =
      simp (
        only_fd (seen_of seen count) b (λ e. omega (arith, e, payload_below _ b rule)),
        ne_eqb place 0 (omega (arith, three)),
        ne_eqb place 1 (omega (arith, three)),
        ne_eqb place 2 (omega (arith, three)),
        lt-ltb place (block_length s.frame.kind) long,
        le-leb 3 place three,
        start,
        end,
        rule,
      )

-- the state where the payload byte is the first
pub advanced_first : (s : State) → advanced_state s s.frame.place s.frame.check s.seen s.frame.count ≡ s
unfolding advanced_state
advanced_first s = refl

-- the tests of the definition, as facts
pub record PayloadByte (f : Frame) (marks : ℕ) (digits : List ℕ) (b : ℕ) : Type 0 where
  pub past : 3 ≤ f.place
  pub begun : 1 ≤ f.due
  pub ten : f.due ≤ 10
  pub five : f.count ≡ 5
  pub inside : f.place < data_block_length f.part
  pub same : f.kind ≡ kind_of f.part f.due
  pub known : is_kind f.kind ≡ true
  pub coded : is_picture_code f.picture ≡ true
  pub few : are_marks marks ≡ true
  pub still : every (λ d. eqb d 0) digits ≡ true
  pub rule : is_payload_byte f.part b ≡ true

pub payload_byte_has : (f : Frame) (marks : ℕ) (digits : List ℕ) (b : ℕ) → is_payload_here f marks digits b ≡ true → PayloadByte f marks digits b
unfolding is_payload_here
payload_byte_has f marks digits b h =
    let (h0, rule) = and_split _ _ h in
    let (h00, still) = and_split _ _ h0 in
    let (h1, few) = and_split _ _ h00 in
    let (h2, coded) = and_split _ _ h1 in
    let (h3, known) = and_split _ _ h2 in
    let (h4, same) = and_split _ _ h3 in
    let (h5, inside) = and_split _ _ h4 in
    let (h6, five) = and_split _ _ h5 in
    let (h7, ten) = and_split _ _ h6 in
    let (past, begun) = and_split _ _ h7 in
    record {
      past = leb-true 3 f.place past;
      begun = omega (arith, eqb-false f.due 0 (not-true _ begun));
      ten = leb-true f.due 10 ten;
      five = eqb-true f.count 5 five;
      inside = ltb-true f.place (data_block_length f.part) inside;
      same = eqb-true f.kind (kind_of f.part f.due) same;
      known = known;
      coded = coded;
      few = few;
      still = still;
      rule = rule;
    }

-- 0 is no kind
not_zero : (k : ℕ) → is_kind k ≡ true → k ≢ 0
unfolding is_kind part_of kinds
not_zero k h z = true≢false (sym h ∙ ap is_kind z)

-- a kind whose number is that of a data text
module _ (k t : ℕ) (number : text_number k ≡ t) (one : 1 ≤ t) (ten : t ≤ 10) where
  no_start : is_start_kind k ≡ false
  unfolding is_start_kind
  no_start = simp (number, ne_eqb t 0 (omega (arith, one)), and-false)

  no_end : is_end_kind k ≡ false
  unfolding is_end_kind
  no_end = simp (number, ne_eqb t 11 (omega (arith, ten)), and-false)

  data_here : is_kind k ≡ true → is_data_kind k ≡ true
  unfolding is_data_kind
  data_here h = simp (h, number, ne_eqb t 0 (omega (arith, one)), ne_eqb t 11 (omega (arith, ten)))

-- part and text number of the kind under way are the part open and the due text, and the block is as long as that part's
module _ (f : Frame) (marks : ℕ) (digits : List ℕ) (b : ℕ) (h : PayloadByte f marks digits b) where
  due_known : is_kind (kind_of f.part f.due) ≡ true
  due_known = subst (λ k. is_kind k ≡ true) h.same h.known

  part_here : part_of f.kind ≡ f.part
  part_here = ap part_of h.same ∙ (text_back f.part f.due due_known).0

  number_here : text_number f.kind ≡ f.due
  number_here = ap text_number h.same ∙ (text_back f.part f.due due_known).1

  block_here : block_length f.kind ≡ data_block_length f.part
  block_here =
      data_block_length_lem f.kind (data_here f.kind f.due number_here h.begun h.ten h.known)
      ∙ ap data_block_length part_here

  part_open : f.part ≢ 0
  unfolding is_kind
  part_open z = true≢false (sym h.known ∙ ap (λ p. not (eqb p 0)) (part_here ∙ z))

  long_here : f.place < block_length f.kind
  long_here = omega (arith, h.inside, block_here)

  pub short_here : f.place < 2003
  short_here = omega (arith, long_here, block_most f.kind)

module _ (s : State) (b : ℕ) (h : PayloadByte s.frame s.marks s.digits b) where
  -- refusal 2 lets the state pass
  pub possible_here : is_possible (state_of s) ≡ true
  unfolding is_possible is_due kind_read fits_part awaits_time are_waiting all_of
  possible_here =
      let f = s.frame in
      simp (
        le-leb (length (seen_of s.seen f.count)) 5 (omega (arith, length_seen s.seen f.count, h.five)),
        ne_eqb f.part 0 (part_open f s.marks s.digits b h),
        due_known f s.marks s.digits b h,
        ne_eqb f.due 0 (omega (arith, h.begun)),
        ne_eqb f.kind 0 (not_zero f.kind h.known),
        le-leb 3 f.place h.past,
        le-leb f.place (block_length f.kind + 2) (omega (arith, long_here f s.marks s.digits b h)),
        h.coded,
        h.known,
        eq-eqb f.kind (kind_of f.part f.due) h.same,
        h.few,
        no_start f.kind f.due (number_here f s.marks s.digits b h) h.begun h.ten,
        h.still,
      )

  count_here : push_count s.frame.count ≡ 5
  unfolding push_count
  count_here = rw h.five

  -- and the byte enters the grid
  pub decide_here :
      decide s b
      ≡ record {
        next = advanced_state s (s.frame.place + 1) (s.frame.check ⊕ b) (push_seen s.seen b) 5;
        answer = Quiet;
        effect = Enter (2000 * (s.frame.due - 1) + (s.frame.place - 3));
      }
  decide_here =
      let f = s.frame in
      ap (λ (t : State). decide t b) (sym (advanced_first s))
      ∙ advanced_step s f.place f.check s.seen f.count b
      (no_start f.kind f.due (number_here f s.marks s.digits b h) h.begun h.ten)
      (no_end f.kind f.due (number_here f s.marks s.digits b h) h.begun h.ten) h.past (long_here f s.marks s.digits b h)
      (subst (λ p. is_payload_byte p b ≡ true) (sym (part_here f s.marks s.digits b h)) h.rule)
      ∙ rw (count_here, number_here f s.marks s.digits b h)
