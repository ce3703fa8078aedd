-- What the number of bytes left means, for every list of receiving calls. Assumes nothing.
use mathlib.Core.Path.{◌≡◌, refl, sym, ap, ap₂, ◌∙◌, subst}
use mathlib.Core.Logic.{◌≢◌, ◌↔◌}
use mathlib.Core.Bool.{true}
use mathlib.Core.List.{List, [], ◌∷◌, ◌++◌, append_assoc, head-eq_of_cons-eq, tail-eq_of_cons-eq}
use Prim.Native.Nat.{ℕ, suc, ◌+◌, ◌≤◌}
use native.Mathlib.Omega.{arith}
use lib.ListN.{length, take, length-append, get_or-append}
use lib.Dec.{eqb}
use lib.Seq.{length-take-le, get_or-append-add}
use borrow.Author.Tests.{eq-eqb, ne_eqb}
use Rattle.general_laws.specs.Bytes.{◌!◌, is_in}
use Rattle.text.specs.Text.{TPAD, opening}
use Rattle.text.specs.Kinds.{block_length, text_length}
use Rattle.text.specs.Part.{UndamagedText}
use Rattle.general_laws.proofs.Tests.{by_if}
use Rattle.text_laws.proofs.Openings.{no_later_opening}
use Rattle.text_laws.proofs.Parts.{text_length_settled}
use Rattle.receiver_spec.specs.State.{State, fresh, empty_grid, is_possible}
use Rattle.receiver_spec.specs.Receiver.{Step, step}
use Rattle.receiver_spec.specs.Calls.{number, CallOutcome, Request, byte, slice, Call, on_grid, elsewhere, ask, spread, After, received, answers_of, state_after, grid_after}
use Rattle.receiver_spec.proofs.Laws.{demand_3, PossibleOnGrid, fresh_sound, steps_sound, calls_sound, sound_possible, number_answered, Stepped, calls_stepped, answers_append, answers_long, state_append, place_after_kind, place_in_text, kind_by_place, TextMoves, goes_on, ends, dropped, text_moves, last_due, ends_text, place_most, since_opening, Began, began}
use Rattle.service_bytes_left.specs.BytesLeft.{LeftAnswer, left, refused, rest_length, bytes_left}
use Rattle.service_bytes_left.specs.UntilTextEnds.{left_after, UnderWayWithKindRead, StartedBy, Falls, UntilTextEnds}

-- ---- the number by cases

left_between : (s : State) → is_possible s ≡ true → s.place ≡ 0 → bytes_left s ≡ left 0
unfolding bytes_left
left_between s p e = rw (p, eq-eqb s.place 0 e)

left_unread : (s : State) → is_possible s ≡ true → s.kind ≡ 0 → bytes_left s ≡ left 0
unfolding bytes_left
left_unread s p e = rw (p, eq-eqb s.kind 0 e) (by_if (λ a. a ≡ left 0) (eqb s.place 0) (λ _. refl) (λ _. refl))

left_read : (s : State) → is_possible s ≡ true → s.kind ≢ 0 → bytes_left s ≡ left (rest_length s)
unfolding bytes_left
left_read s p n = rw (p, ne_eqb s.place 0 (λ e. omega (arith, e, place_after_kind s p n)), ne_eqb s.kind 0 n)

left_inj : {m n : ℕ} → left m ≡ left n → m ≡ n
left_inj e = ap count e
  where
    count : LeftAnswer → ℕ
    count (left n) = n
    count (refused n) = 0

-- once the kind is read: what is left and what has come from `FD` on are the block and three bytes
rest_is : (s : State) → is_possible s ≡ true → s.kind ≢ 0 → rest_length s + s.place ≡ block_length s.kind + 3
unfolding rest_length
rest_is s p n = omega (arith, place_in_text s p n)

-- ---- the opening

-- An opening taken, of which and of all bytes behind it an undamaged text may come, started the text under way
same_start : (marks : ℕ) (before behind rest : List ℕ) → (state_after (fresh marks) empty_grid (before ++ (opening ++ behind))).kind ≢ 0 → UndamagedText (opening ++ (behind ++ rest))
    → ((state_after (fresh marks) empty_grid (before ++ (opening ++ behind))).place ≡ suc (length behind))
    × ((state_after (fresh marks) empty_grid (before ++ (opening ++ behind))).kind ≡ behind ! 1)
same_start marks before behind rest n u =
    let h = before ++ (opening ++ behind) in
    let s = state_after (fresh marks) empty_grid h in
    go (began marks h (place_after_kind s (sound_possible (steps_sound h (fresh marks) empty_grid (fresh_sound marks))) n)) (since_opening marks before behind)
  where
    go : {s : State} → Began s (before ++ (opening ++ behind)) → s.place ≤ suc (length behind) → (s.place ≡ suc (length behind)) × (s.kind ≡ behind ! 1)
    go b l = let same = no_later_opening before behind rest b.before b.behind u b.split (omega (arith, b.place, l)) in
        (b.place ∙ ap (λ t. suc (length t)) same, b.kind ∙ ap (λ t. t ! 1) same)

-- an undamaged text of the kind that was read has as many bytes as have come and as the number says
kind_long : (s : State) (text : List ℕ) → is_possible s ≡ true → s.kind ≢ 0 → UndamagedText text → text ! 7 ≡ s.kind → length text ≡ 5 + (s.place + rest_length s)
kind_long s text p n u k = omega (arith, rest_is s p n, text_length_settled text u ∙ ap (λ t. text_length (block_length t)) k)

-- the rest of such a text has as many bytes as the number says
rest_long : (s : State) (behind rest : List ℕ) → is_possible s ≡ true → s.kind ≢ 0 → s.place ≡ suc (length behind) → s.kind ≡ behind ! 1
    → UndamagedText (opening ++ (behind ++ rest)) → rest_length s ≡ length rest
rest_long s behind rest p n i k u =
    let kind : (behind ++ rest) ! 1 ≡ s.kind = get_or-append behind rest 0 1 (omega (arith, place_after_kind s p n, i)) ∙ sym k in
    omega (arith, kind_long s (opening ++ (behind ++ rest)) p n u kind, i, length-append behind rest)

-- ---- bytes taken inside the text

-- What bytes do to the number: those before the last are answered 0, the last is answered a
abbrev Fell : State → State → ℕ → ℕ → Type 0
Fell s z count a = Falls (bytes_left s) (bytes_left z) count a

one_byte : (s : State) (o : Step) → is_possible s ≡ true → s.kind ≢ 0 → is_possible o.state ≡ true → TextMoves s o → Fell s o.state 1 o.answer
one_byte s o p n q (goes_on z i k) =
    let m : o.state.kind ≢ 0 = λ e. n (sym k ∙ e) in
    let here = rest_is s p n in
    let there = rest_is o.state q m in
    let same : block_length o.state.kind ≡ block_length s.kind = ap block_length k in
    record {
      by_bytes = λ _. (rest_length o.state, left_read s p n ∙ ap left (omega (arith, here, there, same, i)), left_read o.state q m, (λ _. omega (arith, there, place_in_text o.state q m), λ _. z));
      dropped = λ l. absurd (omega (arith, z, l));
    }
one_byte s o p n q (ends a b l i) =
    record {
      by_bytes = λ _. (0, left_read s p n ∙ ap left (omega (arith, rest_is s p n, l)), left_between o.state q i, (λ e. absurd (omega (arith, a, e)), λ e. absurd (omega (arith, e))));
      dropped = λ d. absurd (omega (arith, b, d));
    }
one_byte s o p n q (dropped a r k) = record { by_bytes = λ l. absurd (omega (arith, a, l)); dropped = λ _. left_unread o.state q k }

-- the first of more bytes: the text goes on
first_byte : (s : State) (o : Step) → s.kind ≢ 0 → o.answer ≡ 0 → TextMoves s o → (o.state.place ≡ suc s.place) × (o.state.kind ≢ 0) × (o.state.kind ≡ s.kind)
first_byte s o n z (goes_on _ i k) = (i, (λ e. n (sym k ∙ e)), k)
first_byte s o n z (ends a b l i) = absurd (omega (arith, a, z))
first_byte s o n z (dropped a r k) = absurd (omega (arith, a, z))

fell : (bytes : List ℕ) (s : State) (g : List ℕ) (a : ℕ) → PossibleOnGrid s g → s.kind ≢ 0 → (length bytes ≡ 0 → a ≡ 0)
    → answers_of s g bytes ≡ spread (length bytes) a → Fell s (state_after s g bytes) (length bytes) a
unfolding state_after grid_after answers_of
fell [] s g a h n none e =
    let p = sound_possible h in
    record {
      by_bytes = λ _. (rest_length s, left_read s p n ∙ ap left (omega arith), left_read s p n, (λ _. omega (arith, rest_is s p n, place_in_text s p n), λ _. none refl));
      dropped = λ l. absurd (omega (arith, none refl, l));
    }
fell (b ∷ []) s g a h n none e =
    let o = step s g b in
    subst (Fell s o.state 1) (head-eq_of_cons-eq e)
    (one_byte s o (sound_possible h) n (sound_possible (steps_sound (b ∷ []) s g h)) (text_moves s g b (sound_possible h) n))
fell (b ∷ (c ∷ bytes)) s g a h n none e =
    let o = step s g b in
    let p = sound_possible h in
    let h' = steps_sound (b ∷ []) s g h in
    let p' = sound_possible h' in
    let (i, m, k) = first_byte s o n (head-eq_of_cons-eq e) (text_moves s g b p n) in
    let ih = fell (c ∷ bytes) o.state o.grid a h' m (λ z. absurd (omega arith)) (tail-eq_of_cons-eq e) in
    let same : block_length o.state.kind ≡ block_length s.kind = ap block_length k in
    record {
      by_bytes = λ l. let (r, before, behind, still) = ih.by_bytes l in
          let now : rest_length o.state ≡ length (c ∷ bytes) + r = left_inj (sym (left_read o.state p' m) ∙ before) in
          (r, left_read s p n ∙ ap left (omega (arith, rest_is s p n, rest_is o.state p' m, same, i, now)), behind, still);
      dropped = ih.dropped;
    }

module _ (marks : ℕ) where
  -- ---- one call more

  byte_told : (calls : List Call) (b : ℕ) → number (ask (received marks calls).state (received marks calls).grid (byte b)).reply ≡ (step (received marks calls).state (received marks calls).grid b).answer
  byte_told calls b =
      let a = received marks calls in
      let (asked, _, _) = (demand_3 marks (calls ++ (on_grid (byte b) ∷ []))).each calls (on_grid (byte b)) [] refl in
      ap (λ (o : CallOutcome). number o.reply) asked ∙ number_answered a.state.part (step a.state a.grid b).answer

  falls : (calls : List Call) (r : Request) → (received marks calls).state.kind ≢ 0
      → let outcome = ask (received marks calls).state (received marks calls).grid r in
      Falls (left_after marks calls) (left_after marks (calls ++ (on_grid r ∷ []))) outcome.count (number outcome.reply)
  unfolding state_after answers_of
  falls calls (byte b) n =
      let a = received marks calls in
      let (asked, _, z) = (demand_3 marks (calls ++ (on_grid (byte b) ∷ []))).each calls (on_grid (byte b)) [] refl in
      rw (ap (λ (o : CallOutcome). o.count) asked, byte_told calls b, ap (λ (t : After). t.state) z)
      (fell (b ∷ []) a.state a.grid (step a.state a.grid b).answer (calls_sound marks calls) n (λ e. absurd (omega arith)) refl)
  falls calls (slice bytes) n =
      let a = received marks calls in
      let o = ask a.state a.grid (slice bytes) in
      let (t, z) = (demand_3 marks (calls ++ (on_grid (slice bytes) ∷ []))).each calls (on_grid (slice bytes)) [] refl in
      let long : length (take o.count bytes) ≡ o.count = length-take-le o.count bytes t.within in
      rw (ap (λ (x : After). x.state) z ∙ t.state)
      (subst (λ m. Falls (bytes_left a.state) (bytes_left (state_after a.state a.grid (take o.count bytes))) m (number o.reply)) long
      (fell (take o.count bytes) a.state a.grid (number o.reply) (calls_sound marks calls) n (λ e. ap number (t.none (sym long ∙ e)))
      (t.each ∙ ap (λ m. spread m (number o.reply)) (sym long))))

  -- ---- the claim

  -- the answer of the byte behind others
  answer_behind : (bytes : List ℕ) (b : ℕ) → answers_of (fresh marks) empty_grid (bytes ++ (b ∷ [])) ! length bytes ≡ (step (state_after (fresh marks) empty_grid bytes) (grid_after (fresh marks) empty_grid bytes) b).answer
  unfolding answers_of
  answer_behind bytes b =
      let said = answers_of (fresh marks) empty_grid bytes in
      let there : length bytes ≡ length said + 0 = omega (arith, answers_long bytes (fresh marks) empty_grid) in
      ap₂ (λ (t : List ℕ) i. t ! i) (answers_append bytes (b ∷ []) (fresh marks) empty_grid) there ∙ get_or-append-add said _ 0 0

  -- a text accepted in the end: each of its bytes was one place more
  under_way : (before behind rest : List ℕ) (b : ℕ) → 2 ≤ length behind → UndamagedText (opening ++ (behind ++ (rest ++ (b ∷ []))))
      → (state_after (fresh marks) empty_grid ((before ++ (opening ++ behind)) ++ rest)).kind ≢ 0 → 3 ≤ (state_after (fresh marks) empty_grid (before ++ (opening ++ behind))).place
  under_way before behind rest b two u n =
      let h = before ++ (opening ++ behind) in
      let joined : h ++ rest ≡ before ++ (opening ++ (behind ++ rest)) = append_assoc before (opening ++ behind) rest in
      let (place, _) = same_start marks before (behind ++ rest) (b ∷ []) (subst (λ t. (state_after (fresh marks) empty_grid t).kind ≢ 0) joined n)
      (subst (λ t. UndamagedText (opening ++ t)) (sym (append_assoc behind rest (b ∷ []))) u) in
      let grown : (state_after (fresh marks) empty_grid (before ++ (opening ++ (behind ++ rest)))).place ≤ (state_after (fresh marks) empty_grid h).place + length rest =
      subst (λ (t : State). t.place ≤ (state_after (fresh marks) empty_grid h).place + length rest) (sym (state_append h rest (fresh marks) empty_grid) ∙ ap (state_after (fresh marks) empty_grid) joined)
      (place_most rest (state_after (fresh marks) empty_grid h) (grid_after (fresh marks) empty_grid h)) in
      omega (arith, place, grown, length-append behind rest, two)

  -- The theorem
  pub until_text_ends : (calls : List Call) → UntilTextEnds marks calls
  until_text_ends calls =
      record {
        between = left_between s possible;
        unread = left_unread s possible;
        started = λ (_, n). began_here (subst (λ (t : State). Began t taken) (sym x.state) (began marks taken (subst (λ (t : State). 3 ≤ t.place) x.state (place_after_kind s possible n))));
        of_kind = λ (_, n). (rest_length s, left_read s possible n, λ text u k. kind_long s text possible n u k);
        exact = λ (_, n). exact n;
        accepted = accepted;
        falls = λ (_, n) r. falls calls r n;
        last = λ (_, n). last n;
        kept = λ r grid other. let (_, _, z) = (demand_3 marks (calls ++ (elsewhere r grid other ∷ []))).each calls (elsewhere r grid other) [] refl in
            ap (λ (a : After). bytes_left a.state) z;
      }
    where
      taken : List ℕ
      taken = (received marks calls).taken

      s : State
      s = (received marks calls).state

      x : Stepped marks calls
      x = calls_stepped marks calls

      possible : is_possible s ≡ true
      possible = sound_possible (calls_sound marks calls)

      began_here : Began s taken → StartedBy (received marks calls)
      began_here b =
          record {
            before = b.before;
            behind = b.behind;
            split = b.split;
            place = b.place;
            kind = b.kind;
            latest = λ earlier later e. omega (arith, b.place, subst (λ (t : State). t.place ≤ suc (length later)) (sym (x.state ∙ ap (state_after (fresh marks) empty_grid) e)) (since_opening marks earlier later));
          }

      here : s.kind ≢ 0 → (before behind rest : List ℕ) → taken ≡ before ++ (opening ++ behind) → UndamagedText (opening ++ (behind ++ rest))
          → (s.place ≡ suc (length behind)) × (s.kind ≡ behind ! 1)
      here n before behind rest e u =
          let same : s ≡ state_after (fresh marks) empty_grid (before ++ (opening ++ behind)) = x.state ∙ ap (state_after (fresh marks) empty_grid) e in
          subst (λ (t : State). (t.place ≡ suc (length behind)) × (t.kind ≡ behind ! 1)) (sym same)
          (same_start marks before behind rest (subst (λ (t : State). t.kind ≢ 0) same n) u)

      exact : s.kind ≢ 0 → (before behind rest : List ℕ) → taken ≡ before ++ (opening ++ behind) → UndamagedText (opening ++ (behind ++ rest))
          → (left_after marks calls ≡ left (length rest)) × (s.place ≡ suc (length behind))
      exact n before behind rest e u =
          let (i, k) = here n before behind rest e u in
          (left_read s possible n ∙ ap left (rest_long s behind rest possible n i k u), i)

      accepted : (later : List Call) (before behind rest : List ℕ) (b : ℕ) → taken ≡ before ++ (opening ++ behind) → 2 ≤ length behind
          → (received marks (calls ++ later)).taken ≡ taken ++ (rest ++ (b ∷ [])) → UndamagedText (opening ++ (behind ++ (rest ++ (b ∷ []))))
          → 1 ≤ (received marks (calls ++ later)).said ! length (taken ++ rest) → (received marks (calls ++ later)).said ! length (taken ++ rest) ≤ 3
          → UnderWayWithKindRead (received marks calls) × (left_after marks calls ≡ left (length (rest ++ (b ∷ []))))
      accepted later before behind rest b e two e2 u one three =
          let answer : (received marks (calls ++ later)).said ! length (taken ++ rest) ≡ (step (state_after (fresh marks) empty_grid (taken ++ rest)) (grid_after (fresh marks) empty_grid (taken ++ rest)) b).answer =
          ap (λ (t : List ℕ). t ! length (taken ++ rest)) ((calls_stepped marks (calls ++ later)).said ∙ ap (answers_of (fresh marks) empty_grid) (e2 ∙ sym (append_assoc taken rest (b ∷ []))))
          ∙ answer_behind (taken ++ rest) b in
          let read : (state_after (fresh marks) empty_grid (taken ++ rest)).kind ≢ 0 =
          ends_text (state_after (fresh marks) empty_grid (taken ++ rest)) (grid_after (fresh marks) empty_grid (taken ++ rest)) b (sound_possible (steps_sound (taken ++ rest) (fresh marks) empty_grid (fresh_sound marks)))
          (subst (λ n. 1 ≤ n) answer one) (subst (λ n. n ≤ 3) answer three) in
          let place : 3 ≤ s.place = subst (λ (t : State). 3 ≤ t.place) (sym (x.state ∙ ap (state_after (fresh marks) empty_grid) e))
          (under_way before behind rest b two u (subst (λ t. (state_after (fresh marks) empty_grid (t ++ rest)).kind ≢ 0) e read)) in
          let n = kind_by_place s possible place in
          (((λ z. omega (arith, place, z)), n), (exact n before behind (rest ++ (b ∷ [])) e u).0)

      last : s.kind ≢ 0 → (left_after marks calls ≡ left 1) ↔ (is_in (number (ask s (received marks calls).grid (byte TPAD)).reply) (1 ∷ 2 ∷ 3 ∷ 22 ∷ []) ≡ true)
      last n =
          let due = last_due s (received marks calls).grid possible n in
          let told = byte_told calls TPAD in (
            λ e. let one : rest_length s ≡ 1 = left_inj (sym (left_read s possible n) ∙ e) in
                ap (λ a. is_in a (1 ∷ 2 ∷ 3 ∷ 22 ∷ [])) told ∙ due.0 (omega (arith, one, rest_is s possible n)),
            λ h. left_read s possible n ∙ ap left (omega (arith, due.1 (ap (λ a. is_in a (1 ∷ 2 ∷ 3 ∷ 22 ∷ [])) (sym told) ∙ h), rest_is s possible n)),
          )
