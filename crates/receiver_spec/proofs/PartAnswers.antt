-- How the texts of an undamaged part are answered, from the start text's last byte on, whatever came before. Assumes nothing.
use mathlib.Core.Path.{◌≡◌, refl, sym, ap, ap₂, ◌∙◌, subst}
use mathlib.Core.Bool.{true}
use mathlib.Core.List.{List, [], ◌∷◌, ◌++◌, append_assoc}
use Prim.Native.Nat.{ℕ, suc}
use native.Mathlib.Omega.{arith}
use lib.ListN.{length, take, length-append}
use Rattle.text.specs.Text.{EOR, TPAD, control_a, check_byte}
use Rattle.text.specs.Part.{UndamagedPart}
use Rattle.general_laws.specs.Bytes.{◌!◌}
use Rattle.text_laws.proofs.KindTable.{start_block_length}
use Rattle.receiver_spec.specs.Marks.{is_marked}
use Rattle.receiver_spec.specs.Seen.{push}
use Rattle.receiver_spec.specs.State.{State}
use Rattle.receiver_spec.specs.Receiver.{step}
use Rattle.receiver_spec.specs.Calls.{spread, answers_of}
use Rattle.receiver_spec.specs.Demand3.{part_answers}
use Rattle.receiver_spec.proofs.Machine.{Rules, Machine, Out, mk, answering, at_last, move, run, AllQuiet, quiet_none, quiet_byte, block, most, Open, begun, more, Whole, whole}
use Rattle.receiver_spec.proofs.WayBack.{take_last, seen_check, start_run}
use Rattle.receiver_spec.proofs.Completing.{open_some}
use Rattle.receiver_spec.proofs.Instance.{Held, radar, machine, step_is_move, step_marks, radar_laws}
use Rattle.receiver_spec.proofs.WholeParts.{open_answers, whole_answers, undamaged_said}
use Rattle.receiver_spec.proofs.NotBefore.{due_most}

module _ (marks : ℕ) where
  abbrev R : Rules
  R = radar marks

  -- a (machine marks) that is given these bytes gives these answers
  pub data Says : Machine R → List ℕ → List ℕ → Machine R → Type 0 where
    says_none : {m : Machine R} → Says m [] [] m
    says_byte : {m n o : Machine R} {b a : ℕ} {bytes answers : List ℕ} → move R m b ≡ answering R a n → Says n bytes answers o
        → Says m (b ∷ bytes) (a ∷ answers) o

  pub says_append : {m n o : Machine R} {xs ys vs us : List ℕ} → Says m xs vs n → Says n ys us o → Says m (xs ++ ys) (vs ++ us) o
  says_append says_none s = s
  says_append (says_byte e r) s = says_byte e (says_append r s)

  pub says_run : {m n : Machine R} {xs vs : List ℕ} → Says m xs vs n → run R m xs ≡ n
  unfolding run
  says_run says_none = refl
  says_run (says_byte {bytes} e r) = ap (λ (o : Out R). run R o.machine bytes) e ∙ says_run r

  -- a text: 0 up to its last byte
  text_says : {m n o : Machine R} {xs : List ℕ} {a : ℕ} → AllQuiet R m xs n → move R n TPAD ≡ answering R a o
      → Says m (xs ++ (TPAD ∷ [])) (spread (length (xs ++ (TPAD ∷ []))) a) o
  text_says quiet_none e = says_byte e says_none
  text_says {m} {o = o} {xs = x ∷ xs} {a} (quiet_byte {n = next} f r) e =
      subst (λ n. Says m ((x ∷ xs) ++ (TPAD ∷ [])) (spread n a) o) (sym (ap suc long))
      (says_byte f (subst (λ n. Says next (xs ++ (TPAD ∷ [])) (spread n a) o) long (text_says r e)))
    where
      long : length (xs ++ (TPAD ∷ [])) ≡ suc (length xs)
      long = omega (arith, length-append xs (TPAD ∷ []))

  -- bytes that end so: what comes before the start text's last byte, and the answers from there on
  record From (m : Machine R) (ys answers : List ℕ) (n : Machine R) : Type 0 where
    front : List ℕ
    tail : List ℕ
    split : ys ≡ front ++ tail
    long : length front ≡ 39
    says : Says (run R m front) tail answers n

  from_more : {m n o : Machine R} {ys zs vs us : List ℕ} → From m ys vs n → Says n zs us o → From m (ys ++ zs) (vs ++ us) o
  from_more {zs = zs} x s =
      record {
        front = x.front;
        tail = x.tail ++ zs;
        split = ap (λ t. t ++ zs) x.split ∙ append_assoc x.front x.tail zs;
        long = x.long;
        says = says_append x.says s;
      }

  open_says : {ys : List ℕ} {p d : ℕ} {c : Held} (o : Open R ys p d c) (m : Machine R) → (w : List ℕ) × From m ys ((open_answers marks) o) (mk R (TPAD ∷ w) 0 0 0 p d 0 c)
  unfolding open_answers most at_last
  open_says (begun {q} {k} {xs} hq hk l r) m = (
    take 4 (seen_check R (radar_laws marks) q k xs),
    record {
      front = most R (block R q k xs);
      tail = TPAD ∷ [];
      split = refl;
      long =
          length-append control_a (block R q k xs ++ (EOR ∷ check_byte (block R q k xs) ∷ []))
          ∙ omega (arith, length-append (block R q k xs) (EOR ∷ check_byte (block R q k xs) ∷ []), l, start_block_length k hk);
      says = says_byte (start_run R (radar_laws marks) hq hk l r m) says_none;
    },
  )
  open_says (more {p} {d} {k} {xs} {c} {e} o hq hk g n v l r) m =
      let q = c.header.picture in
      let (w, before) = open_says o m in (
        take 4 (seen_check R (radar_laws marks) q k xs),
        from_more before
            (text_says (due_most R (radar_laws marks) w p d (open_some R (radar_laws marks) o) hq hk g n l r)
            (take_last R (radar_laws marks) (seen_check R (radar_laws marks) q k xs) k q p d (check_byte (block R q k xs)) e ((radar_laws marks).long_3 k g) ∙ rw (n, v))),
      )

  whole_says : {zs : List ℕ} {e : Held} (x : Whole R zs e) (m : Machine R) → (n : Machine R) × From m zs ((whole_answers marks) x) n
  unfolding whole_answers at_last
  whole_says (whole {p} {d} {k} {xs} {c} {e} o hq hk g n v l r z) m =
      let q = c.header.picture in
      let (w, before) = open_says o m in (
        mk R (push (seen_check R (radar_laws marks) q k xs) TPAD) 0 0 0 0 0 0 e,
        from_more before
            (text_says (due_most R (radar_laws marks) w p d (open_some R (radar_laws marks) o) hq hk g n l r)
            (take_last R (radar_laws marks) (seen_check R (radar_laws marks) q k xs) k q p d (check_byte (block R q k xs)) e ((radar_laws marks).long_3 k g) ∙ rw (n, v, z))),
      )

  -- ---- 01's receiver

  pub said_answers : {m n : Machine R} {xs vs : List ℕ} → Says m xs vs n → (s : State) (g : List ℕ) → s.marks ≡ marks → (machine marks) s g ≡ m → answers_of s g xs ≡ vs
  unfolding answers_of
  said_answers says_none s g k h = refl
  said_answers (says_byte {b} e r) s g k h =
      let here = step_is_move marks s g b k ∙ ap (λ (x : Machine R). move R x b) h ∙ e in
      ap₂ (λ a t. a ∷ t) (ap (λ (o : Out R). o.answer) here) (said_answers r (step s g b).state (step s g b).grid (step_marks s g b ∙ k) (ap (λ (o : Out R). o.machine) here))

  -- the part but for its front, the start text up to its last byte: what a receiver answers there, wherever the front led it
  pub part_said : {part : List ℕ} (u : UndamagedPart part) → is_marked marks (u.part.start ! 1) ≡ true → (m : Machine R)
      → (front tail : List ℕ) × (part ≡ front ++ tail) × (length front ≡ 39)
      × ((s : State) (g : List ℕ) → s.marks ≡ marks → (machine marks) s g ≡ run R m front → answers_of s g tail ≡ part_answers u.part)
  part_said u hm m =
      let x = undamaged_said marks u hm in
      let (_, f) = whole_says x.is_whole m in
      (f.front, f.tail, f.split, f.long, λ s g k h. said_answers f.says s g k h ∙ x.says)
