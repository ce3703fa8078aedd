-- Request 111: the digits of the time wait at places 9 to 23 of a start text, each 9 at most, and are 0 elsewhere; every step keeps
-- that. Assumes nothing.
use mathlib.Core.Path.{◌≡◌, refl, sym, subst}
use mathlib.Core.Bool.{Bool, true, false, and-false}
use mathlib.Core.List.{List, [], ◌∷◌}
use Prim.Native.Nat.{ℕ, zero, suc, ◌-◌, ◌≤◌}
use native.Mathlib.Omega.{arith}
use lib.Dec.{eqb, leb}
use lib.ListN.{set}
use borrow.Author.Tests.{eqb-true, leb-true, leb-false, le-leb, lt-leb, ne_eqb}
use Rattle.general_laws.specs.Bytes.{is_in, every}
use Rattle.text.specs.Kinds.{is_start_kind, block_length}
use Rattle.text.specs.StartBlock.{digit_places, stop_places, is_digit}
use Rattle.general_laws.proofs.Tests.{by_test, by_if, and_split, and_join}
use Rattle.text_laws.proofs.KindTable.{start_block_length}
use Rattle.receiver_spec.specs.State.{State, no_digits, awaits_time, are_waiting}
use Rattle.receiver_spec.specs.Contents.{index_in, time_takes, start_takes, enter_digits, takes_byte}
use Rattle.receiver_spec.specs.Receiver.{entered}

-- ---- lists of digits

abbrev pub AllZero : List ℕ → Type 0
AllZero ds = every (λ d. eqb d 0) ds ≡ true

abbrev pub AllSmall : List ℕ → Type 0
AllSmall ds = every (λ d. leb d 9) ds ≡ true

-- what holds of 0 holds of each
zero_each : (test : ℕ → Bool) (ds : List ℕ) → test 0 ≡ true → AllZero ds → every test ds ≡ true
unfolding every
zero_each test [] t h = refl
zero_each test (d ∷ ds) t h =
    let (z, r) = and_split (eqb d 0) (every (λ d. eqb d 0) ds) h in
    and_join (subst (λ n. test n ≡ true) (sym (eqb-true d 0 z)) t) (zero_each test ds t r)

zero_small : (ds : List ℕ) → AllZero ds → AllSmall ds
zero_small ds h = zero_each (λ d. leb d 9) ds refl h

set_small : (ds : List ℕ) (i v : ℕ) → AllSmall ds → v ≤ 9 → AllSmall (set ds i v)
unfolding every
set_small [] i v h l = refl
set_small (d ∷ ds) zero v h l = and_join (le-leb v 9 l) (and_split (leb d 9) (every (λ d. leb d 9) ds) h).1
set_small (d ∷ ds) (suc i) v h l =
    let (a, r) = and_split (leb d 9) (every (λ d. leb d 9) ds) h in
    and_join a (set_small ds i v r l)

none_zero : AllZero no_digits
unfolding every
none_zero = refl

-- ---- a state where no digit waits, and one where some may

pub zero_waits : (s : State) → AllZero s.digits → are_waiting s ≡ true
unfolding are_waiting
zero_waits s z = by_if (λ t. t ≡ true) (awaits_time s) (λ _. zero_each _ s.digits refl z) (λ _. z)

pub none_waits : (s : State) → s.digits ≡ no_digits → are_waiting s ≡ true
none_waits s e = zero_waits s (subst AllZero (sym e) none_zero)

pub zero_elsewhere : (s : State) → are_waiting s ≡ true → awaits_time s ≡ false → AllZero s.digits
unfolding are_waiting
zero_elsewhere s h n = rw n at h

pub small_always : (s : State) → are_waiting s ≡ true → AllSmall s.digits
unfolding are_waiting
small_always s h = by_test (awaits_time s) (λ e. rw e at h) (λ e. zero_small s.digits (rw e at h))

-- places 9 to 23 of a start text, and no other
pub not_start : (s : State) → is_start_kind s.kind ≡ false → awaits_time s ≡ false
unfolding awaits_time
not_start s h = rw h

pub not_yet : (s : State) → s.place ≤ 8 → awaits_time s ≡ false
unfolding awaits_time
not_yet s l = simp (lt-leb 9 s.place (omega (arith, l)), and-false)

pub no_more : (s : State) → 24 ≤ s.place → awaits_time s ≡ false
unfolding awaits_time
no_more s l = simp (lt-leb s.place 23 (omega (arith, l)), and-false)

pub closing : (s : State) → block_length s.kind ≤ s.place → awaits_time s ≡ false
closing s l = by_test (is_start_kind s.kind) (λ e. no_more s (omega (arith, l, start_block_length s.kind e))) (λ e. not_start s e)

pub waits_there : (s : State) → is_start_kind s.kind ≡ true → 9 ≤ s.place → s.place ≤ 23 → AllSmall s.digits → are_waiting s ≡ true
unfolding are_waiting awaits_time
waits_there s k l m h = rw (k, le-leb 9 s.place l, le-leb s.place 23 m) h

-- ---- a block byte that is taken

digit_small : (b : ℕ) → is_digit b ≡ true → b - 0x30 ≤ 9
unfolding is_digit
digit_small b h = let most = leb-true b 0x39 (and_split (leb 0x30 b) (leb b 0x39) h).1 in omega (arith, most)

module _ (s : State) (w : List ℕ) (b : ℕ) (h : are_waiting s ≡ true) (t : takes_byte s.kind s.header s.digits s.place b ≡ true) (three : 3 ≤ s.place) where
  abbrev kept : Type 0
  kept = are_waiting (entered s w b) ≡ true

  time_byte : is_start_kind s.kind ≡ true → 8 ≤ s.place → s.place ≤ 22 → time_takes s.digits (s.place - 8) b ≡ true
  unfolding takes_byte start_takes
  time_byte k l m =
      rw (
        k,
        ne_eqb s.place 3 (λ e. omega (arith, e, l)),
        ne_eqb s.place 4 (λ e. omega (arith, e, l)),
        ne_eqb s.place 5 (λ e. omega (arith, e, l)),
        lt-leb s.place 7 (omega (arith, l)),
        le-leb s.place 23 (omega (arith, m)),
      ) at t

  digit_taken : is_in (s.place - 8) stop_places ≡ false → time_takes s.digits (s.place - 8) b ≡ true → is_digit b ≡ true
  unfolding time_takes
  digit_taken n r = (and_split (is_digit b) _ (rw n at r)).0

  in_time : is_start_kind s.kind ≡ true → 8 ≤ s.place → s.place ≤ 22 → AllSmall (enter_digits s.digits s.place b)
  unfolding enter_digits
  in_time k l m =
      rw (lt-leb s.place 7 (omega (arith, l)), le-leb s.place 22 m)
      (by_if AllSmall (is_in (s.place - 8) stop_places) (λ _. small_always s h)
      (λ n. set_small s.digits (index_in (s.place - 8) digit_places) (b - 0x30) (small_always s h) (digit_small b (digit_taken n (time_byte k l m)))))

  before_time : is_start_kind s.kind ≡ true → s.place ≤ 7 → AllZero (enter_digits s.digits s.place b)
  unfolding enter_digits
  before_time k l = rw (le-leb s.place 7 l) (zero_elsewhere s h (not_yet s (omega (arith, l))))

  behind_time : is_start_kind s.kind ≡ true → 23 ≤ s.place → AllZero (enter_digits s.digits s.place b)
  unfolding enter_digits
  behind_time k l =
      rw (lt-leb s.place 7 (omega (arith, l)), lt-leb s.place 22 (omega (arith, l))) none_zero

  pub entered_waits : kept
  entered_waits =
      by_test (is_start_kind s.kind)
      (λ k. by_test (leb s.place 7) (λ e. zero_waits (entered s w b) (rw k (before_time k (leb-true s.place 7 e))))
      (λ e. by_test (leb s.place 22)
      (λ f. let low : 8 ≤ s.place = omega (arith, leb-false s.place 7 e) in
      let high : s.place ≤ 22 = leb-true s.place 22 f in
      waits_there (entered s w b) k (omega (arith, low)) (omega (arith, high)) (rw k (in_time k low high)))
      (λ f. zero_waits (entered s w b) (rw k (behind_time k (omega (arith, leb-false s.place 22 f)))))))
      (λ k. zero_waits (entered s w b) (rw k (zero_elsewhere s h (not_start s k))))
