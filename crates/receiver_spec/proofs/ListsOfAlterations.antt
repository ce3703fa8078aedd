-- Texts of which some are altered in one byte each: the relation, and the lists of alterations that it stands for. Assumes nothing.
use mathlib.Core.Path.{◌≡◌, refl, sym, ap, ap₂, ◌∙◌, subst}
use mathlib.Core.Logic.{◌⊎◌, inl, inr, ◌≢◌}
use mathlib.Core.Bool.{true, false, not, ◌&&◌}
use mathlib.Core.List.{List, [], ◌∷◌, ◌++◌, append_assoc, append-nil}
use Prim.Native.Nat.{ℕ}
use lib.Dec.{eqb, ltb}
use lib.ListN.{length}
use borrow.Author.Tests.{eqb-false, ne_eqb, ltb-true, lt-ltb, not-true}
use Rattle.general_laws.specs.Bytes.{◌!◌}
use Rattle.text.specs.Text.{FD, text_of}
use Rattle.text.specs.Part.{Part, texts_of, part_bytes, AlteredTo}
use Rattle.general_laws.proofs.Tests.{by_test, never, and_split, and_join}
use Rattle.text_laws.proofs.Framing.{append_parts, altered_length, altered_other, altered_at, altered_place, altered_parts}
use Rattle.receiver_spec.specs.Alterations.{AtMostOneAltered, as_it_was, one_altered, AlteredTexts, no_text, next_text, blocks_of, Alteration, nothing, became, is_alteration, altered_text, are_alterations, altered_bytes, some_altered, AlterationsClaim}

-- ---- the relation

-- a part is the texts of its blocks
part_is_texts : (p : Part) → part_bytes p ≡ texts_of (blocks_of p)
unfolding part_bytes texts_of
part_is_texts p = ap (λ t. text_of p.start ++ t) (behind p.datas)
  where
    behind : (blocks : List (List ℕ)) → texts_of blocks ++ text_of p.end ≡ texts_of (blocks ++ (p.end ∷ []))
    behind [] = sym (append-nil (text_of p.end))
    behind (block ∷ blocks) = append_assoc (text_of block) (texts_of blocks) (text_of p.end) ∙ ap (λ t. text_of block ++ t) (behind blocks)

all_as_they_were : (blocks : List (List ℕ)) → AlteredTexts blocks (texts_of blocks)
unfolding texts_of
all_as_they_were [] = no_text
all_as_they_were (block ∷ blocks) = next_text as_it_was (all_as_they_were blocks)

-- one altered byte
one_altered_lem : {v : ℕ} {bytes : List ℕ} (blocks : List (List ℕ)) → v ≢ FD → AlteredTo v (texts_of blocks) bytes → AlteredTexts blocks bytes
unfolding texts_of
one_altered_lem {v = v} {bytes = bytes} [] n a = elim a [ ]
one_altered_lem {v} {bytes} (block ∷ blocks) n a = split (λ us b. one_altered_lem {bytes = us} blocks n b) (altered_parts (text_of block) a)
  where
    split : ((us : List ℕ) → AlteredTo v (texts_of blocks) us → AlteredTexts blocks us)
        → ((us : List ℕ) × AlteredTo v (text_of block) us × (bytes ≡ us ++ texts_of blocks)) ⊎ ((us : List ℕ) × AlteredTo v (texts_of blocks) us × (bytes ≡ text_of block ++ us))
        → AlteredTexts (block ∷ blocks) bytes
    split later (inl (us, b, e)) = rw e (next_text (one_altered n b) (all_as_they_were blocks))
    split later (inr (us, b, e)) = rw e (next_text as_it_was (later us b))

-- ---- lists of alterations

became_altered : (text : List ℕ) (place v : ℕ) → is_alteration text (became place v) ≡ true → (v ≢ FD) × AlteredTo v text (altered_text text (became place v))
became_altered text place v h =
    let (inside, free) = and_split (ltb place (length text) && not (eqb (text ! place) v)) (not (eqb v FD)) h in
    let (within, differs) = and_split (ltb place (length text)) (not (eqb (text ! place) v)) inside in
    (eqb-false v FD (not-true _ free), altered_at text place (ltb-true place (length text) within) (eqb-false (text ! place) v (not-true _ differs)))

text_altered : (text : List ℕ) (a : Alteration) → is_alteration text a ≡ true → AtMostOneAltered text (altered_text text a)
text_altered text nothing h = as_it_was
text_altered text (became place v) h = let (n, a) = became_altered text place v h in one_altered n a

each_list_lem : (blocks : List (List ℕ)) (list : List Alteration) → are_alterations blocks list ≡ true → AlteredTexts blocks (altered_bytes blocks list)
unfolding are_alterations altered_bytes
each_list_lem [] [] h = no_text
each_list_lem [] (a ∷ list) h = never refl h
each_list_lem (block ∷ blocks) [] h = never refl h
each_list_lem (block ∷ blocks) (a ∷ list) h =
    let (first, others) = and_split (is_alteration (text_of block) a) (are_alterations blocks list) h in
    next_text (text_altered (text_of block) a first) (each_list_lem blocks list others)

text_list : {text bytes : List ℕ} → AtMostOneAltered text bytes → (a : Alteration) × (is_alteration text a ≡ true) × (bytes ≡ altered_text text a)
text_list as_it_was = (nothing, refl, refl)
text_list {text} (one_altered {v} n a) =
    let (place, l, differs, e) = altered_place a in
    (became place v, and_join (and_join (lt-ltb place (length text) l) (ap not (ne_eqb (text ! place) v differs))) (ap not (ne_eqb v FD n)), e)

list_of : {bytes : List ℕ} (blocks : List (List ℕ)) → AlteredTexts blocks bytes → (list : List Alteration) × (are_alterations blocks list ≡ true) × (bytes ≡ altered_bytes blocks list)
unfolding are_alterations altered_bytes
list_of [] no_text = ([], refl, refl)
list_of (block ∷ blocks) (next_text t r) =
    let (a, first, e) = text_list t in
    let (list, others, f) = list_of blocks r in
    (a ∷ list, and_join first others, ap₂ (λ x y. x ++ y) e f)

-- at least one byte is altered exactly where the bytes are not the texts
some_other : (blocks : List (List ℕ)) (list : List Alteration) → are_alterations blocks list ≡ true → some_altered list ≡ true → altered_bytes blocks list ≢ texts_of blocks
unfolding are_alterations altered_bytes some_altered texts_of
some_other [] [] h s e = never refl s
some_other [] (a ∷ list) h s e = never refl h
some_other (block ∷ blocks) [] h s e = never refl h
some_other (block ∷ blocks) (nothing ∷ list) h s e = some_other blocks list h s (append_parts (text_of block) (text_of block) refl e).1
some_other (block ∷ blocks) (became place v ∷ list) h s e =
    let text = text_of block in
    let (_, a) = became_altered text place v (and_split (is_alteration text (became place v)) (are_alterations blocks list) h).0 in
    altered_other a (sym (append_parts (altered_text text (became place v)) text (sym (altered_length a)) e).0)

none_other : (blocks : List (List ℕ)) (list : List Alteration) → are_alterations blocks list ≡ true → some_altered list ≡ false → altered_bytes blocks list ≡ texts_of blocks
unfolding are_alterations altered_bytes some_altered texts_of
none_other [] list h s = refl
none_other (block ∷ blocks) [] h s = never refl h
none_other (block ∷ blocks) (nothing ∷ list) h s = ap (λ t. text_of block ++ t) (none_other blocks list h s)
none_other (block ∷ blocks) (became place v ∷ list) h s = never s refl

-- The claim
pub alterations_claim : (p : Part) → AlterationsClaim p
alterations_claim p =
    let texts = part_is_texts p in
    let blocks = blocks_of p in
    record {
      each_list = each_list_lem blocks;
      no_other = λ bytes a. list_of blocks a;
      at_least_one = λ list h. (
        λ t e. some_other blocks list h t (e ∙ texts),
        λ other. by_test (some_altered list) (λ t. t) (λ t. absurd (other (none_other blocks list h t ∙ sym texts))),
      );
      one_in_all = λ v bytes n a. (one_altered_lem blocks n (subst (λ t. AlteredTo v t bytes) texts a), λ e. altered_other a (sym e));
    }
