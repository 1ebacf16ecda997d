-- The places of records, and the names there, gathered one after the other.
use mathlib.Core.Path.{◌≡◌, refl, sym, ◌∙◌, ap}
use mathlib.Core.Bool.{Bool, true, false}
use mathlib.Core.List.{List, [], ◌∷◌, ◌++◌, append_assoc, append-nil}
use Prim.Native.Nat.{ℕ, suc, ◌+◌, ◌-◌, ◌<◌}
use native.Mathlib.Nat.{sub-zero}
use native.Mathlib.Omega.{arith}
use lib.Dec.{ltb}
use lib.ListN.{length, take, set, get_or, replicate}
use lib.Seq.{get_or-take, get_or-set_same, get_or-set_other, get_or_at, length-take-le}
use borrow.Author.Tests.{ltb-true, ltb-false}
use Rattle.base.specs.Lists.{same}
use Rattle.rules.specs.Limits.{short_most}
use Rattle.rules.specs.Names.{is_short}
use Rattle.names.specs.Repeats.{pad_to, held_word, names_alike, first_repeat}
use Rattle.names.proofs.RepeatLaws.{repeat_same}
use Rattle.names.proofs.KeyLaws.{keys_apart}
use Rattle.writing.specs.declared.spans.Span.{Span}
use Rattle.packets.specs.Parts.{parts_at}
use Rattle.packets.proofs.WalkSteps.{take_own}
use Rattle.packets.proofs.NameLaws.{get_d_mapped, places_length}
use Rattle.packets.specs.NamesTest.{
  places_from,
  FieldPlaces,
  label_at,
  sample_key,
  label_key,
  LabelKeys,
  HeldNames,
  HeldWords,
  held_in,
  short_at,
  word_at,
  labels_alike,
  shorts_at,
  words_at,
  names_test,
  unique_in,
  Gathered,
}

-- ── places ──

module _ (s : List ℕ) (n i at from : ℕ) where
  places_step : i < n → places_from s (n - i) at ≡ at ∷ places_from s (n - (i + 1)) (parts_at s at).next
  unfolding places_from
  places_step lt = let m : n - i ≡ suc (n - (i + 1)) = omega arith in rw m

  pub places_again : (places all : List ℕ) → i < n → i < length places
      → take i places ++ places_from s (n - i) at ≡ all
      → take (i + 1) (set places i at) ++ places_from s (n - (i + 1)) (parts_at s at).next ≡ all
  places_again places all lt lp e =
      let next = places_from s (n - (i + 1)) (parts_at s at).next in
      rw (take_own places i at lp, append_assoc (take i places) (at ∷ []) next)
      (rw (places_step lt) at e)

  pub places_done : (places all : List ℕ) → i ≡ n → take i places ++ places_from s (n - i) at ≡ all
      → take n places ≡ all
  unfolding places_from
  places_done places all e h =
      let m : n - i ≡ 0 = omega arith in
      let q : take i places ++ [] ≡ all = rw m at h in
      rw e at (sym (append-nil (take i places)) ∙ q)

  -- the place that comes next
  place_next : (places : List ℕ) → i < n → i < length places
      → take i places ++ places_from s (n - i) at ≡ places_from s n from → get_or (places_from s n from) i 0 ≡ at
  place_next places lt lp e =
      let l : length (take i places) ≡ i = length-take-le i places (omega arith) in
      rw (← e, places_step lt) (get_or_at (take i places) at (places_from s (n - (i + 1)) (parts_at s at).next) 0 i l)

-- ── what is put into an array, one element after the other ──

pub filled_again : {A : Type 0} (f : ℕ → A) (d : A) (l : List A) (i : ℕ) (x : A) → i < length l
    → ((k : ℕ) → k < i → get_or l k d ≡ f k) → x ≡ f i → (k : ℕ) → k < i + 1 → get_or (set l i x) k d ≡ f k
filled_again f d l i x lt h e k le = go (ltb k i) refl
  where
    go : (b : Bool) → ltb k i ≡ b → get_or (set l i x) k d ≡ f k
    go true t =
        let m : k < i = ltb-true k i t in
        get_or-set_other l i k x d (λ q. omega arith) ∙ h k m
    go false t =
        let m : k ≡ i = omega (arith, ltb-false k i t) in
        rw (m, get_or-set_same l i x d lt) e

-- what is gathered of n records once i of them are
pub record Gathering (s : List ℕ) (n from i at : ℕ) (places keys : List ℕ) (shorts words : List (List ℕ)) : Type 0
  where
    pub left : take i places ++ places_from s (n - i) at ≡ places_from s n from
    pub keyed : LabelKeys s (places_from s n from) i keys
    pub held : HeldNames s (places_from s n from) i shorts
    pub worded : HeldWords s (places_from s n from) i words

pub gather_start : (s : List ℕ) (n from : ℕ) (places keys : List ℕ) (shorts words : List (List ℕ))
    → Gathering s n from 0 from places keys shorts words
gather_start s n from places keys shorts words = record {
  left = rw sub-zero;
  keyed = λ k lt. absurd (omega arith);
  held = λ k lt. absurd (omega arith);
  worded = λ k lt. absurd (omega arith);
}

module _ (s : List ℕ) (n from i at : ℕ) (places keys : List ℕ) (shorts words : List (List ℕ))
    (g : Gathering s n from i at places keys shorts words) where
  pub gather_again : i < n → i < length places → i < length keys → i < length shorts → i < length words
      → Gathering s n from (i + 1) (parts_at s at).next (set places i at) (set keys i (label_key s at))
      (set shorts i (short_at s at)) (set words i (word_at s at))
  gather_again lt lp lk ls lw =
      let all : ℕ → ℕ = λ k. get_or (places_from s n from) k 0 in
      let here : all i ≡ at = place_next s n i at from places lt lp g.left in
      record {
        left = places_again s n i at from places _ lt lp g.left;
        keyed = filled_again (λ k. label_key s (all k)) 0 keys i _ lk g.keyed (rw here);
        held = filled_again (λ k. short_at s (all k)) [] shorts i _ ls g.held (rw here);
        worded = filled_again (λ k. word_at s (all k)) [] words i _ lw g.worded (rw here);
      }

  pub gather_done : i ≡ n → Gathered s n from places keys shorts words
  gather_done e = record {
    placed = places_done s n i at from places _ e g.left;
    keyed = rw e at g.keyed;
    held = rw e at g.held;
    worded = rw e at g.worded;
  }

-- ── labels of other keys ──

pub keys_other : (s : List ℕ) (a b : ℕ) → (label_key s a ≡ label_key s b → ⊥)
    → false ≡ same (label_at s a) (label_at s b)
unfolding label_key
keys_other s a b other = sym (keys_apart sample_key (label_at s a) (label_at s b) other)

pub labels_apart : (s places keys : List ℕ) (n i j : ℕ) → LabelKeys s places n keys → i < n → j < n
    → (get_or keys i 0 ≡ get_or keys j 0 → ⊥) → labels_alike s places i j ≡ false
labels_apart s places keys n i j h p q apart =
    sym (keys_other s (get_or places i 0) (get_or places j 0) (λ e. apart (h i p ∙ e ∙ sym (h j q))))

-- ── a record without a short name, or whose label may not be read ──

pub label_none : (w : List ℕ) → is_short w ≡ false → replicate short_most 0 ≡ held_word w
unfolding pad_to
label_none w e = rw e

pub short_none : (s : List ℕ) (p : Span) → p.len ≡ 0 → replicate short_most 0 ≡ held_in s p
unfolding held_in pad_to
short_none s p e =
    let none : p.at + 0 - p.at ≡ 0 = omega arith in
    rw (e, none)

-- ── all of them ──

module _ (s : List ℕ) (n : ℕ) (places all : List ℕ) where
  pub same_place : take n places ≡ all → (i : ℕ) → i < n → get_or places i 0 ≡ get_or all i 0
  same_place e i lt = sym (get_or-take n places i 0 lt) ∙ ap (λ (l : List ℕ). get_or l i 0) e

  pub all_places : take n places ≡ all → FieldPlaces s n all → FieldPlaces s n places
  all_places e h i lt = rw (same_place e i lt) (h i lt)

  pub all_labels : take n places ≡ all → first_repeat (labels_alike s places) n ≡ first_repeat (labels_alike s all) n
  all_labels e =
      repeat_same (labels_alike s places) (labels_alike s all) n (λ i j p q.
      rw (same_place e i (omega arith), same_place e j q))

  pub all_names : (shorts words : List (List ℕ)) → take n places ≡ all → length all ≡ n
      → HeldNames s places n shorts → HeldWords s places n words
      → first_repeat (names_alike shorts words) n ≡ first_repeat (names_alike (shorts_at s all) (words_at s all)) n
  all_names shorts words e z h k =
      let one : (i : ℕ) → i < n → get_or shorts i [] ≡ get_or (shorts_at s all) i [] = λ i lt.
      h i lt ∙ ap (short_at s) (same_place e i lt) ∙ sym (get_d_mapped (short_at s) all i (omega arith)) in
      let two : (i : ℕ) → i < n → get_or words i [] ≡ get_or (words_at s all) i [] = λ i lt.
      k i lt ∙ ap (word_at s) (same_place e i lt) ∙ sym (get_d_mapped (word_at s) all i (omega arith)) in
      repeat_same (names_alike shorts words) (names_alike (shorts_at s all) (words_at s all)) n (λ i j p q.
      rw (one i (omega arith), one j q, two i (omega arith), two j q))

-- the code's test of what it gathered
module _ (s : List ℕ) (n from : ℕ) (places keys : List ℕ) (shorts words : List (List ℕ))
    (g : Gathered s n from places keys shorts words) where
  abbrev all : List ℕ
  all = places_from s n from

  pub gathered_keys : LabelKeys s places n keys
  gathered_keys i lt = rw (same_place s n places all g.placed i lt) (g.keyed i lt)

  pub gathered_unique : unique_in s places shorts words n ≡ names_test s n from
  unfolding unique_in names_test
  gathered_unique =
      let held : HeldNames s places n shorts = λ i lt. rw (same_place s n places all g.placed i lt) (g.held i lt) in
      let worded : HeldWords s places n words = λ i lt.
      rw (same_place s n places all g.placed i lt) (g.worded i lt) in
      rw (
        all_labels s n places all g.placed,
        all_names s n places all shorts words g.placed (places_length s n from) held worded,
      )
