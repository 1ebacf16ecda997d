-- The test that names are unique holds where no field's names clash with an earlier field's, and only there.
use mathlib.Core.Path.{◌≡◌, refl, sym, ◌∙◌, ap}
use mathlib.Core.Bool.{Bool, true, false, ◌||◌}
use mathlib.Core.List.{List, [], ◌∷◌, ◌++◌, map, append_assoc}
use mathlib.Core.Option.{none}
use Prim.Native.Nat.{ℕ, zero, suc, ◌+◌, ◌%◌, ◌<◌, ◌≤◌}
use native.Mathlib.Omega.{arith}
use native.Mathlib.Nat.{add-zero, zero-add}
use lib.Dec.{ltb, eqb}
use lib.ListN.{length, get_or, length-append}
use lib.Seq.{get_or-append_seam}
use borrow.Author.Tests.{ltb-true, ltb-false, eqb-true, eq-eqb, not-true}
use Rattle.base.specs.Lists.{any, if_any, first_break}
use Rattle.laws.specs.Places.{Stands, two_at}
use Rattle.base.proofs.Lists.{
  and_left,
  and_right,
  and_both,
  or_false_left,
  or_false_right,
}
use Rattle.laws.proofs.Places.{stands_left, stands_right}
use Rattle.base.proofs.Breaks.{first_break_cons}
use Rattle.rules.specs.Limits.{short_most}
use Rattle.rules.specs.Names.{is_short}
use Rattle.rules.specs.Fields.{Field, rest}
use Rattle.rules.specs.Within.{is_formed, keeps_form, keeps_size, clash, keeps_names}
use Rattle.rules.specs.Stored.{stored_field, records, records_in}
use Rattle.laws.proofs.ReadsFields.{formed_parts}
use Rattle.names.specs.Repeats.{pad_to, held_word, names_alike, first_repeat}
use Rattle.names.proofs.RepeatLaws.{no_repeat, repeat_none}
use Rattle.names.proofs.ClashLaws.{held_short, clash_held_lem}
use Rattle.laws.proofs.NameLaws.{clash_turn}
use Rattle.packets.specs.Parts.{parts_at}
use Rattle.packets.specs.PartsStand.{PartsStand}
use Rattle.packets.specs.NamesTest.{
  places_from,
  label_at,
  held_in,
  short_at,
  word_at,
  labels_alike,
  shorts_at,
  words_at,
  names_test,
}
use Rattle.packets.proofs.FieldBounds.{field_bounds}
use Rattle.packets.proofs.RecordLaws.{record_parts}
use Rattle.packets.proofs.PartBytes.{bytes_are}

-- ── a list by index; blank stands behind its end ──

abbrev blank : Field ℕ
blank = record { label = []; short = none; width = rest; constraint = none; condition = none }

abbrev nth : List (Field ℕ) → ℕ → Field ℕ
nth l i = get_or l i blank

nth_left : (l m : List (Field ℕ)) (i : ℕ) → i < length l → nth (l ++ m) i ≡ nth l i
nth_left [] m i h = absurd (omega arith)
nth_left (x ∷ l) m zero h = refl
nth_left (x ∷ l) m (suc i) h = nth_left l m i (omega arith)

any_by : (p : Field ℕ → Bool) (l : List (Field ℕ)) → ((i : ℕ) → i < length l → p (nth l i) ≡ false) → any p l ≡ false
unfolding any
any_by p [] h = refl
any_by p (x ∷ l) h = rw (h 0 (omega arith)) (any_by p l (λ i lt. h (suc i) (omega arith)))

any_at : (p : Field ℕ → Bool) (l : List (Field ℕ)) (i : ℕ) → any p l ≡ false → i < length l → p (nth l i) ≡ false
unfolding any
any_at p [] i h lt = absurd (omega arith)
any_at p (x ∷ l) zero h lt = or_false_left (p x) (any p l) h
any_at p (x ∷ l) (suc i) h lt = any_at p l i (or_false_right (p x) (any p l) h) (omega arith)

-- ── no clash, by pairs of indexes ──

abbrev Apart : List (Field ℕ) → ℕ → ℕ → Type 0
Apart l i j = clash (nth l j) (nth l i) ≡ false

unique_build : (before l : List (Field ℕ)) → ((i j : ℕ) → i < j → j < length (before ++ l) → Apart (before ++ l) i j)
    → first_break keeps_names before l ≡ none
unfolding first_break
unique_build before [] h = refl
unique_build before (f ∷ l) h =
    let n : any (clash f) before ≡ false = any_by (clash f) before (λ i lt.
    let a : Apart (before ++ (f ∷ l)) i (length before) =
    h i (length before) lt (omega (arith, length-append before (f ∷ l))) in
    rw (get_or-append_seam before f l blank, nth_left before (f ∷ l) i lt) at a) in
    let e = append_assoc before (f ∷ []) l in
    rw n (unique_build (before ++ (f ∷ [])) l (rw e h))

unique_parts : (before l : List (Field ℕ)) → first_break keeps_names before l ≡ none
    → (i j : ℕ) → i < j → length before ≤ j → j < length (before ++ l) → Apart (before ++ l) i j
unique_parts before [] h i j p q r = absurd (omega (arith, length-append before []))
unique_parts before (f ∷ l) h i j p q r =
    let e = first_break_cons keeps_names before f l h in
    go (not-true (any (clash f) before) e.0) (ltb (length before) j) refl
    (unique_parts (before ++ (f ∷ [])) l e.1)
  where
    go : any (clash f) before ≡ false → (b : Bool) → ltb (length before) j ≡ b
        → ((i j : ℕ) → i < j → length (before ++ (f ∷ [])) ≤ j → j < length ((before ++ (f ∷ [])) ++ l)
        → Apart ((before ++ (f ∷ [])) ++ l) i j)
        → Apart (before ++ (f ∷ l)) i j
    go n true t rec =
        let s = append_assoc before (f ∷ []) l in
        let m = length-append before (f ∷ []) in
        let rec' : (i j : ℕ) → i < j → length (before ++ (f ∷ [])) ≤ j → j < length (before ++ (f ∷ l))
        → Apart (before ++ (f ∷ l)) i j = rw s at rec in
        rec' i j p (omega (arith, m, ltb-true (length before) j t)) r
    go n false t rec =
        let z : j ≡ length before = omega (arith, ltb-false (length before) j t) in
        let lt : i < length before = omega arith in
        let a = any_at (clash f) before i n lt in
        rw (z, get_or-append_seam before f l blank, nth_left before (f ∷ l) i lt) a

-- ── the names at the places of the records ──

form_at : (before l : List (Field ℕ)) → first_break keeps_form before l ≡ none → (i : ℕ) → i < length l
    → is_formed (nth l i) ≡ true
form_at before [] h i lt = absurd (omega arith)
form_at before (f ∷ l) h zero lt = (first_break_cons keeps_form before f l h).0
form_at before (f ∷ l) h (suc i) lt =
    form_at (before ++ (f ∷ [])) l (first_break_cons keeps_form before f l h).1 i (omega arith)

-- the parts of a field's record, and its number
parts_nth : (numbers : ℕ → ℕ) (k : ℕ) (s : List ℕ) (before l : List (Field ℕ)) → first_break keeps_form before l ≡ none
    → first_break keeps_size before l ≡ none → (at next : ℕ) → Stands s at (records numbers k l) next
    → (i : ℕ) → i < length l → PartsStand s (parts_at s (get_or (places_from s (length l) at) i 0)) (nth l i)
    × (two_at s (get_or (places_from s (length l) at) i 0 + 4) ≡ numbers (k + i) % 65536)
unfolding records_in places_from
parts_nth numbers k s before [] form size at next st i lt = absurd (omega arith)
parts_nth numbers k s before (f ∷ l) form size at next st zero lt =
    let q = record_parts s at (at + length (stored_field (numbers k) f)) (numbers k) f
    (field_bounds f (first_break_cons keeps_form before f l form).0 (first_break_cons keeps_size before f l size).0)
    (stands_left s at next (stored_field (numbers k) f) (records numbers (suc k) l) st) in
    (q.0, q.3 ∙ ap (λ (j : ℕ). numbers j % 65536) (sym (add-zero k)))
parts_nth numbers k s before (f ∷ l) form size at next st (suc i) lt =
    let a = first_break_cons keeps_form before f l form in
    let b = first_break_cons keeps_size before f l size in
    let one = stored_field (numbers k) f in
    let mid = at + length one in
    let q = record_parts s at mid (numbers k) f (field_bounds f a.0 b.0)
    (stands_left s at next one (records numbers (suc k) l) st) in
    let r = stands_right s at next one (records numbers (suc k) l) st in
    let e : suc k + i ≡ k + suc i = omega arith in
    let p = parts_nth numbers (suc k) s (before ++ (f ∷ [])) l a.1 b.1 mid next r i (omega arith) in
    rw q.1 (p.0, p.1 ∙ ap (λ (j : ℕ). numbers j % 65536) e)

pub places_length : (s : List ℕ) (n at : ℕ) → length (places_from s n at) ≡ n
unfolding places_from
places_length s zero at = refl
places_length s (suc n) at = ap suc (places_length s n (parts_at s at).next)

pub get_d_mapped : (f : ℕ → List ℕ) (l : List ℕ) (i : ℕ) → i < length l → get_or (map f l) i [] ≡ f (get_or l i 0)
get_d_mapped f [] i h = absurd (omega arith)
get_d_mapped f (x ∷ l) zero h = refl
get_d_mapped f (x ∷ l) (suc i) h = get_d_mapped f l i (omega arith)

or_neither : (a b : Bool) → a ≡ false → b ≡ false → (a || b) ≡ false
or_neither a b p q = rw (p, q)

-- ── the test ──

module _ (numbers : ℕ → ℕ) (s : List ℕ) (l : List (Field ℕ)) (at next : ℕ) (form : first_break keeps_form [] l ≡ none)
    (size : first_break keeps_size [] l ≡ none) (st : Stands s at (records numbers 0 l) next) where
  abbrev places : List ℕ
  places = places_from s (length l) at

  label_nth : (i : ℕ) → i < length l → label_at s (get_or places i 0) ≡ (nth l i).label
  unfolding label_at
  label_nth i lt = bytes_are s _ _ (parts_nth numbers 0 s [] l form size at next st i lt).0.label

  short_nth : (i : ℕ) → i < length l → get_or (shorts_at s places) i [] ≡ held_short (nth l i).short
  unfolding held_in
  short_nth i lt =
      get_d_mapped (short_at s) places i (omega (arith, places_length s (length l) at))
      ∙ ap (pad_to short_most) (bytes_are s _ _ (parts_nth numbers 0 s [] l form size at next st i lt).0.short)

  word_nth : (i : ℕ) → i < length l → get_or (words_at s places) i [] ≡ held_word (nth l i).label
  word_nth i lt =
      get_d_mapped (word_at s) places i (omega (arith, places_length s (length l) at)) ∙ ap held_word (label_nth i lt)

  short_good : (i : ℕ) → i < length l → if_any is_short (nth l i).short ≡ true
  short_good i lt = (formed_parts (nth l i) (form_at [] l form i lt)).1

  -- the names of two records meet where those of the fields clash
  alike_is : (i j : ℕ) → i < length l → j < length l
      → (labels_alike s places i j || names_alike (shorts_at s places) (words_at s places) i j)
      ≡ clash (nth l j) (nth l i)
  alike_is i j p q =
      rw (label_nth i p, label_nth j q, short_nth i p, short_nth j q, word_nth i p, word_nth j q)
      (sym (clash_held_lem (nth l i) (nth l j) (short_good i p) (short_good j q)) ∙ clash_turn (nth l i) (nth l j))

  -- the numbers in the records
  pub number_nth : (i : ℕ) → i < length l → two_at s (get_or places i 0 + 4) ≡ numbers i % 65536
  number_nth i lt =
      (parts_nth numbers 0 s [] l form size at next st i lt).1 ∙ ap (λ (j : ℕ). numbers j % 65536) (zero-add i)

  pub names_sound : names_test s (length l) at ≡ true → first_break keeps_names [] l ≡ none
  unfolding names_test
  names_sound h =
      let n = length l in
      let alike = names_alike (shorts_at s places) (words_at s places) in
      let a = no_repeat (labels_alike s places) n
      (eqb-true _ _ (and_left (eqb (first_repeat (labels_alike s places) n) n) _ h)) in
      let b = no_repeat alike n (eqb-true _ _ (and_right (eqb (first_repeat (labels_alike s places) n) n) _ h)) in
      unique_build [] l (λ i j p q.
      sym (alike_is i j (omega arith) q) ∙ or_neither (labels_alike s places i j) (alike i j) (a i j p q) (b i j p q))

  pub names_complete : first_break keeps_names [] l ≡ none → names_test s (length l) at ≡ true
  unfolding names_test
  names_complete h =
      let n = length l in
      let alike = names_alike (shorts_at s places) (words_at s places) in
      let apart : (i j : ℕ) → i < j → j < n → (labels_alike s places i j || alike i j) ≡ false = λ i j p q.
      alike_is i j (omega arith) q ∙ unique_parts [] l h i j p (omega arith) q in
      let a = repeat_none (labels_alike s places) n (λ i j p q.
      or_false_left (labels_alike s places i j) (alike i j) (apart i j p q)) in
      let b = repeat_none alike n (λ i j p q.
      or_false_right (labels_alike s places i j) (alike i j) (apart i j p q)) in
      and_both (eqb (first_repeat (labels_alike s places) n) n) _ (eq-eqb _ _ a) (eq-eqb _ _ b)
