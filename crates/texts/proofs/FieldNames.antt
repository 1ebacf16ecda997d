-- Labels and short names at a place of a text, against the reader over what is left of it.
use mathlib.Core.Path.{◌≡◌, refl, ap, sym, ◌∙◌}
use mathlib.Core.Bool.{Bool, true, false, not}
use mathlib.Core.List.{List, ◌∷◌, ◌++◌}
use mathlib.Core.Option.{Option, none, some}
use Prim.Native.Nat.{ℕ, zero, suc, ◌+◌, ◌-◌, ◌≤◌, ◌<◌}
use native.Mathlib.Omega.{arith}
use native.Mathlib.Numerals.{add-one}
use lib.ListN.{length, take, drop, get_or, length-drop, length-append}
use lib.Seq.{drop-cons, drop-length, take_at}
use Rattle.base.specs.Bytes.{bytes}
use Rattle.base.specs.Lists.{is_none}
use Rattle.laws.proofs.Places.{drop_more}
use Rattle.rules.specs.Names.{is_label, is_short}
use Rattle.text_laws.specs.Reader.{after, word, behind}
use Rattle.text_laws.specs.LineReader.{miss, hit, passed, literal, begins, label_ends, label_text, label_behind}
use Rattle.text_laws.specs.LineReader.{read_label, read_closed_name, read_short}
use Rattle.texts.specs.FieldPlaces.{SameLabel, WithinLabel, SameShort, WithinShort}
use Rattle.std.specs.Prelude.{Option as CodeOption, None, Some}
use Rattle.std.specs.Option.{MatchOption}
use Rattle.std.proofs.Common.{unwrap_or}
use Rattle.texts.specs.PartPlaces.{span_of}
use Rattle.writing.specs.declared.spans.Span.{Span}
use Rattle.text_laws.proofs.Combine.{begins_split, literal_finds}
use Rattle.text_laws.proofs.LineNames.{label_split}
use Rattle.texts.proofs.ExprLeaves.{word_part, longer}

-- ── phrases ──

-- a phrase that stands at a place ends within the text, and is read
pub literal_at : (w s : List ℕ) (at : ℕ) → at ≤ length s → begins w (drop at s) ≡ true
    → (at + length w ≤ length s) × (literal w (drop at s) ≡ hit tt (drop (at + length w) s))
literal_at w s at le y = go (begins_split w (drop at s) y)
  where
    go : (z : List ℕ) × (drop at s ≡ w ++ z)
        → (at + length w ≤ length s) × (literal w (drop at s) ≡ hit tt (drop (at + length w) s))
    go (z, e) =
        let n : length w + length z ≡ length s - at =
        sym (length-append w z) ∙ ap length (sym e) ∙ length-drop at s in
        let d : drop (at + length w) s ≡ z = drop_more s at w z e in
        (omega arith, ap (literal w) e ∙ literal_finds w z ∙ ap (λ (l : List ℕ). hit tt l) (sym d))

pub literal_none : (w s : List ℕ) → begins w s ≡ false → literal w s ≡ miss
unfolding begins literal
literal_none w s = go (after w s)
  where
    go : (a : Option (List ℕ)) → not (is_none a) ≡ false → passed a ≡ miss
    go none e = refl
    go (some r) e = let z : ◌≡◌ {A = ℕ} 0 1 = cc in absurd (omega arith)

-- ── labels ──

pub ends_open : (z : List ℕ) → begins (bytes " (") z ≡ true → label_ends z ≡ true
unfolding label_ends
ends_open z e = rw e refl

pub ends_colon : (z : List ℕ) → begins (bytes " (") z ≡ false → label_ends z ≡ begins (bytes ":") z
unfolding label_ends
ends_colon z e = rw e refl

stops : (c : ℕ) (s : List ℕ) → label_ends (c ∷ s) ≡ true → c ∷ s ≡ label_behind (c ∷ s)
unfolding label_behind
stops c s e = rw (e, label_behind) refl

goes : (c : ℕ) (s : List ℕ) → label_ends (c ∷ s) ≡ false → label_behind (c ∷ s) ≡ label_behind s
unfolding label_behind
goes c s e = rw (e, label_behind) refl

module _ (s : List ℕ) (at : ℕ) where
  pub label_end : length s ≤ at → at ≤ length s → drop at s ≡ label_behind (drop at s)
  unfolding label_behind
  label_end le le' = let e : at ≡ length s = omega arith in rw (e, drop-length) refl

  pub label_stop : at < length s → label_ends (drop at s) ≡ true → drop at s ≡ label_behind (drop at s)
  label_stop lt e =
      let d : drop at s ≡ get_or s at 0 ∷ drop (suc at) s = drop-cons s at 0 lt in
      d ∙ stops (get_or s at 0) (drop (suc at) s) (ap label_ends (sym d) ∙ e) ∙ ap label_behind (sym d)

  pub label_step : at < length s → label_ends (drop at s) ≡ false
      → label_behind (drop at s) ≡ label_behind (drop (at + 1) s)
  label_step lt e =
      let d : drop at s ≡ get_or s at 0 ∷ drop (suc at) s = drop-cons s at 0 lt in
      let g = goes (get_or s at 0) (drop (suc at) s) (ap label_ends (sym d) ∙ e) in
      ap label_behind d ∙ g ∙ ap (λ (n : ℕ). label_behind (drop n s)) (sym (add-one at))

-- no label ends at any of so many places
label_skip : (s : List ℕ) (at n : ℕ) → at + n ≤ length s
    → ((k : ℕ) → at ≤ k → k < at + n → label_ends (drop k s) ≡ false)
    → label_behind (drop at s) ≡ label_behind (drop (at + n) s)
label_skip s at zero le h = let e : at + 0 ≡ at = omega arith in rw e refl
label_skip s at (suc n) le h =
    let e : at + 1 + n ≡ at + suc n = omega arith in
    label_step s at (omega arith) (h at (omega arith) (omega arith))
    ∙ label_skip s (at + 1) n (omega arith) (λ k a b. h k (omega arith) (omega arith))
    ∙ ap (λ (i : ℕ). label_behind (drop i s)) e

-- the first place where one ends, as a search finds it
pub label_found : (s : List ℕ) (at : ℕ) → at ≤ length s → (r : CodeOption ℕ)
    → MatchOption r ((k : ℕ) → at ≤ k → k < length s → label_ends (drop k s) ≡ false)
    (λ i. (at ≤ i) × (i < length s) × (label_ends (drop i s) ≡ true)
    × ((k : ℕ) → at ≤ k → k < i → label_ends (drop k s) ≡ false))
    → (at ≤ unwrap_or r (length s)) × (unwrap_or r (length s) ≤ length s)
    × (drop (unwrap_or r (length s)) s ≡ label_behind (drop at s))
label_found s at le None h =
    let e : at + (length s - at) ≡ length s = omega arith in (
      le,
      omega arith,
      label_end s (length s) (omega arith) (omega arith)
          ∙ sym (label_skip s at (length s - at) (omega arith) (λ k a b. h k a (omega arith))
          ∙ ap (λ (i : ℕ). label_behind (drop i s)) e),
    )
label_found s at le (Some i) h =
    let e : at + (i - at) ≡ i = omega (arith, h.0) in (
      h.0,
      omega (arith, h.1),
      label_stop s i h.1 h.2
          ∙ sym (label_skip s at (i - at) (omega (arith, h.0, h.1)) (λ k a b. h.3 k a (omega (arith, h.0)))
          ∙ ap (λ (j : ℕ). label_behind (drop j s)) e),
    )

module _ (s : List ℕ) (at end : ℕ) (lo : at ≤ end) (hi : end ≤ length s)
    (e : drop end s ≡ label_behind (drop at s)) where
  label_part : take (end - at) (drop at s) ≡ label_text (drop at s)
  label_part =
      let z : List ℕ = drop at s in
      let n : length (label_text z) + length (label_behind z) ≡ length s - at =
      sym (length-append (label_text z) (label_behind z)) ∙ ap length (sym (label_split z)) ∙ length-drop at s in
      let m : length (label_behind z) ≡ length s - end = ap length (sym e) ∙ length-drop end s in
      let k : length (label_text z) ≡ end - at = omega arith in
      ap (λ (l : List ℕ). take (end - at) l) (label_split z) ∙ take_at (label_text z) (label_behind z) (end - at) k

  pub label_yes : is_label (take (end - at) (drop at s)) ≡ true
      → WithinLabel s at (Some end) × SameLabel s at (read_label (drop at s)) (Some end)
  unfolding read_label SameLabel WithinLabel
  label_yes y =
      let q : is_label (label_text (drop at s)) ≡ true = ap is_label (sym label_part) ∙ y in
      ((lo, hi), rw q (end, refl, label_part, e))

  pub label_no : is_label (take (end - at) (drop at s)) ≡ false
      → WithinLabel s at None × SameLabel s at (read_label (drop at s)) None
  unfolding read_label SameLabel WithinLabel
  label_no y =
      let q : is_label (label_text (drop at s)) ≡ false = ap is_label (sym label_part) ∙ y in
      (tt, rw q refl)

-- ── short names ──

name_is : (z q : List ℕ) → is_short (word z) ≡ true → literal (bytes ")") (behind z) ≡ hit tt q
    → read_closed_name z ≡ hit (some (word z)) q
unfolding read_closed_name
name_is z q y l = rw (y, l) refl

name_open : (z : List ℕ) → is_short (word z) ≡ true → literal (bytes ")") (behind z) ≡ miss → read_closed_name z ≡ miss
unfolding read_closed_name
name_open z y l = rw (y, l) refl

name_other : (z : List ℕ) → is_short (word z) ≡ false → read_closed_name z ≡ miss
unfolding read_closed_name
name_other z n = rw n refl

module _ (s : List ℕ) (at end : ℕ) (lo : at ≤ end) (hi : end ≤ length s) (e : drop end s ≡ behind (drop at s)) where
  short_word : (b : Bool) → is_short (take (end - at) (drop at s)) ≡ b → is_short (word (drop at s)) ≡ b
  short_word b y = ap is_short (sym (word_part s at end lo hi e)) ∙ y

  abbrev pub NameAt : CodeOption (Span × ℕ) → Type 0
  NameAt r = WithinShort s at r × SameShort s (read_closed_name (drop at s)) r

  pub name_yes : is_short (take (end - at) (drop at s)) ≡ true → begins (bytes ")") (drop end s) ≡ true
      → NameAt (Some (span_of at (end - at), end + 1))
  unfolding SameShort WithinShort is_short
  name_yes y b =
      let u : at + 1 ≤ end = longer s at end lo hi e is_short refl y in
      let l = literal_at (bytes ")") s end hi b in
      let h : end + 1 ≤ length s = l.0 in
      let r : read_closed_name (drop at s) ≡ hit (some (word (drop at s))) (drop (end + 1) s) =
      name_is (drop at s) (drop (end + 1) s) (short_word true y) (ap (literal (bytes ")")) (sym e) ∙ l.1) in (
        (omega arith, omega arith, h),
        rw r (span_of at (end - at), end + 1, refl, word_part s at end lo hi e, refl),
      )

  pub name_unclosed : is_short (take (end - at) (drop at s)) ≡ true → begins (bytes ")") (drop end s) ≡ false
      → NameAt None
  unfolding SameShort WithinShort
  name_unclosed y b =
      let l = ap (literal (bytes ")")) (sym e) ∙ literal_none (bytes ")") (drop end s) b in
      (tt, rw (name_open (drop at s) (short_word true y) l) refl)

  pub name_no : is_short (take (end - at) (drop at s)) ≡ false → NameAt None
  unfolding SameShort WithinShort
  name_no y = (tt, rw (name_other (drop at s) (short_word false y)) refl)

short_there : (z q : List ℕ) → begins (bytes " (") z ≡ true → literal (bytes " (") z ≡ hit tt q
    → read_short z ≡ read_closed_name q
unfolding read_short
short_there z q y l = rw (y, l) refl

short_none : (z : List ℕ) → begins (bytes " (") z ≡ false → read_short z ≡ hit none z
unfolding read_short
short_none z n = rw n refl

within_less : (s : List ℕ) (at : ℕ) (r : CodeOption (Span × ℕ)) → WithinShort s (at + 2) r → WithinShort s at r
unfolding WithinShort
within_less s at None h = tt
within_less s at (Some (p, n)) h = (omega arith, h.1, h.2)

module _ (s : List ℕ) (at : ℕ) (le : at ≤ length s) where
  abbrev pub ShortAt : CodeOption (Span × ℕ) → Type 0
  ShortAt r = WithinShort s at r × SameShort s (read_short (drop at s)) r

  pub short_room : begins (bytes " (") (drop at s) ≡ true → at + 2 ≤ length s
  short_room y = (literal_at (bytes " (") s at le y).0

  pub short_named : (r : CodeOption (Span × ℕ)) → begins (bytes " (") (drop at s) ≡ true → WithinShort s (at + 2) r
      → SameShort s (read_closed_name (drop (at + 2) s)) r → ShortAt r
  short_named r y w h =
      let e = short_there (drop at s) (drop (at + 2) s) y (literal_at (bytes " (") s at le y).1 in
      (within_less s at r w, rw e h)

  pub short_bare : begins (bytes " (") (drop at s) ≡ false → ShortAt (Some (span_of at 0, at))
  unfolding SameShort WithinShort
  short_bare n =
      let e = short_none (drop at s) n in
      ((omega arith, omega arith, le), rw e (span_of at 0, at, refl, refl, refl))
