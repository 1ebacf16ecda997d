-- The pieces, rulers and opening line of a text, as the code reads them.
use mathlib.Core.Path.{◌≡◌, refl, ap, sym, subst, ◌∙◌}
use mathlib.Core.Bool.{Bool, true, false, cond, ◌&&◌}
use mathlib.Core.List.{List, [], ◌∷◌}
use mathlib.Core.Option.{none, some}
use Prim.Native.Nat.{ℕ, zero, suc, ◌+◌, ◌-◌, ◌≤◌, ◌<◌}
use native.Mathlib.Omega.{arith}
use native.Mathlib.Numerals.{add-one}
use lib.Dec.{eqb, leb}
use lib.ListN.{length, take, drop, get_or, length-drop}
use lib.Seq.{drop-cons, drop-length, take_all}
use borrow.Author.Tests.{leb-true, eq-eqb, ne_eqb}
use Rattle.base.specs.Bytes.{bytes}
use Rattle.base.specs.Lists.{is_empty, same, tabulate}
use Rattle.base.proofs.Scans.{same_step, same_end, same_length}
use Rattle.base.proofs.Tables.{get_d_tabulate}
use Rattle.base.proofs.Lists.{and_left, and_right}
use Rattle.base.proofs.Library.{same-pointwise}
use Rattle.std.proofs.Common.{Option, Some, None, MatchOption, Bor}
use Rattle.std.specs.Cmp.Lexicographic.{pointwise}
use Rattle.rules.specs.Limits.{label_most}
use Rattle.rules.specs.Names.{is_label}
use Rattle.text_laws.specs.Fold.{opening_name}
use Rattle.rules.specs.Frames.{tens_at, tens}
use Rattle.text_laws.specs.FrameReader.{on_first, pieces, rest, closing, read_name, read_tens}
use Rattle.texts.specs.FramePlaces.{up_to, is_some}

-- ── the first byte e ──

module _ (e : ℕ) (s : List ℕ) (at : ℕ) where
  pub up_to_end : length s ≤ at → at ≤ length s → up_to e (drop at s) ≡ 0
  unfolding up_to
  up_to_end le le' = let q : at ≡ length s = omega arith in rw (q, drop-length) refl

  pub up_to_stop : at < length s → get_or s at 0 ≡ e → up_to e (drop at s) ≡ 0
  unfolding up_to
  up_to_stop lt q = rw (drop-cons s at 0 lt, eq-eqb (get_or s at 0) e q) refl

  pub up_to_step : at < length s → (get_or s at 0 ≡ e → ⊥) → up_to e (drop at s) ≡ suc (up_to e (drop (at + 1) s))
  unfolding up_to
  up_to_step lt n = rw (drop-cons s at 0 lt, ne_eqb (get_or s at 0) e n, add-one at) refl

-- the text up to the first e is the first piece
pub pieces_first : (e : ℕ) (s : List ℕ) → up_to e s < length s
    → pieces e s ≡ take (up_to e s) s ∷ pieces e (drop (suc (up_to e s)) s)
unfolding pieces on_first up_to
pieces_first e [] lt = absurd (omega arith)
pieces_first e (b ∷ s) lt = go (eqb b e) (pieces_first e s) lt
  where
    go : (x : Bool)
        → (up_to e s < length s → pieces e s ≡ take (up_to e s) s ∷ pieces e (drop (suc (up_to e s)) s))
        → cond x 0 (suc (up_to e s)) < suc (length s)
        → cond x ([] ∷ pieces e s) (on_first b (pieces e s))
        ≡ take (cond x 0 (suc (up_to e s))) (b ∷ s) ∷ pieces e (drop (suc (cond x 0 (suc (up_to e s)))) (b ∷ s))
    go true h lt = refl
    go false h lt = rw (h (omega arith)) refl

-- where there is none, the text has no piece
pub pieces_none : (e : ℕ) (s : List ℕ) → up_to e s ≡ length s → (pieces e s ≡ []) × (rest e s ≡ s)
unfolding pieces rest on_first up_to
pieces_none e [] q = (refl, refl)
pieces_none e (b ∷ s) q = go (eqb b e) (pieces_none e s) q
  where
    go : (x : Bool)
        → (up_to e s ≡ length s → (pieces e s ≡ []) × (rest e s ≡ s))
        → cond x 0 (suc (up_to e s)) ≡ suc (length s)
        → (cond x ([] ∷ pieces e s) (on_first b (pieces e s)) ≡ [])
        × (cond x (rest e s) (cond (is_empty (pieces e s)) (b ∷ rest e s) (rest e s)) ≡ b ∷ s)
    go true h q = absurd (omega arith)
    go false h q = let k = h (omega arith) in (rw k.0 refl, rw (k.0, k.1) refl)

-- ── rulers ──

length_tabulate : (f : ℕ → ℕ) (i n : ℕ) → length (tabulate f i n) ≡ n
unfolding tabulate
length_tabulate f i zero = refl
length_tabulate f i (suc n) = ap suc (length_tabulate f (suc i) n)

module _ (f : ℕ → ℕ) (l : List ℕ) (n : ℕ) where
  pub ruler_length : (length l ≡ n → ⊥) → same l (tabulate f 0 n) ≡ false
  ruler_length ne = same_length l (tabulate f 0 n) (λ e. ne (e ∙ length_tabulate f 0 n))

  pub ruler_end : (i : ℕ) → length l ≡ n → length l ≤ i → i ≤ length l
      → same (drop i l) (drop i (tabulate f 0 n)) ≡ true
  ruler_end i e le le' = same_end l (tabulate f 0 n) i (omega arith) (omega (arith, length_tabulate f 0 n))

  -- all columns were told
  pub ruler_whole : (each : Bool) (i : ℕ) → length l ≡ n → length l ≤ i → i ≤ length l
      → (each && same (drop i l) (drop i (tabulate f 0 n))) ≡ each
  ruler_whole true i e le le' = ruler_end i e le le'
  ruler_whole false i e le le' = refl

  ruler_step : (i : ℕ) → length l ≡ n → i < length l → same (drop i l) (drop i (tabulate f 0 n))
      ≡ (eqb (get_or l i 0) (f i) && same (drop (i + 1) l) (drop (i + 1) (tabulate f 0 n)))
  ruler_step i e lt =
      same_step l (tabulate f 0 n) i lt (omega (arith, length_tabulate f 0 n))
      ∙ rw (get_d_tabulate f n i (omega arith)) refl

  pub ruler_stop : (i r : ℕ) → length l ≡ n → i < length l → r ≡ f i → (get_or l i 0 ≡ r → ⊥)
      → same (drop i l) (drop i (tabulate f 0 n)) ≡ false
  ruler_stop i r e lt q ne =
      ruler_step i e lt ∙ rw (ne_eqb (get_or l i 0) (f i) (λ h. ne (h ∙ sym q))) refl

  pub ruler_next : (i r : ℕ) → length l ≡ n → i < length l → r ≡ f i → get_or l i 0 ≡ r
      → same (drop i l) (drop i (tabulate f 0 n)) ≡ same (drop (i + 1) l) (drop (i + 1) (tabulate f 0 n))
  ruler_next i r e lt q h = ruler_step i e lt ∙ rw (eq-eqb (get_or l i 0) (f i) (h ∙ q)) refl

  -- a column more is told
  pub ruler_told : (each : Bool) (i r : ℕ) → length l ≡ n → i < length l → r ≡ f i
      → (each && same (drop i l) (drop i (tabulate f 0 n)))
      ≡ ((each && eqb (get_or l i 0) r) && same (drop (i + 1) l) (drop (i + 1) (tabulate f 0 n)))
  ruler_told true i r e lt q =
      ruler_step i e lt
      ∙ ap (λ (b : ℕ). eqb (get_or l i 0) b && same (drop (i + 1) l) (drop (i + 1) (tabulate f 0 n))) (sym q)
  ruler_told false i r e lt q = refl

module _ (l : List ℕ) where
  pub width_8 : same l (tabulate tens_at 0 2) ≡ true → some 8 ≡ read_tens l
  unfolding read_tens tens
  width_8 h = let p : same l (tens 8) ≡ true = h in rw p refl

  pub width_16 : same l (tabulate tens_at 0 2) ≡ false → same l (tabulate tens_at 0 22) ≡ true
      → some 16 ≡ read_tens l
  unfolding read_tens tens
  width_16 h k =
      let p : same l (tens 8) ≡ false = h in let q : same l (tens 16) ≡ true = k in rw (p, q) refl

  pub width_last : (x : Bool) → same l (tabulate tens_at 0 2) ≡ false → same l (tabulate tens_at 0 22) ≡ false
      → same l (tabulate tens_at 0 62) ≡ x → cond x (some 32) none ≡ read_tens l
  unfolding read_tens tens
  width_last x h k m =
      let p : same l (tens 8) ≡ false = h in
      let q : same l (tens 16) ≡ false = k in
      let r : same l (tens 32) ≡ x = m in
      rw (p, q, r) refl

  -- no other width is told
  pub width_most : (w : ℕ) → read_tens l ≡ some w → w ≤ 32
  unfolding read_tens
  width_most w = go (same l (tens 8)) (same l (tens 16)) (same l (tens 32))
    where
      told : (n : ℕ) → some n ≡ some w → n ≤ 32 → w ≤ 32
      told n e le = let q : n ≡ w = cc in omega (arith, q, le)

      go : (a b c : Bool) → cond a (some 8) (cond b (some 16) (cond c (some 32) none)) ≡ some w → w ≤ 32
      go true b c e = told 8 e (omega arith)
      go false true c e = told 16 e (omega arith)
      go false false true e = told 32 e (omega arith)
      go false false false e = cc

-- ── the opening line ──

module _ (l : List ℕ) where
  pub opening_an : same (take 3 l) (bytes "An ") ≡ true → opening_name l ≡ read_name (drop 3 l)
  unfolding opening_name
  opening_an h = rw h refl

  pub opening_a : same (take 3 l) (bytes "An ") ≡ false → same (take 2 l) (bytes "A ") ≡ true
      → opening_name l ≡ read_name (drop 2 l)
  unfolding opening_name
  opening_a h k = rw (h, k) refl

  pub opening_none : same (take 3 l) (bytes "An ") ≡ false → same (take 2 l) (bytes "A ") ≡ false
      → opening_name l ≡ none
  unfolding opening_name
  opening_none h k = rw (h, k) refl

some_cond : {A : Type 0} (x : Bool) (a : A) → x ≡ is_some (cond x (some a) none)
some_cond true a = refl
some_cond false a = refl

module _ (s : List ℕ) where
  pub name_short : length s < 25 → false ≡ is_some (read_name s)
  unfolding read_name closing
  name_short lt =
      let n : ℕ = length s - length closing in
      let q : same (drop n s) closing ≡ false =
      same_length (drop n s) closing (λ e. absurd (omega (arith, e, length-drop n s))) in
      rw q refl

  pub name_long : (x : Bool) → 25 ≤ length s
      → x ≡ same (take (length s - (length s - 25)) (drop (length s - 25) s)) closing
      → (x && is_label (take (length s - 25) s)) ≡ is_some (read_name s)
  unfolding read_name closing
  name_long x le e =
      let n : ℕ = length s - 25 in
      let k : length s - n ≡ length (drop n s) = sym (length-drop n s) in
      let t : take (length s - n) (drop n s) ≡ drop n s = take_all (length s - n) (drop n s) (omega arith) in
      let q : same (drop (length s - length closing) s) closing ≡ x =
      ap (λ (m : List ℕ). same m closing) (sym t) ∙ sym e in
      rw q (some_cond (x && is_label (take n s)) (take n s))

module _ (s : List ℕ) where
  pub name_open : same (drop (length s - 25) s) closing ≡ false → read_name s ≡ none
  unfolding read_name closing
  name_open h = rw h refl

  pub name_closed : same (drop (length s - 25) s) closing ≡ true → (b : Bool)
      → is_label (take (length s - 25) s) ≡ b → read_name s ≡ cond b (some (take (length s - 25) s)) none
  unfolding read_name closing
  name_closed h b e = rw (h, e) refl

-- what the library strips off tells the same
abbrev Stripped : List ℕ → List ℕ → Option (Bor (List ℕ)) → Type 0
Stripped l p r =
    MatchOption r (pointwise eqb (take (length p) l) p ≡ false) (λ x. (pointwise eqb (take (length p) l) p ≡ true)
    × (x.now ≡ drop (length p) l) × (length x.now + length p ≡ length l))

abbrev pub Either : List ℕ → Option (Bor (List ℕ)) → Option (Bor (List ℕ)) → Type 0
Either l r q = MatchOption r (Stripped l (bytes "A ") q) (λ x. q ≡ Some x)

abbrev pub Opened : List ℕ → Option (Bor (List ℕ)) → Type 0
Opened l r = MatchOption r (opening_name l ≡ none) (λ x. opening_name l ≡ read_name x.now)

pub opening_is : (l : List ℕ) (r q : Option (Bor (List ℕ))) → Stripped l (bytes "An ") r
    → Either l r q → Opened l q
opening_is l (Some x) q s e =
    subst (Opened l) (sym e)
    (opening_an l (sym (same-pointwise (take 3 l) (bytes "An ")) ∙ s.0) ∙ ap read_name (sym s.1))
opening_is l None (Some x) s e =
    opening_a l (sym (same-pointwise (take 3 l) (bytes "An ")) ∙ s)
    (sym (same-pointwise (take 2 l) (bytes "A ")) ∙ e.0) ∙ ap read_name (sym e.1)
opening_is l None None s e =
    opening_none l (sym (same-pointwise (take 3 l) (bytes "An ")) ∙ s)
    (sym (same-pointwise (take 2 l) (bytes "A ")) ∙ e)

abbrev pub Closed : List ℕ → Option (Bor (List ℕ)) → Type 0
Closed s r =
    MatchOption r (read_name s ≡ none)
    (λ x. (b : Bool) → is_label x.now ≡ b → read_name s ≡ cond b (some x.now) none)

pub name_is : (s : List ℕ) (r : Option (Bor (List ℕ)))
    → MatchOption r (pointwise eqb (drop (length s - 25) s) (bytes " is formatted as follows:") ≡ false)
    (λ x. (pointwise eqb (drop (length s - 25) s) (bytes " is formatted as follows:") ≡ true)
    × (x.now ≡ take (length s - 25) s) × (length x.now + 25 ≡ length s)) → Closed s r
unfolding closing
name_is s None e = name_open s (sym (same-pointwise (drop (length s - 25) s) closing) ∙ e)
name_is s (Some x) e = λ b h.
    name_closed s (sym (same-pointwise (drop (length s - 25) s) closing) ∙ e.0) b (ap is_label (sym e.1) ∙ h)
    ∙ ap (λ (n : List ℕ). cond b (some n) none) (sym e.1)

-- a NAME is a label
name_most : (s n : List ℕ) → read_name s ≡ some n → length n ≤ label_most
unfolding read_name is_label
name_most s n = go (same (drop k s) closing && is_label (take k s)) refl
  where
    k : ℕ
    k = length s - length closing

    go : (b : Bool) → (same (drop k s) closing && is_label (take k s)) ≡ b → cond b (some (take k s)) none ≡ some n
        → length n ≤ label_most
    go true h e =
        let q : take k s ≡ n = cc in
        let p = and_left (leb (length (take k s)) label_most) _ (and_right (same (drop k s) closing) _ h) in
        rw q at (leb-true (length (take k s)) label_most p)
    go false h e = cc

pub opening_most : (l n : List ℕ) → opening_name l ≡ some n → length n ≤ label_most
unfolding opening_name
opening_most l n = go (same (take 3 l) (bytes "An ")) (same (take 2 l) (bytes "A "))
  where
    go : (a b : Bool) → cond a (read_name (drop 3 l)) (cond b (read_name (drop 2 l)) none) ≡ some n
        → length n ≤ label_most
    go true b e = name_most (drop 3 l) n e
    go false true e = name_most (drop 2 l) n e
    go false false e = cc

pub take_rest : (n : ℕ) (l : List ℕ) → take (length l - n) (drop n l) ≡ drop n l
take_rest n l = take_all (length l - n) (drop n l) (omega (arith, length-drop n l))
