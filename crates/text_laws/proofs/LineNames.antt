-- Labels and short names in a field line: what the reader finds there.
use mathlib.Core.Path.{◌≡◌, refl, ap}
use mathlib.Core.Bool.{Bool, true, false, cond, ◌||◌, not}
use mathlib.Core.Logic.{◌⊎◌, inl, inr}
use mathlib.Core.List.{List, [], ◌∷◌, ◌++◌, append_assoc}
use mathlib.Core.Option.{Option, none, some}
use Prim.Native.Nat.{ℕ}
use lib.Dec.{leb, eqb}
use lib.ListN.{length}
use Rattle.base.specs.Bytes.{bytes}
use Rattle.base.specs.Lists.{all, is_none, if_any}
use Rattle.base.proofs.Lists.{and_left, and_right}
use Rattle.rules.specs.Limits.{label_most}
use Rattle.rules.specs.Names.{is_letter, is_digit, is_space, is_word_byte, is_label_byte, is_label, is_short}
use Rattle.rules.specs.Lines.{short_text}
use Rattle.text_laws.specs.Reader.{after, word, behind}
use Rattle.text_laws.proofs.ReaderWords.{word_behind, word_is, behind_is, short_bytes}
use Rattle.text_laws.specs.LineReader.{hit, bind, keep, literal, begins, label_ends, label_text}
use Rattle.text_laws.specs.LineReader.{label_behind, read_label, read_closed_name, read_short}
use Rattle.text_laws.proofs.Combine.{Holds, holds_keep, holds_cond, holds_bind, literal_sound}
use Rattle.text_laws.proofs.Combine.{differs}

-- ── labels ──

pub label_split : (s : List ℕ) → s ≡ label_text s ++ label_behind s
unfolding label_text label_behind
label_split [] = refl
label_split (c ∷ s) = go (label_ends (c ∷ s)) (label_split s)
  where
    go : (x : Bool) → s ≡ label_text s ++ label_behind s
        → c ∷ s ≡ cond x [] (c ∷ label_text s) ++ cond x (c ∷ s) (label_behind s)
    go true e = refl
    go false e = ap (λ (l : List ℕ). c ∷ l) e

pub label_sound : (s : List ℕ) → Holds (λ w r. (s ≡ w ++ r) × (is_label w ≡ true)) (read_label s)
unfolding read_label
label_sound s = holds_keep (λ w r. (s ≡ w ++ r) × (is_label w ≡ true)) (is_label (label_text s)) (label_text s)
    (label_behind s) (λ e. (label_split s, e))

pub label_bytes_lem : (w : List ℕ) → is_label w ≡ true → all is_label_byte w ≡ true
unfolding is_label
label_bytes_lem w h = and_left (all is_label_byte w) _ (and_right (leb (length w) label_most) _ h)

-- ` (` or `:` stands in front
abbrev pub LabelStop : List ℕ → Type 0
LabelStop r = ((z : List ℕ) × (r ≡ 32 ∷ 40 ∷ z)) ⊎ ((z : List ℕ) × (r ≡ 58 ∷ z))

label_not : (c d : ℕ) → is_label_byte c ≡ true → is_label_byte d ≡ false → eqb d c ≡ false
label_not c d = differs is_label_byte c d

-- no `(` stands behind a byte of the label
no_paren : (w r : List ℕ) → all is_label_byte w ≡ true → LabelStop r → after (40 ∷ []) (w ++ r) ≡ none
unfolding after all is_label_byte is_word_byte is_letter is_digit is_space
no_paren [] r h (inl (z, e)) = rw e refl
no_paren [] r h (inr (z, e)) = rw e refl
no_paren (c ∷ w) r h st = rw (label_not c 40 (and_left (is_label_byte c) (all is_label_byte w) h) refl)

goes_on : (c : ℕ) (s : List ℕ) → is_label_byte c ≡ true → after (40 ∷ []) s ≡ none → label_ends (c ∷ s) ≡ false
unfolding label_ends begins after is_label_byte is_word_byte is_letter is_digit is_space
goes_on c s h e = rw (label_not c 58 h refl) (go (eqb 32 c))
  where
    go : (x : Bool) → (not (is_none (cond x (after (40 ∷ []) s) none)) || false) ≡ false
    go true = rw e
    go false = refl

label_text_lem : (w r : List ℕ) → all is_label_byte w ≡ true → LabelStop r → label_text (w ++ r) ≡ w
unfolding label_text label_ends begins after all
label_text_lem [] r h (inl (z, e)) = rw e refl
label_text_lem [] r h (inr (z, e)) = rw e refl
label_text_lem (c ∷ w) r h st =
    let t : all is_label_byte w ≡ true = and_right (is_label_byte c) (all is_label_byte w) h in
    rw (goes_on c (w ++ r) (and_left (is_label_byte c) (all is_label_byte w) h) (no_paren w r t st))
    (ap (λ (l : List ℕ). c ∷ l) (label_text_lem w r t st))

label_behind_lem : (w r : List ℕ) → all is_label_byte w ≡ true → LabelStop r → label_behind (w ++ r) ≡ r
unfolding label_behind label_ends begins after all
label_behind_lem [] r h (inl (z, e)) = rw e refl
label_behind_lem [] r h (inr (z, e)) = rw e refl
label_behind_lem (c ∷ w) r h st =
    let t : all is_label_byte w ≡ true = and_right (is_label_byte c) (all is_label_byte w) h in
    rw (goes_on c (w ++ r) (and_left (is_label_byte c) (all is_label_byte w) h) (no_paren w r t st))
    (label_behind_lem w r t st)

pub label_finds : (w r : List ℕ) → is_label w ≡ true → LabelStop r → read_label (w ++ r) ≡ hit w r
unfolding read_label
label_finds w r h st =
    let b = label_bytes_lem w h in rw (label_text_lem w r b st, label_behind_lem w r b st, h)

-- ── short names ──

-- what stands behind ` (`
name_sound : (s : List ℕ)
    → Holds (λ o r. (32 ∷ 40 ∷ s ≡ short_text o ++ r) × (if_any is_short o ≡ true)) (read_closed_name s)
unfolding read_closed_name
name_sound s =
    holds_bind (λ w r. (s ≡ w ++ r) × (is_short w ≡ true))
    (λ o r. (32 ∷ 40 ∷ s ≡ short_text o ++ r) × (if_any is_short o ≡ true))
    (keep (is_short (word s)) (word s) (behind s)) (λ w r. bind (literal (bytes ")") r) (λ _ q. hit (some w) q))
    (holds_keep (λ w r. (s ≡ w ++ r) × (is_short w ≡ true)) (is_short (word s)) (word s) (behind s)
    (λ e. (word_behind s, e)))
    (λ w r p. holds_bind (λ _ q. r ≡ bytes ")" ++ q)
    (λ o r. (32 ∷ 40 ∷ s ≡ short_text o ++ r) × (if_any is_short o ≡ true))
    (literal (bytes ")") r) (λ _ q. hit (some w) q) (literal_sound (bytes ")") r)
    (λ _ q e. (ap (λ (l : List ℕ). 32 ∷ 40 ∷ l) (joined w r q p.0 e), p.1)))
  where
    joined : (w r q : List ℕ) → s ≡ w ++ r → r ≡ 41 ∷ q → s ≡ (w ++ (41 ∷ [])) ++ q
    joined w r q e f = rw (e, f, append_assoc w (41 ∷ []) q)

pub short_sound : (s : List ℕ) → Holds (λ o r. (s ≡ short_text o ++ r) × (if_any is_short o ≡ true)) (read_short s)
unfolding read_short
short_sound s =
    holds_cond Good (begins (bytes " (") s) (bind (literal (bytes " (") s) (λ _ r. read_closed_name r)) (hit none s)
    (λ _. holds_bind (λ _ r. s ≡ bytes " (" ++ r) Good (literal (bytes " (") s) (λ _ r. read_closed_name r)
    (literal_sound (bytes " (") s) (λ _ r e. rw e (name_sound r)))
    (λ _. (refl, refl))
  where
    Good : Option (List ℕ) → List ℕ → Type 0
    Good o r = (s ≡ short_text o ++ r) × (if_any is_short o ≡ true)

name_finds : (w r : List ℕ) → is_short w ≡ true → read_closed_name (w ++ (41 ∷ r)) ≡ hit (some w) r
unfolding read_closed_name literal after is_word_byte is_letter is_digit
name_finds w r h =
    let b = short_bytes w h in rw (word_is w (41 ∷ r) b refl, behind_is w (41 ∷ r) b refl, h)

pub short_finds : (o : Option (List ℕ)) (r : List ℕ) → if_any is_short o ≡ true
    → read_short (short_text o ++ (58 ∷ r)) ≡ hit o (58 ∷ r)
unfolding read_short begins literal after
short_finds none r h = refl
short_finds (some w) r h = rw (append_assoc w (41 ∷ []) (58 ∷ r)) (name_finds w (58 ∷ r) h)

pub short_stop : (o : Option (List ℕ)) (r : List ℕ) → LabelStop (short_text o ++ (58 ∷ r))
short_stop none r = inr (r, refl)
short_stop (some w) r = inl ((w ++ (41 ∷ [])) ++ (58 ∷ r), refl)
