-- Widths in a field line: what the reader finds there.
use mathlib.Core.Path.{◌≡◌, refl, ap, ◌∙◌}
use mathlib.Core.Bool.{Bool, true, false, cond, ◌||◌, not}
use mathlib.Core.Logic.{◌⊎◌, inl, inr}
use mathlib.Core.List.{List, ◌∷◌, ◌++◌, append_assoc}
use mathlib.Core.Option.{none, some}
use Prim.Native.Nat.{ℕ}
use lib.Dec.{eqb}
use Rattle.base.specs.Bytes.{bytes}
use Rattle.base.specs.Lists.{all, same}
use Rattle.base.proofs.Lists.{and_right, or_cases, not_both, same_true}
use Rattle.rules.specs.Names.{is_letter, is_digit, is_word_byte}
use Rattle.rules.specs.Trees.{Tree, num, read, two, negation, is_number}
use Rattle.rules.specs.Fields.{Width, fixed, measured, rest}
use Rattle.rules.specs.Within.{is_width}
use Rattle.rules.specs.Expressions.{SpellsTree}
use Rattle.rules.specs.Lines.{UnitWord, bit_word, bits_word, byte_word, bytes_word, Measure, SpellsWidth, Unresolved}
use Rattle.text_laws.specs.Reader.{after, word, behind}
use Rattle.text_laws.proofs.ReaderWords.{Ends, word_behind, word_is, behind_is}
use Rattle.text_laws.proofs.ReaderComplete.{Stop, stop_word}
use Rattle.text_laws.specs.LineReader.{hit, bind, keep, literal, begins, read_tree, unit_of, read_unit}
use Rattle.text_laws.specs.LineReader.{width_of, read_measure, read_width}
use Rattle.text_laws.proofs.Combine.{Holds, holds_keep, holds_cond, holds_given, holds_bind, literal_sound}
use Rattle.text_laws.proofs.Combine.{literal_finds}
use Rattle.text_laws.proofs.LineTrees.{TreeFront, tree_sound, tree_finds, barren_not, variable_barren}

-- ── units ──

unit_sound : (w : List ℕ) (u : ℕ) → unit_of w ≡ some u → UnitWord u w
unfolding unit_of
unit_sound w u = first (same w (bytes "bit") || same w (bytes "bits")) refl
  where
    bits : (u : ℕ) → some 1 ≡ some u → (same w (bytes "bit") ≡ true) ⊎ (same w (bytes "bits") ≡ true) → UnitWord u w
    bits u e (inl h) = let q : 1 ≡ u = cc in rw (← q, same_true w (bytes "bit") h) bit_word
    bits u e (inr h) = let q : 1 ≡ u = cc in rw (← q, same_true w (bytes "bits") h) bits_word

    octets : (u : ℕ) → some 8 ≡ some u → (same w (bytes "byte") ≡ true) ⊎ (same w (bytes "bytes") ≡ true)
        → UnitWord u w
    octets u e (inl h) = let q : 8 ≡ u = cc in rw (← q, same_true w (bytes "byte") h) byte_word
    octets u e (inr h) = let q : 8 ≡ u = cc in rw (← q, same_true w (bytes "bytes") h) bytes_word

    second : (x : Bool) → (same w (bytes "byte") || same w (bytes "bytes")) ≡ x → cond x (some 8) none ≡ some u
        → UnitWord u w
    second true h e = octets u e (or_cases (same w (bytes "byte")) (same w (bytes "bytes")) h)
    second false h e = let z : ◌≡◌ {A = Bool} true false = cc in absurd (not_both true refl z)

    first : (x : Bool) → (same w (bytes "bit") || same w (bytes "bits")) ≡ x
        → cond x (some 1) (cond (same w (bytes "byte") || same w (bytes "bytes")) (some 8) none) ≡ some u
        → UnitWord u w
    first true h e = bits u e (or_cases (same w (bytes "bit")) (same w (bytes "bits")) h)
    first false h e = second (same w (bytes "byte") || same w (bytes "bytes")) refl e

-- the word of a unit stands in front of s, and r is behind it
abbrev UnitFront : List ℕ → ℕ → List ℕ → Type 0
UnitFront s u r = (w : List ℕ) × (s ≡ w ++ r) × UnitWord u w

unit_front : (s : List ℕ) → Holds (UnitFront s) (read_unit s)
unfolding read_unit
unit_front s = holds_given (UnitFront s) (unit_of (word s)) (behind s)
    (λ u e. (word s, word_behind s, unit_sound (word s) u e))

unit_bytes : {u : ℕ} {w : List ℕ} → UnitWord u w → all is_word_byte w ≡ true
unfolding all is_word_byte is_letter is_digit
unit_bytes bit_word = refl
unit_bytes bits_word = refl
unit_bytes byte_word = refl
unit_bytes bytes_word = refl

unit_of_lem : {u : ℕ} {w : List ℕ} → UnitWord u w → unit_of w ≡ some u
unfolding unit_of same
unit_of_lem bit_word = refl
unit_of_lem bits_word = refl
unit_of_lem byte_word = refl
unit_of_lem bytes_word = refl

unit_finds : (u : ℕ) (w r : List ℕ) → UnitWord u w → Ends r → read_unit (w ++ r) ≡ hit u r
unfolding read_unit
unit_finds u w r x e =
    let b = unit_bytes x in rw (word_is w r b e, behind_is w r b e, unit_of_lem x)

-- a space and the word of a unit end an expression
unit_stop : {u : ℕ} {w : List ℕ} (r : List ℕ) → UnitWord u w → Stop 0 (32 ∷ (w ++ r))
unfolding is_word_byte is_letter is_digit
unit_stop r bit_word = stop_word 0 98 (105 ∷ 116 ∷ r) refl
unit_stop r bits_word = stop_word 0 98 (105 ∷ 116 ∷ 115 ∷ r) refl
unit_stop r byte_word = stop_word 0 98 (121 ∷ 116 ∷ 101 ∷ r) refl
unit_stop r bytes_word = stop_word 0 98 (121 ∷ 116 ∷ 101 ∷ 115 ∷ r) refl

-- ── sound ──

-- a width stands in front of s, and r is behind it
abbrev pub WidthFront : List ℕ → Width (List ℕ) → List ℕ → Type 0
WidthFront s w r = (u : List ℕ) × (s ≡ u ++ r) × SpellsWidth Unresolved w u × (is_width w ≡ true)

width_of_lem : (u : ℕ) (t : Tree (List ℕ)) (s : List ℕ) → Measure Unresolved u t s
    → SpellsWidth Unresolved (width_of u t) s
width_of_lem u (num m) s x = (u, m, refl, x)
width_of_lem u (read a) s x = x
width_of_lem u (two o a b) s x = x
width_of_lem u (negation a) s x = x

measure_sound : (s : List ℕ) → Holds (WidthFront s) (read_measure s)
unfolding read_measure
measure_sound s =
    holds_bind (TreeFront s) (WidthFront s) (read_tree s)
    (λ t r. bind (literal (bytes " ") r) (λ _ p. bind (read_unit p) (λ u q.
    keep (is_width (width_of u t)) (width_of u t) q)))
    (tree_sound s)
    (λ t r x. holds_bind (λ _ p. r ≡ bytes " " ++ p) (WidthFront s) (literal (bytes " ") r)
    (λ _ p. bind (read_unit p) (λ u q. keep (is_width (width_of u t)) (width_of u t) q)) (literal_sound (bytes " ") r)
    (λ _ p e. holds_bind (UnitFront p) (WidthFront s) (read_unit p)
    (λ u q. keep (is_width (width_of u t)) (width_of u t) q) (unit_front p)
    (λ u q y. holds_keep (WidthFront s) (is_width (width_of u t)) (width_of u t) q
    (λ h. whole t r p u q x.0 x.1 x.2 e y.0 y.1 y.2 h))))
  where
    whole : (t : Tree (List ℕ)) (r p : List ℕ) (u : ℕ) (q v : List ℕ) → s ≡ v ++ r → SpellsTree Unresolved t v
        → r ≡ 32 ∷ p → (w : List ℕ) → p ≡ w ++ q → UnitWord u w → is_width (width_of u t) ≡ true
        → WidthFront s (width_of u t) q
    whole t r p u q v e x f w g y h = (
      v ++ (32 ∷ w),
      rw (e, f, g, append_assoc v (32 ∷ w) q),
      width_of_lem u t (v ++ (32 ∷ w)) (record { expression = v; word = w; is_text = refl; spelled = x; unit = y }),
      h,
    )

pub width_sound : (s : List ℕ) → Holds (WidthFront s) (read_width s)
unfolding read_width
width_sound s =
    holds_cond (WidthFront s) (begins (bytes "variable") s) (bind (literal (bytes "variable") s) (λ _ r. hit rest r))
    (read_measure s)
    (λ _. holds_bind (λ _ r. s ≡ bytes "variable" ++ r) (WidthFront s) (literal (bytes "variable") s)
    (λ _ r. hit rest r) (literal_sound (bytes "variable") s) (λ _ r e. (bytes "variable", e, refl, refl)))
    (λ _. measure_sound s)

-- ── complete ──

measure_finds : (u : ℕ) (t : Tree (List ℕ)) (s r : List ℕ) → Measure Unresolved u t s → Ends r
    → is_width (width_of u t) ≡ true → read_width (s ++ r) ≡ hit (width_of u t) r
unfolding read_width read_measure
measure_finds u t s r x e h =
    let q : s ++ r ≡ x.expression ++ (32 ∷ (x.word ++ r)) =
    rw x.is_text (append_assoc x.expression (32 ∷ x.word) r) in
    let st = unit_stop r x.unit in
    rw (q, barren_not (bytes "variable") variable_barren t x.expression (32 ∷ (x.word ++ r)) x.spelled st)
    (rw (tree_finds t x.expression (32 ∷ (x.word ++ r)) x.spelled st)
    (rw (literal_finds (bytes " ") (x.word ++ r)) (rw (unit_finds u x.word r x.unit e) (rw h))))

-- a tree that is no number makes a measured width
measured_of : (u : ℕ) (t : Tree (List ℕ)) → is_number t ≡ false → width_of u t ≡ measured u t
measured_of u (num m) e = absurd (not_both true refl e)
measured_of u (read a) e = refl
measured_of u (two o a b) e = refl
measured_of u (negation a) e = refl

not_true : (x : Bool) → not x ≡ true → x ≡ false
not_true true e = absurd (not_both false e refl)
not_true false e = refl

pub width_finds : (w : Width (List ℕ)) (s r : List ℕ) → SpellsWidth Unresolved w s → Ends r → is_width w ≡ true
    → read_width (s ++ r) ≡ hit w r
unfolding read_width literal begins after
width_finds (fixed n) s r x e h =
    let q = measure_finds x.0 (num x.1) s r x.3 e (rw x.2 h) in q ∙ ap (λ (k : ℕ). hit (fixed k) r) x.2
width_finds (measured u t) s r x e h =
    let f : width_of u t ≡ measured u t =
    measured_of u t (not_true (is_number t) (and_right (eqb u 1 || eqb u 8) (not (is_number t)) h)) in
    rw f at (measure_finds u t s r x e (rw f h))
width_finds rest s r x e h = rw x refl
