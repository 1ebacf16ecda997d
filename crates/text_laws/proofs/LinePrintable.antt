-- A line that spells a field holds only printable bytes.
use mathlib.Core.Path.{◌≡◌, refl}
use mathlib.Core.Bool.{Bool, true, false, ◌&&◌, ◌||◌}
use mathlib.Core.Logic.{◌⊎◌, inl, inr}
use mathlib.Core.List.{List, ◌++◌}
use mathlib.Core.Option.{Option, none, some}
use Prim.Native.Nat.{ℕ, ◌≤◌}
use native.Mathlib.Omega.{arith}
use lib.Dec.{eqb}
use borrow.Author.Tests.{eqb-true}
use Rattle.base.specs.Bytes.{bytes, decimal}
use Rattle.base.specs.Lists.{all, between, if_any}
use Rattle.base.proofs.Lists.{and_left, and_right, or_cases, between_true, true_between, all_append, all_weaken}
use Rattle.rules.specs.declared.Op.{Op}
use Rattle.rules.specs.Operators.{operator, operators, symbol}
use Rattle.rules.specs.Names.{is_letter, is_digit, is_space, is_printable, is_word_byte, is_label_byte, is_label}
use Rattle.rules.specs.Names.{is_short}
use Rattle.rules.specs.Trees.{Tree, is_in_range}
use Rattle.rules.specs.Fields.{Width, fixed, measured, rest, Field, Form, trees}
use Rattle.rules.specs.Within.{is_width}
use Rattle.rules.specs.Expressions.{gap, SpellsAt, number, field, two_sided, negated, parentheses}
use Rattle.rules.specs.Lines.{UnitWord, bit_word, bits_word, byte_word, bytes_word, short_text, Remark, Measure}
use Rattle.rules.specs.Lines.{SpellsWidth, SpellsMaybe, SpellsField, Unresolved}
use Rattle.text_laws.proofs.OperatorTable.{each}
use Rattle.text_laws.proofs.ReaderWords.{number_bytes_lem, short_bytes}
use Rattle.text_laws.proofs.LineNames.{label_bytes_lem}

-- ── bytes ──

within : (l h c : ℕ) → 32 ≤ l → h ≤ 126 → between l c h ≡ true → is_printable c ≡ true
unfolding is_printable
within l h c p q e = let b = between_true l c h e in true_between 32 c 126 (omega arith) (omega arith)

word_byte : (c : ℕ) → is_word_byte c ≡ true → is_printable c ≡ true
unfolding is_word_byte is_letter is_digit
word_byte c h = go (or_cases (between 65 c 90 || between 97 c 122) (between 48 c 57) h)
  where
    letter : (between 65 c 90 ≡ true) ⊎ (between 97 c 122 ≡ true) → is_printable c ≡ true
    letter (inl e) = within 65 90 c (omega arith) (omega arith) e
    letter (inr e) = within 97 122 c (omega arith) (omega arith) e

    go : ((between 65 c 90 || between 97 c 122) ≡ true) ⊎ (between 48 c 57 ≡ true) → is_printable c ≡ true
    go (inl e) = letter (or_cases (between 65 c 90) (between 97 c 122) e)
    go (inr e) = within 48 57 c (omega arith) (omega arith) e

label_byte : (c : ℕ) → is_label_byte c ≡ true → is_printable c ≡ true
unfolding is_label_byte is_space is_printable
label_byte c h = go (or_cases (is_word_byte c) (eqb c 32 || eqb c 45) h)
  where
    other : (eqb c 32 ≡ true) ⊎ (eqb c 45 ≡ true) → is_printable c ≡ true
    other (inl e) = rw (eqb-true c 32 e) refl
    other (inr e) = rw (eqb-true c 45 e) refl

    go : (is_word_byte c ≡ true) ⊎ ((eqb c 32 || eqb c 45) ≡ true) → is_printable c ≡ true
    go (inl e) = word_byte c e
    go (inr e) = other (or_cases (eqb c 32) (eqb c 45) e)

-- letters and digits
pub word_printable : (w : List ℕ) → all is_word_byte w ≡ true → all is_printable w ≡ true
word_printable w h = all_weaken is_word_byte is_printable word_byte w h

pub label_printable : (w : List ℕ) → is_label w ≡ true → all is_printable w ≡ true
label_printable w h = all_weaken is_label_byte is_printable label_byte w (label_bytes_lem w h)

pub symbol_printable : (o : Op) → all is_printable (symbol o) ≡ true
unfolding all operators operator is_printable
symbol_printable o = each (λ p. all is_printable (symbol p)) refl o

gap_printable : (g : Bool) → all is_printable (gap g) ≡ true
unfolding all is_printable
gap_printable true = refl
gap_printable false = refl

-- one text behind the other
joined : (s t : List ℕ) → all is_printable s ≡ true → all is_printable t ≡ true → all is_printable (s ++ t) ≡ true
joined s t = all_append is_printable s t

-- ── the parts of a line ──

short_printable : (o : Option (List ℕ)) → if_any is_short o ≡ true → all is_printable (short_text o) ≡ true
unfolding all is_printable
short_printable none h = refl
short_printable (some w) h =
    joined (bytes " (") (w ++ bytes ")") refl (joined w (bytes ")") (word_printable w (short_bytes w h)) refl)

unit_printable : {u : ℕ} {w : List ℕ} → UnitWord u w → all is_printable w ≡ true
unfolding all is_printable
unit_printable bit_word = refl
unit_printable bits_word = refl
unit_printable byte_word = refl
unit_printable bytes_word = refl

remark_printable : (r : List ℕ) → Remark r → all is_printable r ≡ true
unfolding all is_printable
remark_printable r (inl e) = rw e refl
remark_printable r (inr (z, e, h)) = rw e (joined (bytes " ") z refl h)

-- each name is made of letters and digits
module _ {N : Type 0} (Names : N → List ℕ → Type 0)
    (named : (a : N) (s : List ℕ) → Names a s → all is_word_byte s ≡ true)
  where
    pub tree_printable : {k b : ℕ} {t : Tree N} {s : List ℕ} → SpellsAt Names k b t s → all is_printable s ≡ true
    unfolding all is_printable
    tree_printable (number {n = n} {s = s} le e) = rw e (word_printable (decimal n) (number_bytes_lem n le))
    tree_printable (field {a = a} {s = s} h) = word_printable s (named a s h)
    tree_printable (two_sided {o = o} {s = s} {u = u} g h l p q) =
        joined s (gap g ++ (symbol o ++ (gap h ++ u))) (tree_printable p)
        (joined (gap g) (symbol o ++ (gap h ++ u)) (gap_printable g)
        (joined (symbol o) (gap h ++ u) (symbol_printable o) (joined (gap h) u (gap_printable h) (tree_printable q))))
    tree_printable (negated {s = s} x) =
        joined (bytes "!(") (s ++ bytes ")") refl (joined s (bytes ")") (tree_printable x) refl)
    tree_printable (parentheses {s = s} x) =
        joined (bytes "(") (s ++ bytes ")") refl (joined s (bytes ")") (tree_printable x) refl)

    measure_printable : (u : ℕ) (t : Tree N) (s : List ℕ) → Measure Names u t s → all is_printable s ≡ true
    unfolding all is_printable
    measure_printable u t s x = rw x.is_text
        (joined x.expression (bytes " " ++ x.word) (tree_printable x.spelled)
        (joined (bytes " ") x.word refl (unit_printable x.unit)))

    width_printable : (w : Width N) (s : List ℕ) → SpellsWidth Names w s → all is_printable s ≡ true
    unfolding all is_printable
    width_printable (fixed n) s x = measure_printable x.0 _ s x.3
    width_printable (measured u t) s x = measure_printable u t s x
    width_printable rest s x = rw x refl

    maybe_printable : (phrase : List ℕ) (o : Option (Tree N)) (s : List ℕ) → all is_printable phrase ≡ true
        → SpellsMaybe Names phrase o s → all is_printable s ≡ true
    unfolding all
    maybe_printable phrase none s h x = rw x refl
    maybe_printable phrase (some t) s h x = rw x.1 (joined phrase x.0 h (tree_printable x.2))

    -- a spelled line holds only printable bytes
    pub line_printable : (f : Field N) (l : List ℕ) → SpellsField Names f l → all is_printable l ≡ true
    unfolding all is_printable
    line_printable f l p =
        let h : is_label f.label ≡ true = and_left (is_label f.label) _ p.formed in
        let k : (if_any is_short f.short && (is_width f.width && all is_in_range (trees f))) ≡ true =
        and_right (is_label f.label) _ p.formed in
        let s₄ : List ℕ = bytes "." ++ p.line.remark in
        let s₃ : List ℕ = p.line.condition ++ s₄ in
        let s₂ : List ℕ = p.line.constraint ++ s₃ in
        let s₁ : List ℕ = p.line.width ++ s₂ in
        rw p.line.is_text
        (joined f.label (short_text f.short ++ (bytes ": " ++ s₁)) (label_printable f.label h)
        (joined (short_text f.short) (bytes ": " ++ s₁)
        (short_printable f.short (and_left (if_any is_short f.short) _ k))
        (joined (bytes ": ") s₁ refl
        (joined p.line.width s₂ (width_printable f.width p.line.width p.line.is_width)
        (joined p.line.constraint s₃
        (maybe_printable (bytes "; ") f.constraint p.line.constraint refl p.line.is_constraint)
        (joined p.line.condition s₄
        (maybe_printable (bytes "; present only when ") f.condition p.line.condition refl p.line.is_condition)
        (joined (bytes ".") p.line.remark refl (remark_printable p.line.remark p.line.is_remark))))))))

-- a name that is not yet resolved is made of letters and digits
pub written_bytes : (w s : List ℕ) → Unresolved w s → all is_word_byte s ≡ true
written_bytes w s h = rw h.0 at (short_bytes w h.1)

pub form_printable : (l : List ℕ) (x : Form) → SpellsField Unresolved x l → all is_printable l ≡ true
form_printable l x p = line_printable Unresolved written_bytes x l p
