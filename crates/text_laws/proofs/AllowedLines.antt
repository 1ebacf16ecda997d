-- The bytes of a field line that spells a field may stand in a line.
use mathlib.Core.Path.{◌≡◌, refl}
use mathlib.Core.Bool.{Bool, true, false, ◌&&◌, ◌||◌}
use mathlib.Core.Logic.{inl, inr}
use mathlib.Core.List.{List, ◌++◌}
use mathlib.Core.Option.{Option, none, some}
use Prim.Native.Nat.{ℕ, ◌≤◌}
use native.Mathlib.Omega.{arith}
use lib.Dec.{leb, eqb}
use lib.ListN.{length}
use borrow.Author.Tests.{eqb-true}
use Rattle.base.specs.Bytes.{bytes, decimal}
use Rattle.base.specs.Lists.{all, if_any, between}
use Rattle.base.proofs.Lists.{and_left, and_right, between_true, true_between, all_append, all_weaken}
use Rattle.base.proofs.Breaks.{or_true}
use Rattle.rules.specs.Limits.{label_most}
use Rattle.rules.specs.Operators.{operator, operators, symbol}
use Rattle.rules.specs.declared.Op.{Op}
use Rattle.rules.specs.Names.{
  is_letter,
  is_digit,
  is_space,
  is_printable,
  is_word_byte,
  is_label_byte,
  has_word_ends,
  no_two_spaces,
  is_label,
  is_short,
}
use Rattle.rules.specs.Trees.{Tree, num}
use Rattle.rules.specs.Fields.{Width, fixed, measured, rest, Field}
use Rattle.rules.specs.Expressions.{SpellsAt, number, field, two_sided, negated, parentheses, gap}
use Rattle.rules.specs.Lines.{
  UnitWord,
  bit_word,
  bits_word,
  byte_word,
  bytes_word,
  short_text,
  Remark,
  Measure,
  SpellsWidth,
  SpellsMaybe,
  SpellsField,
}
use Rattle.text_laws.proofs.OperatorTable.{each}
use Rattle.text_laws.proofs.ReaderWords.{number_bytes_lem, short_bytes}
use Rattle.laws.proofs.ReadsFields.{formed_names}

-- each byte may stand in a line
abbrev pub printable : List ℕ → Bool
printable s = all is_printable s

pub printable_both : (s t : List ℕ) → printable s ≡ true → printable t ≡ true → printable (s ++ t) ≡ true
printable_both s t p q = all_append is_printable s t p q

-- the phrases of a field line
phrases : (printable (bytes "; ") ≡ true)
    × (printable (bytes "; present only when ") ≡ true)
    × (printable (bytes ": ") ≡ true)
    × (printable (bytes ".") ≡ true)
unfolding all is_printable
phrases = (refl, refl, refl, refl)

-- ── names ──

wider : (b low high : ℕ) → 0x20 ≤ low → high ≤ 0x7E → between low b high ≡ true → between 0x20 b 0x7E ≡ true
wider b low high l u e =
    let w = between_true low b high e in
    true_between 0x20 b 0x7E (omega arith) (omega arith)

word_printable : (b : ℕ) → is_word_byte b ≡ true → is_printable b ≡ true
unfolding is_word_byte is_letter is_digit is_printable
word_printable b h = or_true (between 65 b 90 || between 97 b 122) (between 48 b 57)
    (or_true (between 65 b 90) (between 97 b 122) (wider b 65 90 (omega arith) (omega arith))
    (wider b 97 122 (omega arith) (omega arith))) (wider b 48 57 (omega arith) (omega arith)) h

label_printable : (b : ℕ) → is_label_byte b ≡ true → is_printable b ≡ true
unfolding is_label_byte is_space is_printable
label_printable b h = or_true (is_word_byte b) (eqb b 32 || eqb b 45) (word_printable b)
    (or_true (eqb b 32) (eqb b 45) (λ e. rw (eqb-true b 32 e)) (λ e. rw (eqb-true b 45 e))) h

pub words_printable : (s : List ℕ) → all is_word_byte s ≡ true → printable s ≡ true
words_printable s h = all_weaken is_word_byte is_printable word_printable s h

pub label_is_printable : (s : List ℕ) → is_label s ≡ true → printable s ≡ true
unfolding is_label
label_is_printable s h = all_weaken is_label_byte is_printable label_printable s
    (and_left (all is_label_byte s) (has_word_ends s && no_two_spaces s)
    (and_right (leb (length s) label_most) (all is_label_byte s && (has_word_ends s && no_two_spaces s)) h))

-- ── expressions ──

gap_printable : (g : Bool) → printable (gap g) ≡ true
unfolding all is_printable
gap_printable true = refl
gap_printable false = refl

symbol_printable : (o : Op) → printable (symbol o) ≡ true
unfolding all is_printable operators operator
symbol_printable o = each (λ p. printable (symbol p)) refl o

module _ {N : Type 0} {R : N → List ℕ → Type 0} (short : (a : N) (w : List ℕ) → R a w → is_short w ≡ true) where
  inside : (opening s : List ℕ) → printable opening ≡ true → printable s ≡ true
      → printable (opening ++ (s ++ bytes ")")) ≡ true
  unfolding all is_printable
  inside opening s p q = printable_both opening (s ++ bytes ")") p (printable_both s (bytes ")") q refl)

  pub tree_printable : {k b : ℕ} {t : Tree N} {s : List ℕ} → SpellsAt R k b t s → printable s ≡ true
  unfolding all is_printable
  tree_printable (number {n = n} h e) = rw e (words_printable (decimal n) (number_bytes_lem n h))
  tree_printable (field {a = a} {s = s} r) = words_printable s (short_bytes s (short a s r))
  tree_printable (two_sided {o = o} {s = s} {u = u} g h l x y) =
      printable_both s (gap g ++ (symbol o ++ (gap h ++ u))) (tree_printable x)
      (printable_both (gap g) (symbol o ++ (gap h ++ u)) (gap_printable g)
      (printable_both (symbol o) (gap h ++ u) (symbol_printable o)
      (printable_both (gap h) u (gap_printable h) (tree_printable y))))
  tree_printable (negated {s = s} x) = inside (bytes "!(") s refl (tree_printable x)
  tree_printable (parentheses {s = s} x) = inside (bytes "(") s refl (tree_printable x)

  -- ── field lines ──

  unit_printable : {u : ℕ} {s : List ℕ} → UnitWord u s → printable s ≡ true
  unfolding all is_printable
  unit_printable bit_word = refl
  unit_printable bits_word = refl
  unit_printable byte_word = refl
  unit_printable bytes_word = refl

  measure_printable : (u : ℕ) (t : Tree N) (s : List ℕ) → Measure R u t s → printable s ≡ true
  unfolding all is_printable
  measure_printable u t s m = rw m.is_text
      (printable_both m.expression (bytes " " ++ m.word) (tree_printable m.spelled)
      (printable_both (bytes " ") m.word refl (unit_printable m.unit)))

  width_printable : (w : Width N) (s : List ℕ) → SpellsWidth R w s → printable s ≡ true
  unfolding all is_printable
  width_printable (fixed n) s h = measure_printable h.0 (num h.1) s h.3
  width_printable (measured u t) s h = measure_printable u t s h
  width_printable rest s h = rw h

  maybe_printable : (phrase : List ℕ) → printable phrase ≡ true → (o : Option (Tree N)) (s : List ℕ)
      → SpellsMaybe R phrase o s → printable s ≡ true
  unfolding all
  maybe_printable phrase p none s h = rw h
  maybe_printable phrase p (some t) s h = rw h.1 (printable_both phrase h.0 p (tree_printable h.2))

  short_printable : (o : Option (List ℕ)) → if_any is_short o ≡ true → printable (short_text o) ≡ true
  unfolding all is_printable
  short_printable none h = refl
  short_printable (some w) h = inside (bytes " (") w refl (words_printable w (short_bytes w h))

  remark_printable : (s : List ℕ) → Remark s → printable s ≡ true
  unfolding all is_printable
  remark_printable s (inl e) = rw e
  remark_printable s (inr h) = rw h.1 (printable_both (bytes " ") h.0 refl h.2)

  pub field_printable : (x : Field N) (s : List ℕ) → SpellsField R x s → printable s ≡ true
  field_printable x s h =
      let names = formed_names x h.formed in
      let label : printable x.label ≡ true = label_is_printable x.label names.0 in
      let name : printable (short_text x.short) ≡ true = short_printable x.short names.1 in
      let wide : printable h.line.width ≡ true = width_printable x.width h.line.width h.line.is_width in
      let own : printable h.line.constraint ≡ true =
      maybe_printable (bytes "; ") phrases.0 x.constraint h.line.constraint h.line.is_constraint in
      let when : printable h.line.condition ≡ true =
      maybe_printable (bytes "; present only when ") phrases.1 x.condition h.line.condition
      h.line.is_condition in
      rw h.line.is_text
      (printable_both x.label _ label
      (printable_both (short_text x.short) _ name
      (printable_both (bytes ": ") _ phrases.2
      (printable_both h.line.width _ wide
      (printable_both h.line.constraint _ own
      (printable_both h.line.condition _ when
      (printable_both (bytes ".") h.line.remark phrases.3 (remark_printable h.line.remark
      h.line.is_remark))))))))
