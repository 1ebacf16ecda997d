-- The reader answers a form to a line exactly when the line spells it: no line spells two.
use mathlib.Core.Path.{◌≡◌, refl, ap}
use mathlib.Core.Bool.{Bool, true, false, cond, ◌&&◌}
use mathlib.Core.Logic.{inl, inr}
use mathlib.Core.List.{List, [], ◌∷◌, ◌++◌}
use mathlib.Core.Option.{Option, none, some}
use Prim.Native.Nat.{ℕ}
use lib.Dec.{eqb}
use borrow.Author.Tests.{eqb-true}
use Rattle.base.specs.Bytes.{bytes}
use Rattle.base.specs.Lists.{all, if_any, list_of}
use Rattle.base.proofs.Lists.{and_left, and_right, and_both, not_both, all_append}
use Rattle.rules.specs.Names.{is_printable, is_label, is_short}
use Rattle.rules.specs.Trees.{Tree, is_in_range}
use Rattle.rules.specs.Fields.{Width, fixed, measured, rest, Form, width_trees, trees}
use Rattle.rules.specs.Within.{is_width, is_formed}
use Rattle.rules.specs.Expressions.{SpellsAt, number, field, two_sided, negated, parentheses}
use Rattle.rules.specs.Lines.{short_text, Remark, SpellsWidth, SpellsMaybe, SpellsField, Unresolved}
use Rattle.laws.proofs.OperatorLaws.{knows_all}
use Rattle.text_laws.specs.LineReader.{Got, miss, hit, literal, read_label, read_short, read_width}
use Rattle.text_laws.specs.LineReader.{
  is_constraint,
  is_condition,
  read_constraint,
  read_condition,
  read_field,
  is_remark,
}
use Rattle.text_laws.specs.LineReader.{form_of, read_form}
use Rattle.text_laws.proofs.Combine.{Holds, holds_bind, literal_sound, literal_finds}
use Rattle.text_laws.proofs.LineNames.{label_sound, label_finds, short_sound, short_finds, short_stop}
use Rattle.text_laws.proofs.LinePhrases.{Closes, closes_stop, maybe_closes, MaybeFront, maybe_sound}
use Rattle.text_laws.proofs.LinePhrases.{condition_finds, no_constraint, constraint_finds}
use Rattle.text_laws.proofs.LineWidths.{WidthFront, width_sound, width_finds}

-- ── numbers in range ──

module _ {N : Type 0} {Names : N → List ℕ → Type 0} where
  -- a tree that is spelled has only numbers in range
  pub tree_in_range : {k b : ℕ} {t : Tree N} {s : List ℕ} → SpellsAt Names k b t s → is_in_range t ≡ true
  unfolding is_in_range
  tree_in_range (number v e) = v
  tree_in_range (field h) = refl
  tree_in_range (two_sided {x = x} {y = y} g h l p q) =
      and_both (is_in_range x) (is_in_range y) (tree_in_range p) (tree_in_range q)
  tree_in_range (negated x) = tree_in_range x
  tree_in_range (parentheses x) = tree_in_range x

module _ {N : Type 0} (Names : N → List ℕ → Type 0) where
  width_in_range : (w : Width N) (s : List ℕ) → SpellsWidth Names w s → all is_in_range (width_trees w) ≡ true
  unfolding all
  width_in_range (fixed n) s x = refl
  width_in_range (measured u t) s x = and_both (is_in_range t) true (tree_in_range x.spelled) refl
  width_in_range rest s x = refl

  maybe_in_range : (phrase : List ℕ) (o : Option (Tree N)) (s : List ℕ) → SpellsMaybe Names phrase o s
      → all is_in_range (list_of o) ≡ true
  unfolding all
  maybe_in_range phrase none s x = refl
  maybe_in_range phrase (some t) s x = and_both (is_in_range t) true (tree_in_range x.2) refl

-- ── sound ──

remark_sound : (r : List ℕ) → is_remark r ≡ true → Remark r
unfolding is_remark
remark_sound [] h = inl refl
remark_sound (c ∷ s) h =
    let e : c ≡ 32 = eqb-true c 32 (and_left (eqb c 32) (all is_printable s) h) in
    inr (s, ap (λ (d : ℕ). d ∷ s) e, and_right (eqb c 32) (all is_printable s) h)

-- the form x and its remark r are spelled
abbrev FormFront : List ℕ → Form → List ℕ → Type 0
FormFront s x r = Remark r → SpellsField Unresolved x s

module _ (s : List ℕ) where
  -- the parts that were read make the line
  whole : (x : Form) (s₁ s₂ s₃ s₄ s₅ s₆ s₇ : List ℕ)
      → (s ≡ x.label ++ s₁) × (is_label x.label ≡ true)
      → (s₁ ≡ short_text x.short ++ s₂) × (if_any is_short x.short ≡ true)
      → s₂ ≡ bytes ": " ++ s₃ → WidthFront s₃ x.width s₄ → MaybeFront (bytes "; ") s₄ x.constraint s₅
      → MaybeFront (bytes "; present only when ") s₅ x.condition s₆ → s₆ ≡ bytes "." ++ s₇ → FormFront s x s₇
  whole x s₁ s₂ s₃ s₄ s₅ s₆ s₇ l h e w c d f m = record {
    formed = and_both (is_label x.label) _ l.1 (and_both (if_any is_short x.short) _ h.1
        (and_both (is_width x.width) (all is_in_range (trees x)) w.3
        (all_append is_in_range (width_trees x.width) (list_of x.constraint ++ list_of x.condition)
        (width_in_range Unresolved x.width w.0 w.2)
        (all_append is_in_range (list_of x.constraint) (list_of x.condition)
        (maybe_in_range Unresolved (bytes "; ") x.constraint c.0 c.2)
        (maybe_in_range Unresolved (bytes "; present only when ") x.condition d.0 d.2)))));
    operators = knows_all x;
    line = record {
      width = w.0;
      constraint = c.0;
      condition = d.0;
      remark = s₇;
      is_text = rw (l.0, h.0, e, w.1, c.1, d.1, f) refl;
      is_width = w.2;
      is_constraint = c.2;
      is_condition = d.2;
      is_remark = m;
    };
  }

  field_sound : Holds (FormFront s) (read_field s)
  unfolding read_field read_constraint read_condition
  field_sound =
      holds_bind _ (FormFront s) (read_label s) _ (label_sound s) λ label s₁ l.
      holds_bind _ (FormFront s) (read_short s₁) _ (short_sound s₁) λ short s₂ h.
      holds_bind _ (FormFront s) (literal (bytes ": ") s₂) _ (literal_sound (bytes ": ") s₂) λ _ s₃ e.
      holds_bind _ (FormFront s) (read_width s₃) _ (width_sound s₃) λ width s₄ w.
      holds_bind _ (FormFront s) (read_constraint s₄) _
      (maybe_sound (is_constraint s₄) (bytes "; ") s₄) λ constraint s₅ c.
      holds_bind _ (FormFront s) (read_condition s₅) _
      (maybe_sound (is_condition s₅) (bytes "; present only when ") s₅) λ condition s₆ d.
      holds_bind _ (FormFront s) (literal (bytes ".") s₆) _ (literal_sound (bytes ".") s₆) λ _ s₇ f.
      whole (record { label = label; short = short; width = width; constraint = constraint; condition = condition })
      s₁ s₂ s₃ s₄ s₅ s₆ s₇ l h e w c d f

pub form_sound : (l : List ℕ) (x : Form) → read_form l ≡ some x → SpellsField Unresolved x l
unfolding read_form
form_sound l x = go (read_field l) (field_sound l)
  where
    kept : (y : Form) (r : List ℕ) → FormFront l y r → (b : Bool) → is_remark r ≡ b → cond b (some y) none ≡ some x
        → SpellsField Unresolved x l
    kept y r h true m e = let q : y ≡ x = cc in rw (← q) (h (remark_sound r m))
    kept y r h false m e = let z : ◌≡◌ {A = Bool} true false = cc in absurd (not_both true refl z)

    go : (g : Got Form) → Holds (FormFront l) g → form_of g ≡ some x → SpellsField Unresolved x l
    go miss h e = let z : ◌≡◌ {A = Bool} true false = cc in absurd (not_both true refl z)
    go (hit y r) h e = kept y r h (is_remark r) refl e

-- ── complete ──

remark_finds : (r : List ℕ) → Remark r → is_remark r ≡ true
unfolding is_remark
remark_finds r (inl e) = rw e refl
remark_finds r (inr (z, e, h)) = rw e h

field_finds : (x : Form) (w c d r : List ℕ) → is_formed x ≡ true → SpellsWidth Unresolved x.width w
    → SpellsMaybe Unresolved (bytes "; ") x.constraint c
    → SpellsMaybe Unresolved (bytes "; present only when ") x.condition d
    → read_field (x.label ++ (short_text x.short ++ (bytes ": " ++ (w ++ (c ++ (d ++ (bytes "." ++ r))))))) ≡ hit x r
unfolding read_field
field_finds x w c d r h W C D =
    let h₁ : (if_any is_short x.short && (is_width x.width && all is_in_range (trees x))) ≡ true =
    and_right (is_label x.label) _ h in
    let h₂ : (is_width x.width && all is_in_range (trees x)) ≡ true = and_right (if_any is_short x.short) _ h₁ in
    let k₁ : Closes (d ++ (46 ∷ r)) =
    maybe_closes (bytes " present only when ") x.condition d (46 ∷ r) D (inr (r, refl)) in
    let k₂ : Closes (c ++ (d ++ (46 ∷ r))) = maybe_closes (bytes " ") x.constraint c (d ++ (46 ∷ r)) C k₁ in
    let s₄ = c ++ (d ++ (46 ∷ r)) in
    let s₃ = w ++ s₄ in
    rw (label_finds x.label (short_text x.short ++ (58 ∷ 32 ∷ s₃)) (and_left (is_label x.label) _ h)
    (short_stop x.short (32 ∷ s₃)))
    (rw (short_finds x.short (32 ∷ s₃) (and_left (if_any is_short x.short) _ h₁))
    (rw (literal_finds (bytes ": ") s₃)
    (rw (width_finds x.width w s₄ W (closes_stop s₄ k₂).ends (and_left (is_width x.width) _ h₂))
    (rw (constraint_finds x.constraint c (d ++ (46 ∷ r)) C (closes_stop (d ++ (46 ∷ r)) k₁)
    (no_constraint x.condition d r D))
    (rw (condition_finds x.condition d r D) (rw (literal_finds (bytes ".") r) refl))))))

pub form_complete : (l : List ℕ) (x : Form) → SpellsField Unresolved x l → read_form l ≡ some x
unfolding read_form
form_complete l x q =
    let p = q.line in
    rw p.is_text (rw (field_finds x p.width p.constraint p.condition p.remark q.formed p.is_width
    p.is_constraint p.is_condition) (rw (remark_finds p.remark p.is_remark)))

-- ── unique ──

pub form_unique : (l : List ℕ) (x y : Form) → SpellsField Unresolved x l → SpellsField Unresolved y l → x ≡ y
form_unique l x y p q =
    let e : read_form l ≡ some x = form_complete l x p in
    let f : read_form l ≡ some y = form_complete l y q in
    cc
