-- Fields and the forms of their lines: the same spellings, and the same names, widths and sizes.
use mathlib.Core.Path.{◌≡◌, refl, ap, ap₂, sym, ◌∙◌, subst}
use mathlib.Core.Bool.{Bool, true}
use mathlib.Core.Logic.{◌↔◌}
use mathlib.Core.List.{List, [], ◌∷◌, ◌++◌}
use mathlib.Core.Option.{Option, none, some}
use Prim.Native.Nat.{ℕ}
use Rattle.base.specs.Lists.{all, Each, if_any, is_none, list_of}
use Rattle.base.specs.Bytes.{bytes}
use Rattle.base.proofs.Lookups.{all_joined}
use Rattle.rules.specs.declared.ValueType.{ValueType}
use Rattle.rules.specs.Names.{is_short}
use Rattle.rules.specs.Editions.{Edition}
use Rattle.rules.specs.Trees.{Tree, num, is_small, is_in_range, has_operators}
use Rattle.rules.specs.Fields.{
  Width,
  fixed,
  measured,
  rest,
  Field,
  Form,
  is_fixed_width,
  is_rest_width,
  width_trees,
  trees,
}
use Rattle.rules.specs.Within.{is_width, is_formed, knows_all_in, width_has_type}
use Rattle.rules.specs.Lines.{SpellsWidth, SpellsMaybe, SpellsField, Unresolved}
use Rattle.laws.proofs.OperatorLaws.{knows_all}
use Rattle.rules.specs.Expressions.{SpellsAt}
use Rattle.rules.specs.Frames.{Slot}
use Rattle.rules.specs.Spelling.{is_place_for, shows}
use Rattle.text_laws.proofs.Named.{
  Named,
  named_number,
  named_unique,
  named_of_number,
  spelled_named,
  named_spelled,
  named_small,
  named_range,
  named_operators,
  named_is_number,
  named_type,
}

pub data NamedWidth {N : Type 0} (R : N → List ℕ → Type 0) : Width N → Width (List ℕ) → Type 0 where
  named_fixed : {n : ℕ} → NamedWidth R (fixed n) (fixed n)
  named_measured : {u : ℕ} {t : Tree N} {v : Tree (List ℕ)} → Named R t v → NamedWidth R (measured u t) (measured u v)
  named_rest : NamedWidth R rest rest

pub data NamedMaybe {N : Type 0} (R : N → List ℕ → Type 0) : Option (Tree N) → Option (Tree (List ℕ)) → Type 0 where
  named_none : NamedMaybe R none none
  named_some : {t : Tree N} {v : Tree (List ℕ)} → Named R t v → NamedMaybe R (some t) (some v)

-- the form has names for the fields that are read, and is the same else
pub record NamedField {N : Type 0} (R : N → List ℕ → Type 0) (f : Field N) (x : Form) : Type 0 where
  pub label : f.label ≡ x.label
  pub short : f.short ≡ x.short
  pub width : NamedWidth R f.width x.width
  pub constraint : NamedMaybe R f.constraint x.constraint
  pub condition : NamedMaybe R f.condition x.condition

module _ {N : Type 0} {R : N → List ℕ → Type 0} where
  -- ── spellings of widths and expressions ──

  pub spelled_width : (short : (a : N) (w : List ℕ) → R a w → is_short w ≡ true) (w : Width N) (s : List ℕ)
      → SpellsWidth R w s → (v : Width (List ℕ)) × NamedWidth R w v × SpellsWidth Unresolved v s
  spelled_width short (fixed n) s h = (
    fixed n,
    named_fixed,
    (
      h.0,
      h.1,
      h.2,
      record {
        expression = h.3.expression;
        word = h.3.word;
        is_text = h.3.is_text;
        spelled = renumber h.1 h.3.spelled;
        unit = h.3.unit;
      },
    ),
  )
    where
      renumber : (m : ℕ) {k b : ℕ} {s : List ℕ} → SpellsAt R k b (num m) s → SpellsAt Unresolved k b (num m) s
      renumber m {k} {b} {s} x =
          let p = spelled_named short x in
          subst (λ u. SpellsAt Unresolved k b u s) (sym (named_of_number p.1)) p.2
  spelled_width short (measured u t) s h =
      let p = spelled_named short h.spelled in (
        measured u p.0,
        named_measured p.1,
        record {
          expression = h.expression;
          word = h.word;
          is_text = h.is_text;
          spelled = p.2;
          unit = h.unit;
        },
      )
  spelled_width short rest s h = (rest, named_rest, h)

  pub named_width : (w : Width N) (v : Width (List ℕ)) (s : List ℕ) → NamedWidth R w v → SpellsWidth Unresolved v s
      → SpellsWidth R w s
  named_width w v s named_fixed h = (
    h.0,
    h.1,
    h.2,
    record {
      expression = h.3.expression;
      word = h.3.word;
      is_text = h.3.is_text;
      spelled = named_spelled h.3.spelled named_number;
      unit = h.3.unit;
    },
  )
  named_width w v s (named_measured p) h = record {
    expression = h.expression;
    word = h.word;
    is_text = h.is_text;
    spelled = named_spelled h.spelled p;
    unit = h.unit;
  }
  named_width w v s named_rest h = h

  pub spelled_maybe : (short : (a : N) (w : List ℕ) → R a w → is_short w ≡ true) (phrase : List ℕ) (o : Option (Tree N))
      (s : List ℕ) → SpellsMaybe R phrase o s
      → (v : Option (Tree (List ℕ))) × NamedMaybe R o v × SpellsMaybe Unresolved phrase v s
  spelled_maybe short phrase none s h = (none, named_none, h)
  spelled_maybe short phrase (some t) s h =
      let p = spelled_named short h.2 in
      (some p.0, named_some p.1, (h.0, h.1, p.2))

  pub named_maybe : (phrase : List ℕ) (o : Option (Tree N)) (v : Option (Tree (List ℕ))) (s : List ℕ)
      → NamedMaybe R o v → SpellsMaybe Unresolved phrase v s → SpellsMaybe R phrase o s
  named_maybe phrase o v s named_none h = h
  named_maybe phrase o v s (named_some p) h = (h.0, h.1, named_spelled h.2 p)

  -- ── what agrees ──

  same_width : {w : Width N} {v : Width (List ℕ)} → NamedWidth R w v → is_width w ≡ is_width v
  same_width named_fixed = refl
  same_width (named_measured p) = rw (named_is_number p)
  same_width named_rest = refl

  pub same_fixed_width : {w : Width N} {v : Width (List ℕ)} → NamedWidth R w v → is_fixed_width w ≡ is_fixed_width v
  same_fixed_width named_fixed = refl
  same_fixed_width (named_measured p) = refl
  same_fixed_width named_rest = refl

  pub same_rest_width : {w : Width N} {v : Width (List ℕ)} → NamedWidth R w v → is_rest_width w ≡ is_rest_width v
  same_rest_width named_fixed = refl
  same_rest_width (named_measured p) = refl
  same_rest_width named_rest = refl

  pub same_none : {o : Option (Tree N)} {v : Option (Tree (List ℕ))} → NamedMaybe R o v → is_none o ≡ is_none v
  same_none named_none = refl
  same_none (named_some p) = refl

  same_place : (c : Slot) {w : Width N} {v : Width (List ℕ)} → NamedWidth R w v → is_place_for c w ≡ is_place_for c v
  same_place c named_fixed = refl
  same_place c (named_measured p) = refl
  same_place c named_rest = refl

  -- a test of trees that says the same of named ones
  module _ (p : Tree N → Bool) (q : Tree (List ℕ) → Bool)
      (f : (t : Tree N) (u : Tree (List ℕ)) → Named R t u → p t ≡ q u) where
    same_width_trees : {w : Width N} {v : Width (List ℕ)} → NamedWidth R w v
        → all p (width_trees w) ≡ all q (width_trees v)
    unfolding all
    same_width_trees named_fixed = refl
    same_width_trees (named_measured {t = t} {v = u} h) = rw (f t u h)
    same_width_trees named_rest = refl

    same_listed : {o : Option (Tree N)} {v : Option (Tree (List ℕ))} → NamedMaybe R o v
        → all p (list_of o) ≡ all q (list_of v)
    unfolding all
    same_listed named_none = refl
    same_listed (named_some {t = t} {v = u} h) = rw (f t u h)

    pub same_if_any : {o : Option (Tree N)} {v : Option (Tree (List ℕ))} → NamedMaybe R o v → if_any p o ≡ if_any q v
    same_if_any named_none = refl
    same_if_any (named_some {t = t} {v = u} h) = f t u h

    pub same_trees : (x : Field N) (y : Form) → NamedField R x y → all p (trees x) ≡ all q (trees y)
    same_trees x y h =
        rw (
          all_joined p (width_trees x.width) (list_of x.constraint ++ list_of x.condition),
          all_joined p (list_of x.constraint) (list_of x.condition),
          all_joined q (width_trees y.width) (list_of y.constraint ++ list_of y.condition),
          all_joined q (list_of y.constraint) (list_of y.condition),
          same_width_trees h.width,
          same_listed h.constraint,
          same_listed h.condition,
        )

  pub same_type_width : (may : N → Bool) (say : List ℕ → Bool) → ((a : N) (w : List ℕ) → R a w → may a ≡ say w)
      → {w : Width N} {v : Width (List ℕ)} → NamedWidth R w v → width_has_type may w ≡ width_has_type say v
  same_type_width may say f named_fixed = refl
  same_type_width may say f (named_measured p) = named_type may say f ValueType.Number p
  same_type_width may say f named_rest = refl

  pub same_formed : (x : Field N) (y : Form) → NamedField R x y → is_formed x ≡ is_formed y
  same_formed x y h =
      rw (h.label, h.short, same_width h.width, same_trees is_in_range is_in_range (λ t u n. named_range n) x y h)

  pub same_operators : (e : Edition) (x : Field N) (y : Form) → NamedField R x y → knows_all_in e x ≡ knows_all_in e y
  same_operators e x y h =
      same_trees (has_operators e.knows) (has_operators e.knows) (λ t u n. named_operators e.knows n) x y h

  pub same_small : (x : Field N) (y : Form) → NamedField R x y → all is_small (trees x) ≡ all is_small (trees y)
  same_small x y h = same_trees is_small is_small (λ t u n. named_small n) x y h

  pub same_shows : (c : Slot) (x : Field N) (y : Form) → NamedField R x y → shows c x ≡ shows c y
  same_shows c x y h = rw (h.label, h.short, same_place c h.width)

  -- ── spellings of fields ──

  pub spelled_field : (short : (a : N) (w : List ℕ) → R a w → is_short w ≡ true) (x : Field N) (s : List ℕ)
      → SpellsField R x s → (y : Form) × NamedField R x y × SpellsField Unresolved y s
  spelled_field short x s h =
      let w = spelled_width short x.width h.line.width h.line.is_width in
      let c = spelled_maybe short (bytes "; ") x.constraint h.line.constraint h.line.is_constraint in
      let d = spelled_maybe short (bytes "; present only when ") x.condition h.line.condition
      h.line.is_condition in
      go w.0 c.0 d.0 w.1 c.1 d.1 w.2 c.2 d.2
    where
      go : (w : Width (List ℕ)) (c d : Option (Tree (List ℕ))) → NamedWidth R x.width w
          → NamedMaybe R x.constraint c → NamedMaybe R x.condition d → SpellsWidth Unresolved w h.line.width
          → SpellsMaybe Unresolved (bytes "; ") c h.line.constraint
          → SpellsMaybe Unresolved (bytes "; present only when ") d h.line.condition
          → (y : Form) × NamedField R x y × SpellsField Unresolved y s
      go w c d p q r sw sc sd =
          let y : Form = record { label = x.label; short = x.short; width = w; constraint = c; condition = d } in
          let n : NamedField R x y =
          record { label = refl; short = refl; width = p; constraint = q; condition = r } in (
            y,
            n,
            record {
              formed = sym (same_formed x y n) ∙ h.formed;
              operators = knows_all y;
              line = record {
                width = h.line.width;
                constraint = h.line.constraint;
                condition = h.line.condition;
                remark = h.line.remark;
                is_text = h.line.is_text;
                is_width = sw;
                is_constraint = sc;
                is_condition = sd;
                is_remark = h.line.is_remark;
              };
            },
          )

  pub named_field_spelled : (x : Field N) (y : Form) (s : List ℕ) → NamedField R x y → SpellsField Unresolved y s
      → SpellsField R x s
  named_field_spelled x y s n h = record {
    formed = same_formed x y n ∙ h.formed;
    operators = knows_all x;
    line = record {
      width = h.line.width;
      constraint = h.line.constraint;
      condition = h.line.condition;
      remark = h.line.remark;
      is_text = rw (n.label, n.short) h.line.is_text;
      is_width = named_width x.width y.width h.line.width n.width h.line.is_width;
      is_constraint = named_maybe (bytes "; ") x.constraint y.constraint h.line.constraint n.constraint
          h.line.is_constraint;
      is_condition = named_maybe (bytes "; present only when ") x.condition y.condition h.line.condition
          n.condition h.line.is_condition;
      is_remark = h.line.is_remark;
    };
  }

  pub field_exact : (short : (a : N) (w : List ℕ) → R a w → is_short w ≡ true) (x : Field N) (s : List ℕ)
      → SpellsField R x s ↔ ((y : Form) × NamedField R x y × SpellsField Unresolved y s)
  field_exact short x s = (spelled_field short x s, λ p. named_field_spelled x p.0 s p.1 p.2)

-- ── a form stands for one field ──

module _ {N : Type 0} {R S : N → List ℕ → Type 0} (only : (a b : N) (w : List ℕ) → R a w → S b w → a ≡ b) where
  unique_width : {w z : Width N} {v : Width (List ℕ)} → NamedWidth R w v → NamedWidth S z v → w ≡ z
  unique_width named_fixed named_fixed = refl
  unique_width (named_measured {u = u} p) (named_measured q) = ap (measured u) (named_unique only p q)
  unique_width named_rest named_rest = refl

  unique_maybe : {o z : Option (Tree N)} {v : Option (Tree (List ℕ))} → NamedMaybe R o v → NamedMaybe S z v → o ≡ z
  unique_maybe named_none named_none = refl
  unique_maybe (named_some p) (named_some q) = ap {B = Option (Tree N)} some (named_unique only p q)

  pub unique_field : (x z : Field N) (y : Form) → NamedField R x y → NamedField S z y → x ≡ z
  unique_field x z y p q = λ i. record {
    label = (p.label ∙ sym q.label) i;
    short = (p.short ∙ sym q.short) i;
    width = unique_width p.width q.width i;
    constraint = unique_maybe p.constraint q.constraint i;
    condition = unique_maybe p.condition q.condition i;
  }

  pub unique_fields : (l m : List (Field N)) (n : List Form) → Each (NamedField R) l n → Each (NamedField S) m n
      → l ≡ m
  unique_fields [] [] [] p q = refl
  unique_fields [] [] (y ∷ n) p q = absurd p
  unique_fields [] (z ∷ m) [] p q = absurd q
  unique_fields [] (z ∷ m) (y ∷ n) p q = absurd p
  unique_fields (x ∷ l) [] [] p q = absurd p
  unique_fields (x ∷ l) [] (y ∷ n) p q = absurd q
  unique_fields (x ∷ l) (z ∷ m) [] p q = absurd p
  unique_fields (x ∷ l) (z ∷ m) (y ∷ n) p q = ap₂ {C = List (Field N)} ◌∷◌ (unique_field x z y p.0 q.0)
      (unique_fields l m n p.1 q.1)
