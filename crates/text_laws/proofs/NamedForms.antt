-- A text that spells a description has a form for each line, the forms keep 6 to 10, and they settle the description.
use mathlib.Core.Path.{◌≡◌, sym, ◌∙◌}
use mathlib.Core.Bool.{true, false}
use mathlib.Core.List.{List, [], ◌∷◌}
use mathlib.Core.Option.{none}
use Prim.Native.Nat.{ℕ, ◌≤◌}
use lib.ListN.{length}
use borrow.Author.Tests.{le-ltb}
use Rattle.base.specs.Lists.{any, same, Each, first_break}
use Rattle.base.proofs.Lists.{between_true}
use Rattle.base.proofs.Lookups.{each_length, each_left}
use Rattle.rules.specs.Limits.{fields_most}
use Rattle.rules.specs.Names.{is_short}
use Rattle.rules.specs.Fields.{Field, Form, Description, read_names}
use Rattle.rules.specs.Within.{Within, keeps_names}
use Rattle.rules.specs.Lines.{SpellsLine, SpellsField, Unresolved}
use Rattle.rules.specs.Frames.{Frame, cells, is_overfull}
use Rattle.rules.specs.Spelling.{Spells, NameOf, shows}
use Rattle.rules.specs.Refusals.{rule_broken}
use Rattle.laws.proofs.NameLaws.{NameIn, name_unique_in}
use Rattle.text_laws.proofs.NamedFields.{NamedField, spelled_field, unique_fields}
use Rattle.text_laws.proofs.NamedRules.{
  name_short,
  same_sizes,
  same_unique,
  same_rests,
  same_mismatch,
  each_mismatch,
}
use Rattle.text_laws.proofs.NamedTypes.{Kept, kept_rules, same_types}
use Rattle.text_laws.proofs.FormedLines.{formed_lines}

-- ── forms there are ──

pub forms_for : (R : ℕ → List ℕ → Type 0) → ((i : ℕ) (w : List ℕ) → R i w → is_short w ≡ true)
    → (fields : List (Field ℕ)) (lines : List (List ℕ)) → Each (SpellsField R) fields lines
    → (forms : List Form) × Each (NamedField R) fields forms × Each (SpellsField Unresolved) forms lines
forms_for R short [] [] h = ([], tt, tt)
forms_for R short [] (l ∷ lines) h = absurd h
forms_for R short (x ∷ fields) [] h = absurd h
forms_for R short (x ∷ fields) (l ∷ lines) h =
    let p = spelled_field short x l h.0 in
    let q = forms_for R short fields lines h.1 in
    (p.0 ∷ q.0, (p.1, q.1), (p.2, q.2))

-- ── they keep the rules ──

pub named_kept : (f : Frame) (d : Description) → Within d → Each (λ c x. shows c x ≡ true) (cells f) d.fields
    → (forms : List Form) → Each (NamedField (NameOf d.fields)) d.fields forms → Kept f forms
named_kept f d w shown forms h =
    let R = NameOf d.fields in
    record {
      size = sym (same_sizes R d.fields forms h) ∙ w.size;
      shown = sym (same_mismatch R 0 (cells f) d.fields forms h) ∙ each_mismatch 0 (cells f) d.fields shown;
      names = sym (same_unique R d.fields forms h) ∙ w.names;
      types = sym (same_types d.fields forms w.names h) ∙ w.types;
      rests = sym (same_rests R d.fields forms h) ∙ w.rests;
    }

few : (f : Frame) → length (cells f) ≤ fields_most → length f.lines ≤ fields_most → is_overfull f ≡ false
few f p q = rw (le-ltb fields_most (length (cells f)) p, le-ltb fields_most (length f.lines) q)

spelled_few : (text : List ℕ) (d : Description) (s : Spells text d) → is_overfull s.frame ≡ false
spelled_few text d s =
    let n = between_true 1 (length d.fields) fields_most s.within.count in
    let p = each_length (λ c x. shows c x ≡ true) (cells s.frame) d.fields s.shown in
    let q = each_length (SpellsLine (NameOf d.fields)) d.fields s.frame.lines s.lines in
    few s.frame (rw p n.1) (rw (← q) n.1)

-- what a text that spells a description has
pub record FormsOf (d : Description) (f : Frame) : Type 0 where
  pub forms : List Form
  pub named : Each (NamedField (NameOf d.fields)) d.fields forms
  pub spelled : Each (SpellsField Unresolved) forms f.lines
  pub kept : rule_broken f forms ≡ none
  pub is_few : is_overfull f ≡ false

pub forms_named : (text : List ℕ) (d : Description) (s : Spells text d) → FormsOf d s.frame
forms_named text d s =
    let p = forms_for (NameOf d.fields) (name_short d.fields s.within.form) d.fields s.frame.lines
    (formed_lines (NameOf d.fields) [] d.fields s.frame.lines s.within.form s.lines) in
    record {
      forms = p.0;
      named = p.1;
      spelled = p.2;
      kept = kept_rules s.frame p.0 (named_kept s.frame d s.within s.shown p.0 p.1);
      is_few = spelled_few text d s;
    }

pub forms_of_lem : (text : List ℕ) (d : Description) (s : Spells text d)
    → (forms : List Form) × Each (SpellsField Unresolved) forms s.frame.lines × (rule_broken s.frame forms ≡ none)
    × (is_overfull s.frame ≡ false)
forms_of_lem text d s = let p = forms_named text d s in (p.forms, p.spelled, p.kept, p.is_few)

-- ── they settle the fields ──

same_names : {R : ℕ → List ℕ → Type 0} (w : List ℕ) (x : Field ℕ) (y : Form) → NamedField R x y
    → any (same w) (read_names y) ≡ any (same w) (read_names x)
same_names w x y n = rw (n.label, n.short)

-- a name of a field is the name of its form
name_of_form : (R : ℕ → List ℕ → Type 0) (fields : List (Field ℕ)) (forms : List Form)
    → Each (NamedField R) fields forms → (i : ℕ) (w : List ℕ) → NameOf fields i w → NameIn forms i w
name_of_form R fields forms h i w n =
    let p = each_left (NamedField R) fields forms h i n.0 n.1 in
    (p.0, p.1, same_names w n.0 p.0 p.2 ∙ n.2)

pub forms_settle : (fields others : List (Field ℕ)) (forms : List Form) → first_break keeps_names [] fields ≡ none
    → Each (NamedField (NameOf fields)) fields forms → Each (NamedField (NameOf others)) others forms → fields ≡ others
forms_settle fields others forms kept p q = unique_fields only fields others forms p q
  where
    only : (i j : ℕ) (w : List ℕ) → NameOf fields i w → NameOf others j w → i ≡ j
    only i j w a b = name_unique_in forms (sym (same_unique (NameOf fields) fields forms p) ∙ kept) i j w
        (name_of_form (NameOf fields) fields forms p i w a) (name_of_form (NameOf others) others forms q j w b)

-- two descriptions with one frame and the same forms are the same
pub description_settled : (d e : Description) (forms : List Form) → Within d → d.name ≡ e.name
    → d.row_width ≡ e.row_width → Each (NamedField (NameOf d.fields)) d.fields forms
    → Each (NamedField (NameOf e.fields)) e.fields forms → d ≡ e
description_settled d e forms w a b p q = λ i. record {
  name = a i;
  row_width = b i;
  fields = forms_settle d.fields e.fields forms w.names p q i;
}
