-- Where the forms of a frame's lines keep 6 to 10, the text spells a description: that of the resolved forms.
use mathlib.Core.Path.{◌≡◌, refl, sym, ◌∙◌}
use mathlib.Core.Bool.{Bool, true, false, ◌&&◌, not}
use mathlib.Core.List.{List, [], ◌∷◌, ◌++◌, map, append_assoc}
use mathlib.Core.Option
use mathlib.Core.Option.{Option, none, some}
use Prim.Native.Nat.{ℕ, ◌≤◌}
use native.Mathlib.Omega.{arith}
use native.Mathlib.Nat.{zero-mod}
use lib.Dec.{ltb}
use lib.ListN.{length, get_elem?}
use borrow.Author.Tests.{ltb-false}
use Rattle.base.specs.Lists.{all, any, same, is_empty, Each, first_break, if_any}
use Rattle.base.proofs.Lists.{and_left, and_right, not_both, or_false_right, true_between}
use Rattle.base.proofs.Breaks.{and_true, first_break_cons}
use Rattle.base.proofs.Lookups.{none_breaks, each_left, each_length, element_front, element_any, element_map}
use Rattle.rules.specs.declared.ValueType.{ValueType}
use Rattle.rules.specs.Limits.{fields_most}
use Rattle.rules.specs.Names.{is_label}
use Rattle.rules.specs.Trees.{Tree, has_type}
use Rattle.rules.specs.Fields.{Width, fixed, measured, rest, Field, Form, is_fixed, read_names}
use Rattle.rules.specs.Within.{Within, is_row_width, keeps_form, keeps_names, keeps_types, width_has_type}
use Rattle.rules.specs.Within.{name_readable}
use Rattle.rules.specs.Lines.{SpellsField, Unresolved}
use Rattle.laws.proofs.OperatorLaws.{keeps_known}
use Rattle.rules.specs.Editions.{Edition, current}
use Rattle.rules.specs.Rows.{is_drawn_row, is_labelled}
use Rattle.rules.specs.Frames.{Frame, FrameOfIn, FrameOf, is_drawn_in, is_line, is_brief_in, cells, is_overfull}
use Rattle.rules.specs.Spelling.{Spells, NameOf, shows}
use Rattle.rules.specs.Refusals.{rule_broken}
use Rattle.text_laws.specs.Resolving.{
  first_index,
  index_of,
  rename_tree,
  rename_width,
  rename_field,
  resolve,
  described,
}
use Rattle.text_laws.proofs.Named.{renamed}
use Rattle.text_laws.proofs.NamedFields.{
  NamedWidth,
  named_fixed,
  named_measured,
  named_rest,
  NamedMaybe,
  named_none,
  named_some,
  NamedField,
  named_field_spelled,
}
use Rattle.text_laws.proofs.NamedRules.{same_sizes, same_unique, same_rests, same_mismatch, mismatch_each}
use Rattle.text_laws.proofs.NamedTypes.{any_element, Kept, rules_kept, same_types}
use Rattle.text_laws.proofs.ResolveRows.{rows_fit_lem}
use Rattle.text_laws.proofs.FormedLines.{bare_lines}

-- ── names to indexes ──

module _ {N : Type 0} {R : N → List ℕ → Type 0} (g : List ℕ → N) (say : List ℕ → Bool)
    (f : (w : List ℕ) → say w ≡ true → R (g w) w) where
  renamed_width : (v : Width (List ℕ)) → width_has_type say v ≡ true → NamedWidth R (rename_width g v) v
  renamed_width (fixed n) h = named_fixed
  renamed_width (measured u t) h = named_measured (renamed g say f ValueType.Number t h)
  renamed_width rest h = named_rest

  renamed_maybe : (o : Option (Tree (List ℕ))) → if_any (has_type say ValueType.YesNo) o ≡ true
      → NamedMaybe R (Option.map (rename_tree g) o) o
  renamed_maybe none h = named_none
  renamed_maybe (some t) h = named_some (renamed g say f ValueType.YesNo t h)

-- a name that may be read is one of the field of its index
name_found : (forms part after : List Form) → forms ≡ part ++ after → (w : List ℕ) → name_readable part w ≡ true
    → NameOf (resolve forms) (index_of forms w) w
unfolding resolve
name_found forms part after e w h =
    let p = any_element (λ (x : Form). is_fixed x && any (same w) (read_names x)) part h in
    let i = first_index (λ (x : Form). is_fixed x && any (same w) (read_names x)) part in
    let there : get_elem? forms i ≡ some p.0 = rw e (element_front part after i p.0 p.1) in
    let found : any (λ (x : Form). any (same w) (read_names x)) forms ≡ true =
    element_any (λ x. any (same w) (read_names x)) forms i p.0 there
    (and_right (is_fixed p.0) (any (same w) (read_names p.0)) p.2) in
    let q = any_element (λ (x : Form). any (same w) (read_names x)) forms found in (
      rename_field (index_of forms) q.0,
      element_map (rename_field (index_of forms)) forms (index_of forms w) q.0 q.1,
      q.2,
    )

module _ (forms : List Form) where
  resolved_rest : (before l : List Form) → forms ≡ before ++ l → first_break (keeps_types name_readable) before l ≡ none
      → Each (NamedField (NameOf (resolve forms))) (map (rename_field (index_of forms)) l) l
  resolved_rest before [] e h = tt
  resolved_rest before (x ∷ l) e h =
      let k = first_break_cons (keeps_types name_readable) before x l h in
      let wide = width_has_type (name_readable before) x.width in
      let own = if_any (has_type (name_readable (before ++ (x ∷ []))) ValueType.YesNo) x.constraint in
      let when = if_any (has_type (name_readable before) ValueType.YesNo) x.condition in
      let both : own && when ≡ true = and_right wide (own && when) k.0 in
      let e' : forms ≡ (before ++ (x ∷ [])) ++ l = e ∙ sym (append_assoc before (x ∷ []) l) in
      let earlier = name_found forms before (x ∷ l) e in
      let here = name_found forms (before ++ (x ∷ [])) l e' in (
        record {
          label = refl;
          short = refl;
          width = renamed_width (index_of forms) (name_readable before) earlier x.width
              (and_left wide (own && when) k.0);
          constraint = renamed_maybe (index_of forms) (name_readable (before ++ (x ∷ []))) here x.constraint
              (and_left own when both);
          condition = renamed_maybe (index_of forms) (name_readable before) earlier x.condition
              (and_right own when both);
        },
        resolved_rest (before ++ (x ∷ [])) l e' k.1,
      )

  pub resolved_named : first_break (keeps_types name_readable) [] forms ≡ none
      → Each (NamedField (NameOf (resolve forms))) (resolve forms) forms
  unfolding resolve
  resolved_named h = resolved_rest [] forms refl h

-- ── the description ──

each_spelled : (R : ℕ → List ℕ → Type 0) (fields : List (Field ℕ)) (forms : List Form) (lines : List (List ℕ))
    → Each (NamedField R) fields forms → Each (SpellsField Unresolved) forms lines → Each (SpellsField R) fields lines
each_spelled R [] [] [] n h = tt
each_spelled R [] [] (l ∷ lines) n h = absurd h
each_spelled R [] (y ∷ forms) [] n h = absurd n
each_spelled R [] (y ∷ forms) (l ∷ lines) n h = absurd n
each_spelled R (x ∷ fields) [] [] n h = absurd n
each_spelled R (x ∷ fields) [] (l ∷ lines) n h = absurd n
each_spelled R (x ∷ fields) (y ∷ forms) [] n h = absurd h
each_spelled R (x ∷ fields) (y ∷ forms) (l ∷ lines) n h =
    (named_field_spelled x y l n.0 h.0, each_spelled R fields forms lines n.1 h.1)

some_lines : (l : List (List ℕ)) → not (is_empty l) ≡ true → 1 ≤ length l
some_lines [] h = absurd (not_both false h refl)
some_lines (x ∷ l) h = omega arith

parts : (a b c d e g : Bool) → (a && (b && (c && (d && (e && g))))) ≡ true
    → (a ≡ true) × (b ≡ true) × (d ≡ true) × (e ≡ true)
parts a b c d e g h =
    let p = and_true a (b && (c && (d && (e && g)))) h in
    let q = and_true b (c && (d && (e && g))) p.1 in
    let r = and_true d (e && g) (and_right c (d && (e && g)) q.1) in
    (p.0, q.0, r.0, and_left e g r.1)

-- what a frame keeps
pub frame_parts : (e : Edition) (text : List ℕ) (f : Frame) → FrameOfIn e text f
    → (is_label f.name ≡ true)
    × (is_row_width f.row_width ≡ true)
    × (all (is_drawn_row e.row_lines f.row_width) f.rows ≡ true)
    × (not (is_empty f.lines) ≡ true)
unfolding is_drawn_in
frame_parts e text f h = parts (is_label f.name) (is_row_width f.row_width) (not (is_empty f.rows))
    (all (is_drawn_row e.row_lines f.row_width) f.rows) (not (is_empty f.lines))
    (all is_line f.lines && all (is_brief_in e) f.lines)
    (and_left (is_drawn_in e f) (all is_labelled f.rows) h.is_framed)

module _ (text : List ℕ) (f : Frame) (forms : List Form) (frame : FrameOf text f) (few : is_overfull f ≡ false)
    (spelled : Each (SpellsField Unresolved) forms f.lines) (kept : Kept f forms) where
  named : Each (NamedField (NameOf (resolve forms))) (resolve forms) forms
  named = resolved_named forms kept.types

  shown : Each (λ c x. shows c x ≡ true) (cells f) (resolve forms)
  shown = mismatch_each 0 (cells f) (resolve forms)
      (same_mismatch (NameOf (resolve forms)) 0 (cells f) (resolve forms) forms named ∙ kept.shown)

  lines : Each (SpellsField (NameOf (resolve forms))) (resolve forms) f.lines
  lines = each_spelled (NameOf (resolve forms)) (resolve forms) forms f.lines named spelled

  unique : first_break keeps_names [] (resolve forms) ≡ none
  unique = same_unique (NameOf (resolve forms)) (resolve forms) forms named ∙ kept.names

  within : Within (described f forms)
  unfolding cells
  within =
      let R = NameOf (resolve forms) in
      let framed = frame_parts current text f frame in
      let n = each_length (SpellsField R) (resolve forms) f.lines lines in
      let most : length f.lines ≤ fields_most =
      ltb-false fields_most (length f.lines)
      (or_false_right (ltb fields_most (length (cells f))) (ltb fields_most (length f.lines)) few) in
      record {
        name = framed.0;
        row = framed.1;
        count = rw n (true_between 1 (length f.lines) fields_most (some_lines f.lines framed.3) most);
        form = none_breaks keeps_form [] (resolve forms)
            (λ b i x e. (each_left (SpellsField R) (resolve forms) f.lines lines i x e).2.formed);
        operators = keeps_known [] (resolve forms);
        size = same_sizes R (resolve forms) forms named ∙ kept.size;
        names = unique;
        types = same_types (resolve forms) forms unique named ∙ kept.types;
        rests = same_rests R (resolve forms) forms named ∙ kept.rests;
        rows = rows_fit_lem f.row_width f.rows framed.2 0 (resolve forms) (zero-mod f.row_width) shown;
      }

  resolved_kept : Spells text (described f forms)
  resolved_kept = record {
    within = within;
    frame = f;
    is_frame_of = frame;
    name = refl;
    row = refl;
    shown = shown;
    lines = bare_lines (NameOf (resolve forms)) (resolve forms) f.lines lines;
  }

pub resolved_spells : (text : List ℕ) (f : Frame) (forms : List Form) → FrameOf text f → is_overfull f ≡ false
    → Each (SpellsField Unresolved) forms f.lines → rule_broken f forms ≡ none → Spells text (described f forms)
resolved_spells text f forms frame few spelled kept =
    resolved_kept text f forms frame few spelled (rules_kept f forms kept)
