-- What the record of a field stores is read again.
use mathlib.Core.Path.{◌≡◌, refl, ◌∙◌, ap}
use mathlib.Core.Bool.{Bool, true, false, cond, ◌&&◌, ◌||◌, not}
use mathlib.Core.List.{List, [], ◌∷◌, ◌++◌, append_assoc}
use mathlib.Core.Option.{Option, none, some}
use Prim.Native.Nat.{ℕ, suc, ◌+◌, ◌<◌, ◌≤◌}
use native.Mathlib.Omega.{arith}
use lib.Dec.{leb, eqb}
use lib.ListN.{length, drop}
use borrow.Author.Tests.{leb-true, ltb-true, eqb-true, eq-eqb, ne_eqb}
use Rattle.base.specs.Lists.{all, head_is, between, if_any, list_of, first_break}
use Rattle.base.proofs.Breaks.{and_true, or_true, all_one, all_append, first_break_cons}
use Rattle.rules.specs.Limits.{label_most, short_most, fixed_most}
use Rattle.rules.specs.Names.{is_letter, is_word_byte, is_reserved, is_label, is_short}
use Rattle.rules.specs.Trees.{Tree, le2, is_small, is_in_range, is_number}
use Rattle.rules.specs.Fields.{Width, fixed, measured, rest, Field, width_trees, trees}
use Rattle.rules.specs.Editions.{Edition}
use Rattle.rules.specs.Within.{is_width, is_formed, keeps_form, keeps_size}
use Rattle.rules.specs.Stored.{
  kind_in,
  stored_expression,
  stored_width,
  stored_name,
  stored_maybe,
  field_body,
  kept_in,
  stored_field_in,
  records_in,
}
use Rattle.laws.proofs.Readers.{
  tree_of,
  unless_empty,
  read_fixed,
  read_measured,
  read_width,
  field_from,
  behind_kept,
  read_field,
  read_fields,
}
use Rattle.laws.proofs.ReadsNumbers.{read_two_le2, skip_le2, read_counted_counted}
use Rattle.laws.proofs.ReadsTrees.{tree_of_stored, stored_some, stored_short}

-- ── names ──

pub label_length : (w : List ℕ) → is_label w ≡ true → length w ≤ label_most
unfolding is_label
label_length w h = leb-true _ _ (and_true (leb (length w) label_most) _ h).0

pub short_length : (w : List ℕ) → is_short w ≡ true → length w ≤ short_most
unfolding is_short
short_length w h =
    let e = and_true (head_is is_letter w) (all is_word_byte w && (leb (length w) short_most && not (is_reserved w)))
    h in
    let f = and_true (all is_word_byte w) (leb (length w) short_most && not (is_reserved w)) e.1 in
    leb-true _ _ (and_true (leb (length w) short_most) (not (is_reserved w)) f.1).0

-- the empty list is no short name
short_some : (w : List ℕ) → is_short w ≡ true → unless_empty (λ l. l) w ≡ some w
unfolding is_short
short_some [] h = absurd (let z : ◌≡◌ {A = ℕ} 0 1 = cc in omega arith)
short_some (b ∷ w) h = refl

name_length : (o : Option (List ℕ)) → if_any is_short o ≡ true → length (stored_name o) < 65536
name_length none h = omega arith
name_length (some w) h = omega (arith, short_length w h)

name_stored : (o : Option (List ℕ)) → if_any is_short o ≡ true → unless_empty (λ l. l) (stored_name o) ≡ o
name_stored none h = refl
name_stored (some w) h = short_some w h

-- ── trees that may be missing ──

maybe_length : (o : Option (Tree ℕ)) → all is_small (list_of o) ≡ true → length (stored_maybe o) < 65536
maybe_length none h = omega arith
maybe_length (some t) h = stored_short t (all_one is_small t h)

maybe_stored : (o : Option (Tree ℕ)) → all is_in_range (list_of o) ≡ true → all is_small (list_of o) ≡ true
    → unless_empty tree_of (stored_maybe o) ≡ o
maybe_stored none h small = refl
maybe_stored (some t) h small =
    stored_some t ∙ ap some (tree_of_stored t (all_one is_in_range t h) (all_one is_small t small))

-- ── widths ──

pub unit_bound : (u : ℕ) → eqb u 1 || eqb u 8 ≡ true → u < 65536
unit_bound u h =
    or_true (eqb u 1) (eqb u 8) (λ e. omega (arith, eqb-true u 1 e)) (λ e. omega (arith, eqb-true u 8 e)) h

pub fixed_bound : (n : ℕ) → between 1 n fixed_most ≡ true → n < 65536
fixed_bound n h = omega (arith, leb-true n fixed_most (and_true (leb 1 n) (leb n fixed_most) h).1)

pub kind_bound : (e : Edition) (w : Width ℕ) → kind_in e w < 65536
kind_bound e (fixed n) = omega (arith, ltb-true (e.fixed_kind + 2) 65536 e.short)
kind_bound e (measured u t) = omega (arith, ltb-true (e.fixed_kind + 2) 65536 e.short)
kind_bound e rest = omega (arith, ltb-true (e.fixed_kind + 2) 65536 e.short)

read_width_stored : (e : Edition) (w : Width ℕ) → is_width w ≡ true → all is_in_range (width_trees w) ≡ true
    → all is_small (width_trees w) ≡ true → (r : List ℕ)
    → read_width e.fixed_kind (kind_in e w) (stored_width w ++ r) ≡ (w, r)
unfolding read_width read_fixed read_measured
read_width_stored e (fixed n) h range small r =
    rw (eq-eqb e.fixed_kind e.fixed_kind refl, read_two_le2 n (fixed_bound n h))
read_width_stored e (measured u t) h range small r =
    let bound = unit_bound u (and_true (eqb u 1 || eqb u 8) (not (is_number t)) h).0 in
    let in_range_lem = all_one is_in_range t range in
    let is_small_lem = all_one is_small t small in
    let k = e.fixed_kind in
    simp (
      ne_eqb (k + 1) k (λ q. omega arith),
      eq-eqb (k + 1) (k + 1) refl,
      append_assoc,
      read_two_le2 u bound,
      read_counted_counted (stored_expression t) (stored_short t is_small_lem),
      tree_of_stored t in_range_lem is_small_lem,
    )
read_width_stored e rest h range small r =
    let k = e.fixed_kind in
    rw (ne_eqb (k + 2) k (λ q. omega arith), ne_eqb (k + 2) (k + 1) (λ q. omega arith))

-- ── fields ──

pub formed_parts : {N : Type 0} (f : Field N) → is_formed f ≡ true
    → (is_label f.label ≡ true) × (if_any is_short f.short ≡ true) × (is_width f.width ≡ true)
    × (all is_in_range (trees f) ≡ true)
formed_parts f h =
    let numbers = all is_in_range (trees f) in
    let e = and_true (is_label f.label) (if_any is_short f.short && (is_width f.width && numbers)) h in
    let s = and_true (if_any is_short f.short) (is_width f.width && numbers) e.1 in
    let w = and_true (is_width f.width) numbers s.1 in
    (e.0, s.0, w.0, w.1)

-- of which the names
pub formed_names : {N : Type 0} (f : Field N) → is_formed f ≡ true
    → (is_label f.label ≡ true) × (if_any is_short f.short ≡ true)
formed_names f h = let e = formed_parts f h in (e.0, e.1)

behind_kept_lem : (e : Edition) (n : ℕ) (s : List ℕ) → behind_kept e (kept_in e n ++ s) ≡ s
unfolding le2
behind_kept_lem e n s = go e.keeps_readers
  where
    go : (b : Bool) → cond b (drop 2 (cond b (le2 n) [] ++ s)) (cond b (le2 n) [] ++ s) ≡ s
    go true = refl
    go false = refl

pub read_field_stored : (e : Edition) (n : ℕ) (f : Field ℕ) → is_formed f ≡ true → all is_small (trees f) ≡ true
    → (r : List ℕ) → read_field e (stored_field_in e n f ++ r) ≡ (f, r)
unfolding read_field stored_field_in field_body field_from
read_field_stored edition n f formed small r =
    let w = width_trees f.width in
    let c = list_of f.constraint in
    let k = list_of f.condition in
    let e = formed_parts f formed in
    let range = all_append is_in_range w (c ++ k) e.3 in
    let ranges = all_append is_in_range c k range.1 in
    let size = all_append is_small w (c ++ k) small in
    let sizes = all_append is_small c k size.1 in
    let label : length f.label < 65536 = omega (arith, label_length f.label e.0) in
    simp (
      append_assoc,
      skip_le2,
      read_two_le2 (kind_in edition f.width) (kind_bound edition f.width),
      behind_kept_lem edition n,
      read_counted_counted f.label label,
      read_counted_counted (stored_name f.short) (name_length f.short e.1),
      read_width_stored edition f.width e.2 range.0 size.0,
      read_counted_counted (stored_maybe f.constraint) (maybe_length f.constraint sizes.0),
      read_counted_counted (stored_maybe f.condition) (maybe_length f.condition sizes.1),
      name_stored f.short e.1,
      maybe_stored f.constraint ranges.0 sizes.0,
      maybe_stored f.condition ranges.1 sizes.1,
    )

pub read_fields_stored : (e : Edition) (numbers : ℕ → ℕ) (i : ℕ) (before l : List (Field ℕ))
    → first_break keeps_form before l ≡ none → first_break keeps_size before l ≡ none → (r : List ℕ)
    → read_fields e (length l) (records_in e numbers i l ++ r) ≡ (l, r)
unfolding read_fields records_in
read_fields_stored e numbers i before [] formed small r = refl
read_fields_stored e numbers i before (f ∷ l) formed small r =
    let a = first_break_cons keeps_form before f l formed in
    let b = first_break_cons keeps_size before f l small in
    rw (
      append_assoc (stored_field_in e (numbers i) f) (records_in e numbers (suc i) l) r,
      read_field_stored e (numbers i) f a.0 b.0,
      read_fields_stored e numbers (suc i) (before ++ (f ∷ [])) l a.1 b.1,
    )
