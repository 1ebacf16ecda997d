-- The fields of a description within the limits read indexes of its fields only, and renumbering goes by those alone.
use mathlib.Core.Path.{◌≡◌, refl, ap, sym, ◌∙◌}
use mathlib.Core.Bool.{Bool, true, ◌&&◌}
use mathlib.Core.List.{List, [], ◌∷◌, ◌++◌, map}
use mathlib.Core.Option.{Option, none, some}
use Prim.Native.Nat.{ℕ, zero, suc, ◌+◌, ◌≤◌, ◌<◌}
use native.Mathlib.Omega.{arith}
use lib.Dec.{ltb}
use lib.ListN.{length, length-append, get_elem?}
use borrow.Author.Tests.{ltb-true, lt-ltb}
use Rattle.base.specs.Lists.{all, if_any, joined, list_of, first_break}
use Rattle.base.proofs.Lists.{and_left, and_right, and_both, all_append, all_front, all_back, all_weaken}
use Rattle.base.proofs.Breaks.{all_cons, all_one, first_break_cons}
use Rattle.base.proofs.Joined.{joined_append, joined_one}
use Rattle.rules.specs.declared.ValueType.{ValueType}
use Rattle.rules.specs.declared.ValueType.TheVariants.{Number, YesNo}
use Rattle.rules.specs.Operators.{takes, gives}
use Rattle.rules.specs.Trees.{Tree, num, read, two, negation, same_type, has_type}
use Rattle.rules.specs.Fields.{Width, fixed, measured, rest, Field, Description, width_trees}
use Rattle.rules.specs.References.{tree_reads, field_reads}
use Rattle.rules.specs.Within.{width_has_type, keeps_types, is_readable, index_readable, Within}
use Rattle.rules.specs.Edits.{renumbered_tree, renumbered_maybe, renumbered_width, renumbered}

-- ── what a field reads, in parts ──

abbrev width_reads : Width ℕ → List ℕ
width_reads w = joined tree_reads (width_trees w)

abbrev maybe_reads : Option (Tree ℕ) → List ℕ
maybe_reads o = joined tree_reads (list_of o)

reads_parts : (f : Field ℕ)
    → field_reads f ≡ width_reads f.width ++ (maybe_reads f.constraint ++ maybe_reads f.condition)
unfolding field_reads
reads_parts f =
    joined_append tree_reads (width_trees f.width) (list_of f.constraint ++ list_of f.condition)
    ∙ ap (λ (l : List ℕ). width_reads f.width ++ l)
    (joined_append tree_reads (list_of f.constraint) (list_of f.condition))

-- ── a tree of a type reads what it may ──

module _ (may : ℕ → Bool) where
  tree_may : (k : ValueType) (t : Tree ℕ) → has_type may k t ≡ true → all may (tree_reads t) ≡ true
  unfolding has_type tree_reads all
  tree_may k (num n) h = refl
  tree_may k (read i) h = and_both (may i) true (and_right (same_type k Number) (may i) h) refl
  tree_may k (two o a b) h =
      let p = has_type may (takes o) a in
      let q = has_type may (takes o) b in
      let both = and_right (same_type k (gives o)) (p && q) h in
      all_append may (tree_reads a) (tree_reads b) (tree_may (takes o) a (and_left p q both))
      (tree_may (takes o) b (and_right p q both))
  tree_may k (negation a) h = tree_may YesNo a (and_right (same_type k YesNo) (has_type may YesNo a) h)

  width_may : (w : Width ℕ) → width_has_type may w ≡ true → all may (width_reads w) ≡ true
  unfolding all joined
  width_may (fixed n) h = refl
  width_may (measured u t) h = rw (joined_one tree_reads t) (tree_may Number t h)
  width_may rest h = refl

  maybe_may : (o : Option (Tree ℕ)) → if_any (has_type may YesNo) o ≡ true → all may (maybe_reads o) ≡ true
  unfolding all joined
  maybe_may none h = refl
  maybe_may (some t) h = rw (joined_one tree_reads t) (tree_may YesNo t h)

-- ── what may be read is listed ──

pub below_listed : (l : List (Field ℕ)) (i : ℕ) → is_readable (get_elem? l i) ≡ true → i < length l
below_listed [] i h = absurd (let z : ◌≡◌ {A = ℕ} 0 1 = cc in omega arith)
below_listed (f ∷ l) zero h = omega arith
below_listed (f ∷ l) (suc i) h = omega (arith, below_listed l i h)

module _ (m : ℕ) where
  abbrev below : ℕ → Bool
  below i = ltb i m

  listed_below : (listed : List (Field ℕ)) → length listed ≤ m → (l : List ℕ) → all (index_readable listed) l ≡ true
      → all below l ≡ true
  listed_below listed le l h =
      all_weaken (index_readable listed) below
      (λ i e. lt-ltb i m (omega (arith, below_listed listed i e))) l h

  field_below : (before : List (Field ℕ)) (f : Field ℕ) → suc (length before) ≤ m
      → keeps_types index_readable before f ≡ true → all below (field_reads f) ≡ true
  field_below before f le h =
      let own = before ++ (f ∷ []) in
      let longer : length own ≡ length before + 1 = length-append before (f ∷ []) in
      let most : length before ≤ m = omega arith in
      let own_most : length own ≤ m = omega (arith, longer) in
      let w = width_has_type (index_readable before) f.width in
      let c = if_any (has_type (index_readable own) YesNo) f.constraint in
      let k = if_any (has_type (index_readable before) YesNo) f.condition in
      let e = and_right w (c && k) h in
      let x = listed_below before most _ (width_may (index_readable before) f.width (and_left w (c && k) h)) in
      let y = listed_below own own_most _ (maybe_may (index_readable own) f.constraint (and_left c k e)) in
      let z = listed_below before most _ (maybe_may (index_readable before) f.condition (and_right c k e)) in
      rw (reads_parts f)
      (all_append below (width_reads f.width) (maybe_reads f.constraint ++ maybe_reads f.condition) x
      (all_append below (maybe_reads f.constraint) (maybe_reads f.condition) y z))

  fields_below : (before l : List (Field ℕ)) → length before + length l ≤ m
      → first_break (keeps_types index_readable) before l ≡ none → all (λ f. all below (field_reads f)) l ≡ true
  unfolding all
  fields_below before [] le h = refl
  fields_below before (f ∷ l) le h =
      let e = first_break_cons (keeps_types index_readable) before f l h in
      let longer : length (before ++ (f ∷ [])) ≡ length before + 1 = length-append before (f ∷ []) in
      and_both (all below (field_reads f)) (all (λ x. all below (field_reads x)) l)
      (field_below before f (omega arith) e.0)
      (fields_below (before ++ (f ∷ [])) l (omega (arith, longer)) e.1)

pub reads_below : (d : Description) → Within d
    → all (λ f. all (λ i. ltb i (length d.fields)) (field_reads f)) d.fields ≡ true
reads_below d w = fields_below (length d.fields) [] d.fields (omega arith) w.types

-- ── two numberings that are alike below m ──

module _ (g h : ℕ → ℕ) (m : ℕ) (alike : (i : ℕ) → i < m → g i ≡ h i) where
  tree_alike : (t : Tree ℕ) → all (below m) (tree_reads t) ≡ true → renumbered_tree g t ≡ renumbered_tree h t
  unfolding renumbered_tree tree_reads
  tree_alike (num n) e = refl
  tree_alike (read i) e = ap read (alike i (ltb-true i m (all_one (below m) i e)))
  tree_alike (two o a b) e =
      rw (
        tree_alike a (all_front (below m) (tree_reads a) (tree_reads b) e),
        tree_alike b (all_back (below m) (tree_reads a) (tree_reads b) e),
      )
  tree_alike (negation a) e = rw (tree_alike a e)

  maybe_alike : (o : Option (Tree ℕ)) → all (below m) (maybe_reads o) ≡ true
      → renumbered_maybe g o ≡ renumbered_maybe h o
  maybe_alike none e = refl
  maybe_alike (some t) e = ap some (tree_alike t (rw (← joined_one tree_reads t) e))

  width_alike : (w : Width ℕ) → all (below m) (width_reads w) ≡ true → renumbered_width g w ≡ renumbered_width h w
  width_alike (fixed n) e = refl
  width_alike (measured u t) e = ap (measured u) (tree_alike t (rw (← joined_one tree_reads t) e))
  width_alike rest e = refl

  pub renumbered_alike : (f : Field ℕ) → all (λ i. ltb i m) (field_reads f) ≡ true → renumbered g f ≡ renumbered h f
  unfolding renumbered
  renumbered_alike f e =
      let w = width_reads f.width in
      let c = maybe_reads f.constraint in
      let k = maybe_reads f.condition in
      let p : all (below m) (w ++ (c ++ k)) ≡ true = ap (all (below m)) (sym (reads_parts f)) ∙ e in
      let q = all_back (below m) w (c ++ k) p in
      rw (
        width_alike f.width (all_front (below m) w (c ++ k) p),
        maybe_alike f.constraint (all_front (below m) c k q),
        maybe_alike f.condition (all_back (below m) c k q),
      )

  pub fields_alike : (fs : List (Field ℕ)) → all (λ f. all (λ i. ltb i m) (field_reads f)) fs ≡ true
      → map (renumbered g) fs ≡ map (renumbered h) fs
  fields_alike [] e = refl
  fields_alike (f ∷ fs) e =
      let b = all_cons (λ x. all (below m) (field_reads x)) f fs e in
      rw (renumbered_alike f b.0, fields_alike fs b.1)
