-- How often a field is read fits into two bytes, and may be counted field by field. [02, R-5]
use mathlib.Core.Path.{◌≡◌, refl, ap, ◌∙◌}
use mathlib.Core.Bool.{Bool, true, false, cond}
use mathlib.Core.List.{List, [], ◌∷◌, ◌++◌}
use mathlib.Core.Option.{Option, none, some}
use Prim.Native.Nat.{ℕ, zero, suc, ◌+◌, ◌*◌, ◌≤◌, ◌<◌}
use native.Mathlib.Omega.{arith}
use native.Mathlib.Nat.{zero-add}
use lib.Dec.{eqb}
use lib.ListN.{length, length-append}
use borrow.Author.Tests.{eq-eqb, ne_eqb}
use Rattle.base.specs.Lists.{all, joined, sum, list_of, first_break}
use Rattle.base.proofs.Lists.{between_true, and_both, and_left, and_right}
use Rattle.base.proofs.Breaks.{first_break_cons}
use Rattle.base.proofs.Joined.{joined_append}
use Rattle.rules.specs.Limits.{fields_most}
use Rattle.rules.specs.Trees.{Tree, num, read, two, negation, le4, stored_tree, stored_length, is_small}
use Rattle.rules.specs.Fields.{Width, fixed, measured, rest, Field, width_trees, trees}
use Rattle.rules.specs.References.{tree_reads, field_reads, times, others, readers}
use Rattle.rules.specs.Within.{keeps_size}
use Rattle.rules.specs.Results.{ReadersMeant, ReadersFit}
use Rattle.laws.proofs.ReadsTrees.{small_bounds}

-- ── a reference takes two bytes ──

tree_bound : (t : Tree ℕ) → 2 * length (tree_reads t) ≤ stored_length t
unfolding tree_reads stored_tree le4
tree_bound (num n) = omega arith
tree_bound (read i) = omega arith
tree_bound (two o a b) =
    omega (
      arith,
      tree_bound a,
      tree_bound b,
      length-append (tree_reads a) (tree_reads b),
      length-append (stored_tree (λ (i : ℕ). 0) a) (stored_tree (λ (i : ℕ). 0) b),
    )
tree_bound (negation a) = omega (arith, tree_bound a)

trees_bound : (l : List (Tree ℕ)) → all is_small l ≡ true → length (joined tree_reads l) ≤ 60 * length l
unfolding joined all
trees_bound [] h = omega arith
trees_bound (t ∷ l) h =
    let small = (small_bounds t (and_left (is_small t) (all is_small l) h)).1 in
    omega (
      arith,
      small,
      tree_bound t,
      trees_bound l (and_right (is_small t) (all is_small l) h),
      length-append (tree_reads t) (joined tree_reads l),
    )

maybe_few : (o : Option (Tree ℕ)) → length (list_of o) ≤ 1
maybe_few none = omega arith
maybe_few (some t) = omega arith

width_few : (w : Width ℕ) → length (width_trees w) ≤ 1
width_few (fixed n) = omega arith
width_few (measured u t) = omega arith
width_few rest = omega arith

trees_few : (f : Field ℕ) → length (trees f) ≤ 3
trees_few f =
    let w = width_trees f.width in
    let c = list_of f.constraint in
    let k = list_of f.condition in
    omega (
      arith,
      width_few f.width,
      maybe_few f.constraint,
      maybe_few f.condition,
      length-append w (c ++ k),
      length-append c k,
    )

abbrev small : Field ℕ → Bool
small f = all is_small (trees f)

fields_bound : (fs : List (Field ℕ)) → all small fs ≡ true → length (joined field_reads fs) ≤ 180 * length fs
unfolding joined all field_reads
fields_bound [] h = omega arith
fields_bound (f ∷ fs) h =
    omega (
      arith,
      trees_few f,
      trees_bound (trees f) (and_left (small f) (all small fs) h),
      fields_bound fs (and_right (small f) (all small fs) h),
      length-append (joined tree_reads (trees f)) (joined field_reads fs),
    )

-- ── counts ──

pub times_append : (i : ℕ) (l m : List ℕ) → times i (l ++ m) ≡ times i l + times i m
unfolding times sum
times_append i [] m = omega arith
times_append i (j ∷ l) m = omega (arith, times_append i l m)

times_bound : (i : ℕ) (l : List ℕ) → times i l ≤ length l
unfolding times sum
times_bound i [] = omega arith
times_bound i (j ∷ l) = go (eqb j i) (times_bound i l)
  where
    go : (b : Bool) → times i l ≤ length l → cond b 1 0 + times i l ≤ suc (length l)
    go true h = omega arith
    go false h = omega arith

sizes_small : (before fs : List (Field ℕ)) → first_break keeps_size before fs ≡ none → all small fs ≡ true
unfolding all
sizes_small before [] h = refl
sizes_small before (f ∷ fs) h =
    let e = first_break_cons keeps_size before f fs h in
    and_both (small f) (all small fs) e.0 (sizes_small (before ++ (f ∷ [])) fs e.1)

others_small : (i : ℕ) (fs : List (Field ℕ)) → all small fs ≡ true → all small (others i fs) ≡ true
unfolding all
others_small zero [] h = refl
others_small (suc i) [] h = refl
others_small zero (f ∷ fs) h = and_right (small f) (all small fs) h
others_small (suc i) (f ∷ fs) h =
    and_both (small f) (all small (others i fs)) (and_left (small f) (all small fs) h)
    (others_small i fs (and_right (small f) (all small fs) h))

others_few : (i : ℕ) (fs : List (Field ℕ)) → length (others i fs) ≤ length fs
others_few zero [] = omega arith
others_few (suc i) [] = omega arith
others_few zero (f ∷ fs) = omega arith
others_few (suc i) (f ∷ fs) = omega (arith, others_few i fs)

pub readers_fit : ReadersFit
unfolding readers
readers_fit d w i =
    let fs = d.fields in
    let o = others i fs in
    omega (
      arith,
      times_bound i (joined field_reads o),
      fields_bound o (others_small i fs (sizes_small [] fs w.size)),
      others_few i fs,
      (between_true 1 (length fs) fields_most w.count).1,
    )

-- ── field by field ──

-- the references to i of the fields from the index k on, each field's own left out
unfoldable pub readers_from : ℕ → List (Field ℕ) → ℕ → ℕ
readers_from k [] i = 0
readers_from k (f ∷ fs) i = cond (eqb i k) 0 (times i (field_reads f)) + readers_from (suc k) fs i

pub readers_append : (k : ℕ) (l m : List (Field ℕ)) (i : ℕ)
    → readers_from k (l ++ m) i ≡ readers_from k l i + readers_from (k + length l) m i
unfolding readers_from
readers_append k [] m i = let e : k + 0 ≡ k = omega arith in rw e (omega arith)
readers_append k (f ∷ l) m i =
    let e : k + suc (length l) ≡ suc k + length l = omega arith in
    rw e (omega (arith, readers_append (suc k) l m i))

-- all of them where no field is that of index i
none_own : (k : ℕ) (fs : List (Field ℕ)) (i : ℕ) → i < k → readers_from k fs i ≡ times i (joined field_reads fs)
unfolding readers_from joined times sum
none_own k [] i lt = refl
none_own k (f ∷ fs) i lt =
    rw (ne_eqb i k (λ e. omega (arith, e)))
    (omega (arith, none_own (suc k) fs i (omega arith), times_append i (field_reads f) (joined field_reads fs)))

-- those from an index on are those of all other fields
pub others_from : (k : ℕ) (l : List (Field ℕ)) (j : ℕ)
    → readers_from k l (k + j) ≡ times (k + j) (joined field_reads (others j l))
unfolding readers_from joined times sum
others_from k [] zero = refl
others_from k [] (suc j) = refl
others_from k (f ∷ l) zero =
    let e : k + 0 ≡ k = omega arith in
    rw (e, eq-eqb k k refl) (omega (arith, none_own (suc k) l k (omega arith)))
others_from k (f ∷ l) (suc j) =
    let e : k + suc j ≡ suc k + j = omega arith in
    let rec = others_from (suc k) l j in
    rw (ne_eqb (k + suc j) k (λ z. omega (arith, z)), e)
    (omega (arith, rec, times_append (suc k + j) (field_reads f) (joined field_reads (others j l))))

pub readers_are : (fs : List (Field ℕ)) (i : ℕ) → readers_from 0 fs i ≡ readers fs i
unfolding readers
readers_are fs i = rw zero-add at (others_from 0 fs i)

-- ── all references less the own ones ──

others_at : (xs : List (Field ℕ)) (f : Field ℕ) (ys : List (Field ℕ)) → others (length xs) (xs ++ (f ∷ ys)) ≡ xs ++ ys
others_at [] f ys = refl
others_at (x ∷ xs) f ys = ap (λ (l : List (Field ℕ)). x ∷ l) (others_at xs f ys)

times_joined : (i : ℕ) (l m : List (Field ℕ))
    → times i (joined field_reads (l ++ m)) ≡ times i (joined field_reads l) + times i (joined field_reads m)
times_joined i l m =
    ap (times i) (joined_append field_reads l m) ∙ times_append i (joined field_reads l) (joined field_reads m)

pub readers_meant : ReadersMeant
unfolding readers joined
readers_meant xs f ys =
    let n = length xs in
    let behind = joined field_reads ys in
    let apart : times n (joined field_reads (others n (xs ++ (f ∷ ys)))) ≡ times n (joined field_reads xs) + times n
    behind =
    ap (λ (l : List (Field ℕ)). times n (joined field_reads l)) (others_at xs f ys) ∙ times_joined n xs ys in
    omega (arith, apart, times_joined n xs (f ∷ ys), times_append n (field_reads f) behind)
