-- What is kept of field lines has a fixed size.
use mathlib.Core.Path.{◌≡◌, refl, ap, ap₂, ◌∙◌}
use mathlib.Core.Bool.{Bool, true, false, cond, ◌&&◌}
use mathlib.Core.List.{List, [], ◌∷◌, ◌++◌}
use mathlib.Core.Option.{Option, none, some, map}
use Prim.Native.Nat.{ℕ, suc, ◌<◌, max}
use native.Mathlib.Omega.{arith}
use lib.Dec.{ltb, leb}
use lib.ListN.{length-append}
use borrow.Author.Tests.{leb-false}
use Rattle.base.specs.Lists.{all, list_of}
use Rattle.base.proofs.Lists.{and_both, all_append, not_both, or_false_right}
use Rattle.rules.specs.Answers.{Answer, refused}
use Rattle.rules.specs.Limits.{fields_most}
use Rattle.rules.specs.Operators.{code}
use Rattle.rules.specs.Trees.{Tree, num, read, two, negation, depth, stored_tree, is_in_range, is_small, is_number}
use Rattle.rules.specs.Fields.{Width, fixed, measured, rest, Field, Form, trees, width_trees}
use Rattle.rules.specs.Within.{is_width, is_formed, keeps_size}
use Rattle.rules.specs.Frames.{Slot}
use Rattle.text_laws.specs.LineReader.{read_form}
use Rattle.text_laws.specs.Resolving.{index_of, rename_tree, rename_width, rename_field}
use Rattle.text_laws.specs.Lowest.{lower, broken}
use Rattle.text_laws.specs.Judging.{faces, resolved_in, rules, Judged, is_open, is_many, is_full, many, with_form}
use Rattle.text_laws.specs.Judging.{judge}
use Rattle.text_laws.specs.Steady.{is_kept, FewFields}
use Rattle.text_laws.proofs.FormExact.{form_sound}

-- ── names resolved in whatever way: the same form and size ──

module _ {N : Type 0} (g : List ℕ → N) where
  same_depth : (t : Tree (List ℕ)) → depth (rename_tree g t) ≡ depth t
  unfolding depth rename_tree
  same_depth (num n) = refl
  same_depth (read w) = refl
  same_depth (two o x y) = ap₂ (λ a b. suc (max a b)) (same_depth x) (same_depth y)
  same_depth (negation x) = ap suc (same_depth x)

  same_stored : (t : Tree (List ℕ)) → stored_tree (λ a. 0) (rename_tree g t) ≡ stored_tree (λ w. 0) t
  unfolding stored_tree rename_tree
  same_stored (num n) = refl
  same_stored (read w) = refl
  same_stored (two o x y) = ap₂ (λ (a b : List ℕ). code o ∷ (a ++ b)) (same_stored x) (same_stored y)
  same_stored (negation x) = rw (same_stored x) refl

  same_small : (t : Tree (List ℕ)) → is_small (rename_tree g t) ≡ is_small t
  same_small t = rw (same_depth t, same_stored t) refl

  same_range : (t : Tree (List ℕ)) → is_in_range (rename_tree g t) ≡ is_in_range t
  unfolding is_in_range rename_tree
  same_range (num n) = refl
  same_range (read w) = refl
  same_range (two o x y) = ap₂ ◌&&◌ (same_range x) (same_range y)
  same_range (negation x) = same_range x

  same_number : (t : Tree (List ℕ)) → is_number (rename_tree g t) ≡ is_number t
  unfolding rename_tree
  same_number (num n) = refl
  same_number (read w) = refl
  same_number (two o x y) = refl
  same_number (negation x) = refl

  -- a test that says the same of a tree and the renamed one, over the trees of a field
  module _ (p : Tree N → Bool) (q : Tree (List ℕ) → Bool) (h : (t : Tree (List ℕ)) → p (rename_tree g t) ≡ q t) where
    maybe_trees : (o : Option (Tree (List ℕ))) (l : List (Tree N)) (m : List (Tree (List ℕ))) → all p l ≡ all q m
        → all p (list_of (map (rename_tree g) o) ++ l) ≡ all q (list_of o ++ m)
    unfolding all
    maybe_trees none l m e = e
    maybe_trees (some t) l m e = rw (h t, e) refl

    width_trees_lem : (v : Width (List ℕ)) (l : List (Tree N)) (m : List (Tree (List ℕ))) → all p l ≡ all q m
        → all p (width_trees (rename_width g v) ++ l) ≡ all q (width_trees v ++ m)
    unfolding all
    width_trees_lem (fixed n) l m e = e
    width_trees_lem (measured u t) l m e = rw (h t, e) refl
    width_trees_lem rest l m e = e

    last_trees : (o : Option (Tree (List ℕ))) → all p (list_of (map (rename_tree g) o)) ≡ all q (list_of o)
    unfolding all
    last_trees none = refl
    last_trees (some t) = rw (h t) refl

    field_trees : (x : Form) → all p (trees (rename_field g x)) ≡ all q (trees x)
    field_trees x =
        width_trees_lem x.width _ (list_of x.constraint ++ list_of x.condition)
        (maybe_trees x.constraint _ (list_of x.condition) (last_trees x.condition))

  same_width : (v : Width (List ℕ)) → is_width (rename_width g v) ≡ is_width v
  same_width (fixed n) = refl
  same_width (measured u t) = rw (same_number t) refl
  same_width rest = refl

  same_formed : (x : Form) → is_formed (rename_field g x) ≡ is_formed x
  same_formed x = rw (same_width x.width, field_trees is_in_range is_in_range same_range x) refl

kept_renamed : (g : List ℕ → ℕ) (x : Form) → is_kept (rename_field g x) ≡ is_kept x
kept_renamed g x = rw (same_formed g x, field_trees g is_small is_small (same_small g) x) refl

-- ── field lines ──

-- behind a line over size nothing is kept
open_small : (cells : List Slot) (p : ℕ) (o : Option Answer) (before : List Form) (x : Form)
    → is_open (lower o (broken 6 p (rules cells) before x)) ≡ true → keeps_size before x ≡ true
unfolding broken
open_small cells p o before x h = go (keeps_size before x) refl
  where
    closed : (a : Option Answer) → is_open (lower a (some (refused 6 p))) ≡ false
    closed none = refl
    closed (some a) = last (ltb 6 a.number) refl
      where
        last : (b : Bool) → ltb 6 a.number ≡ b → is_open (cond b (some (refused 6 p)) (some a)) ≡ false
        last true e = refl
        last false e = e

    go : (b : Bool) → keeps_size before x ≡ b → keeps_size before x ≡ true
    go true e = e
    go false e = absurd (not_both (is_open (lower o (broken 6 p (rules cells) before x))) h (rw e (closed o)))

few_form : (cells : List Slot) (p : ℕ) (j : Judged) (l : List ℕ) (o : Option Form) → read_form l ≡ o
    → j.count < fields_most → FewFields j → FewFields (with_form cells p j o)
unfolding with_form
few_form cells p j l none e lt h = record {
  count = lt;
  fields = (let n = h.fields in omega arith);
  formed = h.formed;
}
few_form cells p j l (some x) e lt h =
    go (is_open (lower j.lowest (broken 6 p (rules cells) (faces j.fields) x))) refl
  where
    here : Option Answer
    here = lower j.lowest (broken 6 p (rules cells) (faces j.fields) x)

    more : List (Field ℕ)
    more = j.fields ++ (resolved_in j.fields x ∷ [])

    formed_x : is_open here ≡ true → is_kept (resolved_in j.fields x) ≡ true
    formed_x k =
        kept_renamed (index_of (faces j.fields ++ (x ∷ []))) x
        ∙ and_both (is_formed x) (all is_small (trees x)) (form_sound l x e).formed
        (open_small cells p j.lowest (faces j.fields) x k)

    go : (b : Bool) → is_open here ≡ b
        → FewFields (record { count = suc j.count; fields = cond b more j.fields; lowest = here })
    go true k = record {
      count = lt;
      fields = (let n = h.fields in let m = length-append j.fields (resolved_in j.fields x ∷ []) in
          omega (arith, n, m));
      formed = all_append is_kept j.fields (resolved_in j.fields x ∷ []) h.formed
          (unfold all in rw (formed_x k) refl);
    }
    go false k = record {
      count = lt;
      fields = (let n = h.fields in omega arith);
      formed = h.formed;
    }

pub few_judge : (cells : List Slot) (p : ℕ) (j : Judged) (l : List ℕ) → FewFields j → FewFields (judge cells p j l)
unfolding judge
few_judge cells p j l h = go (is_full j) refl
  where
    go : (b : Bool) → is_full j ≡ b → FewFields (cond b (many j) (with_form cells p j (read_form l)))
    go true e = record { count = h.count; fields = h.fields; formed = h.formed }
    go false e =
        few_form cells p j l (read_form l) refl
        (leb-false fields_most j.count (or_false_right (is_many j.lowest) (leb fields_most j.count) e)) h
