-- A field from the parts of its record: the tests of its names, width and trees, both ways.
use mathlib.Core.Path.{◌≡◌, refl}
use mathlib.Core.Bool.{Bool, true, false, ◌&&◌, ◌||◌, not}
use mathlib.Core.List.{List, [], ◌∷◌}
use mathlib.Core.Logic.{◌⊎◌, inl, inr}
use mathlib.Core.Option.{Option, none, some}
use Prim.Native.Nat.{ℕ, ◌≤◌}
use native.Mathlib.Omega.{arith}
use lib.Dec.{eqb}
use lib.ListN.{length, get_or}
use borrow.Author.Tests.{eqb-true, eqb-false, eq-eqb}
use Rattle.base.specs.Lists.{all, between, if_any}
use Rattle.laws.specs.Places.{IsBytes}
use Rattle.base.proofs.Lists.{and_left, and_right, and_both, or_cases, between_true}
use Rattle.base.proofs.Lists as lists
use Rattle.base.proofs.Breaks.{all_one}
use Rattle.rules.specs.declared.ValueType.TheVariants.{Number}
use Rattle.rules.specs.Names.{is_short}
use Rattle.rules.specs.Trees.{Tree, is_small, is_in_range, is_number}
use Rattle.rules.specs.Fields.{Width, fixed, measured, rest, width_trees}
use Rattle.rules.specs.Within.{is_width, width_has_type}
use Rattle.rules.specs.Stored.{kind_number, stored_name}
use Rattle.writing.specs.declared.spans.Span.{Span}
use Rattle.packets.specs.declared.records.Parts.{Parts}
use Rattle.packets.specs.StoredTrees.{marked}
use Rattle.packets.specs.Parts.{ending}
use Rattle.packets.specs.PartsStand.{In, WidthStands}
use Rattle.packets.specs.FieldTest.{bytes_in, tree_test, width_test, number_test, short_test}
use Rattle.packets.proofs.PartBytes.{
  bytes_stand,
  bytes_are,
  in_length,
  empty_in,
  tree_sound,
  tree_complete,
  number_byte,
}

-- ── short names ──

pub short_sound : (s : List ℕ) (p : Span) → ending p ≤ length s → short_test s p ≡ true
    → (o : Option (List ℕ)) × (if_any is_short o ≡ true) × In s p (stored_name o)
unfolding short_test
short_sound s p le h = go (or_cases (eqb p.len 0) (is_short (bytes_in s p)) h)
  where
    go : (eqb p.len 0 ≡ true) ⊎ (is_short (bytes_in s p) ≡ true)
        → (o : Option (List ℕ)) × (if_any is_short o ≡ true) × In s p (stored_name o)
    go (inl e) = (none, refl, empty_in s p (eqb-true p.len 0 e))
    go (inr e) = (some (bytes_in s p), e, bytes_stand s p le)

pub short_complete : (s : List ℕ) (p : Span) (o : Option (List ℕ)) → if_any is_short o ≡ true → In s p (stored_name o)
    → short_test s p ≡ true
unfolding short_test
short_complete s p none h q = rw (eq-eqb p.len 0 (in_length s p [] q))
short_complete s p (some w) h q = lists.or_right (eqb p.len 0) (is_short (bytes_in s p)) (rw (bytes_are s p w q) h)

-- ── widths ──

-- what the tests of a width say of it
pub record WidthIn (s marks : List ℕ) (p : Parts) (w : Width ℕ) : Type 0 where
  pub kind : p.kind ≡ kind_number w
  pub stands : WidthStands s p.number p.tree w
  pub formed : is_width w ≡ true
  pub range : all is_in_range (width_trees w) ≡ true
  pub small : all is_small (width_trees w) ≡ true
  pub typed : width_has_type (marked marks) w ≡ true

one_passes : (f : Tree ℕ → Bool) (t : Tree ℕ) → f t ≡ true → all f (t ∷ []) ≡ true
unfolding all
one_passes f t h = and_both (f t) true h refl

module _ (s marks : List ℕ) (p : Parts) where
  fixed_in : p.kind ≡ 12 → number_test p.kind p.number ≡ true → WidthIn s marks p (fixed p.number)
  unfolding number_test all
  fixed_in e h = record { kind = e; stands = refl; formed = rw e at h; range = refl; small = refl; typed = refl }

  rest_in : p.kind ≡ 14 → WidthIn s marks p rest
  unfolding all
  rest_in e = record { kind = e; stands = tt; formed = refl; range = refl; small = refl; typed = refl }

  measured_in : IsBytes s → p.kind ≡ 13 → number_test p.kind p.number ≡ true → width_test s marks p ≡ true
      → (w : Width ℕ) × WidthIn s marks p w
  unfolding number_test width_test
  measured_in b e h ok =
      let ok' : not (eqb (get_or s p.tree.at 0) 1) && tree_test s marks Number p.tree ≡ true = rw e at ok in
      let q = tree_sound s marks Number p.tree b (and_right (not (eqb (get_or s p.tree.at 0) 1)) _ ok') in
      let n = and_left (not (eqb (get_or s p.tree.at 0) 1)) (tree_test s marks Number p.tree) ok' in
      let t = q.0 in
      let u : (eqb p.number 1 || eqb p.number 8) ≡ true = rw e at h in
      let m : not (is_number t) ≡ true = rw (← number_byte s p.tree t q.1.stands) n in (
        measured p.number t,
        record {
          kind = e;
          stands = (refl, q.1.stands);
          formed = and_both (eqb p.number 1 || eqb p.number 8) (not (is_number t)) u m;
          range = one_passes is_in_range t q.1.range;
          small = one_passes is_small t q.1.small;
          typed = q.1.typed;
        },
      )

  pub width_sound : IsBytes s → between 12 p.kind 14 ≡ true → number_test p.kind p.number ≡ true
      → width_test s marks p ≡ true → (w : Width ℕ) × WidthIn s marks p w
  width_sound b k h ok = go (eqb p.kind 12) refl (eqb p.kind 13) refl
    where
      go : (x : Bool) → eqb p.kind 12 ≡ x → (y : Bool) → eqb p.kind 13 ≡ y → (w : Width ℕ) × WidthIn s marks p w
      go true e y f = (fixed p.number, fixed_in (eqb-true p.kind 12 e) h)
      go false e true f = measured_in b (eqb-true p.kind 13 f) h ok
      go false e false f =
          let n = between_true 12 p.kind 14 k in
          let ne : p.kind ≡ 12 → ⊥ = eqb-false p.kind 12 e in
          let nf : p.kind ≡ 13 → ⊥ = eqb-false p.kind 13 f in
          (rest, rest_in (omega (arith, n, ne, nf)))

  pub width_complete : (w : Width ℕ) → WidthIn s marks p w
      → (number_test p.kind p.number ≡ true) × (width_test s marks p ≡ true) × (between 12 p.kind 14 ≡ true)
  unfolding number_test width_test
  width_complete (fixed n) h = rw h.kind (rw h.stands h.formed, refl, refl)
  width_complete (measured u t) h =
      let f = h.formed in
      let a = and_left (eqb u 1 || eqb u 8) (not (is_number t)) f in
      let b = and_right (eqb u 1 || eqb u 8) (not (is_number t)) f in
      let c = tree_complete s marks Number p.tree t (record {
        typed = h.typed;
        range = all_one is_in_range t h.range;
        small = all_one is_small t h.small;
        stands = h.stands.1;
      }) in
      let d : not (eqb (get_or s p.tree.at 0) 1) ≡ true = rw (number_byte s p.tree t h.stands.1) b in
      rw h.kind (rw h.stands.0 a, and_both (not (eqb (get_or s p.tree.at 0) 1)) _ d c, refl)
  width_complete rest h = rw h.kind (refl, refl, refl)
