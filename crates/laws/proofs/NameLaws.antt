-- A name is that of one field only: the names by which a field may be read, and those by which it is found.
use mathlib.Core.Path.{◌≡◌, refl, ap, sym, ◌∙◌}
use mathlib.Core.Bool.{Bool, true, false, cond, ◌||◌, not}
use mathlib.Core.List.{List, [], ◌∷◌, ◌++◌}
use mathlib.Core.Option.{Option, none, some, none-ne-some, some-injective}
use Prim.Native.Nat.{ℕ, zero, suc, ◌+◌, ◌<◌}
use native.Mathlib.Omega.{arith}
use native.Mathlib.Decide.{dec_lt}
use lib.ListN.{length, get_elem?}
use Rattle.base.specs.Lists.{any, same, if_any, list_of, first_break}
use Rattle.base.proofs.Lists.{or_left, or_right, not_both, any_found, any_mem, same_true, same_self}
use Rattle.base.proofs.Breaks.{or_true}
use Rattle.base.proofs.Lookups.{test_eq, kept_at, element_below, element_parts, element_any}
use Rattle.rules.specs.Names.{is_short}
use Rattle.rules.specs.Fields.{Field, field_names, read_names}
use Rattle.rules.specs.Within.{clash, keeps_names}
use Rattle.rules.specs.Answers.{accepted}
use Rattle.rules.specs.Promises.{first_named}
use Rattle.rules.specs.Results.{Bears, BearerUnique, NameUnique, BearerFound}

-- ── names of a field ──

module _ {N : Type 0} where
  -- a name by which a field may be read is its short name, or its label that has the form of one
  pub read_cases : {P : Type 0} (f : Field N) (w : List ℕ) → any (same w) (read_names f) ≡ true
      → (f.short ≡ some w → P) → (f.label ≡ w → is_short w ≡ true → P) → P
  unfolding any
  read_cases {P} f w h by_short by_label = go f.short refl h
    where
      labelled : is_short f.label ≡ true → same w f.label ≡ true → P
      labelled e k = let is = same_true w f.label k in by_label (sym is) (rw is e)

      behind : (b : Bool) → is_short f.label ≡ b → any (same w) (cond b (f.label ∷ []) []) ≡ true → P
      behind true t k = or_true (same w f.label) false (labelled t) (λ z. absurd (not_both false z refl)) k
      behind false t k = absurd (not_both false k refl)

      go : (o : Option (List ℕ)) → f.short ≡ o
          → any (same w) (list_of o ++ cond (is_short f.label) (f.label ∷ []) []) ≡ true → P
      go none e k = behind (is_short f.label) refl k
      go (some s) e k =
          or_true (same w s) (any (same w) (cond (is_short f.label) (f.label ∷ []) []))
          (λ z. by_short (rw (same_true w s z) e)) (behind (is_short f.label) refl) k

  -- it is one of the field's names, and has the form of a short name
  pub read_named : (f : Field N) (w : List ℕ) → any (same w) (read_names f) ≡ true → any (same w) (field_names f) ≡ true
  unfolding any
  read_named f w h = read_cases f w h
      (λ e. rw e (or_right (same w f.label) (same w w || false) (or_left (same w w) false (same_self w))))
      (λ e k. or_left (same w f.label) (any (same w) (list_of f.short)) (rw e (same_self w)))

  pub read_short : (f : Field N) (w : List ℕ) → if_any is_short f.short ≡ true → any (same w) (read_names f) ≡ true
      → is_short w ≡ true
  read_short f w p h = read_cases f w h (λ e. rw e at p) (λ e k. k)

  -- fields that share a name clash
  pub shared_clash : (f g : Field N) (w : List ℕ) → any (same w) (field_names f) ≡ true
      → any (same w) (field_names g) ≡ true → clash f g ≡ true
  shared_clash f g w p q =
      let s = any_found (same w) (field_names f) p in
      let is : w ≡ s.0 = same_true w s.0 s.2 in
      any_mem (λ a. any (same a) (field_names g)) (rw is at q) s.1

  -- which of the two comes first does not matter
  pub clash_turn : (f g : Field N) → clash f g ≡ clash g f
  clash_turn f g = test_eq (clash f g) (clash g f) (turned f g) (turned g f)
    where
      turned : (f g : Field N) → clash f g ≡ true → clash g f ≡ true
      turned f g h =
          let s = any_found (λ a. any (same a) (field_names g)) (field_names f) h in
          shared_clash g f s.0 s.2 (any_mem (same s.0) (same_self s.0) s.1)

-- ── the field of a name ──

-- Bears and NameOf, of fields over anything
abbrev pub BearsIn : {N : Type 0} → List (Field N) → ℕ → List ℕ → Type 0
BearsIn {N} fields i s = (f : Field N) × (get_elem? fields i ≡ some f) × (any (same s) (field_names f) ≡ true)

abbrev pub NameIn : {N : Type 0} → List (Field N) → ℕ → List ℕ → Type 0
NameIn {N} fields i s = (f : Field N) × (get_elem? fields i ≡ some f) × (any (same s) (read_names f) ≡ true)

module _ {N : Type 0} (fields : List (Field N)) (kept : first_break keeps_names [] fields ≡ none) where
  bearer_once : (i j : ℕ) (w : List ℕ) → BearsIn fields i w → BearsIn fields j w → i < j → ⊥
  bearer_once i j w p q lt =
      let x = p.0 in
      let y = q.0 in
      let s = element_parts fields j y q.1 in
      let k : keeps_names s.0 y ≡ true =
      kept_at keeps_names s.0 y s.1 (rw s.2 at kept) in
      let below : i < length s.0 = omega (arith, s.3) in
      let e : get_elem? s.0 i ≡ some x =
      sym (element_below s.0 (y ∷ s.1) i below) ∙ (rw s.2 at p.1) in
      let a : any (clash y) s.0 ≡ true =
      element_any (clash y) s.0 i x e (shared_clash y x w q.2 p.2) in
      not_both (not (any (clash y) s.0)) k (rw a)

  pub bearer_unique : (i j : ℕ) (w : List ℕ) → BearsIn fields i w → BearsIn fields j w → i ≡ j
  bearer_unique i j w p q = go (dec_lt i j) (dec_lt j i)
    where
      go : Dec (i < j) → Dec (j < i) → i ≡ j
      go (yes a) d = absurd (bearer_once i j w p q a)
      go (no a) (yes b) = absurd (bearer_once j i w q p b)
      go (no a) (no b) = omega arith

  pub name_unique_in : (i j : ℕ) (w : List ℕ) → NameIn fields i w → NameIn fields j w → i ≡ j
  name_unique_in i j w p q =
      bearer_unique i j w (p.0, p.1, read_named p.0 w p.2) (q.0, q.1, read_named q.0 w q.2)

pub name_borne_once : BearerUnique
name_borne_once e d w i j s p q = bearer_unique d.fields w.names i j s p q

pub name_unique : NameUnique
name_unique e d w i j s p q = name_unique_in d.fields w.names i j s p q

-- ── the field that is found ──

-- the first that bears the name
first_bearer : (s : List ℕ) (fs : List (Field ℕ)) (k i : ℕ) → Bears fs i s
    → (j : ℕ) × Bears fs j s × (first_named s k fs ≡ accepted (k + j))
unfolding first_named
first_bearer s [] k i b = absurd (none-ne-some b.0 b.1)
first_bearer s (f ∷ fs) k i b = go (any (same s) (field_names f)) refl i b (first_bearer s fs (suc k))
  where
    go : (t : Bool) → any (same s) (field_names f) ≡ t → (i : ℕ) → Bears (f ∷ fs) i s
        → ((i : ℕ) → Bears fs i s → (j : ℕ) × Bears fs j s × (first_named s (suc k) fs ≡ accepted (suc k + j)))
        → (j : ℕ) × Bears (f ∷ fs) j s × (cond t (accepted k) (first_named s (suc k) fs) ≡ accepted (k + j))
    go true e i b rec = (0, (f, refl, e), ap accepted (omega arith))
    go false e zero b rec =
        let is : f ≡ b.0 = some-injective f b.0 b.1 in
        absurd (not_both (any (same s) (field_names f)) (rw is b.2) e)
    go false e (suc i) b rec =
        let r = rec i b in
        let n : suc k + r.0 ≡ k + suc r.0 = omega arith in
        (suc r.0, r.1, r.2 ∙ ap accepted n)

pub bearer_found : BearerFound
bearer_found table good i s b a h =
    let fields = good.description.fields in
    let r = first_bearer s fields 0 i b in
    let is : r.0 ≡ i = bearer_unique fields good.within.names r.0 i s r.1 b in
    h (yes good) ∙ r.2 ∙ ap accepted (omega (arith, is))
