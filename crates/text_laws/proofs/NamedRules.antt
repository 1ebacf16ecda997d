-- A description's fields and the forms of its lines keep the same rules.
use mathlib.Core.Path.{◌≡◌, refl, ap, sym}
use mathlib.Core.Bool.{Bool, true, false, cond, not}
use mathlib.Core.List.{List, [], ◌∷◌}
use mathlib.Core.Option.{none, some, none-ne-some}
use Prim.Native.Nat.{ℕ, suc}
use Rattle.base.specs.Lists.{Each, first_break}
use Rattle.base.proofs.Lookups.{each_any, each_breaks, kept_at, element_parts}
use Rattle.rules.specs.Names.{is_short}
use Rattle.rules.specs.Fields.{Field, Form, is_rest}
use Rattle.rules.specs.Editions.{Edition}
use Rattle.rules.specs.Within.{keeps_form, keeps_operators_in, keeps_size, clash, keeps_names, keeps_rest}
use Rattle.laws.proofs.ReadsFields.{formed_names}
use Rattle.laws.proofs.NameLaws.{NameIn, read_short}
use Rattle.rules.specs.Frames.{Slot}
use Rattle.rules.specs.Spelling.{shows, mismatch}
use Rattle.text_laws.proofs.NamedFields.{
  NamedField,
  same_operators,
  same_small,
  same_shows,
  same_fixed_width,
  same_rest_width,
  same_none,
}

-- ── the field of a name ──

module _ {N : Type 0} (fields : List (Field N)) where
  -- a name by which a field may be read has the form of a short name
  pub name_short : first_break keeps_form [] fields ≡ none → (i : ℕ) (w : List ℕ) → NameIn fields i w
      → is_short w ≡ true
  name_short h i w p =
      let x = p.0 in
      let s = element_parts fields i x p.1 in
      let k : keeps_form s.0 x ≡ true = kept_at keeps_form s.0 x s.1 (rw s.2 at h) in
      read_short x w (formed_names x k).1 p.2

-- ── the rules ──

module _ (R : ℕ → List ℕ → Type 0) where
  pub same_known : (e : Edition) (fields : List (Field ℕ)) (forms : List Form) → Each (NamedField R) fields forms
      → first_break (keeps_operators_in e) [] fields ≡ first_break (keeps_operators_in e) [] forms
  same_known e fields forms h =
      each_breaks (NamedField R) (keeps_operators_in e) (keeps_operators_in e) [] [] fields forms tt h
      (λ b x a g y c u v p n. same_operators e x y n)

  pub same_sizes : (fields : List (Field ℕ)) (forms : List Form) → Each (NamedField R) fields forms
      → first_break keeps_size [] fields ≡ first_break keeps_size [] forms
  same_sizes fields forms h = each_breaks (NamedField R) keeps_size keeps_size [] [] fields forms tt h
      (λ b x a e y c u v p n. same_small x y n)

  pub same_unique : (fields : List (Field ℕ)) (forms : List Form) → Each (NamedField R) fields forms
      → first_break keeps_names [] fields ≡ first_break keeps_names [] forms
  same_unique fields forms h = each_breaks (NamedField R) keeps_names keeps_names [] [] fields forms tt h
      (λ b x a e y c u v p n. ap not (each_any (NamedField R) (clash x) (clash y)
      (λ f g m. rw (n.label, n.short, m.label, m.short)) b e p))

  pub same_rests : (fields : List (Field ℕ)) (forms : List Form) → Each (NamedField R) fields forms
      → first_break keeps_rest [] fields ≡ first_break keeps_rest [] forms
  same_rests fields forms h = each_breaks (NamedField R) keeps_rest keeps_rest [] [] fields forms tt h
      (λ b x a e y c u v p n. rw (
        each_any (NamedField R) is_rest is_rest (λ f g m. same_rest_width m.width) b e p,
        same_fixed_width n.width,
        same_none n.condition,
      ))

  pub same_mismatch : (i : ℕ) (cs : List Slot) (fields : List (Field ℕ)) (forms : List Form)
      → Each (NamedField R) fields forms → mismatch i cs fields ≡ mismatch i cs forms
  unfolding mismatch
  same_mismatch i [] [] [] h = refl
  same_mismatch i [] [] (y ∷ forms) h = absurd h
  same_mismatch i [] (x ∷ fields) [] h = absurd h
  same_mismatch i [] (x ∷ fields) (y ∷ forms) h = refl
  same_mismatch i (c ∷ cs) [] [] h = refl
  same_mismatch i (c ∷ cs) [] (y ∷ forms) h = absurd h
  same_mismatch i (c ∷ cs) (x ∷ fields) [] h = absurd h
  same_mismatch i (c ∷ cs) (x ∷ fields) (y ∷ forms) h =
      rw (same_shows c x y h.0, same_mismatch (suc i) cs fields forms h.1)

-- cells and fields that agree everywhere
module _ {N : Type 0} where
  pub mismatch_each : (i : ℕ) (cs : List Slot) (fs : List (Field N)) → mismatch i cs fs ≡ none
      → Each (λ c f. shows c f ≡ true) cs fs
  unfolding mismatch
  mismatch_each i [] [] h = tt
  mismatch_each i [] (f ∷ fs) h = absurd (none-ne-some i (sym h))
  mismatch_each i (c ∷ cs) [] h = absurd (none-ne-some i (sym h))
  mismatch_each i (c ∷ cs) (f ∷ fs) h = go (shows c f) refl h (mismatch_each (suc i) cs fs)
    where
      go : (b : Bool) → shows c f ≡ b → cond b (mismatch (suc i) cs fs) (some i) ≡ none
          → (mismatch (suc i) cs fs ≡ none → Each (λ c f. shows c f ≡ true) cs fs)
          → (shows c f ≡ true) × Each (λ c f. shows c f ≡ true) cs fs
      go true e k f' = (e, f' k)
      go false e k f' = absurd (none-ne-some i (sym k))

  pub each_mismatch : (i : ℕ) (cs : List Slot) (fs : List (Field N)) → Each (λ c f. shows c f ≡ true) cs fs
      → mismatch i cs fs ≡ none
  unfolding mismatch
  each_mismatch i [] [] h = refl
  each_mismatch i [] (f ∷ fs) h = absurd h
  each_mismatch i (c ∷ cs) [] h = absurd h
  each_mismatch i (c ∷ cs) (f ∷ fs) h = rw h.0 (each_mismatch (suc i) cs fs h.1)
