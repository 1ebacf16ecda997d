-- Names held in arrays: one more at the end, and the fields that stand in for forms.
use mathlib.Core.Path.{◌≡◌, refl, ◌∙◌, subst}
use mathlib.Core.List.{List, [], ◌∷◌, ◌++◌}
use mathlib.Core.Bool.{cond}
use mathlib.Core.Option.{some, some-injective}
use Prim.Native.Nat.{ℕ, zero, suc, ◌<◌}
use native.Mathlib.Omega.{arith}
use lib.ListN.{length, get_or, set, get_elem?}
use lib.Seq.{get_or-set_same, get_or-set_other}
use Rattle.base.proofs.Lookups.{element_front}
use Rattle.rules.specs.Limits.{label_most}
use Rattle.rules.specs.Fields.{Width, fixed, measured, rest, Form, is_fixed_width}
use Rattle.names.specs.Repeats.{pad_to}
use Rattle.text_laws.specs.Judging.{face_width, face}
use Rattle.texts.specs.HeldNames.{Names, HeldAs}
use Rattle.texts.specs.States.{Named}
use Rattle.texts.proofs.LineRules.{element_in}

module _ {A : Type 0} where
  -- each element of a list, and one more
  pub snoc_each : (Q : ℕ → A → Type 0) (l : List A) (a : A) → ((i : ℕ) (y : A) → get_elem? l i ≡ some y → Q i y)
      → Q (length l) a → (i : ℕ) (y : A) → get_elem? (l ++ (a ∷ [])) i ≡ some y → Q i y
  snoc_each Q [] a h q zero y e = subst (Q 0) (some-injective a y e) q
  snoc_each Q [] a h q (suc i) y e = absurd (let z : ◌≡◌ {A = ℕ} 0 1 = cc in omega arith)
  snoc_each Q (x ∷ l) a h q zero y e = h 0 y e
  snoc_each Q (x ∷ l) a h q (suc i) y e =
      snoc_each (λ j b. Q (suc j) b) l a (λ j b k. h (suc j) b k) q i y e

  pub element_last : (l : List A) (a : A) → get_elem? (l ++ (a ∷ [])) (length l) ≡ some a
  element_last [] a = refl
  element_last (x ∷ l) a = element_last l a

-- one more held name at the end
module _ (l : List Form) (x : Form) (g : Form → List ℕ) (held : List (List ℕ)) (room : length l < length held)
    (h : (i : ℕ) (y : Form) → get_elem? l i ≡ some y → get_or held i [] ≡ g y) where
  pub held_more : (v : List ℕ) → v ≡ g x → (i : ℕ) (y : Form) → get_elem? (l ++ (x ∷ [])) i ≡ some y
      → get_or (set held (length l) v) i [] ≡ g y
  held_more v e =
      snoc_each (λ i y. get_or (set held (length l) v) i [] ≡ g y) l x
      (λ i y k. let lt = element_in l i y k in
      get_or-set_other held (length l) i v [] (λ z. absurd (omega (arith, lt, z))) ∙ h i y k)
      (get_or-set_same held (length l) v [] room ∙ e)

face_held : (names : Names) (i : ℕ) (x : Form) → HeldAs names i x → HeldAs names i (face x)
face_held names i x h = record {
  short = h.short;
  word = h.word;
  mark = h.mark ∙ go x.width;
  starts = h.starts;
}
  where
    go : (v : Width (List ℕ)) → ◌≡◌ {A = ℕ} (cond (is_fixed_width v) 1 0) (cond (is_fixed_width (face_width v)) 1 0)
    go (fixed n) = refl
    go (measured u t) = refl
    go rest = refl

module _ (l : List Form) (x : Form) {labels : List (List ℕ)} {names : Names}
    (h : Named (l ++ (x ∷ [])) labels names) where
  -- without the last
  pub named_front : Named l labels names
  named_front = record {
    label = λ i y e. h.label i y (element_front l (x ∷ []) i y e);
    name = λ i y e. h.name i y (element_front l (x ∷ []) i y e);
    room = h.room;
  }

  -- the last by what later lines see of it
  pub named_face : Named (l ++ (face x ∷ [])) labels names
  named_face = record {
    label = snoc_each (λ i y. get_or labels i [] ≡ pad_to label_most y.label) l (face x) named_front.label
        (h.label (length l) x (element_last l x));
    name = snoc_each (λ i y. HeldAs names i y) l (face x) named_front.name
        (face_held names (length l) x (h.name (length l) x (element_last l x)));
    room = h.room;
  }
