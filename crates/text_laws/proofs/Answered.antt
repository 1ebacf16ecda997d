-- No text spells two descriptions, and no text and output has two outcomes.
use mathlib.Core.Path.{◌≡◌, refl, ap, ap₂, sym, ◌∙◌, subst}
use mathlib.Core.Bool.{true, false}
use mathlib.Core.Logic.{◌⊎◌, inl, inr}
use mathlib.Core.List.{List, [], ◌∷◌}
use mathlib.Core.Option.{none, some, none-ne-some, some-injective}
use Prim.Native.Nat.{ℕ, zero, suc, ◌≤◌, ◌<◌}
use native.Mathlib.Omega.{arith}
use native.Mathlib.Decide.{dec_lt}
use lib.ListN.{length, get_or}
use Rattle.base.specs.Lists.{all, Each}
use Rattle.base.proofs.Lists.{not_both}
use Rattle.rules.specs.Limits.{text_most}
use Rattle.rules.specs.Names.{is_allowed}
use Rattle.rules.specs.Fields.{Form, Description}
use Rattle.rules.specs.Stored.{stored}
use Rattle.rules.specs.Lines.{SpellsField, Unresolved}
use Rattle.rules.specs.Frames.{Frame, FrameOf, line_number, is_overfull}
use Rattle.rules.specs.Spelling.{Spells}
use Rattle.rules.specs.Answers.{Answer, refused}
use Rattle.rules.specs.Refusals.{
  RightLines,
  wrong_line,
  Formless,
  FirstFormless,
  rule_broken,
  Refuses,
  long,
  byte,
  line,
  many,
  form,
  rule,
}
use Rattle.rules.specs.Promises.{Outcome, leaves, delivered, ReadsText, spelled, refuses}
use Rattle.rules.specs.Results.{SpellingUnique, TextUnique}
use Rattle.text_laws.proofs.NamedForms.{FormsOf, forms_named, description_settled}
use Rattle.text_laws.proofs.AllowedTexts.{spelled_allowed}

-- ── lines without a form ──

first_unique : (lines : List (List ℕ)) (i j : ℕ) → FirstFormless lines i → FirstFormless lines j → i ≡ j
first_unique lines i j p q = go (dec_lt i j) (dec_lt j i)
  where
    go : Dec (i < j) → Dec (j < i) → i ≡ j
    go (yes a) d = absurd (q.earlier i a p.formless)
    go (no a) (yes b) = absurd (p.earlier j b q.formless)
    go (no a) (no b) = omega arith

-- a line of which there are forms has one
formed_at : (forms : List Form) (lines : List (List ℕ)) → Each (SpellsField Unresolved) forms lines → (i : ℕ)
    → i < length lines → Formless (get_or lines i []) → ⊥
formed_at [] [] h i lt f = absurd (omega arith)
formed_at [] (l ∷ lines) h i lt f = absurd h
formed_at (x ∷ forms) [] h i lt f = absurd h
formed_at (x ∷ forms) (l ∷ lines) h zero lt f = f x h.0
formed_at (x ∷ forms) (l ∷ lines) h (suc i) lt f = formed_at forms lines h.1 i (omega arith) f

all_formed : (forms : List Form) (lines : List (List ℕ)) → Each (SpellsField Unresolved) forms lines
    → (i : ℕ) → FirstFormless lines i → ⊥
all_formed forms lines h i p = formed_at forms lines h i p.there p.formless

-- ── what an outcome says of the text, one stage after the other ──

module _ (text out : List ℕ) where
  abbrev Last : Frame → List Form → Outcome → Type 0
  Last f forms o =
      ((a : Answer) × (rule_broken f forms ≡ some a) × (o ≡ leaves a out))
      ⊎ ((d : Description) × (rule_broken f forms ≡ none) × Spells text d × (o ≡ delivered (stored d) out))

  abbrev Fifth : Frame → Outcome → Type 0
  Fifth f o =
      ((i : ℕ) × FirstFormless f.lines i × (o ≡ leaves (refused 5 (line_number f i)) out))
      ⊎ ((forms : List Form) × Each (SpellsField Unresolved) forms f.lines × Last f forms o)

  abbrev Fourth : Frame → Outcome → Type 0
  Fourth f o =
      ((is_overfull f ≡ true) × (o ≡ leaves (refused 4 0) out)) ⊎ ((is_overfull f ≡ false) × Fifth f o)

  abbrev Third : Outcome → Type 0
  Third o =
      ((k : ℕ) × ((f : Frame) → FrameOf text f → ⊥) × (r : RightLines text k)
      × (o ≡ leaves (refused 3 (wrong_line k r.begins.frame)) out))
      ⊎ ((f : Frame) × FrameOf text f × Fourth f o)

  abbrev Second : Outcome → Type 0
  Second o =
      ((all is_allowed text ≡ false) × (o ≡ leaves (refused 2 0) out)) ⊎ ((all is_allowed text ≡ true) × Third o)

  abbrev First : Outcome → Type 0
  First o = ((text_most < length text) × (o ≡ leaves (refused 1 0) out)) ⊎ ((length text ≤ text_most) × Second o)

module _
    (frame_unique : (t : List ℕ) (f g : Frame) → FrameOf t f → FrameOf t g → f ≡ g)
    (form_unique : (l : List ℕ) (x y : Form) → SpellsField Unresolved x l → SpellsField Unresolved y l → x ≡ y)
    (place_unique : (t : List ℕ) (j k : ℕ) (x : RightLines t j) (y : RightLines t k)
    → wrong_line j x.begins.frame ≡ wrong_line k y.begins.frame)
  where
    -- ── forms ──

    forms_unique : (forms others : List Form) (lines : List (List ℕ)) → Each (SpellsField Unresolved) forms lines
        → Each (SpellsField Unresolved) others lines → forms ≡ others
    forms_unique [] [] lines p q = refl
    forms_unique [] (y ∷ others) [] p q = absurd q
    forms_unique [] (y ∷ others) (l ∷ lines) p q = absurd p
    forms_unique (x ∷ forms) [] [] p q = absurd p
    forms_unique (x ∷ forms) [] (l ∷ lines) p q = absurd q
    forms_unique (x ∷ forms) (y ∷ others) [] p q = absurd p
    forms_unique (x ∷ forms) (y ∷ others) (l ∷ lines) p q =
        ap₂ {C = List Form} ◌∷◌ (form_unique l x y p.0 q.0) (forms_unique forms others lines p.1 q.1)

    -- ── no text spells two descriptions ──

    pub spelling_unique : SpellingUnique
    spelling_unique text d e s t =
        let same_frame : s.frame ≡ t.frame = frame_unique text s.frame t.frame s.is_frame_of t.is_frame_of in
        let p : FormsOf d s.frame = forms_named text d s in
        let q : FormsOf e t.frame = forms_named text e t in
        let same_forms : p.forms ≡ q.forms =
        forms_unique p.forms q.forms s.frame.lines p.spelled (rw same_frame q.spelled) in
        description_settled d e p.forms s.within
        (sym s.name ∙ ap (λ (f : Frame). f.name) same_frame ∙ t.name)
        (sym s.row ∙ ap (λ (f : Frame). f.row_width) same_frame ∙ t.row) p.named (rw same_forms q.named)

    -- ── only one outcome ──

    module _ (text out : List ℕ) where
      seen_refuses : (a : Answer) → Refuses text a → First text out (leaves a out)
      seen_refuses a (long h) = inl (h, refl)
      seen_refuses a (byte le h) = inr (le, inl (h, refl))
      seen_refuses a (line {k = k} p f r) = inr (p.size, inr (p.bytes, inl (k, f, r, refl)))
      seen_refuses a (many {f = f} p fr h) = inr (p.size, inr (p.bytes, inr (f, fr, inl (h, refl))))
      seen_refuses a (form {f = f} {i = i} p h) =
          inr (p.plain.size, inr (p.plain.bytes, inr (f, p.is_frame_of, inr (p.few, inl (i, h, refl)))))
      seen_refuses a (rule {f = f} forms p h e) =
          let last : Fifth text out f (leaves a out) = inr (forms, h, inl (a, e, refl)) in
          inr (p.plain.size, inr (p.plain.bytes, inr (f, p.is_frame_of, inr (p.few, last))))

      seen : (o : Outcome) → ReadsText text out o → First text out o
      seen o (spelled {d = d} le s) =
          let p = forms_named text d s in
          inr (
            le,
            inr (
              spelled_allowed text d s,
              inr (s.frame, s.is_frame_of, inr (p.is_few, inr (p.forms, p.spelled, inr (d, p.kept, s, refl)))),
            ),
          )
      seen o (refuses {a = a} r) = seen_refuses a r

      only_last : (f : Frame) (forms : List Form) (o p : Outcome) → Last text out f forms o → Last text out f forms p
          → o ≡ p
      only_last f forms o p (inl x) (inl y) =
          x.2 ∙ ap (λ (a : Answer). leaves a out) (some-injective x.0 y.0 (sym x.1 ∙ y.1))
          ∙ sym y.2
      only_last f forms o p (inl x) (inr y) = absurd (none-ne-some x.0 (sym y.1 ∙ x.1))
      only_last f forms o p (inr x) (inl y) = absurd (none-ne-some y.0 (sym x.1 ∙ y.1))
      only_last f forms o p (inr x) (inr y) =
          x.3 ∙ ap (λ (d : Description). delivered (stored d) out) (spelling_unique text x.0 y.0 x.2 y.2)
          ∙ sym y.3

      only_fifth : (f : Frame) (o p : Outcome) → Fifth text out f o → Fifth text out f p → o ≡ p
      only_fifth f o p (inl x) (inl y) =
          x.2
          ∙ ap (λ (i : ℕ). leaves (refused 5 (line_number f i)) out)
          (first_unique f.lines x.0 y.0 x.1 y.1)
          ∙ sym y.2
      only_fifth f o p (inl x) (inr y) = absurd (all_formed y.0 f.lines y.1 x.0 x.1)
      only_fifth f o p (inr x) (inl y) = absurd (all_formed x.0 f.lines x.1 y.0 y.1)
      only_fifth f o p (inr x) (inr y) =
          only_last f x.0 o p x.2
          (subst (λ (l : List Form). Last text out f l p) (forms_unique y.0 x.0 f.lines y.1 x.1) y.2)

      only_fourth : (f : Frame) (o p : Outcome) → Fourth text out f o → Fourth text out f p → o ≡ p
      only_fourth f o p (inl x) (inl y) = x.1 ∙ sym y.1
      only_fourth f o p (inl x) (inr y) = absurd (not_both (is_overfull f) x.0 y.0)
      only_fourth f o p (inr x) (inl y) = absurd (not_both (is_overfull f) y.0 x.0)
      only_fourth f o p (inr x) (inr y) = only_fifth f o p x.1 y.1

      only_third : (o p : Outcome) → Third text out o → Third text out p → o ≡ p
      only_third o p (inl x) (inl y) =
          x.3 ∙ ap (λ (p : ℕ). leaves (refused 3 p) out) (place_unique text x.0 y.0 x.2 y.2)
          ∙ sym y.3
      only_third o p (inl x) (inr y) = absurd (x.1 y.0 y.1)
      only_third o p (inr x) (inl y) = absurd (y.1 x.0 x.1)
      only_third o p (inr x) (inr y) =
          only_fourth x.0 o p x.2
          (subst (λ (f : Frame). Fourth text out f p) (frame_unique text y.0 x.0 y.1 x.1) y.2)

      only_second : (o p : Outcome) → Second text out o → Second text out p → o ≡ p
      only_second o p (inl x) (inl y) = x.1 ∙ sym y.1
      only_second o p (inl x) (inr y) = absurd (not_both (all is_allowed text) y.0 x.0)
      only_second o p (inr x) (inl y) = absurd (not_both (all is_allowed text) x.0 y.0)
      only_second o p (inr x) (inr y) = only_third o p x.1 y.1

      only_first_lem : (o p : Outcome) → First text out o → First text out p → o ≡ p
      only_first_lem o p (inl x) (inl y) = x.1 ∙ sym y.1
      only_first_lem o p (inl x) (inr y) = absurd (let a : text_most < length text = x.0 in let b = y.0 in omega arith)
      only_first_lem o p (inr x) (inl y) = absurd (let a : text_most < length text = y.0 in let b = x.0 in omega arith)
      only_first_lem o p (inr x) (inr y) = only_second o p x.1 y.1

    pub text_unique : TextUnique
    text_unique text out o p a b = only_first_lem text out o p (seen text out o a) (seen text out p b)
