-- The rules 7 to 10 of a line, by what the code tests of it.
use mathlib.Core.Path.{◌≡◌, refl, ap, sym, ◌∙◌, subst}
use mathlib.Core.Bool.{Bool, true, false, cond, ◌&&◌, ◌||◌, not}
use mathlib.Core.List.{List, [], ◌∷◌, ◌++◌}
use mathlib.Core.Option.{none, some, some-injective}
use Prim.Native.Nat.{ℕ, zero, suc, ◌+◌}
use native.Mathlib.Omega.{arith}
use lib.ListN.{length, get_elem?, length-map}
use Rattle.std.specs.Prelude.{is_none as code_none}
use Rattle.base.specs.Lists.{all, any, if_any, is_none}
use Rattle.base.proofs.Lists.{and_left, and_right}
use Rattle.rules.specs.Answers.{refused}
use Rattle.rules.specs.Names.{is_short}
use Rattle.rules.specs.Fields.{Field, Form, is_fixed, is_rest}
use Rattle.rules.specs.Within.{is_formed, clash, keeps_names, keeps_types, keeps_rest, name_readable}
use Rattle.text_laws.specs.LineReader.{read_form}
use Rattle.text_laws.specs.Lowest.{broken}
use Rattle.text_laws.specs.Judging.{face, faces, shows_cell}
use Rattle.text_laws.specs.Fold as fold
use Rattle.text_laws.specs.Steady.{is_kept, Steady}
use Rattle.text_laws.proofs.FormExact.{form_sound}
use Rattle.texts.specs.Kinds as kind
use Rattle.texts.specs.HeldNames.{Names}
use Rattle.texts.specs.HeldNames.{any_clash}
use Rattle.texts.specs.HeldParts.{LineBytes, PartsHeld}
use Rattle.texts.specs.Resolved.{types_kept}
use Rattle.texts.specs.States.{later_note, NamedWith, Counts}
use Rattle.texts.specs.declared.line_parts.Parts.{Parts}
use Rattle.texts.specs.declared.states.Reading.{Reading}
use Rattle.texts.proofs.HeldArrays.{snoc_each, element_last, named_front}
use Rattle.laws.proofs.ReadsFields.{formed_names}
use Rattle.texts.proofs.HeldClashes.{NamesFormed, clash_any}
use Rattle.texts.proofs.HeldNames.{types_here}
use Rattle.texts.proofs.LineRules.{fixed_kind_lem, none_held}
use Rattle.texts.proofs.LineTypes.{ShortNames, spelled_short}

-- ── names that have their form ──

kept_formed : (l : List (Field ℕ)) → all is_kept l ≡ true → (i : ℕ) (y : Form) → get_elem? (faces l) i ≡ some y
    → NamesFormed y
unfolding all
kept_formed [] h i y e = absurd (let z : ◌≡◌ {A = ℕ} 0 1 = cc in omega arith)
kept_formed (x ∷ l) h zero y e =
    subst NamesFormed (some-injective (face x) y e)
    (formed_names x (and_left (is_formed x) _ (and_left (is_kept x) (all is_kept l) h)))
kept_formed (x ∷ l) h (suc i) y e = kept_formed l (and_right (is_kept x) (all is_kept l) h) i y e

module _ (f : fold.Found) (steady : Steady f) (line : List ℕ) (x : Form) (is_form : read_form line ≡ some x) where
  pub fields_formed : (i : ℕ) (y : Form) → get_elem? (faces f.judged.fields) i ≡ some y → NamesFormed y
  fields_formed = kept_formed f.judged.fields steady.small.judged.formed

  pub form_formed : NamesFormed x
  form_formed = formed_names x (form_sound line x is_form).formed

  pub all_formed : (i : ℕ) (y : Form) → get_elem? (faces f.judged.fields ++ (x ∷ [])) i ≡ some y
      → if_any is_short y.short ≡ true
  all_formed i y e =
      (snoc_each (λ j z. NamesFormed z) (faces f.judged.fields) x fields_formed form_formed i y e).1

  pub form_short : ShortNames x
  form_short = spelled_short x line (form_sound line x is_form)

  module _ (r : Reading) (counts : Counts f r) {labels : List (List ℕ)} {names : Names}
      (named : NamedWith f x labels names) where
    abbrev pub before : List Form
    before = faces f.judged.fields

    count_is : length before ≡ r.fields
    count_is = length-map f.judged.fields face ∙ sym counts.fields

    -- 8
    pub names_here : any_clash labels names.shorts names.words r.fields ≡ any (clash x) before
    names_here =
        let front = named_front before x named in
        let e : get_elem? (before ++ (x ∷ [])) (length before) ≡ some x = element_last before x in
        subst (λ (n : ℕ). any_clash labels names.shorts names.words n ≡ any (clash x) before) count_is
        (clash_any before x labels names form_formed (named.label (length before) x e, named.name (length before) x e)
        fields_formed (λ i y z. (front.label i y z, front.name i y z)))

    -- 9
    pub types_are : types_kept names r.fields x ≡ keeps_types name_readable before x
    types_are =
        subst (λ (n : ℕ). types_kept names n x ≡ keeps_types name_readable before x) count_is
        (types_here before x names all_formed named.name form_short)

  -- 10
  pub rest_is : (names : Names) (n : ℕ) (v : LineBytes) (p : Parts) → PartsHeld names n line x v p
      → (any is_rest (faces f.judged.fields) && not (kind.is_fixed p.width && code_none p.condition))
      ≡ not (keeps_rest (faces f.judged.fields) x)
  rest_is names n v p is =
      rw (
        fixed_kind_lem names n x.width p.width v.width is.width,
        none_held names n x.condition p.condition v.condition is.condition,
      )
      (go (any is_rest (faces f.judged.fields)) (is_fixed x && is_none x.condition))
    where
      go : (a b : Bool) → (a && not b) ≡ not (not a || b)
      go true true = refl
      go true false = refl
      go false b = refl

pub not_flip : (b : Bool) {c : Bool} → not b ≡ c → b ≡ not c
not_flip true e = ap not e
not_flip false e = ap not e

-- ── the first that is broken ──

module _ (f : fold.Found) (r : Reading) (x : Form) (counts : Counts f r) where
  here : r.lines + 1 ≡ suc f.lines
  here = let e = counts.lines in omega (arith, e)

  module _ (a b c d : Bool) (shown : shows_cell f.cells (faces f.judged.fields) x ≡ a)
      (unique : keeps_names (faces f.judged.fields) x ≡ b)
      (typed : keeps_types name_readable (faces f.judged.fields) x ≡ c)
      (rested : keeps_rest (faces f.judged.fields) x ≡ d) where
    pub later_is : later_note f x
        ≡ cond a (cond b (cond c (cond d none (some (refused 10 (r.lines + 1)))) (some (refused 9 (r.lines + 1))))
        (some (refused 8 (r.lines + 1)))) (some (refused 7 (r.lines + 1)))
    unfolding broken
    later_is = rw (shown, unique, typed, rested, here) refl
