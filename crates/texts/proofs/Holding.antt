-- What the code writes of one field line stands in for the field that the fold keeps: the step of the code's invariant.
-- The code writes `indexed names n x`, with names held by value; the fold keeps `resolved_in fields x`.
use mathlib.Core.Path.{◌≡◌, refl, ap, ap₂, sym, ◌∙◌}
use mathlib.Core.Bool.{true}
use mathlib.Core.List.{List, [], ◌∷◌, ◌++◌}
use mathlib.Core.Option.{Option, none, some}
use Prim.Native.Nat.{ℕ}
use lib.ListN.{length, length-map, get_elem?}
use Rattle.base.specs.Lists.{if_any, first_break}
use Rattle.rules.specs.Answers.{Answer}
use Rattle.rules.specs.Names.{is_short}
use Rattle.rules.specs.Fields.{Width, fixed, measured, rest, Field, Form}
use Rattle.rules.specs.Within.{keeps_names, keeps_types, name_readable}
use Rattle.rules.specs.Frames.{Slot}
use Rattle.texts.specs.HeldNames.{Names, HeldAs}
use Rattle.texts.specs.Resolved.{indexed}
use Rattle.text_laws.specs.Resolving.{index_of, rename_width}
use Rattle.texts.proofs.LineTypes.{ShortNames}
use Rattle.text_laws.specs.Lowest.{lower, broken}
use Rattle.text_laws.specs.Judging.{face_width, face, faces, resolved_in, rules, Judged, is_open}
use Rattle.text_laws.specs.Judging.{with_form}
use Rattle.text_laws.proofs.Steadiness.{rules_clear, lower_right, unique_more}
use Rattle.text_laws.specs.Steady.{StandIn, Clear}
use Rattle.text_laws.proofs.Faces.{renamed_face}
use Rattle.text_laws.proofs.Loose.{lower_left, faces_append}
use Rattle.texts.proofs.HeldNames.{record_here}

-- ── a line with the form x, of which the code writes the record ──

indexed_width : (g : List ℕ → ℕ) (v : Width (List ℕ)) → face_width (rename_width g v) ≡ face_width v
indexed_width g (fixed n) = refl
indexed_width g (measured u t) = refl
indexed_width g rest = refl

indexed_face : (names : Names) (n : ℕ) (x : Form) → face (indexed names n x) ≡ face x
indexed_face names n x = rw (indexed_width _ x.width) refl

-- fs are the fields that the code has written so far, and names the held ones, with those of x at its index
module _ (cells : List Slot) (p : ℕ) (j : Judged) (fs : List (Field ℕ)) (stands : StandIn j fs) (clear : Clear j)
    (x : Form) (names : Names) (short : ShortNames x)
    (formed : (i : ℕ) (y : Form) → get_elem? (faces fs ++ (x ∷ [])) i ≡ some y → if_any is_short y.short ≡ true)
    (held : (i : ℕ) (y : Form) → get_elem? (faces fs ++ (x ∷ [])) i ≡ some y → HeldAs names i y) where
  abbrev pub here : Option Answer
  here = lower j.lowest (broken 6 p (rules cells) (faces j.fields) x)

  -- the code's next field
  abbrev pub next : Field ℕ
  next = indexed names (length fs) x

  -- where nothing is refused it is the fold's
  next_is : here ≡ none → next ≡ resolved_in fs x
  next_is e =
      let k = rules_clear cells p (faces j.fields) x
      (lower_right j.lowest (broken 6 p (rules cells) (faces j.fields) x) e) in
      let u : first_break keeps_names [] (faces fs) ≡ none =
      ap (first_break keeps_names []) stands.seen
      ∙ clear (lower_left j.lowest (broken 6 p (rules cells) (faces j.fields) x) e) in
      let names_kept : keeps_names (faces fs) x ≡ true = rw stands.seen k.0 in
      let types_kept_lem : keeps_types name_readable (faces fs) x ≡ true = rw stands.seen k.1 in
      ap (λ (n : ℕ). indexed names n x) (sym (length-map fs face))
      ∙ record_here (faces fs) x names formed held short (unique_more (faces fs) x u names_kept) types_kept_lem

  -- it stands in behind the line, where the fold keeps the line's field
  pub writes : is_open here ≡ true → StandIn (with_form cells p j (some x)) (fs ++ (next ∷ []))
  unfolding with_form
  writes o = record {
    seen = rw o
        (faces_append fs next
        ∙ ap₂ {C = List Form} (λ (l : List Form) (y : Form). l ++ (y ∷ [])) stands.seen
        (indexed_face names (length fs) x ∙ sym (renamed_face (index_of (faces j.fields ++ (x ∷ []))) x))
        ∙ sym (faces_append j.fields (resolved_in j.fields x)));
    exact = λ e.
        let same : fs ≡ j.fields =
        stands.exact (lower_left j.lowest (broken 6 p (rules cells) (faces j.fields) x) e) in
        rw o (ap₂ {C = List (Field ℕ)} (λ (l : List (Field ℕ)) (f : Field ℕ). l ++ (f ∷ [])) same
        (next_is e ∙ ap (λ (l : List (Field ℕ)). resolved_in l x) same));
  }
