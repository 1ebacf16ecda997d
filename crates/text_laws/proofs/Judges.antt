-- Field lines, one at a time: the lowest refusal so far and the fields, by the forms of the lines.
use mathlib.Core.Path.{◌≡◌, refl, ap, sym, ◌∙◌}
use mathlib.Core.Bool.{Bool, true, false}
use mathlib.Core.List.{List, [], ◌∷◌, ◌++◌}
use mathlib.Core.Option.{Option, none, some}
use Prim.Native.Nat.{ℕ, zero, suc, ◌+◌, ◌≤◌, ◌<◌}
use native.Mathlib.Omega.{arith}
use lib.ListN.{length, length-append, get_or, get_or-append}
use borrow.Author.Tests.{lt-ltb, lt-leb, ne_eqb}
use Rattle.base.specs.Lists.{Each, first_break}
use Rattle.base.proofs.Lookups.{each_length, each_joined}
use Rattle.rules.specs.Answers.{Answer, refused}
use Rattle.rules.specs.Limits.{fields_most}
use Rattle.rules.specs.Fields.{Form}
use Rattle.rules.specs.Within.{keeps_size, keeps_names, keeps_types, keeps_rest, name_readable}
use Rattle.rules.specs.Lines.{SpellsField, Unresolved}
use Rattle.rules.specs.Frames.{Slot}
use Rattle.rules.specs.Refusals.{Formless, FirstFormless}
use Rattle.text_laws.specs.LineReader.{read_form}
use Rattle.text_laws.proofs.FormExact.{form_sound, form_complete}
use Rattle.text_laws.specs.Lowest.{lower, broken, staged}
use Rattle.text_laws.specs.Judging.{faces, shows_cell, rules, Judged, is_open, is_many, is_full, with_rules}
use Rattle.text_laws.specs.Judging.{with_form, judge}
use Rattle.text_laws.proofs.Lowests.{Above, above_less, lower_stays, lower_takes, break_more}
use Rattle.text_laws.proofs.Lowests.{broken_above, staged_above, staged_more, staged_none, staged_some}
use Rattle.text_laws.proofs.Faces.{same_broken}
use Rattle.text_laws.proofs.Resolved.{folded, folded_faces, folded_more}

-- ── forms of lines ──

abbrev pub Spelled : List Form → List (List ℕ) → Type 0
Spelled forms lines = Each (SpellsField Unresolved) forms lines

no_form : (l : List ℕ) → read_form l ≡ none → Formless l
no_form l e x h =
    let q = form_complete l x h in
    let z : ◌≡◌ {A = ℕ} 0 1 = cc in absurd (omega arith)

get_d_end : (lines : List (List ℕ)) (l : List ℕ) → get_or (lines ++ (l ∷ [])) (length lines) [] ≡ l
get_d_end [] l = refl
get_d_end (m ∷ lines) l = get_d_end lines l

-- a line of which there are forms has one
formed_at : (forms : List Form) (lines : List (List ℕ)) → Spelled forms lines → (i : ℕ) → i < length lines
    → Formless (get_or lines i []) → ⊥
formed_at [] [] h i lt f = absurd (omega arith)
formed_at [] (l ∷ lines) h i lt f = absurd h
formed_at (x ∷ forms) [] h i lt f = absurd h
formed_at (x ∷ forms) (l ∷ lines) h zero lt f = f x h.0
formed_at (x ∷ forms) (l ∷ lines) h (suc i) lt f = formed_at forms lines h.1 i (omega arith) f

-- the first line without a form stays the first
formless_more : (lines : List (List ℕ)) (l : List ℕ) (i : ℕ) → FirstFormless lines i
    → FirstFormless (lines ++ (l ∷ [])) i
formless_more lines l i h =
    let lt : i < length lines = h.there in
    let n = length-append lines (l ∷ []) in
    record {
      there = omega (arith, n);
      formless = rw (get_or-append lines (l ∷ []) [] i lt) h.formless;
      earlier = λ j less f. h.earlier j less (rw (get_or-append lines (l ∷ []) [] j (omega arith)) at f);
    }

-- behind lines that have forms
formless_new : (forms : List Form) (lines : List (List ℕ)) (l : List ℕ) → Spelled forms lines → Formless l
    → FirstFormless (lines ++ (l ∷ [])) (length lines)
formless_new forms lines l h f =
    let n = length-append lines (l ∷ []) in
    record {
      there = omega (arith, n);
      formless = rw (get_d_end lines l) f;
      earlier = λ j less g. formed_at forms lines h j less (rw (get_or-append lines (l ∷ []) [] j less) at g);
    }

-- ── what is kept of field lines; p is the number of the first ──

pub data Judges (cells : List Slot) (p : ℕ) (lines : List (List ℕ)) (j : Judged) : Type 0 where
  -- every line has a form of the right size: the fields are those of the forms
  all_kept : (forms : List Form) → Spelled forms lines → first_break keeps_size [] forms ≡ none
      → j.fields ≡ folded [] forms → j.lowest ≡ staged 6 p (rules cells) forms → Judges cells p lines j
  -- every line has a form, and the first over size has the index i
  over_size : {i : ℕ} (forms : List Form) → Spelled forms lines → first_break keeps_size [] forms ≡ some i
      → j.lowest ≡ some (refused 6 (p + i)) → Judges cells p lines j
  -- the first line without a form has the index i
  no_form_at : {i : ℕ} → FirstFormless lines i → j.lowest ≡ some (refused 5 (p + i)) → Judges cells p lines j

-- no line as yet
pub judges_none : (cells : List Slot) (p : ℕ) (j : Judged) → j.fields ≡ [] → j.lowest ≡ none
    → Judges cells p [] j
unfolding first_break staged folded
judges_none cells p j e f = all_kept [] tt refl e f

pub none_judges : (cells : List Slot) (p : ℕ) (j : Judged) → Judges cells p [] j
    → (j.fields ≡ []) × (j.lowest ≡ none)
unfolding first_break staged folded
none_judges cells p j (all_kept [] h s e f) = (e, f)
none_judges cells p j (all_kept (x ∷ forms) h s e f) = absurd h
none_judges cells p j (over_size [] h s f) = absurd (let z : ◌≡◌ {A = ℕ} 0 1 = cc in omega arith)
none_judges cells p j (over_size (x ∷ forms) h s f) = absurd h
none_judges cells p j (no_form_at h f) = absurd (let lt = h.there in omega arith)

-- ── numbers ──

-- 7 to 10
abbrev later_rules : List Slot → List (List Form → Form → Bool)
later_rules cells = shows_cell cells ∷ keeps_names ∷ keeps_types name_readable ∷ keeps_rest ∷ []

-- the rules behind 6 have numbers above it
sized_above : (cells : List Slot) (p : ℕ) (forms : List Form) → first_break keeps_size [] forms ≡ none
    → Above 7 (staged 6 p (rules cells) forms)
sized_above cells p forms e =
    rw (staged_none 6 p keeps_size (later_rules cells) forms e) (staged_above 7 p (later_rules cells) forms)

pub judges_above : (cells : List Slot) (p : ℕ) (lines : List (List ℕ)) (j : Judged) → Judges cells p lines j
    → Above 5 j.lowest
judges_above cells p lines j (all_kept forms h s e f) =
    rw f (above_less 5 6 (omega arith) (staged 6 p (rules cells) forms) (staged_above 6 p (rules cells) forms))
judges_above cells p lines j (over_size forms h s f) = rw f (let z : 5 ≤ 6 = omega arith in z)
judges_above cells p lines j (no_form_at h f) = rw f (let z : 5 ≤ 5 = omega arith in z)

above_open : (o : Option Answer) → Above 7 o → is_open o ≡ true
above_open none h = refl
above_open (some a) h = lt-ltb 6 a.number (omega arith)

above_few : (o : Option Answer) → Above 5 o → is_many o ≡ false
above_few none h = refl
above_few (some a) h = ne_eqb a.number 4 (λ e. absurd (omega arith))

-- ── one more line ──

module _ (cells : List Slot) (p : ℕ) (lines : List (List ℕ)) (j : Judged) (l : List ℕ) where
  abbrev More : Judged → Type 0
  More q = Judges cells p (lines ++ (l ∷ [])) q

  formless : read_form l ≡ none → Judges cells p lines j → More (with_form cells (p + length lines) j none)
  unfolding with_form
  formless n (all_kept forms h s e f) = no_form_at (formless_new forms lines l h (no_form l n))
      (rw f (lower_takes 6 (refused 5 (p + length lines)) (staged 6 p (rules cells) forms)
      (staged_above 6 p (rules cells) forms) (omega arith)))
  formless n (over_size {i = i} forms h s f) = no_form_at (formless_new forms lines l h (no_form l n))
      (rw f (lower_takes 6 (refused 5 (p + length lines)) (some (refused 6 (p + i))) (omega arith) (omega arith)))
  formless n (no_form_at {i = i} h f) = no_form_at (formless_more lines l i h)
      (rw f (lower_stays 5 (refused 5 (p + i)) (some (refused 5 (p + length lines))) (omega arith) (omega arith)))

  formed : (x : Form) → SpellsField Unresolved x l → Judges cells p lines j
      → More (with_form cells (p + length lines) j (some x))
  unfolding with_form
  formed x h (no_form_at {i = i} g f) = no_form_at (formless_more lines l i g)
      (rw f (lower_stays 6 (refused 5 (p + i)) (broken 6 (p + length lines) (rules cells) (faces j.fields) x)
      (broken_above 6 (p + length lines) (rules cells) (faces j.fields) x) (omega arith)))
  formed x h (over_size {i = i} forms g s f) =
      over_size {i = i} (forms ++ (x ∷ [])) (each_joined (SpellsField Unresolved) forms lines g (x ∷ []) (l ∷ [])
      (h, tt))
      (rw (break_more keeps_size forms x, s) refl)
      (rw f (lower_stays 6 (refused 6 (p + i)) (broken 6 (p + length lines) (rules cells) (faces j.fields) x)
      (broken_above 6 (p + length lines) (rules cells) (faces j.fields) x) (omega arith)))
  formed x h (all_kept forms g s e f) = go (keeps_size forms x) refl
    where
      here : Option Answer
      here = lower j.lowest (broken 6 (p + length lines) (rules cells) (faces j.fields) x)

      seen : faces j.fields ≡ faces forms
      seen = ap faces e ∙ folded_faces [] forms

      lowest_is : here ≡ staged 6 p (rules cells) (forms ++ (x ∷ []))
      lowest_is =
          rw (
            f,
            seen,
            same_broken cells (p + length lines) forms x,
            ← each_length (SpellsField Unresolved) forms lines g,
          )
          (sym (staged_more 6 p (rules cells) forms x))

      spelled : Spelled (forms ++ (x ∷ [])) (lines ++ (l ∷ []))
      spelled = each_joined (SpellsField Unresolved) forms lines g (x ∷ []) (l ∷ []) (h, tt)

      go : (b : Bool) → keeps_size forms x ≡ b → More (with_rules j x here)
      go true k =
          let size : first_break keeps_size [] (forms ++ (x ∷ [])) ≡ none =
          rw (break_more keeps_size forms x, s, k) refl in
          let open_still : is_open here ≡ true =
          above_open here (rw lowest_is (sized_above cells p (forms ++ (x ∷ [])) size)) in
          all_kept (forms ++ (x ∷ [])) spelled size (rw open_still (folded_more forms x j.fields e)) lowest_is
      go false k =
          let size : first_break keeps_size [] (forms ++ (x ∷ [])) ≡ some (length forms) =
          rw (break_more keeps_size forms x, s, k) refl in
          over_size {i = length forms} (forms ++ (x ∷ [])) spelled size
          (lowest_is ∙ staged_some 6 p keeps_size (later_rules cells) (forms ++ (x ∷ [])) (length forms) size)

  pub judges_more : length lines < fields_most → j.count ≡ length lines → Judges cells p lines j
      → More (judge cells (p + length lines) j l)
  unfolding judge
  judges_more lt c h =
      let few : is_full j ≡ false =
      rw (above_few j.lowest (judges_above cells p lines j h), c, lt-leb fields_most (length lines) lt) refl in
      rw few (go (read_form l) refl)
    where
      go : (o : Option Form) → read_form l ≡ o → More (with_form cells (p + length lines) j o)
      go none n = formless n h
      go (some x) n = formed x (form_sound l x n) h

  -- a field line is counted
  pub judge_count : length lines < fields_most → j.count ≡ length lines → Judges cells p lines j
      → (judge cells (p + length lines) j l).count ≡ suc (length lines)
  unfolding judge with_form
  judge_count lt c h =
      let few : is_full j ≡ false =
      rw (above_few j.lowest (judges_above cells p lines j h), c, lt-leb fields_most (length lines) lt) refl in
      rw few (go (read_form l))
    where
      go : (o : Option Form) → (with_form cells (p + length lines) j o).count ≡ suc (length lines)
      go none = ap suc c
      go (some x) = ap suc c
