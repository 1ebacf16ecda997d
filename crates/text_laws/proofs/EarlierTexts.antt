-- A text that is not refused for what a narrower edition lacks keeps its outcome in a wider one, and each text has an
-- outcome by every edition that is narrower than the one in force. [02, R-7] [02, R-10]
use mathlib.Core.Path.{◌≡◌, refl, sym, subst, ◌∙◌}
use mathlib.Core.Bool.{Bool, true, false, false≢true}
use mathlib.Core.Logic.{◌⊎◌, inl, inr}
use mathlib.Core.List.{List, [], ◌∷◌}
use mathlib.Core.Option.{Option, none, some}
use Prim.Native.Nat.{ℕ}
use native.Mathlib.Omega.{arith}
use lib.Dec.{ltb}
use lib.ListN.{length, get_or}
use borrow.Author.Tests.{ltb-false, le-ltb}
use Rattle.base.specs.Lists.{Each}
use Rattle.base.proofs.Lists.{or_false_left, or_false_right}
use Rattle.base.proofs.Lookups.{none_breaks, each_left, each_length}
use Rattle.rules.specs.Editions.{Edition, current, earlier}
use Rattle.rules.specs.declared.Op.{Op}
use Rattle.rules.specs.Fields.{Form, Description}
use Rattle.rules.specs.Lines.{SpellsFieldIn, Unresolved}
use Rattle.rules.specs.Within.{knows_all_in, keeps_operators_in, WithinIn}
use Rattle.rules.specs.Stored.{stored_in}
use Rattle.rules.specs.Frames.{Frame, FrameOfIn, FrameOf, cells, line_number, is_overfull_in}
use Rattle.rules.specs.Spelling.{NameOf, SpellsIn}
use Rattle.rules.specs.Refusals.{RightLinesIn, wrong_line, FirstFormlessIn, rule_broken, Plain, FramedIn, RefusesIn}
use Rattle.rules.specs.Refusals.{Refuses, long, byte, line, many, form, rule}
use Rattle.rules.specs.Answers.{Answer, refused}
use Rattle.rules.specs.Promises.{Outcome, leaves, delivered, ReadsTextIn, spelled, refuses, ReadsText}
use Rattle.rules.specs.Results.{TextAnswersStay, EarlierTextTotal}
use Rattle.laws.proofs.OperatorLaws.{Widens, field_known}
use Rattle.laws.proofs.Earlier.{within_by, within_more, AlikeStored, stored_like, earlier_widens, earlier_alike}
use Rattle.text_laws.specs.LineReader.{read_form}
use Rattle.text_laws.specs.Resolving.{resolve, described}
use Rattle.text_laws.proofs.RowEditions.{Draws, frame_of_more, lines_like}
use Rattle.text_laws.proofs.AllowedTexts.{spelled_allowed}
use Rattle.text_laws.proofs.FormExact.{form_unique}
use Rattle.text_laws.proofs.NamedFields.{NamedField}
use Rattle.text_laws.proofs.NamedRules.{same_known}
use Rattle.text_laws.proofs.NamedTypes.{rules_kept}
use Rattle.text_laws.proofs.Resolve.{resolved_named, resolved_spells}
use Rattle.text_laws.proofs.TextSeen.{and_forms, LineIn, FormedIn, one_more, line_read}
use Rattle.text_laws.proofs.TextResults.{text_total}

pub spells_by : (a b : Edition) (text : List ℕ) (d : Description) → (s : SpellsIn a text d)
    → FrameOfIn b text s.frame → WithinIn b d → SpellsIn b text d
spells_by a b text d s framed within = record {
  within = within;
  frame = s.frame;
  is_frame_of = framed;
  name = s.name;
  row = s.row;
  shown = s.shown;
  lines = s.lines;
}

-- ── forms of lines by editions of which one knows the operators of the other ──

module _ (a b : Edition) (knows : (o : Op) → a.knows o ≡ true → b.knows o ≡ true) where
  pub form_more : (x : Form) (l : List ℕ) → SpellsFieldIn Unresolved a x l → SpellsFieldIn Unresolved b x l
  form_more x l h = record { formed = h.formed; operators = field_known a b knows x h.operators; line = h.line }

  pub forms_more : (forms : List Form) (lines : List (List ℕ)) → Each (SpellsFieldIn Unresolved a) forms lines
      → Each (SpellsFieldIn Unresolved b) forms lines
  forms_more [] [] h = tt
  forms_more [] (l ∷ lines) h = absurd h
  forms_more (x ∷ forms) [] h = absurd h
  forms_more (x ∷ forms) (l ∷ lines) h = (form_more x l h.0, forms_more forms lines h.1)

-- and if both know the same, the same line is the first without a form
pub formless_like : (a b : Edition) → ((o : Op) → a.knows o ≡ true → b.knows o ≡ true)
    → ((o : Op) → b.knows o ≡ true → a.knows o ≡ true) → (lines : List (List ℕ)) (i : ℕ)
    → FirstFormlessIn b lines i → FirstFormlessIn a lines i
formless_like a b knows back lines i q = record {
  there = q.there;
  formless = λ x h. q.formless x (form_more a b knows x (get_or lines i []) h);
  earlier = λ j lt n. q.earlier j lt (λ x h. n x (form_more b a back x (get_or lines j []) h));
}

-- ── from a narrower edition to a wider one ──

module _ (a b : Edition) (wide : Widens a b) where
  few_more : (n : ℕ) → ltb a.fields n ≡ false → ltb b.fields n ≡ false
  few_more n e = le-ltb b.fields n (omega (arith, ltb-false a.fields n e, wide.fields))

  pub frame_more : (f : Frame) → is_overfull_in a f ≡ false → is_overfull_in b f ≡ false
  frame_more f e =
      let c = ltb a.fields (length (cells f)) in
      let l = ltb a.fields (length f.lines) in
      rw (few_more (length (cells f)) (or_false_left c l e), few_more (length f.lines) (or_false_right c l e)) refl

  module _ (text : List ℕ) (frames : (f : Frame) → FrameOfIn a text f → FrameOfIn b text f) where
    framed_more : (f : Frame) → FramedIn a text f → FramedIn b text f
    framed_more f w = record {
      plain = w.plain;
      is_frame_of = frames f w.is_frame_of;
      few = frame_more f w.few;
    }

    -- where a line is wrong by the narrower edition, a frame overfull, or a line has no form, the wider one has to say
    -- the same of it
    pub refuses_more : (x : Answer) → RefusesIn a text x
        → ((k : ℕ) → x.number ≡ 3 → Plain text → ((f : Frame) → FrameOfIn a text f → ⊥) → (r : RightLinesIn a text k)
        → RefusesIn b text (refused 3 (wrong_line k r.begins.frame)))
        → ((f : Frame) → x.number ≡ 4 → is_overfull_in a f ≡ true → is_overfull_in b f ≡ true)
        → ((lines : List (List ℕ)) (i : ℕ) → x.number ≡ 5 → FirstFormlessIn a lines i → FirstFormlessIn b lines i)
        → RefusesIn b text x
    refuses_more x (long h) wrong over same = long h
    refuses_more x (byte h e) wrong over same = byte h e
    refuses_more x (line {k} p q r) wrong over same = wrong k refl p q r
    refuses_more x (many {f} p q r) wrong over same = many p (frames f q) (over f refl r)
    refuses_more x (form {f} {i} w q) wrong over same = form (framed_more f w) (same f.lines i refl q)
    refuses_more x (rule {f} forms w q r) wrong over same =
        rule forms (framed_more f w) (forms_more a b wide.knows forms f.lines q) r

    pub text_more : AlikeStored a b → (out : List ℕ) (o : Outcome) → ReadsTextIn a text out o
        → ((k : ℕ) → o.answer.number ≡ 3 → Plain text → ((f : Frame) → FrameOfIn a text f → ⊥)
        → (r : RightLinesIn a text k) → RefusesIn b text (refused 3 (wrong_line k r.begins.frame)))
        → ((f : Frame) → o.answer.number ≡ 4 → is_overfull_in a f ≡ true → is_overfull_in b f ≡ true)
        → ((lines : List (List ℕ)) (i : ℕ) → o.answer.number ≡ 5 → FirstFormlessIn a lines i
        → FirstFormlessIn b lines i)
        → ReadsTextIn b text out o
    text_more alike out o (spelled {d} le s) wrong over same =
        subst (λ (l : List ℕ). ReadsTextIn b text out (delivered l out)) (sym (stored_like a b wide alike d))
        (spelled le (spells_by a b text d s (frames s.frame s.is_frame_of)
        (within_more a b wide d s.within)))
    text_more alike out o (refuses r) wrong over same = refuses (refuses_more o.answer r wrong over same)

earlier_draws : Draws earlier current
earlier_draws = record { rows = omega arith; lines = omega arith }

drawn_earlier : Draws current earlier
drawn_earlier = record { rows = omega arith; lines = omega arith }

pub text_answers_stay : TextAnswersStay
text_answers_stay text out o p ne =
    text_more earlier current earlier_widens text (frame_of_more earlier current earlier_draws text) earlier_alike out o
    p
    (λ k e. lines_like earlier current earlier_draws drawn_earlier text k) (λ f e h. absurd (ne e))
    (λ lines i e q. formless_like current earlier (λ o h. h) (λ o h. h) lines i q)

-- ── each text has an outcome by an edition that allows less ──

module _ (e : Edition) (wide : Widens e current) where
  -- the form of a line, if it has only operators that the edition knows
  line_known : (l : List ℕ) (o : Option Form) → LineIn current l o → (q : Option Form) × LineIn e l q
  line_known l none h = (none, λ x p. h x (form_more e current wide.knows x l p))
  line_known l (some x) h = go (knows_all_in e x) refl
    where
      go : (b : Bool) → knows_all_in e x ≡ b → (q : Option Form) × LineIn e l q
      go true k = (some x, record { formed = h.formed; operators = k; line = h.line })
      go false k = (
        none,
        λ y p.
            let same : y ≡ x = form_unique l y x (form_more e current wide.knows y l p) h in
            false≢true (sym k ∙ subst (λ (z : Form). knows_all_in e z ≡ true) same p.operators),
      )

  lines_known : (ls : List (List ℕ)) → (r : ℕ ⊎ List Form) × FormedIn e ls r
  lines_known [] = (inr [], tt)
  lines_known (l ∷ ls) =
      let q = line_known l (read_form l) (line_read l (read_form l) refl) in
      let r = lines_known ls in
      (and_forms q.0 r.0, one_more e l ls q.0 r.0 q.1 r.1)

module _ (e : Edition) (wide : Widens e current) (less : Draws e current) (rows : Draws current e)
    (text out : List ℕ) where
  -- resolved fields have the operators of their forms
  forms_spelled : (f : Frame) → FramedIn e text f → (forms : List Form)
      → Each (SpellsFieldIn Unresolved e) forms f.lines → rule_broken f forms ≡ none
      → SpellsIn e text (described f forms)
  forms_spelled f w forms h kept =
      let R = NameOf (resolve forms) in
      let s = resolved_spells text f forms (frame_of_more e current less text f w.is_frame_of)
      (frame_more e current wide f w.few)
      (forms_more e current wide.knows forms f.lines h) kept in
      let named = resolved_named forms (rules_kept f forms kept).types in
      let known = same_known R e (resolve forms) forms named
      ∙ none_breaks (keeps_operators_in e) [] forms
      (λ b i x g. (each_left (SpellsFieldIn Unresolved e) forms f.lines h i x g).2.operators) in
      let n = each_length (NamedField R) (resolve forms) forms named in
      let m = each_length (SpellsFieldIn Unresolved e) forms f.lines h in
      let most = ltb-false e.fields (length f.lines)
      (or_false_right (ltb e.fields (length (cells f))) (ltb e.fields (length f.lines)) w.few) in
      spells_by current e text (described f forms) s (frame_of_more current e rows text s.frame s.is_frame_of)
      (within_by current e (described f forms) s.within (omega (arith, n, m, most)) known)

  by_rules_lem : (f : Frame) → FramedIn e text f → (forms : List Form)
      → Each (SpellsFieldIn Unresolved e) forms f.lines → (o : Option Answer) → rule_broken f forms ≡ o
      → (p : Outcome) × ReadsTextIn e text out p
  by_rules_lem f w forms h (some a) k = (leaves a out, refuses (rule forms w h k))
  by_rules_lem f w forms h none k =
      (delivered (stored_in e (described f forms)) out, spelled w.plain.size (forms_spelled f w forms h k))

  by_forms_lem : (f : Frame) → FramedIn e text f → (r : ℕ ⊎ List Form) → FormedIn e f.lines r
      → (p : Outcome) × ReadsTextIn e text out p
  by_forms_lem f w (inl i) h = (leaves (refused 5 (line_number f i)) out, refuses (form w h))
  by_forms_lem f w (inr forms) h = by_rules_lem f w forms h (rule_broken f forms) refl

  by_frame_lem : (f : Frame) → Plain text → FrameOfIn e text f → (p : Outcome) × ReadsTextIn e text out p
  by_frame_lem f p q = go (is_overfull_in e f) refl
    where
      go : (b : Bool) → is_overfull_in e f ≡ b → (p : Outcome) × ReadsTextIn e text out p
      go true k = (leaves (refused 4 0) out, refuses (many p q k))
      go false k =
          let r = lines_known e wide f.lines in
          by_forms_lem f (record { plain = p; is_frame_of = q; few = k }) r.0 r.1

  back : (f : Frame) → FrameOf text f → FrameOfIn e text f
  back f h = frame_of_more current e rows text f h

  refused_total : (x : Answer) → Refuses text x → (p : Outcome) × ReadsTextIn e text out p
  refused_total x (long h) = (leaves x out, refuses (long h))
  refused_total x (byte h k) = (leaves x out, refuses (byte h k))
  refused_total x (line {k} p q r) =
      (leaves x out, refuses (lines_like current e rows less text k p q r))
  refused_total x (many {f} p q r) = by_frame_lem f p (back f q)
  refused_total x (form {f} w q) = by_frame_lem f w.plain (back f w.is_frame_of)
  refused_total x (rule {f} forms w q r) = by_frame_lem f w.plain (back f w.is_frame_of)

  total : (o : Outcome) → ReadsText text out o → (p : Outcome) × ReadsTextIn e text out p
  total o (spelled {d} le s) =
      by_frame_lem s.frame (record { size = le; bytes = spelled_allowed text d s }) (back s.frame s.is_frame_of)
  total o (refuses r) = refused_total o.answer r

pub total_less : (e : Edition) → Widens e current → Draws e current → Draws current e
    → (text out : List ℕ) → (p : Outcome) × ReadsTextIn e text out p
total_less e wide less rows text out = let o = text_total text out in total e wide less rows text out o.0 o.1

pub earlier_text_total : EarlierTextTotal
earlier_text_total text out = total_less earlier earlier_widens earlier_draws drawn_earlier text out
