-- What a text is, computed: the answer of its refusal, or the description that it spells.
use mathlib.Core.Path.{◌≡◌, refl, sym, subst, ◌∙◌}
use mathlib.Core.Bool.{Bool, true, false}
use mathlib.Core.Logic.{◌⊎◌, inl, inr}
use mathlib.Core.List.{List, [], ◌∷◌}
use mathlib.Core.Option.{Option, none, some, none-ne-some}
use Prim.Native.Nat.{ℕ, zero, suc, ◌≤◌, ◌<◌}
use native.Mathlib.Omega.{arith}
use lib.Dec.{ltb}
use lib.ListN.{length}
use borrow.Author.Tests.{ltb-true, ltb-false}
use Rattle.base.specs.Lists.{all, Each}
use Rattle.rules.specs.Limits.{text_most}
use Rattle.rules.specs.Names.{is_allowed}
use Rattle.rules.specs.Fields.{Form, Description}
use Rattle.rules.specs.Stored.{stored}
use Rattle.rules.specs.Editions.{Edition, current}
use Rattle.rules.specs.Lines.{SpellsFieldIn, SpellsField, Unresolved}
use Rattle.rules.specs.Frames.{Frame, FrameOf, is_overfull, line_number}
use Rattle.rules.specs.Spelling.{Spells}
use Rattle.rules.specs.Answers.{Answer, refused}
use Rattle.rules.specs.Refusals.{FormlessIn, FirstFormlessIn, rule_broken, Plain, Framed, Refuses}
use Rattle.rules.specs.Refusals.{long, byte, line, many, form, rule}
use Rattle.rules.specs.Promises.{Outcome, leaves, delivered, ReadsText, spelled, refuses}
use Rattle.text_laws.specs.LineReader.{read_form}
use Rattle.text_laws.specs.FrameReader.{right_lines, read_frame, place_of}
use Rattle.text_laws.specs.Resolving.{described}
use Rattle.text_laws.proofs.FormExact.{form_sound, form_complete}
use Rattle.text_laws.proofs.FrameExact.{frame_sound, frame_none}
use Rattle.text_laws.proofs.FrameRight.{right_lines_lem}
use Rattle.text_laws.proofs.FramePlace.{place_right}
use Rattle.text_laws.proofs.Resolve.{resolved_spells}

-- ── the forms of lines ──

-- one more line in front
abbrev pub and_forms : Option Form → ℕ ⊎ List Form → ℕ ⊎ List Form
and_forms none r = inl 0
and_forms (some x) (inl i) = inl (suc i)
and_forms (some x) (inr xs) = inr (x ∷ xs)

-- the index of the first line without a form, or all forms
unfoldable pub forms_of : List (List ℕ) → ℕ ⊎ List Form
forms_of [] = inr []
forms_of (l ∷ ls) = and_forms (read_form l) (forms_of ls)

-- what they are by an edition, of one line and of all
abbrev pub LineIn : Edition → List ℕ → Option Form → Type 0
LineIn e l none = FormlessIn e l
LineIn e l (some x) = SpellsFieldIn Unresolved e x l

abbrev pub FormedIn : Edition → List (List ℕ) → ℕ ⊎ List Form → Type 0
FormedIn e ls (inl i) = FirstFormlessIn e ls i
FormedIn e ls (inr forms) = Each (SpellsFieldIn Unresolved e) forms ls

pub one_more : (e : Edition) (l : List ℕ) (ls : List (List ℕ)) (o : Option Form) (r : ℕ ⊎ List Form) → LineIn e l o
    → FormedIn e ls r → FormedIn e (l ∷ ls) (and_forms o r)
one_more e l ls none r h p = record { there = omega arith; formless = h; earlier = λ j lt. absurd (omega arith) }
one_more e l ls (some x) (inl i) h p = record {
  there = (let lt : i < length ls = p.there in omega arith);
  formless = p.formless;
  earlier = elim [ zero ↦ λ lt f. f x h | suc j ↦ λ lt f. p.earlier j (omega arith) f ];
}
one_more e l ls (some x) (inr xs) h p = (h, p)

pub line_read : (l : List ℕ) (o : Option Form) → read_form l ≡ o → LineIn current l o
line_read l none e = λ x p. none-ne-some x (sym e ∙ form_complete l x p)
line_read l (some x) e = form_sound l x e

formed : (ls : List (List ℕ)) → FormedIn current ls (forms_of ls)
unfolding forms_of
formed [] = tt
formed (l ∷ ls) = one_more current l ls (read_form l) (forms_of ls) (line_read l (read_form l) refl) (formed ls)

-- ── the text, one stage after the other ──

abbrev by_rules : Frame → List Form → Option Answer → Answer ⊎ Description
by_rules f forms (some a) = inl a
by_rules f forms none = inr (described f forms)

abbrev by_forms : Frame → ℕ ⊎ List Form → Answer ⊎ Description
by_forms f (inl i) = inl (refused 5 (line_number f i))
by_forms f (inr forms) = by_rules f forms (rule_broken f forms)

abbrev by_count : Frame → Bool → Answer ⊎ Description
by_count f true = inl (refused 4 0)
by_count f false = by_forms f (forms_of f.lines)

abbrev by_frame : List ℕ → Option Frame → Answer ⊎ Description
by_frame text none = inl (refused 3 (place_of text))
by_frame text (some f) = by_count f (is_overfull f)

abbrev by_bytes : List ℕ → Bool → Answer ⊎ Description
by_bytes text true = by_frame text (read_frame text)
by_bytes text false = inl (refused 2 0)

abbrev by_length : List ℕ → Bool → Answer ⊎ Description
by_length text true = inl (refused 1 0)
by_length text false = by_bytes text (all is_allowed text)

unfoldable pub seen : List ℕ → Answer ⊎ Description
seen text = by_length text (ltb text_most (length text))

-- ── what is computed is so ──

abbrev pub Seen : List ℕ → Answer ⊎ Description → Type 0
Seen text (inl a) = Refuses text a
Seen text (inr d) = (length text ≤ text_most) × Spells text d

rules_seen : (text : List ℕ) (f : Frame) (forms : List Form) → Framed text f
    → Each (SpellsField Unresolved) forms f.lines → (o : Option Answer) → rule_broken f forms ≡ o
    → Seen text (by_rules f forms o)
rules_seen text f forms p h (some a) e = rule forms p h e
rules_seen text f forms p h none e =
    (p.plain.size, resolved_spells text f forms p.is_frame_of p.few h e)

forms_seen : (text : List ℕ) (f : Frame) → Framed text f → (r : ℕ ⊎ List Form) → FormedIn current f.lines r
    → Seen text (by_forms f r)
forms_seen text f p (inl i) h = form p h
forms_seen text f p (inr forms) h = rules_seen text f forms p h (rule_broken f forms) refl

count_seen : (text : List ℕ) (f : Frame) → Plain text → FrameOf text f → (b : Bool) → is_overfull f ≡ b
    → Seen text (by_count f b)
count_seen text f p h true e = many p h e
count_seen text f p h false e =
    forms_seen text f (record { plain = p; is_frame_of = h; few = e }) (forms_of f.lines) (formed f.lines)

frame_seen : (text : List ℕ) → Plain text → (o : Option Frame) → read_frame text ≡ o → Seen text (by_frame text o)
frame_seen text p none e =
    let r = right_lines_lem text in
    subst (λ (n : ℕ). Refuses text (refused 3 n)) (place_right text (right_lines text) r)
    (line p (frame_none text e) r)
frame_seen text p (some f) e = count_seen text f p (frame_sound text f e) (is_overfull f) refl

bytes_seen : (text : List ℕ) → length text ≤ text_most → (b : Bool) → all is_allowed text ≡ b
    → Seen text (by_bytes text b)
bytes_seen text le true e = frame_seen text (record { size = le; bytes = e }) (read_frame text) refl
bytes_seen text le false e = byte le e

length_seen : (text : List ℕ) (b : Bool) → ltb text_most (length text) ≡ b → Seen text (by_length text b)
length_seen text true e = long (ltb-true text_most (length text) e)
length_seen text false e = bytes_seen text (ltb-false text_most (length text) e) (all is_allowed text) refl

pub is_seen : (text : List ℕ) → Seen text (seen text)
unfolding seen
is_seen text = length_seen text (ltb text_most (length text)) refl

-- ── with an output ──

abbrev pub outcome_of : Answer ⊎ Description → List ℕ → Outcome
outcome_of (inl a) out = leaves a out
outcome_of (inr d) out = delivered (stored d) out

outcome_seen : (text out : List ℕ) (s : Answer ⊎ Description) → Seen text s → ReadsText text out (outcome_of s out)
outcome_seen text out (inl a) p = refuses p
outcome_seen text out (inr d) p = spelled p.0 p.1

pub outcome_is : (text out : List ℕ) → ReadsText text out (outcome_of (seen text) out)
outcome_is text out = outcome_seen text out (seen text) (is_seen text)
