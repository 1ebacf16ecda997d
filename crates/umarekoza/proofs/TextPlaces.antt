-- The place of a text's answer fits 32 bits: it is at most one more than the fields and the bytes that a text may have.
use mathlib.Core.Path.{ap}
use mathlib.Core.Bool.{Bool, true, false, cond}
use mathlib.Core.List.{List, [], ◌∷◌, ◌++◌}
use mathlib.Core.Option.{Option, none, some, map}
use Prim.Native.Nat.{ℕ, suc, ◌+◌, ◌<◌, ◌≤◌}
use native.Mathlib.Omega.{arith}
use lib.Dec.{ltb, eqb}
use lib.ListN.{length, length-append}
use borrow.Author.Tests.{ltb-false}
use Rattle.base.specs.Lists.{joined, first_break, or_else}
use Rattle.base.proofs.Lists.{or_false_left, or_false_right}
use Rattle.base.proofs.Lookups.{each_length}
use Rattle.rules.specs.Limits.{text_most, fields_most}
use Rattle.rules.specs.Names.{line_feed}
use Rattle.rules.specs.Fields.{Form}
use Rattle.rules.specs.Stored.{stored}
use Rattle.rules.specs.Lines.{SpellsField, Unresolved}
use Rattle.rules.specs.Within.{keeps_size, keeps_names, keeps_types, keeps_rest, name_readable}
use Rattle.rules.specs.Frames.{Frame, head_lines, ended, frame_text, FrameOf, line_number, Slot, cells}
use Rattle.rules.specs.Spelling.{shows, mismatch}
use Rattle.rules.specs.Answers.{Answer, refused, accepted}
use Rattle.rules.specs.Refusals.{
  line_count,
  rule_broken,
  Framed,
  Refuses,
  long,
  byte,
  line,
  many,
  form,
  rule,
}
use Rattle.rules.specs.Promises.{Outcome, leaves, overlaid, delivered, ReadsText, spelled, refuses}
use Rattle.text_laws.proofs.WrongPlaces.{wrong_low}

-- ── lines ──

lines_low : (ls : List (List ℕ)) → length ls ≤ length (joined ended ls)
unfolding joined
lines_low [] = omega arith
lines_low (l ∷ ls) =
    omega (
      arith,
      lines_low ls,
      length-append (l ++ (line_feed ∷ [])) (joined ended ls),
      length-append l (line_feed ∷ []),
    )

frame_low : (text : List ℕ) (f : Frame) → FrameOf text f → length (head_lines f) ≤ length text
unfolding frame_text
frame_low text f h =
    let e = ap length h.is_text in
    omega (arith, e, lines_low (head_lines f ++ f.lines), length-append (head_lines f) f.lines)

count_low : (text : List ℕ) → line_count text ≤ length text
unfolding line_count
count_low [] = omega arith
count_low (b ∷ t) = go (eqb b line_feed) (count_low t)
  where
    go : (x : Bool) → line_count t ≤ length t → cond x (suc (line_count t)) (line_count t) ≤ suc (length t)
    go true h = omega arith
    go false h = omega arith

-- ── an index, or an answer, if any ──

abbrev IfAny : {A : Type 0} → (A → Type 0) → Option A → Type 0
IfAny P none = Unit {0}
IfAny P (some a) = P a

record Below (m : ℕ) (i : Option ℕ) : Type 0 where
  is : IfAny (λ n. n ≤ m) i

record Low (m : ℕ) (a : Option Answer) : Type 0 where
  is : IfAny (λ x. x.place ≤ m) a

break_low : {A : Type 0} (keeps : List A → A → Bool) (m : ℕ) (before l : List A) → length before + length l ≤ m
    → Below m (first_break keeps before l)
unfolding first_break
break_low keeps m before [] h = record { is = tt }
break_low {A} keeps m before (x ∷ l) h =
    go (keeps before x)
    (break_low keeps m (before ++ (x ∷ [])) l (omega (arith, h, length-append before (x ∷ []))))
  where
    go : (b : Bool) → Below m (first_break keeps (before ++ (x ∷ [])) l)
        → Below m (cond b (first_break keeps (before ++ (x ∷ [])) l) (some (length before)))
    go true q = q
    go false q = record { is = omega (arith, h) }

mismatch_low : (m i : ℕ) (cs : List Slot) (fs : List Form) → i + length cs ≤ m → Below m (mismatch i cs fs)
unfolding mismatch
mismatch_low m i [] [] h = record { is = tt }
mismatch_low m i [] (f ∷ fs) h = record { is = omega (arith, h) }
mismatch_low m i (c ∷ cs) [] h = record { is = omega (arith, h) }
mismatch_low m i (c ∷ cs) (f ∷ fs) h = go (shows c f) (mismatch_low m (suc i) cs fs (omega (arith, h)))
  where
    go : (b : Bool) → Below m (mismatch (suc i) cs fs) → Below m (cond b (mismatch (suc i) cs fs) (some i))
    go true q = q
    go false q = record { is = omega (arith, h) }

or_low : (m : ℕ) (a b : Option Answer) → Low m a → Low m b → Low m (or_else a b)
or_low m none b p q = record { is = q.is }
or_low m (some a) b p q = record { is = p.is }

place_low : (f : Frame) (m number : ℕ) (i : Option ℕ) → Below m i
    → Low (suc (length (head_lines f)) + m) (map (λ n. refused number (line_number f n)) i)
place_low f m number none h = record { is = tt }
place_low f m number (some i) h = record { is = omega (arith, h.is) }

-- ── rules ──

rules_low : (f : Frame) (forms : List Form) (m : ℕ) → length (cells f) ≤ m → length forms ≤ m
    → Low (suc (length (head_lines f)) + m) (rule_broken f forms)
unfolding rule_broken
rules_low f forms m p q =
    or_low _ _ _ (place_low f m 6 _ (break_low keeps_size m [] forms (omega (arith, q))))
    (or_low _ _ _ (place_low f m 7 _ (mismatch_low m 0 (cells f) forms (omega (arith, p))))
    (or_low _ _ _ (place_low f m 8 _ (break_low keeps_names m [] forms (omega (arith, q))))
    (or_low _ _ _ (place_low f m 9 _ (break_low (keeps_types name_readable) m [] forms (omega (arith, q))))
    (place_low f m 10 _ (break_low keeps_rest m [] forms (omega (arith, q)))))))

-- ── the promise ──

abbrev most : ℕ
most = 1 + fields_most + text_most

framed_low : (text : List ℕ) (f : Frame) → Framed text f
    → (length (head_lines f) ≤ text_most) × (length (cells f) ≤ fields_most) × (length f.lines ≤ fields_most)
framed_low text f h =
    let head = frame_low text f h.is_frame_of in (
      omega (arith, head, h.plain.size),
      ltb-false fields_most _ (or_false_left (ltb fields_most (length (cells f))) _ h.few),
      ltb-false fields_most _ (or_false_right (ltb fields_most (length (cells f))) _ h.few),
    )

refuses_low : (text : List ℕ) (a : Answer) → Refuses text a → a.place ≤ most
refuses_low text a (long h) = omega arith
refuses_low text a (byte h k) = omega arith
refuses_low text a (line {k = k} p q r) =
    let low = wrong_low k r.begins.frame in
    omega (arith, low, r.there, count_low text, p.size)
refuses_low text a (many p q r) = omega arith
refuses_low text a (form {f = f} p q) =
    let l = framed_low text f p in
    omega (arith, q.there, l.0, l.2)
refuses_low text a (rule {f = f} forms p q r) =
    let l = framed_low text f p in
    let s = rules_low f forms fields_most l.1 (omega (
      arith,
      l.2,
      each_length (SpellsField Unresolved) forms f.lines q,
    )) in
    let t : Low (suc (length (head_lines f)) + fields_most) (some a) = rw r at s in
    omega (arith, t.is, l.0)

delivered_low : (w out : List ℕ) → (delivered w out).answer.place ≤ most
unfolding delivered
delivered_low w out = go (ltb (length out) (length w))
  where
    go : (b : Bool)
        → (cond b (leaves (refused 11 0) out) (leaves (accepted (length w)) (overlaid w out))).answer.place ≤ most
    go true = omega arith
    go false = omega arith

outcome_low : (text out : List ℕ) (o : Outcome) → ReadsText text out o → o.answer.place ≤ most
outcome_low text out o (spelled {d = d} le s) = delivered_low (stored d) out
outcome_low text out o (refuses {a = a} r) = refuses_low text a r

-- the place of an answer that keeps the promise
pub text_place_low : (text out : List ℕ) (a : Answer) (after : List ℕ) → ReadsText text out (leaves a after)
    → a.place < 4294967296
text_place_low text out a after h = omega (arith, outcome_low text out (leaves a after) h)
