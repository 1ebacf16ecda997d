-- A case holds where its test passes: a list of cases is then one computation.
use mathlib.Core.Path.{◌≡◌, refl, ap, sym, subst, ◌∙◌}
use mathlib.Core.Bool.{Bool, true, false, ◌&&◌, not, false≢true}
use mathlib.Core.Logic.{◌⊎◌, inl, inr}
use mathlib.Core.List.{List, [], ◌∷◌, ◌++◌}
use mathlib.Core.Option.{Option, none, some}
use Prim.Native.Nat.{ℕ, suc}
use lib.Dec.{eqb}
use lib.ListN.{length, get_or, drop}
use borrow.Author.Tests.{eqb-true, not-true}
use Rattle.base.specs.Lists.{all, same, is_none}
use Rattle.base.proofs.Lists.{every_passes, same_true}
use Rattle.base.proofs.Breaks.{and_true}
use Rattle.rules.specs.declared.Fault.{Fault}
use Rattle.rules.specs.Limits.{open_most}
use Rattle.rules.specs.Trees.{Tree}
use Rattle.rules.specs.Values.{Value, value, fault, evaluate}
use Rattle.rules.specs.Fields.{Description}
use Rattle.rules.specs.Within.{Within}
use Rattle.rules.specs.Stored.{stored, Good}
use Rattle.rules.specs.Editions.{current, uncounted}
use Rattle.rules.specs.Edits.{cut}
use Rattle.rules.specs.Expressions.{SpellsTree}
use Rattle.rules.specs.Lines.{Unresolved}
use Rattle.rules.specs.Frames.{is_frame}
use Rattle.rules.specs.Spelling.{Spells}
use Rattle.rules.specs.Refusals.{rule_broken, Refuses}
use Rattle.rules.specs.Reading.{Part, reading, part_in, part_bytes}
use Rattle.rules.specs.Answers.{Answer, fault_number}
use Rattle.rules.specs.Promises.{
  Outcome,
  leaves,
  delivered,
  not_good,
  by_table,
  ChecksTable,
  packet_outcome,
  moved_by,
  Lends,
  first_named,
  FindsField,
  label_by,
  LendsLabel,
  readers_answer,
  CountsReaders,
  ConvertsTable,
  cut_outcome,
  CutsFields,
  put_outcome,
  PutsFields,
  listing,
  ReadsText,
}
use Rattle.rules.specs.Cases.{
  Case,
  fits,
  reads,
  reads_each,
  prints,
  hands,
  finds,
  labels,
  read_by,
  cuts,
  puts,
  exceeds,
  values,
  faults,
  unspelled,
  spells,
  stores,
  checks,
  converts,
  unframed,
  breaks,
  keeps,
  refuses,
  answers,
  stands,
  lent_run,
  SpellsOnly,
  no_fields,
  Holds,
  AllHold,
}
use Rattle.laws.proofs.WithinTest.{is_within, within, outside}
use Rattle.laws.proofs.Unique.{stored_unique}
use Rattle.laws.proofs.GoodTest.{told_by, answer_in, table_told}
use Rattle.laws.proofs.Allowed.{good_stored, label_at, converted_in}
use Rattle.laws.proofs.EditsTold.{cut_told, by_cut, put_told, by_put}
use Rattle.laws.proofs.RuledOut.{answer_numbers, numbers, place_numbers}
use Rattle.text_laws.specs.Reader.{Out, fail, got, expr}
use Rattle.text_laws.proofs.ReaderUnique.{tree_unique, found_whole}
use Rattle.text_laws.proofs.ReaderExact.{exact}
use Rattle.cases.proofs.SameTree.{same_tree, same_tree_lem}
use Rattle.text_laws.proofs.TextSeen.{seen, Seen, is_seen, outcome_of, outcome_is}

-- ── equal by their numbers ──

abbrev pub answer_from : List ℕ → Answer
answer_from l = record { number = get_or l 0 0; place = get_or l 1 0; amount = get_or l 2 0 }

abbrev pub outcome_from : List ℕ → Outcome
outcome_from l = record { answer = answer_from l; buffer = drop 3 l }

abbrev pub part_from_lem : List ℕ → Part
part_from_lem l = record { start = get_or l 0 0; size = get_or l 1 0 }

answer_same : (a b : Answer) → same (answer_numbers a) (answer_numbers b) ≡ true → a ≡ b
answer_same a b h = ap answer_from (same_true _ _ h)

outcome_same : (o p : Outcome) → same (numbers o) (numbers p) ≡ true → o ≡ p
outcome_same o p h = ap outcome_from (same_true _ _ h)

part_same : (p q : Part) → same (place_numbers p) (place_numbers q) ≡ true → p ≡ q
part_same p q h = ap part_from_lem (same_true _ _ h)

-- ── expressions ──

abbrev pub read_whole : List ℕ → Out
read_whole s = expr (suc (length s)) 0 open_most s

abbrev pub is_tree : Tree (List ℕ) → Out → Bool
is_tree t fail = false
is_tree t (got u []) = same_tree u t
is_tree t (got u (b ∷ r)) = false

-- what the reader finds in a text is spelled by it, and nothing else is
found_only : (s : List ℕ) (t : Tree (List ℕ)) → is_tree t (read_whole s) ≡ true → SpellsOnly t s
found_only s t h =
    let p : SpellsTree Unresolved t s = (exact open_most s t).0 (go (read_whole s) h) in
    (p, λ (u : Tree (List ℕ)) q. tree_unique q p)
  where
    go : (o : Out) → is_tree t o ≡ true → o ≡ got t []
    go fail e = absurd (false≢true e)
    go (got u []) e = ap (λ (v : Tree (List ℕ)). got v []) (same_tree_lem u t e)
    go (got u (b ∷ r)) e = absurd (false≢true e)

abbrev pub is_whole : Out → Bool
is_whole fail = false
is_whole (got t []) = true
is_whole (got t (b ∷ r)) = false

-- where the reader finds no whole tree, none is spelled
none_found : (s : List ℕ) → is_whole (read_whole s) ≡ false → (u : Tree (List ℕ)) → SpellsTree Unresolved u s → ⊥
none_found s e u q = false≢true (sym e ∙ ap is_whole (found_whole q))

abbrev pub is_value_of : ℕ → Value → Bool
is_value_of n (value m) = eqb m n
is_value_of n (fault f) = false

value_of : (n : ℕ) (v : Value) → is_value_of n v ≡ true → v ≡ value n
value_of n (value m) h = ap value (eqb-true m n h)
value_of n (fault f) h = absurd (false≢true h)

abbrev pub is_fault_of : ℕ → Value → Bool
is_fault_of n (value m) = false
is_fault_of n (fault f) = eqb (fault_number f) n

fault_of_lem : (n : ℕ) (v : Value) → is_fault_of n v ≡ true → (f : Fault) × (v ≡ fault f) × (fault_number f ≡ n)
fault_of_lem n (value m) h = absurd (false≢true h)
fault_of_lem n (fault f) h = (f, refl, eqb-true (fault_number f) n h)

-- ── tables ──

-- what the table of a description gives is what the description gives
pub by_stored : {A : Type 0} (d : Description) → Within d → (f : Description → A) (e : A) (good : Dec (Good (stored d)))
    → by_table good f e ≡ f d
by_stored d w f e (yes g) = ap f (stored_unique current g.description d g.within w g.is_stored)
by_stored d w f e (no bad) = absurd (bad (good_stored d w))

checked : (table : List ℕ) (a : Answer)
    → same (answer_numbers a) (answer_numbers (answer_in current table)) ≡ true → ChecksTable table a
checked table a h good = answer_same a (answer_in current table) h ∙ table_told current table good

found_in : (d : Description) (name : List ℕ) (a : Answer) → Within d
    → same (answer_numbers a) (answer_numbers (first_named name 0 d.fields)) ≡ true → FindsField (stored d) name a
found_in d name a w h good =
    answer_same a (first_named name 0 d.fields) h ∙ sym (by_stored d w (λ c. first_named name 0 c.fields) _ good)

abbrev pub is_label_at : Description → ℕ → List ℕ → ℕ → Bool
is_label_at d i label start = same label (part_bytes (stored d) (label_at d i)) && eqb start (label_at d i).start

label_in_lem : (d : Description) (i : ℕ) (label : List ℕ) (start : ℕ) → Within d → is_label_at d i label start ≡ true
    → (from : ℕ × ℕ) → LendsLabel (stored d) i from label (moved_by start from)
unfolding label_by
label_in_lem d i label start w h from good =
    let p = and_true (same label (part_bytes (stored d) (label_at d i))) (eqb start (label_at d i).start) h in
    subst (λ (part : Part). Lends (stored d) from part label (moved_by start from))
    (sym (by_stored d w (λ c. label_at c i) _ good)) (record {
      content = same_true _ _ p.0;
      place = ap (λ (n : ℕ). moved_by n from) (eqb-true start (label_at d i).start p.1);
    })

readers_in_lem : (d : Description) (i : ℕ) (a : Answer) → Within d
    → same (answer_numbers a) (answer_numbers (readers_answer d.fields i)) ≡ true → CountsReaders (stored d) i a
readers_in_lem d i a w h good =
    answer_same a (readers_answer d.fields i) h ∙ sym (by_stored d w (λ c. readers_answer c.fields i) _ good)

converted : (table out : List ℕ) (o : Outcome) → same (numbers o) (numbers (converted_in table out)) ≡ true
    → ConvertsTable table out o
converted table out o h old =
    outcome_same o (converted_in table out) h
    ∙ told_by uncounted table (λ d. delivered (stored d) out) (leaves not_good out) old

cut_from : (d : Description) (first last : ℕ) (out : List ℕ) (o : Outcome) → Within d
    → same (numbers o) (numbers (cut_told first last d out)) ≡ true → CutsFields (stored d) first last out o
cut_from d first last out o w h good limited =
    outcome_same o (cut_told first last d out) h
    ∙ by_cut first last out d (limited (cut first last d))
    ∙ sym (by_stored d w (λ c. cut_outcome first last c (limited (cut first last c)) out) _ good)

put_into_lem : (d : Description) (at : ℕ) (bytes out : List ℕ) (o : Outcome) → Within d
    → same (numbers o) (numbers (put_told at bytes d out)) ≡ true → PutsFields (stored d) at bytes out o
put_into_lem d at bytes out o w h good joins =
    outcome_same o (put_told at bytes d out) h
    ∙ by_put at bytes out d (joins d)
    ∙ sym (by_stored d w (λ c. put_outcome at bytes c (joins c) out) _ good)

-- ── texts ──

abbrev pub is_answer : Answer → Option Answer → Bool
is_answer a none = false
is_answer a (some b) = same (answer_numbers b) (answer_numbers a)

answer_is : (a : Answer) (o : Option Answer) → is_answer a o ≡ true → o ≡ some a
answer_is a none h = absurd (false≢true h)
answer_is a (some b) h = ap some (answer_same b a h)

none_is : (o : Option Answer) → is_none o ≡ true → o ≡ none
none_is none h = refl
none_is (some a) h = absurd (false≢true h)

abbrev pub is_refused : Answer → Answer ⊎ Description → Bool
is_refused a (inl b) = same (answer_numbers b) (answer_numbers a)
is_refused a (inr d) = false

refused_by_lem : (text : List ℕ) (a : Answer) (s : Answer ⊎ Description) → Seen text s → is_refused a s ≡ true
    → Refuses text a
refused_by_lem text a (inl b) p h = subst (Refuses text) (answer_same b a h) p
refused_by_lem text a (inr d) p h = absurd (false≢true h)

abbrev pub is_spelled : Description → Answer ⊎ Description → Bool
is_spelled d (inl b) = false
is_spelled d (inr c) = is_within d && same (stored c) (stored d)

spelled_by : (text : List ℕ) (d : Description) (s : Answer ⊎ Description) → Seen text s → is_spelled d s ≡ true
    → Spells text d
spelled_by text d (inl b) p h = absurd (false≢true h)
spelled_by text d (inr c) p h =
    let q = and_true (is_within d) (same (stored c) (stored d)) h in
    subst (Spells text) (stored_unique current c d p.1.within (within d q.0) (same_true _ _ q.1)) p.1

-- ── the test of a case, and what it says ──

-- of what a case says of every number, no test is made
abbrev pub is_right : Case → Bool
is_right (fits d) = is_within d
is_right (reads d packet o) = is_within d && same (numbers (packet_outcome d packet lent_run)) (numbers o)
is_right (reads_each d packet o) = false
is_right (prints d packet text) = is_within d && same (listing d packet) text
is_right (hands d packet i part) =
    is_within d && same (place_numbers (part_in (reading d packet) i)) (place_numbers part)
is_right (finds d name a) =
    is_within d && same (answer_numbers a) (answer_numbers (first_named name 0 d.fields))
is_right (labels d i label start) = is_within d && is_label_at d i label start
is_right (read_by d i a) = is_within d && same (answer_numbers a) (answer_numbers (readers_answer d.fields i))
is_right (cuts d first last out o) = is_within d && same (numbers o) (numbers (cut_told first last d out))
is_right (puts d at bytes out o) = is_within d && same (numbers o) (numbers (put_told at bytes d out))
is_right (exceeds d) = not (is_within d)
is_right (values s t n) = is_tree t (read_whole s) && is_value_of n (evaluate no_fields t)
is_right (faults s t n) = is_tree t (read_whole s) && is_fault_of n (evaluate no_fields t)
is_right (unspelled s) = not (is_whole (read_whole s))
is_right (spells text d) = is_spelled d (seen text)
is_right (stores d table) = is_within d && same (stored d) table
is_right (checks table a) = same (answer_numbers a) (answer_numbers (answer_in current table))
is_right (converts table out o) = same (numbers o) (numbers (converted_in table out))
is_right (unframed f) = not (is_frame f)
is_right (breaks f forms a) = is_frame f && is_answer a (rule_broken f forms)
is_right (keeps f forms) = is_frame f && is_none (rule_broken f forms)
is_right (refuses text a) = is_refused a (seen text)
is_right (answers text out o) = same (numbers (outcome_of (seen text) out)) (numbers o)
is_right (stands a b) = same (answer_numbers a) (answer_numbers b)

both : {P Q : Type 0} (a b : Bool) → (a ≡ true → P) → (b ≡ true → Q) → a && b ≡ true → P × Q
both a b f g h = let e = and_true a b h in (f e.0, g e.1)

-- the description is within the limits, and more
fitting : {P : Type 0} (d : Description) (b : Bool) → (Within d → b ≡ true → P) → is_within d && b ≡ true → Within d × P
fitting d b f h = let e = and_true (is_within d) b h in (within d e.0, f (within d e.0) e.1)

pub right : (c : Case) → is_right c ≡ true → Holds c
right (fits d) h = within d h
right (reads d packet o) h = fitting d _ (λ w e. outcome_same _ _ e) h
right (reads_each d packet o) h = absurd (false≢true h)
right (prints d packet text) h = fitting d _ (λ w e. same_true _ _ e) h
right (hands d packet i part) h = fitting d _ (λ w e. part_same _ _ e) h
right (finds d name a) h = fitting d _ (λ w e. found_in d name a w e) h
right (labels d i label start) h = fitting d _ (λ w e. label_in_lem d i label start w e) h
right (read_by d i a) h = fitting d _ (λ w e. readers_in_lem d i a w e) h
right (cuts d first last out o) h = fitting d _ (λ w e. cut_from d first last out o w e) h
right (puts d at bytes out o) h = fitting d _ (λ w e. put_into_lem d at bytes out o w e) h
right (exceeds d) h = outside d (not-true (is_within d) h)
right (values s t n) h = both _ _ (found_only s t) (value_of n (evaluate no_fields t)) h
right (faults s t n) h =
    let e = and_true (is_tree t (read_whole s)) (is_fault_of n (evaluate no_fields t)) h in
    let f = fault_of_lem n (evaluate no_fields t) e.1 in
    (found_only s t e.0, f.0, f.1, f.2)
right (unspelled s) h = none_found s (not-true (is_whole (read_whole s)) h)
right (spells text d) h = spelled_by text d (seen text) (is_seen text) h
right (stores d table) h = fitting d _ (λ w e. same_true _ _ e) h
right (checks table a) h = checked table a h
right (converts table out o) h = converted table out o h
right (unframed f) h = not-true (is_frame f) h
right (breaks f forms a) h = both _ _ (λ e. e) (answer_is a (rule_broken f forms)) h
right (keeps f forms) h = both _ _ (λ e. e) (none_is (rule_broken f forms)) h
right (refuses text a) h = refused_by_lem text a (seen text) (is_seen text) h
right (answers text out o) h = subst (ReadsText text out) (outcome_same _ _ h) (outcome_is text out)
right (stands a b) h = answer_same a b h

pub all_right : (cs : List Case) → all is_right cs ≡ true → AllHold cs
all_right = every_passes is_right right

-- one list behind the other
pub in_order : (cs ds : List Case) → AllHold cs → AllHold ds → AllHold (cs ++ ds)
in_order [] ds p q = q
in_order (c ∷ cs) ds p q = (p.0, in_order cs ds p.1 q)
