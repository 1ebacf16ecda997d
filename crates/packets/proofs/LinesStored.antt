-- The lines that are written for a stored description's fields are those of the listing.
use mathlib.Core.Path.{◌≡◌, refl, sym, ap}
use mathlib.Core.Bool.{true, false≢true}
use mathlib.Core.List.{List, [], ◌∷◌, ◌++◌, append_assoc}
use mathlib.Core.Option.{none}
use Prim.Native.Nat.{ℕ, suc, ◌+◌, ◌-◌, ◌<◌, ◌≤◌}
use native.Mathlib.Omega.{arith}
use native.Mathlib.Nat.{add-zero}
use lib.Dec.{eqb}
use lib.ListN.{length, get_or, take, drop}
use lib.Seq.{take_at}
use borrow.Author.Tests.{le-ltb}
use Rattle.base.specs.Lists.{all, joined, first_break}
use Rattle.laws.specs.Places.{Stands}
use Rattle.laws.proofs.Places.{stands_left, stands_right, stands_some}
use Rattle.base.proofs.Breaks.{first_break_cons}
use Rattle.rules.specs.Names.{is_label}
use Rattle.rules.specs.Fields.{Width, fixed, measured, rest, Field, is_fixed, is_fixed_width}
use Rattle.rules.specs.Within.{keeps_form, keeps_size}
use Rattle.rules.specs.Stored.{kind_number, stored_field, records, records_in}
use Rattle.rules.specs.Reading.{Entry, absent}
use Rattle.rules.specs.Listing.{entry_line, entry_lines, lines_text}
use Rattle.laws.proofs.ReadsFields.{label_length, formed_parts}
use Rattle.rules.specs.Limits.{label_most}
use Rattle.packets.specs.declared.records.Parts.{Parts}
use Rattle.packets.specs.Parts.{table_most, ending, parts_at}
use Rattle.packets.specs.PartsStand.{PartsStand}
use Rattle.packets.specs.LineTexts.{entry_in, state_text, line_text, lines_from}
use Rattle.packets.proofs.RecordLaws.{record_parts}
use Rattle.packets.proofs.FieldBounds.{field_bounds}

-- the kind that is stored says whether a field is fixed
kind_fixed : (w : Width ℕ) → eqb (kind_number w) 12 ≡ is_fixed_width w
kind_fixed (fixed n) = refl
kind_fixed (measured u t) = refl
kind_fixed rest = refl

-- a label that stands in a part is inside the table
pub label_inside : (s : List ℕ) (at end : ℕ) (l : List ℕ) → is_label l ≡ true → Stands s at l end → end ≤ length s
unfolding is_label all
label_inside s at end [] h p = absurd (false≢true h)
label_inside s at end (x ∷ l) h p = stands_some s at end x l p

line_stored : (s : List ℕ) (p : Parts) (run : List ℕ) (i : ℕ) (f : Field ℕ) (e : Entry) → is_label f.label ≡ true
    → PartsStand s p f → entry_in run i ≡ e → line_text s p run i ≡ entry_line f e ++ (10 ∷ [])
unfolding line_text state_text
line_stored s p run i f e h q r =
    let l = q.label in
    let n : p.label.len ≡ length f.label = omega (arith, l.end) in
    let le = label_length f.label h in
    let inside = label_inside s p.label.at (ending p.label) f.label h l in
    let t : take p.label.len (drop p.label.at s) ≡ f.label
    = rw l.text (take_at f.label (drop (ending p.label) s) p.label.len (sym n)) in
    let k : eqb p.kind 12 ≡ is_fixed f = rw q.kind (kind_fixed f.width) in
    rw (
      le-ltb label_most p.label.len (omega arith),
      le-ltb (length s) p.label.at (omega arith),
      le-ltb (length s - p.label.at) p.label.len (omega arith),
      t,
      k,
      ← r,
    )
    (simp append_assoc)

pub lines_stored : (numbers : ℕ → ℕ) (m : ℕ) (s run : List ℕ) (fs : List (Field ℕ)) (es : List Entry)
    (before : List (Field ℕ)) (i place end : ℕ) (r : List ℕ)
    → first_break keeps_form before fs ≡ none → first_break keeps_size before fs ≡ none
    → length es ≡ length fs → end ≤ table_most → Stands s place (records numbers m fs ++ r) end
    → ((k : ℕ) → k < length es → entry_in run (i + k) ≡ get_or es k absent)
    → lines_from s run i (length fs) place ≡ lines_text (entry_lines fs es)
unfolding lines_from lines_text entry_lines joined records_in
lines_stored numbers m s run [] [] before i place end r hf hs n le p q = refl
lines_stored numbers m s run [] (e ∷ es) before i place end r hf hs n le p q = absurd (omega arith)
lines_stored numbers m s run (f ∷ fs) [] before i place end r hf hs n le p q = absurd (omega arith)
lines_stored numbers m s run (f ∷ fs) (e ∷ es) before i place end r hf hs n le p q =
    let kf = first_break_cons keeps_form before f fs hf in
    let ks = first_break_cons keeps_size before f fs hs in
    let here = stored_field (numbers m) f in
    let p' : Stands s place (here ++ (records numbers (suc m) fs ++ r)) end
    = rw (append_assoc here (records numbers (suc m) fs) r) at p in
    let b = field_bounds f kf.0 ks.0 in
    let w = record_parts s place (place + length here) (numbers m) f b (stands_left s place end _ _ p') in
    let more = stands_right s place end here _ p' in
    let label = (formed_parts f kf.0).0 in
    let first : entry_in run i ≡ e = rw add-zero at (q 0 (omega arith)) in
    let ih = lines_stored numbers (suc m) s run fs es (before ++ (f ∷ [])) (i + 1) (place + length here) end r
    kf.1 ks.1 (omega arith) le more (λ k lt. next k lt) in
    rw (
      le-ltb table_most place (omega (arith, p.end)),
      line_stored s (parts_at s place) run i f e label w.0 first,
      w.1,
    )
    (ap (λ (t : List ℕ). (entry_line f e ++ (10 ∷ [])) ++ t) ih)
  where
    next : (k : ℕ) → k < length es → entry_in run (i + 1 + k) ≡ get_or es k absent
    next k lt =
        let m : i + 1 + k ≡ i + suc k = omega arith in
        rw m (q (suc k) (omega arith))
