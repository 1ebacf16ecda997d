-- The lines of fields, written one behind the other.
use mathlib.Core.Path.{◌≡◌, refl, sym, ap}
use mathlib.Core.Bool.{Bool, true, false, cond, ◌||◌}
use mathlib.Core.List.{List, [], ◌∷◌, ◌++◌, append_assoc, append-nil}
use Prim.Native.Nat.{ℕ, zero, suc, ◌+◌, ◌*◌, ◌-◌, ◌≤◌}
use native.Mathlib.Omega.{arith}
use lib.Dec.{ltb, eqb}
use lib.ListN.{length, take, drop, length-append, length-take}
use borrow.Author.Tests.{ltb-false}
use Rattle.base.specs.Bytes.{bytes}
use Rattle.rules.specs.Limits.{fields_most, label_most}
use Rattle.packets.specs.declared.records.Parts.{Parts}
use Rattle.packets.specs.Parts.{table_most, parts_at}
use Rattle.writing.specs.Writes.{Writes}
use Rattle.rules.specs.Listing.{refused_line, bits_line}
use Rattle.writing.specs.Fits.{Fits}
use Rattle.std.specs.List.{enumerate_from}
use Rattle.packets.specs.Lookups.{records_from}
use Rattle.packets.specs.LineTexts.{entry_in, state_text, line_text, lines_from, line_most, listing_most}
use Rattle.packets.proofs.WriteLaws.{digits_length, state_length}

pub line_length : (s : List ℕ) (p : Parts) (run : List ℕ) (i : ℕ) → length (line_text s p run i) ≤ line_most
unfolding line_text
line_length s p run i = go (ltb label_most p.label.len) refl (ltb (length s) p.label.at || ltb
    (length s - p.label.at) p.label.len)
  where
    text : List ℕ
    text =
        take p.label.len (drop p.label.at s)
        ++ (bytes ":" ++ (state_text (eqb p.kind 12) (entry_in run i) ++ bytes "\n"))

    go : (a : Bool) → ltb label_most p.label.len ≡ a → (b : Bool) → length (cond (a || b) [] text) ≤ line_most
    go true e b = omega arith
    go false e true = omega arith
    go false e false =
        let q = state_length (eqb p.kind 12) (entry_in run i) in
        let l = length-take p.label.len (drop p.label.at s) in
        simp length-append (omega (arith, q, l, ltb-false label_most p.label.len e))

-- as many lines as there are fields
pub lines_length : (s run : List ℕ) (i n place : ℕ) → length (lines_from s run i n place) ≤ line_most * n
unfolding lines_from
lines_length s run i zero place = omega arith
lines_length s run i (suc n) place = go (ltb table_most place) (lines_length s run (i + 1) n (parts_at s place).next)
  where
    line : List ℕ
    line = line_text s (parts_at s place) run i

    more : List ℕ
    more = lines_from s run (i + 1) n (parts_at s place).next

    go : (b : Bool) → length more ≤ line_most * n → length (cond b [] (line ++ more)) ≤ line_most * suc n
    go true ih = omega arith
    go false ih = omega (arith, length-append line more, line_length s (parts_at s place) run i)

-- the lines of some records with their indexes
abbrev pub texts : List ℕ → List ℕ → List (ℕ × Parts) → List ℕ
texts s run [] = []
texts s run (e ∷ es) = line_text s e.1 run e.0 ++ texts s run es

pub texts_more : (s run : List ℕ) (es : List (ℕ × Parts)) (e : ℕ × Parts)
    → texts s run (es ++ (e ∷ [])) ≡ texts s run es ++ line_text s e.1 run e.0
texts_more s run [] e = append-nil _
texts_more s run (x ∷ es) e =
    rw (texts_more s run es e) (sym (append_assoc (line_text s x.1 run x.0) (texts s run es) _))

pub texts_are : (s run : List ℕ) (i n place : ℕ)
    → texts s run (enumerate_from i (records_from s n place)) ≡ lines_from s run i n place
unfolding lines_from records_from
texts_are s run i zero place = refl
texts_are s run i (suc n) place =
    go (ltb table_most place) _
    (ap (λ (l : List ℕ). line_text s p run i ++ l) (texts_are s run (i + 1) n p.next))
  where
    p : Parts
    p = parts_at s place

    line : List ℕ
    line = line_text s p run i

    go : (b : Bool) (more : List ℕ)
        → line ++ texts s run (enumerate_from (i + 1) (records_from s n p.next)) ≡ line ++ more
        → texts s run (enumerate_from i (cond b [] (p ∷ records_from s n p.next))) ≡ cond b [] (line ++ more)
    go true more e = refl
    go false more e = e

-- ── room in a buffer for listings ──

pub listing_inside : {before after : List ℕ} {next : ℕ} (s run : List ℕ) (n place total : ℕ) → n ≤ fields_most
    → listing_most ≤ length before
    → Fits before 0 (lines_from s run 0 n place ++ (bits_line total ++ bytes "\n")) after next
    → Writes before 0 (lines_from s run 0 n place ++ (bits_line total ++ bytes "\n")) after next
listing_inside s run n place total few room f =
    let b : length (bits_line total ++ bytes "\n") ≤ 16 = simp length-append (omega (arith, digits_length 10 total)) in
    let l = length-append (lines_from s run 0 n place) (bits_line total ++ bytes "\n") in
    f.inside (omega (arith, lines_length s run 0 n place))

pub refusal_inside : {before after : List ℕ} {next : ℕ} (number place : ℕ) → 40 ≤ length before
    → Fits before 0 (refused_line number place ++ bytes "\n") after next
    → Writes before 0 (refused_line number place ++ bytes "\n") after next
refusal_inside number place room f =
    let l : length (refused_line number place ++ bytes "\n") ≤ 33 =
    simp length-append (omega (arith, digits_length 10 number, digits_length 10 place)) in
    f.inside (omega arith)
