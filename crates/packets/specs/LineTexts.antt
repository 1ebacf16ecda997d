-- The text of a field's line, from the parts of its record and its entry in a run.
-- This mirrors the code: no public promise rests on this file.
use Rattle.std.specs.Prelude.{Bool, cond, ◌||◌, List, [], ◌++◌, ℕ, zero, suc, ◌+◌, ◌*◌, ◌-◌, ltb, eqb, length, get_or}
use Rattle.std.specs.Prelude.{take, drop}
use Rattle.base.specs.Bytes.{bytes}
use Rattle.rules.specs.Limits.{fields_most, label_most}
use Rattle.rules.specs.Reading.{Entry, is_present}
use Rattle.rules.specs.Listing.{entry_text}
use Rattle.writing.specs.declared.spans.Span.{Span}
use Rattle.packets.specs.declared.records.Parts.{Parts}
use Rattle.packets.specs.Parts.{table_most, parts_at}

-- a line has a label, a colon, at most three numbers with a space before each, and LF; a listing has a line for each
-- field and one more, of at most 40 bytes, or that one alone
abbrev pub line_most : ℕ
line_most = label_most + 35

abbrev pub listing_most : ℕ
listing_most = line_most * fields_most + 40

-- the entry of the field of an index
abbrev pub entry_in : List ℕ → ℕ → Entry
entry_in run i = record {
  present = get_or run (4 * i) 0;
  offset = get_or run (4 * i + 1) 0;
  width = get_or run (4 * i + 2) 0;
  value = get_or run (4 * i + 3) 0;
}

unfoldable pub state_text : Bool → Entry → List ℕ
state_text fixed e = cond (is_present e) (entry_text fixed e) (bytes " absent")

-- the part is longer than a label, or not inside the table
abbrev pub is_no_label : List ℕ → Span → Bool
is_no_label s p = ltb label_most p.len || (ltb (length s) p.at || ltb (length s - p.at) p.len)

unfoldable pub line_text : List ℕ → Parts → List ℕ → ℕ → List ℕ
line_text s p run i =
    cond (is_no_label s p.label) []
    (take p.label.len (drop p.label.at s)
    ++ (bytes ":" ++ (state_text (eqb p.kind 12) (entry_in run i) ++ bytes "\n")))

-- the lines of n fields, counted from i, whose records begin at a place
unfoldable pub lines_from : List ℕ → List ℕ → ℕ → ℕ → ℕ → List ℕ
lines_from s run i zero place = []
lines_from s run i (suc n) place =
    cond (ltb table_most place) []
    (line_text s (parts_at s place) run i ++ lines_from s run (i + 1) n (parts_at s place).next)
