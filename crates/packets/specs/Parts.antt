-- Where the parts of a field's record stand, by its lengths.
-- This mirrors the code: no public promise rests on this file.
use Rattle.std.specs.Prelude.{◌≡◌, cond, List, ℕ, ◌+◌, ◌*◌, ◌≤◌, eqb}
use Rattle.laws.specs.Places.{two_at}
use Rattle.writing.specs.declared.spans.Span.{Span}
use Rattle.rules.specs.Limits.{fields_most, label_most, short_most, stored_most}
use Rattle.packets.specs.declared.records.WidthParts.{WidthParts}
use Rattle.packets.specs.declared.records.Parts.{Parts}

-- four numbers a field
abbrev pub run_most : ℕ
run_most = 4 * fields_most

-- no good table is longer: the first record, a record of the longest parts for each field, and the last record
abbrev pub record_most : ℕ
record_most = 18 + label_most + short_most + 3 * stored_most

abbrev pub table_most : ℕ
table_most = 10 + label_most + record_most * fields_most + 4

-- the ends of the parts of a record in a table, whatever the five lengths in it say, stand no further
abbrev pub place_most : ℕ
place_most = table_most + 6 * 65537

abbrev pub span_of : ℕ → ℕ → Span
span_of at len = record { at = at; len = len }

abbrev pub ending : Span → ℕ
ending p = p.at + p.len

-- a length, and the part behind it
abbrev pub span_at : List ℕ → ℕ → Span
span_at s at = span_of (at + 2) (two_at s at)

abbrev pub width_of : ℕ → Span → ℕ → WidthParts
width_of number tree next = record { number = number; tree = tree; next = next }

unfoldable pub width_at : List ℕ → ℕ → ℕ → WidthParts
width_at s kind at =
    cond (eqb kind 12) (width_of (two_at s at) (span_of at 0) (at + 2))
    (cond (eqb kind 13) (width_of (two_at s at) (span_at s (at + 2)) (ending (span_at s (at + 2))))
    (width_of 0 (span_of at 0) at))

-- the parts, one behind the other
abbrev pub with_constraint : List ℕ → ℕ → ℕ → Span → Span → WidthParts → Span → Parts
with_constraint s kind readers label short w constraint = record {
  kind = kind;
  readers = readers;
  label = label;
  short = short;
  number = w.number;
  tree = w.tree;
  constraint = constraint;
  condition = span_at s (ending constraint);
  next = ending (span_at s (ending constraint));
}

abbrev pub with_width : List ℕ → ℕ → ℕ → Span → Span → WidthParts → Parts
with_width s kind readers label short w = with_constraint s kind readers label short w (span_at s w.next)

abbrev pub with_short : List ℕ → ℕ → ℕ → Span → Span → Parts
with_short s kind readers label short = with_width s kind readers label short (width_at s kind (ending short))

unfoldable pub parts_at : List ℕ → ℕ → Parts
parts_at s at =
    with_short s (two_at s (at + 2)) (two_at s (at + 4)) (span_at s (at + 6)) (span_at s (ending (span_at s (at + 6))))

-- what the code is told of its parts besides
pub record Spans (s : List ℕ) (at : ℕ) (r : Span) : Type 0 where
  pub is : r ≡ span_at s at
  pub from : r.at ≡ at + 2
  pub small : r.len ≤ 65535

pub record Widths (s : List ℕ) (kind at : ℕ) (r : WidthParts) : Type 0 where
  pub is : r ≡ width_at s kind at
  pub small : r.next ≤ at + 65539
