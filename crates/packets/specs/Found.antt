-- The record of the field of an index, and its label, short name, kind and readers.
-- This mirrors the code: no public promise rests on this file.
use Rattle.std.specs.Prelude.{◌≡◌, cond, List, ℕ, ◌<◌, ◌≤◌, eqb, length, Result, Ok, Err}
use Rattle.laws.specs.Places.{two_at}
use Rattle.rules.specs.declared.FieldRefusal.{FieldRefusal}
use Rattle.rules.specs.Answers.{FieldAnswer}
use Rattle.rules.specs.Reading.{Part}
use Rattle.rules.specs.Stored.{Good}
use Rattle.rules.specs.Promises.{label_by, short_by}
use Rattle.writing.specs.declared.spans.Span.{Span}
use Rattle.packets.specs.declared.records.Parts.{Parts}
use Rattle.packets.specs.Parts.{span_of, ending, parts_at}
use Rattle.packets.specs.Lookups.{place_from}

-- what is found for an index
abbrev pub Finds : List ℕ → ℕ → Result Parts FieldRefusal → Type 0
Finds table i (Err FieldRefusal.NotGood) = Good table → ⊥
Finds table i (Err FieldRefusal.Unknown) = Good table × (two_at table 6 ≤ i)
Finds table i (Ok p) =
    Good table × (i < two_at table 6) × (p ≡ parts_at table (place_from table i (two_at table 0)))

-- a part of the record, the empty part at the start where there is none
abbrev pub span_in : (Parts → Span) → Result Parts FieldRefusal → Span
span_in span (Err e) = span_of 0 0
span_in span (Ok p) = span p

abbrev pub label_in : Result Parts FieldRefusal → Span
label_in r = span_in (λ p. p.label) r

-- an empty part stands at the start
unfoldable pub filled_span : Span → Span
filled_span s = cond (eqb s.len 0) (span_of 0 0) s

abbrev pub short_in : Result Parts FieldRefusal → Span
short_in r = span_in (λ p. filled_span p.short) r

abbrev pub kind_in : Result Parts FieldRefusal → FieldAnswer
kind_in (Err e) = Err e
kind_in (Ok p) = Ok p.kind

-- how often the field is read
abbrev pub readers_in : Result Parts FieldRefusal → FieldAnswer
readers_in (Err e) = Err e
readers_in (Ok p) = Ok p.readers

-- a part of some bytes by a table, which lies within them
pub record OnBytes (table bytes : List ℕ) (part : Dec (Good table) → Part) (r : Span) : Type 0 where
  pub is : (good : Dec (Good table)) → r ≡ span_of (part good).start (part good).size
  pub within : ending r ≤ length bytes

abbrev pub OnLabel : List ℕ → ℕ → Span → Type 0
OnLabel table i r = OnBytes table table (λ good. label_by good i) r

abbrev pub OnShort : List ℕ → ℕ → Span → Type 0
OnShort table i r = OnBytes table table (λ good. short_by good i) r
