-- One field of a packet by its record and the run so far. This mirrors the code: no public promise rests on this file.
use Rattle.std.specs.Prelude.{cond, List, ℕ, zero, suc, ◌+◌, ltb, leb, eqb, Result, Ok, Err}
use Rattle.rules.specs.declared.Fault.{Fault}
use Rattle.rules.specs.declared.Fault.TheVariants.{BitsMissing}
use Rattle.rules.specs.Values.{Value, value, fault}
use Rattle.rules.specs.Reading.{Entry, absent, Step, step, stop, and_then, scaled, remainder, bit_total, bits_at}
use Rattle.writing.specs.declared.spans.Span.{Span}
use Rattle.rules.specs.Limits.{depth_most, fixed_most}
use Rattle.packets.specs.declared.records.Parts.{Parts}
use Rattle.packets.specs.declared.steps.Numbers.{Numbers}
use Rattle.packets.specs.Parts.{table_most, parts_at}
use Rattle.packets.specs.StoredTrees.{Evaluated, value_at}

-- ── answers of the code ──

-- a number, or the fault of finding it
abbrev pub Got : Type 0
Got = Result ℕ Fault

abbrev pub got_of : Value → Got
got_of (value n) = Ok n
got_of (fault f) = Err f

abbrev pub numbers_in : Entry → Numbers
numbers_in e = record { present = e.present; offset = e.offset; width = e.width; value = e.value }

abbrev pub entry_in : Numbers → Entry
entry_in e = record { present = e.present; offset = e.offset; width = e.width; value = e.value }

-- a field's numbers with the place behind it, or its fault
abbrev pub Found : Type 0
Found = Result (Numbers × ℕ) Fault

abbrev pub field : Numbers → ℕ → Found
field e next = Ok (e, next)

abbrev pub found_of : Step → Found
found_of (step e next) = field (numbers_in e) next
found_of (stop f) = Err f

-- ── records ──

unfoldable pub record_at : List ℕ → ℕ → Parts
record_at s at = parts_at s (cond (ltb table_most at) 0 at)

unfoldable pub fixed_of : Parts → ℕ
fixed_of p = cond (eqb p.kind 12) (cond (leb p.number fixed_most) p.number 0) 0

unfoldable pub unit_of : ℕ → ℕ
unit_of n = cond (eqb n 8) 8 1

-- the fixed widths of n records from a place on
unfoldable pub later_bits : ℕ → List ℕ → ℕ → ℕ
later_bits zero s at = 0
later_bits (suc n) s at = fixed_of (record_at s at) + later_bits n s (record_at s at).next

-- ── trees ──

abbrev pub value_of : Evaluated → Value
value_of (Ok r) = value r.0
value_of (Err f) = fault f

unfoldable pub tree_value : List ℕ → List ℕ → ℕ → Value
tree_value s run at = value_of (value_at depth_most s run at)

unfoldable pub holds_at : List ℕ → List ℕ → Span → Value
holds_at s run p = cond (eqb p.len 0) (value 1) (tree_value s run p.at)

-- ── a field up to its constraint ──

unfoldable pub measured_at : List ℕ → List ℕ → Parts → Value
measured_at s run p = scaled (unit_of p.number) (tree_value s run p.tree.at)

unfoldable pub rest_at : List ℕ → List ℕ → Parts → ℕ → ℕ → Value
rest_at s packet p later place = remainder (bit_total packet) (place + later_bits later s p.next)

unfoldable pub extent_at : List ℕ → List ℕ → List ℕ → Parts → ℕ → ℕ → Value
extent_at s packet run p later place =
    cond (eqb p.kind 13) (measured_at s run p)
    (cond (eqb p.kind 14) (rest_at s packet p later place) (value (fixed_of p)))

unfoldable pub number_of : List ℕ → ℕ → ℕ → ℕ → ℕ
number_of packet kind place width = cond (eqb kind 12) (cond (leb width fixed_most) (bits_at packet place width) 0) 0

abbrev pub present_entry : List ℕ → ℕ → ℕ → ℕ → Entry
present_entry packet kind place width =
    record { present = 1; offset = place; width = width; value = number_of packet kind place width }

unfoldable pub bounded_at : List ℕ → ℕ → ℕ → ℕ → Step
bounded_at packet kind place width =
    cond (ltb (bit_total packet) (place + width)) (stop BitsMissing)
    (step (present_entry packet kind place width) (place + width))

unfoldable pub present_at : List ℕ → List ℕ → List ℕ → Parts → ℕ → ℕ → Step
present_at s packet run p later place =
    and_then (extent_at s packet run p later place) (bounded_at packet p.kind place)

unfoldable pub field_step : List ℕ → List ℕ → List ℕ → Parts → ℕ → ℕ → Step
field_step s packet run p later place =
    and_then (holds_at s run p.condition) (λ c.
    cond (eqb c 0) (step absent place) (present_at s packet run p later place))
