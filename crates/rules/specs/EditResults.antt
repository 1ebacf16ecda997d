-- The main results on fields that are cut out of a table and put in. [02, R-4]
use Rattle.std.specs.Prelude.{◌≡◌, true, false, List, ◌++◌, map, ℕ, suc, ◌+◌, ◌≤◌, ◌<◌, length, take, drop, get_or}
use Rattle.std.specs.Prelude.{replicate}
use Rattle.std.proofs.Math.Option.{none, some}
use Rattle.std.proofs.Math.ListN.{get_elem?}
use Rattle.base.specs.Lists.{between, sum}
use Rattle.rules.specs.Fields.{Field, Description, fixed_bits}
use Rattle.rules.specs.References.{field_reads}
use Rattle.rules.specs.Edits.{
  renumbered,
  closed,
  run_length,
  run,
  remaining,
  cut,
  put,
  reads_run,
  first_reader,
}
use Rattle.rules.specs.Within.{rows_fit, widths, Within}
use Rattle.rules.specs.Stored.{records, Good}
use Rattle.rules.specs.Answers.{accepted}
use Rattle.rules.specs.Reading.{Entry, absent, step, read_field}
use Rattle.rules.specs.Cover.{entries_in}
use Rattle.rules.specs.Promises.{
  Outcome,
  leaves,
  delivered,
  ReadsPacket,
  is_run,
  CutsFields,
  Joins,
  PutsFields,
}

-- what is delivered to an output begins at its start; the answer is the length written, and the bytes beyond are as
-- they were. Texts, listings, conversions, cuts and puttings-in write so
abbrev pub WrittenAtStart : Type 0
WrittenAtStart = (w out after : List ℕ) (n : ℕ) → leaves (accepted n) after ≡ delivered w out
    → (n ≡ length w) × (n ≤ length out) × (take n after ≡ w) × (drop n after ≡ drop n out)

-- each promise has an outcome, and leaves no other
abbrev pub CutSettled : Type 0
CutSettled = (table out : List ℕ) (first last : ℕ) → (o : Outcome) × CutsFields table first last out o
    × ((p : Outcome) → CutsFields table first last out p → p ≡ o)

abbrev pub PutSettled : Type 0
PutSettled = (table bytes out : List ℕ) (at : ℕ) → (o : Outcome) × PutsFields table at bytes out o
    × ((p : Outcome) → PutsFields table at bytes out p → p ≡ o)

-- what was written is good: the table of the description without the run, or with the fields of the records
abbrev pub CutGood : Type 0
CutGood = (table out after : List ℕ) (first last n : ℕ) → CutsFields table first last out (leaves (accepted n) after)
    → (good : Good table) × (new : Good (take n after)) × (new.description ≡ cut first last good.description)

abbrev pub PutGood : Type 0
PutGood = (table bytes out after : List ℕ) (at n : ℕ) → PutsFields table at bytes out (leaves (accepted n) after)
    → (good : Good table) × (new : Good (take n after)) × (joins : Joins at bytes good.description)
    × (new.description ≡ put at joins.fields good.description)

-- cutting what was just put in gives the old bytes back, if the output has room
abbrev pub CutUndoesPut : Type 0
CutUndoesPut = (table bytes out after : List ℕ) (at n : ℕ) → PutsFields table at bytes out (leaves (accepted n) after)
    → (good : Good table) × (joins : Joins at bytes good.description) × (last : ℕ)
    × (suc last ≡ at + length joins.fields)
    × ((room : List ℕ) → CutsFields (take n after) at last room (delivered table room))

-- putting back what was cut, with any numbers in its records, those that they had among them, gives the old bytes back,
-- where the cut was accepted
abbrev pub PutUndoesCut : Type 0
PutUndoesCut = (table out after : List ℕ) (first last n : ℕ)
    → CutsFields table first last out (leaves (accepted n) after)
    → (good : Good table) × ((numbers : ℕ → ℕ) (room : List ℕ)
    → PutsFields (take n after) first (records numbers 0 (run first last good.description.fields)) room
    (delivered table room))

-- of what is left where no field outside a run reads one in it, all limits hold but two: that there is a field, and
-- that the rows fit
abbrev pub CutLimits : Type 0
CutLimits = (d : Description) (first last : ℕ) → Within d → is_run first last d.fields ≡ true
    → first_reader first last d.fields ≡ none → 0 < length (cut first last d).fields
    → rows_fit d.row_width 0 (widths (cut first last d).fields) ≡ true → Within (cut first last d)

-- where no field outside a run reads one in it, each field outside is there without the run, and what it reads is what
-- it read: the index that it has for a field is that field's new one
abbrev pub CutRefers : Type 0
CutRefers = (d : Description) (first last : ℕ) → is_run first last d.fields ≡ true
    → first_reader first last d.fields ≡ none
    → (i : ℕ) (f : Field ℕ) → get_elem? d.fields i ≡ some f → between first i last ≡ false
    → (get_elem? (cut first last d).fields (closed first (run_length first last) i)
    ≡ some (renumbered (closed first (run_length first last)) f))
    × (reads_run first last f ≡ false)
    × (field_reads (renumbered (closed first (run_length first last)) f)
    ≡ map (closed first (run_length first last)) (field_reads f))

-- the entries of the fields outside a run at the indexes that they had; those of the run are absent
abbrev pub spread : ℕ → ℕ → List Entry → List Entry
spread at n entries = take at entries ++ (replicate n absent ++ drop at entries)

abbrev pub width_of : List Entry → ℕ
width_of entries = sum (λ e. e.width) entries

-- each field outside a run reads, by its definition in the description with the run, to its entry: from behind the
-- entries before it, and with the fixed widths that come after it without the run
abbrev pub ReadsOutside : ℕ → ℕ → Description → List ℕ → List Entry → Type 0
ReadsOutside first last d packet all = (i : ℕ) (f : Field ℕ) → get_elem? d.fields i ≡ some f
    → between first i last ≡ false
    → read_field packet (take i all) (width_of (take i all))
    (sum fixed_bits (drop (suc (closed first (run_length first last) i)) (remaining first last d.fields))) f
    ≡ step (get_or all i absent) (width_of (take (suc i) all))

-- a cut never changes what the remaining fields mean: a packet that is accepted after it reads as their definitions
-- before it say
abbrev pub CutReads : Type 0
CutReads = (table out after : List ℕ) (first last n : ℕ) → CutsFields table first last out (leaves (accepted n) after)
    → (good : Good table) × ((packet lent numbers : List ℕ) (total : ℕ)
    → ReadsPacket (take n after) packet lent (leaves (accepted total) numbers)
    → ReadsOutside first last good.description packet (spread first (run_length first last)
    (entries_in (length (cut first last good.description).fields) numbers)))
