-- Cutting a run of fields out of a description, and putting fields in. [02, R-4]
-- Indexes count from 0; a run goes from its first field to its last, both included.
use Rattle.std.specs.Prelude.{Bool, cond, ◌||◌, not, List, [], ◌++◌, map, ℕ, suc, ◌+◌, ◌-◌, ltb, length, take, drop}
use Rattle.std.proofs.Math.Option.{Option, none, some}
use Rattle.base.specs.Lists.{any, between, first_break}
use Rattle.rules.specs.Trees.{Tree, num, read, two, negation}
use Rattle.rules.specs.Fields.{Width, fixed, measured, rest, Field, Description}
use Rattle.rules.specs.References.{field_reads}

-- ── other indexes ──

-- each index i that a tree reads becomes g i
unfoldable pub renumbered_tree : (ℕ → ℕ) → Tree ℕ → Tree ℕ
renumbered_tree g (num n) = num n
renumbered_tree g (read i) = read (g i)
renumbered_tree g (two o a b) = two o (renumbered_tree g a) (renumbered_tree g b)
renumbered_tree g (negation a) = negation (renumbered_tree g a)

abbrev pub renumbered_maybe : (ℕ → ℕ) → Option (Tree ℕ) → Option (Tree ℕ)
renumbered_maybe g none = none
renumbered_maybe g (some t) = some (renumbered_tree g t)

abbrev pub renumbered_width : (ℕ → ℕ) → Width ℕ → Width ℕ
renumbered_width g (fixed n) = fixed n
renumbered_width g (measured u t) = measured u (renumbered_tree g t)
renumbered_width g rest = rest

unfoldable pub renumbered : (ℕ → ℕ) → Field ℕ → Field ℕ
renumbered g f = record {
  label = f.label;
  short = f.short;
  width = renumbered_width g f.width;
  constraint = renumbered_maybe g f.constraint;
  condition = renumbered_maybe g f.condition;
}

-- the index i where n fields from an index on are gone, for one that is none of theirs, and where n fields were put in
-- before that index
unfoldable pub closed : ℕ → ℕ → ℕ → ℕ
closed at n i = cond (ltb i at) i (i - n)

unfoldable pub opened : ℕ → ℕ → ℕ → ℕ
opened at n i = cond (ltb i at) i (i + n)

-- ── descriptions ──

abbrev pub with_fields : Description → List (Field ℕ) → Description
with_fields d fs = record { name = d.name; row_width = d.row_width; fields = fs }

-- how many fields a run has; the fields of a run, and the others
abbrev pub run_length : ℕ → ℕ → ℕ
run_length first last = suc last - first

abbrev pub run : ℕ → ℕ → List (Field ℕ) → List (Field ℕ)
run first last fs = take (run_length first last) (drop first fs)

abbrev pub remaining : ℕ → ℕ → List (Field ℕ) → List (Field ℕ)
remaining first last fs = take first fs ++ drop (suc last) fs

-- the description without a run of its fields, where no other field reads one of them
unfoldable pub cut : ℕ → ℕ → Description → Description
cut first last d =
    with_fields d (map (renumbered (closed first (run_length first last))) (remaining first last d.fields))

-- the fields with others, which read by the new numbering, before the field of an index, or at the end
abbrev pub inserted : ℕ → List (Field ℕ) → List (Field ℕ) → List (Field ℕ)
inserted at new fs = take at fs ++ (new ++ drop at fs)

unfoldable pub put : ℕ → List (Field ℕ) → Description → Description
put at new d = with_fields d (inserted at new (map (renumbered (opened at (length new))) d.fields))

-- ── references to a run ──

-- an expression of the field reads a field of the run, evaluated or not
abbrev pub reads_run : ℕ → ℕ → Field ℕ → Bool
reads_run first last f = any (λ i. between first i last) (field_reads f)

-- the index of the first field outside a run that reads one in it
unfoldable pub first_reader : ℕ → ℕ → List (Field ℕ) → Option ℕ
first_reader first last fs =
    first_break (λ before f. between first (length before) last || not (reads_run first last f)) [] fs
