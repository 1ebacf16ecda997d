-- The test of a whole table. This mirrors the code of src/tables.rt: no public promise rests on this file.
use Rattle.std.specs.Prelude.{◌≡◌, Bool, true, false, cond, ◌&&◌, ◌||◌, List, [], ◌∷◌, ◌++◌, ℕ, zero, suc, ◌+◌, ◌%◌}
use Rattle.std.specs.Prelude.{leb, eqb, length, take, Option, Some, None}
use Rattle.base.specs.Lists.{between}
use Rattle.laws.specs.Places.{two_at}
use Rattle.rules.specs.Names.{is_label}
use Rattle.rules.specs.Within.{is_row_width}
use Rattle.rules.specs.Limits.{fields_most}
use Rattle.packets.specs.Parts.{table_most, span_at, parts_at}
use Rattle.packets.specs.FieldTest.{bytes_in, trees_test, field_test, mark_of, bits_of}
use Rattle.packets.specs.NamesTest.{places_from, names_test, Gathered}
use Rattle.packets.specs.CountsTest.{Tallied, numbers_test}

-- the place past all fields, by what is known in front of a field: the marks and the fixed bits of the earlier ones,
-- and whether one is the rest
unfoldable pub walk_at : ℕ → ℕ → List ℕ → ℕ → Bool → List ℕ → ℕ → Option ℕ
walk_at w zero marks place ended s at = cond (eqb (place % w) 0) (Some at) None
walk_at w (suc n) marks place ended s at =
    let p = parts_at s at in
    let own = marks ++ (mark_of s p ∷ []) in
    cond (field_test w place ended s at p && trees_test s marks own p)
    (walk_at w n own (place + bits_of p) (ended || eqb p.kind 14) s p.next) None

-- what a walk to the end has gathered
abbrev pub GatheredBy : Option ℕ → List ℕ → ℕ → ℕ → List ℕ → List ℕ → List (List ℕ) → List (List ℕ) → Type 0
GatheredBy (Some at) s n from places keys shorts words = Gathered s n from places keys shorts words
GatheredBy None s n from places keys shorts words = Unit {0}

abbrev pub TalliedBy : Option ℕ → List ℕ → ℕ → ℕ → List ℕ → Type 0
TalliedBy (Some at) s n from counts = Tallied s n from counts
TalliedBy None s n from counts = Unit {0}

-- the first record: its length, kind, row width, count and name
unfoldable pub head_test : List ℕ → Bool
head_test s =
    leb (10 + two_at s 8) (length s)
    && (eqb (two_at s 0) (10 + two_at s 8)
    && (eqb (two_at s 2) 1
    && (is_row_width (two_at s 4)
    && (between 1 (two_at s 6) fields_most
    && is_label (bytes_in s (span_at s 8))))))

-- the last record ends the table
unfoldable pub last_test : List ℕ → ℕ → Bool
last_test s at = eqb (length s) (at + 4) && (eqb (two_at s at) 4 && eqb (two_at s (at + 2)) 5)

abbrev pub after_fields : List ℕ → Option ℕ → Bool
after_fields s (Some at) = last_test s at && names_test s (two_at s 6) (10 + two_at s 8)
after_fields s None = false

abbrev pub fields_test : List ℕ → Bool
fields_test s = after_fields s (walk_at (two_at s 4) (two_at s 6) [] 0 false s (10 + two_at s 8))

-- with the numbers that the records keep
abbrev pub right_test : List ℕ → Bool
right_test s = fields_test s && numbers_test s (two_at s 6) (10 + two_at s 8)

unfoldable pub table_test : List ℕ → Bool
table_test s = leb (length s) table_most && (head_test s && right_test s)

-- all but these numbers
unfoldable pub shape_test : List ℕ → Bool
shape_test s = leb (length s) table_most && (head_test s && fields_test s)

-- what the test of all fields has gathered where they are right: the places of their records, and the counts
abbrev pub GatheredAll : Bool → List ℕ → List ℕ → List ℕ → Type 0
GatheredAll true s places counts =
    (take (two_at s 6) places ≡ places_from s (two_at s 6) (10 + two_at s 8))
    × Tallied s (two_at s 6) (10 + two_at s 8) counts
GatheredAll false s places counts = Unit {0}
