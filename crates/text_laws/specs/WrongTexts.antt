-- Answers of wrong programs to texts: of each, what is claimed is the promise of a text, and it is false
-- (proofs/RuledOutTexts). A program that keeps the promise is none of these.
-- [01, How the promises are judged] [01, Easy ways to go wrong]
use Rattle.std.specs.Prelude.{List, [], ◌∷◌, ◌++◌, ℕ, ◌+◌, length, replicate, take, drop, Ok, Err}
use Rattle.std.proofs.Math.Option.{none, some}
use Prim.Native.String.{String}
use Rattle.base.specs.Bytes.{bytes}
use Rattle.base.specs.Lists.{joined, Every}
use Rattle.rules.specs.declared.Op.TheVariants.{Or, And, Eq, Ne, Ge, Sub}
use Rattle.rules.specs.declared.TextRefusal.TheVariants.{
  BadLine,
  TooMany,
  BadForm,
  Mismatch,
  Repeated,
  BadName,
  BadRest,
  NoRoom,
}
use Rattle.rules.specs.Limits.{text_most, fields_most}
use Rattle.rules.specs.Trees.{Tree, num, read, two, negation}
use Rattle.rules.specs.Fields.{fixed, rest, Field, Description}
use Rattle.rules.specs.Stored.{stored}
use Rattle.rules.specs.Promises.{overlaid, ReadsText, leaves}
use Rattle.rules.specs.Cases.{named, unnamed}
use Rattle.rules.specs.Marked.{blade_report, tag_text, tag_table}
use Rattle.rules.specs.Pages.{
  blade_text,
  free_page,
  free_text,
  tag_lines,
  tag_unended,
  crowded,
  not_times,
  page,
  many_fields,
  many_text,
}
use Rattle.rules.specs.Answers.{of_text, TextAnswer}

-- ── claims of a text ──

pub data Claim : Type 0 where
  -- the text, the output before, the answer, and the output after
  reads : List ℕ → List ℕ → TextAnswer → List ℕ → Claim

abbrev pub Claimed : Claim → Type 0
Claimed (reads text out r after) = ReadsText text out (leaves (of_text r) after)

abbrev pub AllFalse : List Claim → Type 0
AllFalse = Every (λ c. Claimed c → ⊥)

-- ── short ways to write claims ──

-- an output of n bytes
abbrev pub nines : ℕ → List ℕ
nines n = replicate n 9

-- an output of 600 bytes is left as it was; the table of a description is written to it
abbrev pub leaves_it : List ℕ → TextAnswer → Claim
leaves_it text r = reads text (nines 600) r (nines 600)

abbrev pub writes_table : List ℕ → Description → Claim
writes_table text d = reads text (nines 600) (Ok (length (stored d))) (overlaid (stored d) (nines 600))

-- the page of every freedom with another constraint of its last field, or of its third
abbrev pub free_last : Tree ℕ → Description
free_last t = record {
  name = free_page.name;
  row_width = free_page.row_width;
  fields = take 7 free_page.fields ++ (named "Last" "Z" (fixed 32) (some t) none ∷ []);
}

abbrev pub free_kind : Tree ℕ → Description
free_kind t = record {
  name = free_page.name;
  row_width = free_page.row_width;
  fields =
      take 2 free_page.fields ++ (named "Kind" "K" (fixed 8) (some t) none ∷ drop 3 free_page.fields);
}

-- the blade report with another row width, and with other fields
abbrev pub blade_of : ℕ → List (Field ℕ) → Description
blade_of w fields = record { name = blade_report.name; row_width = w; fields = fields }

-- a text of W 8: its borders and rows, and its field lines
abbrev pub page_text : List String → List String → List ℕ
page_text rows lines =
    bytes "A Pair is formatted as follows:\n"
    ++ (bytes "\n"
    ++ (bytes " 0\n"
    ++ (bytes " 0 1 2 3 4 5 6 7\n"
    ++ (joined bytes rows
    ++ (bytes "\n"
    ++ (bytes "where:\n"
    ++ (bytes "\n"
    ++ joined bytes lines)))))))

-- two cells of 4 bits, A and B
abbrev pub pair_text : List String → List ℕ
pair_text lines = page_text ("+-+-+-+-+-+-+-+-+\n" ∷ "|   A   |   B   |\n" ∷ "+-+-+-+-+-+-+-+-+\n" ∷ []) lines

abbrev pub pair : Field ℕ → Field ℕ → Description
pair f g = record { name = bytes "Pair"; row_width = 8; fields = f ∷ g ∷ [] }

-- 4 bits
abbrev pub four : String → Field ℕ
four l = unnamed l (fixed 4) none none

-- the lines in another order than the cells
abbrev pub crossed : List ℕ
crossed = pair_text ("B: 4 bits.\n" ∷ "A: 4 bits.\n" ∷ [])

-- the second line has another width than its cell
abbrev pub narrow : List ℕ
narrow = pair_text ("A: 4 bits.\n" ∷ "B: 3 bits.\n" ∷ [])

-- and the first reads what no field is called
abbrev pub narrow_behind : List ℕ
narrow_behind = pair_text ("A (a): 4 bits; z == 1.\n" ∷ "B: 3 bits.\n" ∷ [])

-- one short name for both
abbrev pub shared : List ℕ
shared = pair_text ("A (s): 4 bits.\n" ∷ "B (s): 4 bits.\n" ∷ [])

-- the first line reads the second field; itself in its condition; and has a number for a constraint
abbrev pub forward : List ℕ
forward = pair_text ("A (a): 4 bits; b == 1.\n" ∷ "B (b): 4 bits.\n" ∷ [])

abbrev pub own_condition : List ℕ
own_condition = pair_text ("A (a): 4 bits; present only when a == 1.\n" ∷ "B: 4 bits.\n" ∷ [])

abbrev pub numeric : List ℕ
numeric = pair_text ("A (a): 4 bits; a.\n" ∷ "B: 4 bits.\n" ∷ [])

-- a border that is too short
abbrev pub short_border : List ℕ
short_border = page_text
    ("+-+-+-+-+-+-+-+-+\n" ∷ "|   A   |   B   |\n" ∷ "+-+-+-+-+-+-+-+\n" ∷ [])
    ("A: 4 bits.\n" ∷ "B: 4 bits.\n" ∷ [])

-- the lines in another order than the cells, and the second without a full stop
abbrev pub crossed_open : List ℕ
crossed_open = pair_text ("B: 4 bits.\n" ∷ "A: 4 bits\n" ∷ [])

-- a constraint of depth 13
abbrev pub deep : List ℕ
deep = pair_text ("A (a): 4 bits; !(!(!(!(!(!(!(!(!(!(!(a == 1))))))))))).\n" ∷ "B: 4 bits.\n" ∷ [])

-- two fields that take what is left
abbrev pub two_rests : List ℕ
two_rests = page_text
    ("+-+-+-+-+-+-+-+-+\n"
    ∷ ":       A       :\n"
    ∷ "+-+-+-+-+-+-+-+-+\n"
    ∷ ":       B       :\n"
    ∷ "+-+-+-+-+-+-+-+-+\n"
    ∷ [])
    ("A: variable.\n" ∷ "B: variable.\n" ∷ [])

-- ── the answers ──

-- of what is written
abbrev pub wrong_outputs : List Claim
wrong_outputs =
    -- every text refused; an output refused that the table just fills
    reads tag_text (nines 46) (Err (BadLine 1)) (nines 46)
    ∷ reads tag_text (nines 46) (Err NoRoom) (nines 46)
    -- the Tag table for every text
    ∷ reads blade_text (nines 300) (Ok 46) (overlaid tag_table (nines 300))
    ∷ reads [] (nines 46) (Ok 46) tag_table
    -- accepted, and nothing written
    ∷ reads tag_text (nines 46) (Ok 46) (nines 46)
    -- accepted with another length
    ∷ reads tag_text (nines 46) (Ok 45) tag_table
    ∷ reads tag_text (nines 46) (Ok 0) tag_table
    -- the output's length for the table's
    ∷ reads tag_text (nines 50) (Ok 50) (overlaid tag_table (nines 50))
    -- bytes beyond the table changed
    ∷ reads tag_text (nines 50) (Ok 46) (tag_table ++ replicate 4 0)
    -- the output changed on a refusal
    ∷ reads tag_text (nines 45) (Err NoRoom) (take 45 tag_table)
    ∷ reads [] (nines 46) (Err (BadLine 1)) (replicate 46 0)
    -- accepted though the output is too short
    ∷ reads tag_text (nines 45) (Ok 46) (nines 45)
    ∷ reads tag_text (nines 45) (Ok 45) (take 45 tag_table)
    ∷ []

-- of numbers and places
abbrev pub wrong_refusals : List Claim
wrong_refusals =
    -- a later number although a lower one holds: 3 for 1, 3 for 2, 7 for 4, 8 for 7, 7 for 5
    leaves_it (replicate (1 + text_most) 10) (Err (BadLine 1))
    ∷ leaves_it (tag_lines 1 ++ (0x7F ∷ [])) (Err (BadLine 1))
    ∷ leaves_it (tag_lines (1 + fields_most)) (Err (Mismatch 12))
    ∷ leaves_it (tag_lines fields_most) (Err (Repeated 12))
    -- 4 for 65 field lines, or for 72 cells [02, R-10]
    ∷ leaves_it (tag_lines 65) (Err TooMany)
    ∷ leaves_it (crowded 9) (Err TooMany)
    ∷ leaves_it (tag_lines 1 ++ bytes "\n") (Err (Mismatch 12))
    -- 11 before the text's own faults
    ∷ reads [] [] (Err NoRoom) []
    -- a wrong place
    ∷ leaves_it [] (Err (BadLine 0))
    ∷ leaves_it tag_unended (Err (BadLine 10))
    ∷ leaves_it tag_unended (Err (BadLine 1))
    ∷ leaves_it (tag_lines 1 ++ bytes "\n") (Err (BadForm 11))
    -- no refusal at all
    ∷ leaves_it [] (Ok 0)
    ∷ []

-- of whole pages
abbrev pub wrong_pages : List Claim
wrong_pages =
    -- `10-2 - 1` grouped to the right; a neighbour of Z read
    writes_table free_text (free_last (two Ge (two Sub (num 10) (two Sub (num 2) (num 1))) (read 7)))
    ∷ writes_table free_text (free_last (two Ge (two Sub (two Sub (num 10) (num 2)) (num 1)) (read 6)))
    -- `||` that binds closer than `&&`
    ∷ writes_table free_text
    (free_kind
    (two And (two Eq (read 1) (num 3)) (two Or (negation (two Eq (read 0) (num 1))) (two Ne (read 2) (num 0)))))
    -- W as 8 for every text; only the first field; the last left out
    ∷ writes_table blade_text (blade_of 8 blade_report.fields)
    ∷ writes_table blade_text (blade_of 16 (take 1 blade_report.fields))
    ∷ writes_table blade_text (blade_of 16 (take 6 blade_report.fields))
    ∷ []

-- of texts of two cells
abbrev pub wrong_pairs : List Claim
wrong_pairs =
    -- cells matched to lines by name, and the table in the order of either
    writes_table crossed (pair (four "A") (four "B"))
    ∷ writes_table crossed (pair (four "B") (four "A"))
    -- the widths of cells passed over
    ∷ writes_table narrow (pair (four "A") (unnamed "B" (fixed 3) none none))
    -- the line before the one that disagrees with its cell, or the one behind it
    ∷ leaves_it narrow (Err (Mismatch 11))
    ∷ leaves_it narrow (Err (Mismatch 13))
    -- the first line that is wrong in any way: 9 at 11 for 7 at 12
    ∷ leaves_it narrow_behind (Err (BadName 11))
    -- a repeated short name accepted, or refused at the first of the two
    ∷ writes_table shared (pair (named "A" "s" (fixed 4) none none) (named "B" "s" (fixed 4) none none))
    ∷ leaves_it shared (Err (Repeated 11))
    -- a later field read; a condition that reads its own field; a number taken for yes or no
    ∷ writes_table forward
    (pair (named "A" "a" (fixed 4) (some (two Eq (read 1) (num 1))) none) (named "B" "b" (fixed 4) none none))
    ∷ writes_table own_condition (pair (named "A" "a" (fixed 4) none (some (two Eq (read 0) (num 1)))) (four "B"))
    ∷ writes_table numeric (pair (named "A" "a" (fixed 4) (some (read 0)) none) (four "B"))
    -- a border that is too short accepted, or refused at the line before it
    ∷ writes_table short_border (pair (four "A") (four "B"))
    ∷ leaves_it short_border (Err (BadLine 6))
    -- the first line that is wrong in any way: 7 at 11 for 5 at 12
    ∷ leaves_it crossed_open (Err (Mismatch 11))
    -- a tree that is too deep accepted
    ∷ writes_table deep
    (pair (named "A" "a" (fixed 4) (some (not_times 11 (two Eq (read 0) (num 1)))) none) (four "B"))
    -- a second field of what is left accepted, or the first of the two refused
    ∷ writes_table two_rests (pair (unnamed "A" rest none none) (unnamed "B" rest none none))
    ∷ leaves_it two_rests (Err (BadRest 13))
    ∷ []

-- of a text of 65 fields [02, R-10]
abbrev pub wrong_many : List Claim
wrong_many =
    -- 4, or 7 at the 65th line; 64 of the fields written; 11 for an output that the table just fills; nothing written
    reads (many_text 65) (nines 1243) (Err TooMany) (nines 1243)
    ∷ reads (many_text 65) (nines 1243) (Err (Mismatch 206)) (nines 1243)
    ∷ reads (many_text 65) (nines 1243) (Ok 1224) (overlaid (stored (page (many_fields 0 64))) (nines 1243))
    ∷ reads (many_text 65) (nines 1243) (Err NoRoom) (nines 1243)
    ∷ reads (many_text 65) (nines 1243) (Ok 1243) (nines 1243)
    -- 129 accepted
    ∷ reads (many_text 129) (nines 2500) (Ok (length (stored (page (many_fields 0 129)))))
    (overlaid (stored (page (many_fields 0 129))) (nines 2500))
    ∷ []

abbrev pub wrong_texts : List Claim
wrong_texts = wrong_outputs ++ (wrong_refusals ++ (wrong_pages ++ (wrong_pairs ++ wrong_many)))
