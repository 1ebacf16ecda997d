-- Answers of programs that write a text's table with wrong numbers or kinds. [02, R-5]
use Rattle.std.specs.Prelude.{List, [], ◌∷◌, ◌++◌, map, ℕ, suc, ◌+◌, length, set, Ok, Err}
use Rattle.std.proofs.Math.Option.{none, some}
use Prim.Native.String.{String}
use Rattle.base.specs.Bytes.{bytes, decimal}
use Rattle.base.specs.Lists.{joined}
use Rattle.rules.specs.declared.Op.TheVariants.{Eq, Lt, Add}
use Rattle.rules.specs.declared.TextRefusal.TheVariants.{NoRoom}
use Rattle.rules.specs.Trees.{num, read, two}
use Rattle.rules.specs.Fields.{fixed, measured, Description}
use Rattle.rules.specs.Editions.{uncounted}
use Rattle.rules.specs.Stored.{stored_in}
use Rattle.rules.specs.Promises.{overlaid}
use Rattle.rules.specs.Cases.{named, unnamed}
use Rattle.rules.specs.Marked.{blade_report, tag_text, tag_table}
use Rattle.rules.specs.Pages.{blade_text, old_tag_table, many_rows, many_lines}
use Rattle.laws.specs.WrongNumbers.{many_times, numbered, alike, listed, old_kinds, unnumbered}
use Rattle.laws.specs.WrongRecords.{chained}
use Rattle.text_laws.specs.WrongTexts.{Claim, reads, nines, page_text}

-- ── texts and descriptions ──

-- S is read by a width, by a constraint, and by a condition twice and once more by its label; F once by that
-- constraint; and S by its own
abbrev pub often_text : List ℕ
often_text = page_text
    ("+-+-+-+-+-+-+-+-+\n"
    ∷ "|       S       |\n"
    ∷ "+-+-+-+-+-+-+-+-+\n"
    ∷ "|       F       |\n"
    ∷ "+-+-+-+-+-+-+-+-+\n"
    ∷ ":     Body      :\n"
    ∷ "+-+-+-+-+-+-+-+-+\n"
    ∷ "|     Mark      |\n"
    ∷ "+-+-+-+-+-+-+-+-+\n"
    ∷ "|     Tail      |\n"
    ∷ "+-+-+-+-+-+-+-+-+\n"
    ∷ [])
    ("Size (S): 8 bits; S < 9.\n"
    ∷ "Flag (F): 8 bits.\n"
    ∷ "Body: S bytes.\n"
    ∷ "Mark: 8 bits; S == F.\n"
    ∷ "Tail: 8 bits; present only when S + S == Size.\n"
    ∷ [])

abbrev pub often : Description
often = record {
  name = bytes "Pair";
  row_width = 8;
  fields =
      named "Size" "S" (fixed 8) (some (two Lt (read 0) (num 9))) none
      ∷ named "Flag" "F" (fixed 8) none none
      ∷ unnamed "Body" (measured 8 (read 0)) none none
      ∷ unnamed "Mark" (fixed 8) (some (two Eq (read 0) (read 1))) none
      ∷ unnamed "Tail" (fixed 8) none (some (two Eq (two Add (read 0) (read 0)) (read 0)))
      ∷ [];
}

-- S is read 32 times by each of 8 widths
abbrev eight_times : String
eight_times = "(((S+S)+(S+S))+((S+S)+(S+S)))"

abbrev width_line : String → List String
width_line l =
    l ∷ ": (" ∷ eight_times ∷ "+" ∷ eight_times ∷ ")+(" ∷ eight_times ∷ "+" ∷ eight_times ∷ ") bytes.\n" ∷ []

abbrev width_row : String → List String
width_row l = ":       " ∷ l ∷ "       :\n" ∷ "+-+-+-+-+-+-+-+-+\n" ∷ []

abbrev eight_labels : List String
eight_labels = "A" ∷ "B" ∷ "C" ∷ "D" ∷ "E" ∷ "F" ∷ "G" ∷ "H" ∷ []

abbrev pub many_times_text : List ℕ
many_times_text = page_text
    ("+-+-+-+-+-+-+-+-+\n" ∷ "|       S       |\n" ∷ "+-+-+-+-+-+-+-+-+\n" ∷ joined width_row eight_labels)
    ("Size (S): 8 bits.\n" ∷ joined width_line eight_labels)

abbrev pub many_times_page : Description
many_times_page = record { name = bytes "Pair"; row_width = 8; fields = many_times.fields }

-- the text of a page of i + 2 fields, of which the last reads itself, and the one before, of the index i
abbrev chained_line : ℕ → List ℕ
chained_line i =
    bytes "F" ++ (decimal (suc i)
    ++ (bytes ": 1 byte; F" ++ (decimal (suc i)
    ++ (bytes " == 1; present only when F" ++ (decimal i ++ bytes " == 1.\n")))))

abbrev pub chained_text : ℕ → List ℕ
chained_text i =
    bytes "A Page is formatted as follows:\n\n 0\n 0 1 2 3 4 5 6 7\n+-+-+-+-+-+-+-+-+\n"
    ++ (many_rows 0 (2 + i) ++ (bytes "\nwhere:\n\n" ++ (many_lines 0 (suc i) ++ chained_line i)))

-- ── short ways to write a claim ──

-- these bytes are written to an output of 1,000
abbrev pub writes_bytes : List ℕ → List ℕ → Claim
writes_bytes text table = reads text (nines 1000) (Ok (length table)) (overlaid table (nines 1000))

-- to one of 2,500
abbrev pub writes_many : List ℕ → List ℕ → Claim
writes_many text table = reads text (nines 2500) (Ok (length table)) (overlaid table (nines 2500))

-- ── the answers ──

abbrev in_numbers : List Claim
in_numbers =
    -- 0 for all; the own constraint counted; that alone, as where a record is written before the lines behind it are
    -- seen
    writes_bytes blade_text (alike blade_report 0)
    ∷ writes_bytes blade_text (listed blade_report (1 ∷ 1 ∷ 2 ∷ []))
    ∷ writes_bytes blade_text (listed blade_report (1 ∷ 0 ∷ 1 ∷ []))
    ∷ writes_bytes tag_text (set tag_table 17 1)
    ∷ writes_bytes often_text (numbered often 0 6)
    ∷ writes_bytes often_text (listed often (1 ∷ []))
    -- a repeated reference counted once; one by the label left out
    ∷ writes_bytes often_text (numbered often 0 3)
    ∷ writes_bytes often_text (numbered often 0 4)
    -- those in a width, in a constraint, in a condition left out; those of the next line alone counted
    ∷ writes_bytes often_text (listed often (4 ∷ 1 ∷ []))
    ∷ writes_bytes often_text (listed often (4 ∷ 0 ∷ []))
    ∷ writes_bytes often_text (listed often (2 ∷ 1 ∷ []))
    ∷ writes_bytes often_text (listed often [])
    -- what a field reads in its place; the number one record on; the high byte first
    ∷ writes_bytes blade_text (listed blade_report (0 ∷ 0 ∷ 0 ∷ 0 ∷ 1 ∷ 1 ∷ []))
    ∷ writes_bytes blade_text (listed blade_report (0 ∷ 0 ∷ 1 ∷ 1 ∷ []))
    ∷ writes_bytes blade_text (listed blade_report (0 ∷ 256 ∷ 256 ∷ []))
    -- a number cut to a byte; one that stays at 255; one of a single line
    ∷ writes_bytes many_times_text (alike many_times_page 0)
    ∷ writes_bytes many_times_text (numbered many_times_page 0 255)
    ∷ writes_bytes many_times_text (numbered many_times_page 0 32)
    ∷ []

abbrev in_kinds : List Claim
in_kinds =
    -- an old table; the old kinds with numbers; the new ones without
    writes_bytes tag_text old_tag_table
    ∷ writes_bytes blade_text (stored_in uncounted blade_report)
    ∷ writes_bytes blade_text (stored_in old_kinds blade_report)
    ∷ writes_bytes blade_text (stored_in unnumbered blade_report)
    -- the kinds in hexadecimal; the old kind or length of one record
    ∷ writes_bytes tag_text (set tag_table 15 0x12)
    ∷ writes_bytes tag_text (set tag_table 15 2)
    ∷ writes_bytes tag_text (set tag_table 13 0x1B)
    -- the old length answered; accepted with room for an old table alone
    ∷ reads tag_text (nines 50) (Ok 44) (overlaid tag_table (nines 50))
    ∷ reads tag_text (nines 44) (Ok 44) old_tag_table
    -- 11 after the first record was written
    ∷ reads tag_text (nines 45) (Err NoRoom) (overlaid (13 ∷ 0 ∷ 1 ∷ 0 ∷ []) (nines 45))
    ∷ []

-- of many fields: references to a high index, or from one, left out; the own one counted there
abbrev in_many : List Claim
in_many =
    map (λ i. writes_many (chained_text i) (alike (chained i) 0)) (15 ∷ 16 ∷ 63 ∷ 64 ∷ 126 ∷ [])
    ++ map (λ i. writes_many (chained_text i) (numbered (chained i) (suc i) 1)) (15 ∷ 63 ∷ 126 ∷ [])

abbrev pub wrong_text_numbers : List Claim
wrong_text_numbers = in_numbers ++ (in_kinds ++ in_many)
