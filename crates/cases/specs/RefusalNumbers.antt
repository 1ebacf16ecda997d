-- Worked cases: numbers and places of refusals, and of the answers of the code. [01, Refusal numbers]
use Rattle.std.specs.Prelude.{List, [], ◌∷◌, ◌++◌, ℕ, ◌-◌, replicate, take, drop, set, Ok, Err}
use Rattle.std.proofs.Math.Option.{none, some}
use Prim.Native.String.{String}
use Rattle.base.specs.Bytes.{bytes}
use Rattle.base.specs.Lists.{joined}
use Rattle.rules.specs.declared.Fault.{Fault}
use Rattle.rules.specs.declared.TableRefusal.{TableRefusal}
use Rattle.rules.specs.declared.PacketRefusal.{PacketRefusal}
use Rattle.rules.specs.declared.TextRefusal.{TextRefusal}
use Rattle.rules.specs.declared.FieldRefusal.{FieldRefusal}
use Rattle.rules.specs.declared.ListingRefusal.{ListingRefusal}
use Rattle.rules.specs.declared.ConversionRefusal.{ConversionRefusal}
use Rattle.rules.specs.Trees.{num}
use Rattle.rules.specs.Fields.{fixed}
use Rattle.rules.specs.Answers.{accepted, refused, of_table, of_packet, of_text, of_field, of_listing, of_conversion}
use Rattle.rules.specs.Promises.{leaves}
use Rattle.rules.specs.Cases.{Case, checks, breaks, refuses, answers, stands, named, unnamed}
use Rattle.rules.specs.Marked.{tag_text, tag_table}
use Rattle.rules.specs.Stored.{stored}
use Rattle.rules.specs.Pages.{
  page,
  many_fields,
  one_is_one,
  not_times,
  long,
  tag_head,
  tag_lines,
  tag_unended,
  crowded,
  many_text,
}
use Rattle.rules.specs.Sheets.{bits_of, long_of, sheet, plain, requiring, depending, summed, left, is_one}
use Rattle.text_laws.specs.WrongTexts.{
  page_text,
  pair_text,
  crossed_open,
  narrow,
  narrow_behind,
  shared,
  forward,
  own_condition,
  numeric,
  deep,
  two_rests,
}

-- the lines of the Tag text; with another k-th line, counted from 1; and those of two fields in long rows
abbrev tag_strings : List String
tag_strings =
    "A Tag is formatted as follows:\n"
    ∷ "\n"
    ∷ " 0\n"
    ∷ " 0 1 2 3 4 5 6 7\n"
    ∷ "+-+-+-+-+-+-+-+-+\n"
    ∷ "|       K       |\n"
    ∷ "+-+-+-+-+-+-+-+-+\n"
    ∷ "\n"
    ∷ "where:\n"
    ∷ "\n"
    ∷ "Kind (K): 1 byte; K == 7.\n"
    ∷ []

abbrev changed : ℕ → String → List ℕ
changed k line = joined bytes (take (k - 1) tag_strings ++ (line ∷ drop k tag_strings))

abbrev behind_rest : String → String → List ℕ
behind_rest row line = page_text
    ("+-+-+-+-+-+-+-+-+\n" ∷ ":       A       :\n" ∷ "+-+-+-+-+-+-+-+-+\n" ∷ row ∷ "+-+-+-+-+-+-+-+-+\n" ∷ [])
    ("A: variable.\n" ∷ line ∷ [])

-- where the lines of a frame have these forms
abbrev rules : List Case
rules =
    -- 6: depth, stored form; the first line has the number 9 and 2 for each row of one line
    breaks (sheet (bits_of "A" ∷ []) 1) (requiring "A" (not_times 11 one_is_one) ∷ []) (refused 6 11)
    ∷ breaks (sheet (bits_of "A" ∷ bits_of "B" ∷ []) 2) (plain "A" ∷ depending "B" (long 2) ∷ []) (refused 6 14)
    -- 7: another name, order or width, the other of the two rows; cells that remain; a line without a cell
    ∷ breaks (sheet (bits_of "A" ∷ bits_of "B" ∷ []) 2) (plain "A" ∷ plain "C" ∷ []) (refused 7 14)
    ∷ breaks (sheet (bits_of "A" ∷ bits_of "B" ∷ []) 2) (plain "B" ∷ plain "A" ∷ []) (refused 7 13)
    ∷ breaks (sheet (bits_of "A" ∷ []) 1) (unnamed "A" (fixed 4) none none ∷ []) (refused 7 11)
    ∷ breaks (sheet (bits_of "A" ∷ []) 1) (left "A" ∷ []) (refused 7 11)
    ∷ breaks (sheet (bits_of "A" ∷ []) 1) (summed "A" "X" ∷ []) (refused 7 11)
    ∷ breaks (sheet (long_of "A" ∷ []) 1) (plain "A" ∷ []) (refused 7 11)
    ∷ breaks (sheet (bits_of "A" ∷ bits_of "B" ∷ []) 1) (plain "A" ∷ []) (refused 7 14)
    ∷ breaks (sheet (bits_of "A" ∷ []) 2) (plain "A" ∷ plain "B" ∷ []) (refused 7 12)
    -- 8: label, short name
    ∷ breaks (sheet (bits_of "A" ∷ bits_of "B" ∷ bits_of "A" ∷ []) 3)
    (plain "A" ∷ plain "B" ∷ plain "A" ∷ [])
    (refused 8 17)
    ∷ breaks (sheet (long_of "A" ∷ long_of "X" ∷ []) 2) (summed "A" "X" ∷ summed "B" "X" ∷ []) (refused 8 14)
    -- 9: a name that is unknown, not earlier, not fixed; a condition that reads its own field; wrong type
    ∷ breaks (sheet (bits_of "A" ∷ []) 1) (requiring "A" (is_one "X") ∷ []) (refused 9 11)
    ∷ breaks (sheet (bits_of "A" ∷ bits_of "B" ∷ []) 2)
    (requiring "A" (is_one "X") ∷ named "B" "X" (fixed 8) none none ∷ [])
    (refused 9 13)
    ∷ breaks (sheet (long_of "A" ∷ bits_of "B" ∷ []) 2) (summed "A" "X" ∷ requiring "B" (is_one "X") ∷ [])
    (refused 9 14)
    ∷ breaks (sheet (bits_of "A" ∷ []) 1) (named "A" "X" (fixed 8) none (some (is_one "X")) ∷ []) (refused 9 11)
    ∷ breaks (sheet (bits_of "A" ∷ []) 1) (requiring "A" (num 1) ∷ []) (refused 9 11)
    ∷ []

abbrev later_rules : List Case
later_rules =
    -- 10: a second rest field, a measured one after it, a condition after it
    breaks (sheet (long_of "A" ∷ long_of "B" ∷ []) 2) (left "A" ∷ left "B" ∷ []) (refused 10 14)
    ∷ breaks (sheet (long_of "A" ∷ long_of "B" ∷ []) 2) (left "A" ∷ summed "B" "X" ∷ []) (refused 10 14)
    ∷ breaks (sheet (long_of "A" ∷ bits_of "B" ∷ []) 2) (left "A" ∷ depending "B" one_is_one ∷ []) (refused 10 14)
    -- the lower number wins though its line is later
    ∷ breaks (sheet (bits_of "A" ∷ bits_of "B" ∷ bits_of "B" ∷ []) 3)
    (requiring "A" (is_one "X") ∷ plain "B" ∷ plain "B" ∷ [])
    (refused 8 17)
    ∷ breaks (sheet (bits_of "A" ∷ bits_of "C" ∷ []) 2) (requiring "A" (is_one "X") ∷ plain "B" ∷ []) (refused 7 14)
    ∷ []

abbrev lines : List Case
lines =
    -- 1 and its limit, 2
    refuses (replicate 16385 10) (refused 1 0)
    ∷ refuses (replicate 16384 10) (refused 3 1)
    ∷ refuses (tag_lines 1 ++ (0x7F ∷ [])) (refused 2 0)
    -- 3: no line, a wrong line, no last LF
    ∷ refuses [] (refused 3 1)
    ∷ refuses (bytes "The Tag is formatted as follows:\n") (refused 3 1)
    ∷ refuses tag_unended (refused 3 11)
    -- 3: NAME; a line that should be empty; rulers, of which the first fixes W
    ∷ refuses (changed 1 "A Tag- is formatted as follows:\n") (refused 3 1)
    ∷ refuses (changed 2 " \n") (refused 3 2)
    ∷ refuses (changed 3 " 1\n") (refused 3 3)
    ∷ refuses (changed 3 " 0                   1\n") (refused 3 4)
    ∷ refuses (changed 4 " 0 1 2 3 4 5 6 8\n") (refused 3 4)
    -- 3: borders; rows: a length, an end, a bar at an odd column, no label
    ∷ refuses (changed 5 "+-+-+-+-+-+-+-+\n") (refused 3 5)
    ∷ refuses (changed 7 "+-+-+-+-+-+-+-+-\n") (refused 3 7)
    ∷ refuses (changed 6 "|      K       |\n") (refused 3 6)
    ∷ refuses (changed 6 ":       K       |\n") (refused 3 6)
    ∷ refuses (changed 6 "|   K    | L    |\n") (refused 3 6)
    ∷ refuses (changed 6 "|               |\n") (refused 3 6)
    -- 3: `where:`, and the lines around it; no field line
    ∷ refuses (changed 8 " \n") (refused 3 8)
    ∷ refuses (changed 9 "Where:\n") (refused 3 9)
    ∷ refuses (changed 10 "-\n") (refused 3 10)
    ∷ refuses tag_head (refused 3 11)
    ∷ []

abbrev counts : List Case
counts =
    -- 4 and its limit [02, R-10]
    refuses (tag_lines 129) (refused 4 0)
    ∷ refuses (tag_lines 128) (refused 7 12)
    ∷ refuses (crowded 17) (refused 4 0)
    ∷ refuses (crowded 16) (refused 7 41)
    ∷ refuses (many_text 129) (refused 4 0)
    ∷ answers (many_text 65) (replicate 1243 9) (leaves (accepted 1243) (stored (page (many_fields 0 65))))
    ∷ answers (many_text 128) (replicate 2468 9) (leaves (accepted 2468) (stored (page (many_fields 0 128))))
    ∷ []

abbrev forms : List Case
forms =
    -- 5: a line that is empty, one without its period, one that is too wide
    refuses (tag_lines 1 ++ bytes "\n") (refused 5 12)
    ∷ refuses (tag_head ++ bytes "Kind (K): 1 byte; K == 7\n") (refused 5 11)
    ∷ refuses (tag_head ++ bytes "Kind: 33 bits.\n") (refused 5 11)
    -- 5 at a later line, before 7 at an earlier one; a sign twice [02, R-7]
    ∷ refuses crossed_open (refused 5 12)
    ∷ refuses (tag_head ++ bytes "Kind (K): 1 byte; K//2 == 3.\n") (refused 5 11)
    ∷ []

abbrev whole_texts : List Case
whole_texts =
    -- 6: depth, stored form
    refuses deep (refused 6 11)
    ∷ refuses
    (pair_text
    ("A: 4 bits; !(!(1==1))&&1==1&&1==1&&1==1&&1==1&&1==1&&1==1&&1==1&&1==1&&1==1.\n" ∷ "B: 4 bits.\n" ∷ []))
    (refused 6 11)
    -- 7: order, width; before 9 at an earlier line
    ∷ refuses (pair_text ("B: 4 bits.\n" ∷ "A: 4 bits.\n" ∷ [])) (refused 7 11)
    ∷ refuses narrow (refused 7 12)
    ∷ refuses narrow_behind (refused 7 12)
    -- 8: a label, a short name
    ∷ refuses
    (page_text ("+-+-+-+-+-+-+-+-+\n" ∷ "|   A   |   A   |\n" ∷ "+-+-+-+-+-+-+-+-+\n" ∷ [])
    ("A: 4 bits.\n" ∷ "A: 4 bits.\n" ∷ []))
    (refused 8 12)
    ∷ refuses shared (refused 8 12)
    -- 9: a name that is unknown, of a later field; a condition that reads its own field; wrong type
    ∷ refuses (pair_text ("A (a): 4 bits.\n" ∷ "B: 4 bits; z == 1.\n" ∷ [])) (refused 9 12)
    ∷ refuses forward (refused 9 11)
    ∷ refuses own_condition (refused 9 11)
    ∷ refuses numeric (refused 9 11)
    -- 10: a second rest field; a measured field or a condition behind it
    ∷ refuses two_rests (refused 10 14)
    ∷ refuses (behind_rest ":       B       :\n" "B: 1 + 1 bytes.\n") (refused 10 14)
    ∷ refuses (behind_rest "|       B       |\n" "B: 1 byte; present only when 1 == 1.\n") (refused 10 14)
    ∷ []

abbrev outputs : List Case
outputs =
    -- the table is written where there is room, what lies beyond it stays; else 11
    answers tag_text (replicate 50 9) (leaves (accepted 46) (tag_table ++ replicate 4 9))
    ∷ answers tag_text (replicate 46 9) (leaves (accepted 46) tag_table)
    ∷ answers tag_text (replicate 45 9) (leaves (refused 11 0) (replicate 45 9))
    ∷ answers [] (replicate 50 9) (leaves (refused 3 1) (replicate 50 9))
    ∷ []

-- the Tag table with another byte
abbrev tag_with : ℕ → ℕ → List ℕ
tag_with i b = set tag_table i b

abbrev tables : List Case
tables =
    checks tag_table (accepted 46)
    -- 21: no bytes, a byte less, a byte more
    ∷ checks [] (refused 21 0)
    ∷ checks (take 45 tag_table) (refused 21 0)
    ∷ checks (tag_table ++ (0 ∷ [])) (refused 21 0)
    -- 21: a record's length or kind, W, the number of fields, NAME
    ∷ checks (tag_with 0 0x0E) (refused 21 0)
    ∷ checks (tag_with 2 0x02) (refused 21 0)
    ∷ checks (tag_with 4 9) (refused 21 0)
    ∷ checks (tag_with 6 2) (refused 21 0)
    ∷ checks (tag_with 12 0x2D) (refused 21 0)
    ∷ checks (tag_with 15 0x06) (refused 21 0)
    ∷ checks (tag_with 44 0x04) (refused 21 0)
    -- 21: a width that leaves a row unfilled, a code that says nothing, a field that is not there
    ∷ checks (tag_with 28 7) (refused 21 0)
    ∷ checks (tag_with 32 0x26) (refused 21 0)
    ∷ checks (tag_with 34 1) (refused 21 0)
    -- the most fields, and one more [02, R-10]
    ∷ checks (stored (page (many_fields 0 128))) (accepted 2468)
    ∷ checks (stored (page (many_fields 0 129))) (refused 21 0)
    ∷ []

abbrev answers_of_the_code : List Case
answers_of_the_code =
    -- 01's numbers for the answers of the code
    stands (of_table (Ok 46)) (accepted 46)
    ∷ stands (of_table (Err TableRefusal.NotGood)) (refused 21 0)
    ∷ stands (of_packet (Ok 64)) (accepted 64)
    ∷ stands (of_packet (Err PacketRefusal.NotGood)) (refused 21 0)
    ∷ stands (of_packet (Err PacketRefusal.TooLong)) (refused 22 0)
    ∷ stands (of_packet (Err PacketRefusal.ShortRun)) (refused 23 0)
    ∷ stands (of_packet (Err (PacketRefusal.Field Fault.BitsMissing 7))) (refused 24 7)
    ∷ stands (of_packet (Err (PacketRefusal.Field Fault.ConstraintFalse 1))) (refused 25 1)
    ∷ stands (of_packet (Err (PacketRefusal.Field Fault.AbsentRead 3))) (refused 26 3)
    ∷ stands (of_packet (Err (PacketRefusal.Field Fault.OutOfRange 2))) (refused 27 2)
    ∷ stands (of_packet (Err (PacketRefusal.Field Fault.ZeroDivisor 2))) (refused 29 2)
    ∷ stands (of_packet (Err PacketRefusal.LeftOver)) (refused 28 0)
    ∷ stands (of_text (Ok 46)) (accepted 46)
    ∷ stands (of_text (Err TextRefusal.TooLong)) (refused 1 0)
    ∷ stands (of_text (Err TextRefusal.BadByte)) (refused 2 0)
    ∷ stands (of_text (Err (TextRefusal.BadLine 11))) (refused 3 11)
    ∷ stands (of_text (Err TextRefusal.TooMany)) (refused 4 0)
    ∷ stands (of_text (Err (TextRefusal.BadForm 11))) (refused 5 11)
    ∷ stands (of_text (Err (TextRefusal.OverLimit 11))) (refused 6 11)
    ∷ stands (of_text (Err (TextRefusal.Mismatch 11))) (refused 7 11)
    ∷ stands (of_text (Err (TextRefusal.Repeated 11))) (refused 8 11)
    ∷ stands (of_text (Err (TextRefusal.BadName 11))) (refused 9 11)
    ∷ stands (of_text (Err (TextRefusal.BadRest 11))) (refused 10 11)
    ∷ stands (of_text (Err TextRefusal.NoRoom)) (refused 11 0)
    ∷ stands (of_listing (Ok 92)) (accepted 92)
    ∷ stands (of_listing (Err ListingRefusal.NoRoom)) (refused 11 0)
    -- what is told of a field, and a table that is converted [02, R-5]
    ∷ stands (of_field (Ok 4)) (accepted 4)
    ∷ stands (of_field (Err FieldRefusal.NotGood)) (refused 21 0)
    ∷ stands (of_field (Err FieldRefusal.Unknown)) (refused 30 0)
    ∷ stands (of_conversion (Ok 46)) (accepted 46)
    ∷ stands (of_conversion (Err ConversionRefusal.NotGood)) (refused 21 0)
    ∷ stands (of_conversion (Err ConversionRefusal.NoRoom)) (refused 11 0)
    ∷ []

abbrev pub refusal_numbers : List Case
refusal_numbers =
    rules
    ++ (later_rules
    ++ (lines
    ++ (counts
    ++ (forms
    ++ (whole_texts
    ++ (outputs
    ++ (tables
    ++ answers_of_the_code)))))))
