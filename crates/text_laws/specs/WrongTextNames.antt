-- Answers of programs that are wrong about the names that a text may read, and about those that clash. [02, R-2]
use Rattle.std.specs.Prelude.{List, [], ◌∷◌, ◌++◌, map, ℕ, Err}
use Rattle.std.proofs.Math.Option.{none, some}
use Prim.Native.String.{String}
use Rattle.base.specs.Bytes.{bytes}
use Rattle.rules.specs.declared.Op.TheVariants.{Or, Eq}
use Rattle.rules.specs.declared.TextRefusal.TheVariants.{BadForm, Repeated, BadName, BadRest}
use Rattle.rules.specs.Trees.{Tree, num, read, two}
use Rattle.rules.specs.Fields.{Width, fixed, measured, rest, Field, Description}
use Rattle.rules.specs.Cases.{named, unnamed}
use Rattle.text_laws.specs.WrongTexts.{Claim, leaves_it, writes_table, page_text, pair_text, pair, four}

-- ── texts and descriptions ──

-- the field of an index is 1
abbrev pub is_one : ℕ → Tree ℕ
is_one i = two Eq (read i) (num 1)

-- 4 bits with a short name; a label and a constraint
abbrev pub four_both : String → String → Field ℕ
four_both l s = named l s (fixed 4) none none

abbrev pub four_if : String → Tree ℕ → Field ℕ
four_if l t = unnamed l (fixed 4) (some t) none

-- the second line reads the label of the first
abbrev pub by_label : List ℕ
by_label = pair_text ("A: 4 bits.\n" ∷ "B: 4 bits; A == 1.\n" ∷ [])

abbrev pub by_condition : List ℕ
by_condition = pair_text ("A: 4 bits.\n" ∷ "B: 4 bits; present only when A == 1.\n" ∷ [])

-- a reserved word with a large letter; a small letter for a large one
abbrev pub capital : List ℕ
capital = pair_text ("Present (A): 4 bits.\n" ∷ "B: 4 bits; Present == 1.\n" ∷ [])

abbrev pub small : List ℕ
small = pair_text ("A: 4 bits.\n" ∷ "B: 4 bits; a == 1.\n" ∷ [])

-- it reads the first by either name, and itself
abbrev pub by_either : List ℕ
by_either = pair_text ("A (a): 4 bits.\n" ∷ "B (b): 4 bits; A == 1 || (a == 1 || B == 1).\n" ∷ [])

abbrev pub either_read : ℕ → ℕ → ℕ → Description
either_read i j k = pair
    (four_both "A" "a")
    (named "B" "b" (fixed 4) (some (two Or (is_one i) (two Or (is_one j) (is_one k)))) none)

-- one word as both names of each field
abbrev pub one_word : List ℕ
one_word = pair_text ("A (A): 4 bits; A == 1.\n" ∷ "B (B): 4 bits; A == 1.\n" ∷ [])

abbrev pub one_word_read : Description
one_word_read = pair (named "A" "A" (fixed 4) (some (is_one 0)) none) (named "B" "B" (fixed 4) (some (is_one 0)) none)

-- the first line reads its own label in its constraint
abbrev pub own_constraint : List ℕ
own_constraint = pair_text ("A: 4 bits; A == 1.\n" ∷ "B: 4 bits.\n" ∷ [])

-- the first line reads the label of the second; its own in its condition
abbrev pub forward : List ℕ
forward = pair_text ("A: 4 bits; B == 1.\n" ∷ "B: 4 bits.\n" ∷ [])

abbrev pub own_condition : List ℕ
own_condition = pair_text ("A: 4 bits; present only when A == 1.\n" ∷ "B: 4 bits.\n" ∷ [])

-- the second line reads a label that has not the form of a short name: a space, a reserved word, 9 letters
abbrev pub spaced : List ℕ
spaced = pair_text ("My Own (A): 4 bits.\n" ∷ "B: 4 bits; My Own == 1.\n" ∷ [])

abbrev pub reserved_word : List ℕ
reserved_word = pair_text ("present (A): 4 bits.\n" ∷ "B: 4 bits; present == 1.\n" ∷ [])

abbrev pub long_word : List ℕ
long_word = pair_text ("Ninebytes (A): 4 bits.\n" ∷ "B: 4 bits; Ninebytes == 1.\n" ∷ [])

-- a label with a hyphen; the first 8 bytes of a label of 9
abbrev pub hyphened : List ℕ
hyphened = pair_text ("Next-Hop (A): 4 bits.\n" ∷ "B: 4 bits; Next-Hop == 1.\n" ∷ [])

abbrev pub cut_word : List ℕ
cut_word = pair_text ("Ninebytes (A): 4 bits.\n" ∷ "B: 4 bits; Ninebyte == 1.\n" ∷ [])

abbrev pub cut_short : List ℕ
cut_short = pair_text ("Ninebytes (A): 4 bits.\n" ∷ "B (Ninebyte): 4 bits.\n" ∷ [])

-- large and small letters
abbrev pub other_case : List ℕ
other_case = pair_text ("A: 4 bits.\n" ∷ "B (a): 4 bits.\n" ∷ [])

-- 4 cells of 2 bits, the last with a name of its own or with that of the first
abbrev pub cells_text : String → List String → List ℕ
cells_text row lines = page_text ("+-+-+-+-+-+-+-+-+\n" ∷ row ∷ "+-+-+-+-+-+-+-+-+\n" ∷ []) lines

abbrev pub cells : List String → List ℕ
cells lines = cells_text "| A | B | C | D |\n" lines

abbrev pub cells_again : List String → List ℕ
cells_again lines = cells_text "| A | B | C | A |\n" lines

-- two clashes: of the third line, and of the last with the first
abbrev pub two_clashes : List (List ℕ)
two_clashes =
    cells ("A: 2 bits.\n" ∷ "B: 2 bits.\n" ∷ "C (B): 2 bits.\n" ∷ "D (A): 2 bits.\n" ∷ [])
    ∷ cells ("A (x): 2 bits.\n" ∷ "B: 2 bits.\n" ∷ "C (B): 2 bits.\n" ∷ "D (x): 2 bits.\n" ∷ [])
    ∷ cells ("A: 2 bits.\n" ∷ "B (y): 2 bits.\n" ∷ "C (y): 2 bits.\n" ∷ "D (A): 2 bits.\n" ∷ [])
    ∷ cells_again ("A: 2 bits.\n" ∷ "B (y): 2 bits.\n" ∷ "C (y): 2 bits.\n" ∷ "A: 2 bits.\n" ∷ [])
    ∷ cells_again ("A: 2 bits.\n" ∷ "B: 2 bits.\n" ∷ "C (B): 2 bits.\n" ∷ "A: 2 bits.\n" ∷ [])
    ∷ []

-- a clash of the last line alone, with the first
abbrev pub far_clash : List ℕ
far_clash = cells ("A: 2 bits.\n" ∷ "B: 2 bits.\n" ∷ "C: 2 bits.\n" ∷ "D (A): 2 bits.\n" ∷ [])

abbrev pub far_fields : Description
far_fields = record {
  name = bytes "Pair";
  row_width = 8;
  fields =
      unnamed "A" (fixed 2) none none
      ∷ unnamed "B" (fixed 2) none none
      ∷ unnamed "C" (fixed 2) none none
      ∷ named "D" "A" (fixed 2) none none
      ∷ [];
}

-- the second line has the label of the first as its short name, the third the short name of the first
abbrev pub three_lines : List ℕ
three_lines = page_text
    ("+-+-+-+-+-+-+-+-+\n"
    ∷ "|   A   |   B   |\n"
    ∷ "+-+-+-+-+-+-+-+-+\n"
    ∷ "|       C       |\n"
    ∷ "+-+-+-+-+-+-+-+-+\n"
    ∷ [])
    ("A (X): 4 bits.\n" ∷ "B (A): 4 bits.\n" ∷ "C (X): 8 bits.\n" ∷ [])

-- the short name of the second is the label of the first; its label is the short name of the first; each is the other's
abbrev pub label_first : List ℕ
label_first = pair_text ("A: 4 bits.\n" ∷ "B (A): 4 bits.\n" ∷ [])

abbrev pub short_first : List ℕ
short_first = pair_text ("Long (A): 4 bits.\n" ∷ "A (B): 4 bits.\n" ∷ [])

-- and a line before it reads what no field is called
abbrev pub eight_nine : List ℕ
eight_nine = pair_text ("A: 4 bits; z == 1.\n" ∷ "B (A): 4 bits.\n" ∷ [])

abbrev pub exchanged : List ℕ
exchanged = pair_text ("A (B): 4 bits.\n" ∷ "B (A): 4 bits.\n" ∷ [])

-- a byte, a long field and a byte
abbrev pub three_text : String → String → List ℕ
three_text second third = page_text
    ("+-+-+-+-+-+-+-+-+\n"
    ∷ "|       A       |\n"
    ∷ "+-+-+-+-+-+-+-+-+\n"
    ∷ ":       B       :\n"
    ∷ "+-+-+-+-+-+-+-+-+\n"
    ∷ "|       C       |\n"
    ∷ "+-+-+-+-+-+-+-+-+\n"
    ∷ [])
    ("A: 8 bits.\n" ∷ second ∷ third ∷ [])

-- the third line reads the label of the second
abbrev pub long_text : String → List ℕ
long_text second = three_text second "C: 8 bits; B == 1.\n"

abbrev pub measured_text : List ℕ
measured_text = long_text "B: A bytes.\n"

abbrev pub rest_text : List ℕ
rest_text = long_text "B: variable.\n"

-- the second line reads the label of the first in its width
abbrev pub by_width : List ℕ
by_width = three_text "B: A bytes.\n" "C: 8 bits.\n"

-- the short name of the third line is the label of a long field; and the line breaks 10 too
abbrev pub long_clash : List ℕ
long_clash = three_text "B: variable.\n" "C (B): 8 bits.\n"

abbrev pub eight_ten : List ℕ
eight_ten = three_text "B: variable.\n" "C (B): 8 bits; present only when A == 1.\n"

abbrev pub long : Width ℕ → Description
long w = record {
  name = bytes "Pair";
  row_width = 8;
  fields =
      unnamed "A" (fixed 8) none none
      ∷ unnamed "B" w none none
      ∷ unnamed "C" (fixed 8) (some (is_one 1)) none
      ∷ [];
}

-- ── the answers ──

abbrev in_reads : List Claim
in_reads =
    -- a readable label refused, by 9 or 5; the neighbour read
    leaves_it by_label (Err (BadName 12))
    ∷ leaves_it by_label (Err (BadForm 12))
    ∷ writes_table by_label (pair (four "A") (four_if "B" (is_one 1)))
    -- the own label in a constraint refused; a label in a condition, in a width; a word that only looks reserved
    ∷ leaves_it own_constraint (Err (BadName 11))
    ∷ leaves_it by_condition (Err (BadName 12))
    ∷ leaves_it by_width (Err (BadName 16))
    ∷ leaves_it capital (Err (BadForm 12))
    -- case ignored
    ∷ writes_table small (pair (four "A") (four_if "B" (is_one 0)))
    -- one of the two names passed over; the own label refused; each name an index of its own
    ∷ leaves_it by_either (Err (BadName 12))
    ∷ writes_table by_either (either_read 0 1 1)
    ∷ writes_table by_either (either_read 1 0 1)
    ∷ writes_table by_either (either_read 0 0 0)
    -- the readable label of a later field read, or refused by 5; that of the own field in its condition
    ∷ writes_table forward (pair (four_if "A" (is_one 1)) (four "B"))
    ∷ leaves_it forward (Err (BadForm 11))
    ∷ leaves_it forward (Err (BadName 12))
    ∷ writes_table own_condition (pair (unnamed "A" (fixed 4) none (some (is_one 0))) (four "B"))
    -- that of a measured field read, or of the rest field
    ∷ writes_table measured_text (long (measured 8 (read 0)))
    ∷ leaves_it measured_text (Err (BadForm 17))
    ∷ writes_table rest_text (long rest)
    ∷ leaves_it rest_text (Err (BadForm 17))
    -- a label read that has not the form of a short name, or 9 for it
    ∷ writes_table spaced (pair (four_both "My Own" "A") (four_if "B" (is_one 0)))
    ∷ leaves_it spaced (Err (BadName 12))
    ∷ writes_table reserved_word (pair (four_both "present" "A") (four_if "B" (is_one 0)))
    ∷ leaves_it reserved_word (Err (BadName 12))
    ∷ writes_table long_word (pair (four_both "Ninebytes" "A") (four_if "B" (is_one 0)))
    ∷ leaves_it long_word (Err (BadName 12))
    -- a hyphen taken into a name, or refused by 5; a label read by its first 8 bytes
    ∷ writes_table hyphened (pair (four_both "Next-Hop" "A") (four_if "B" (is_one 0)))
    ∷ leaves_it hyphened (Err (BadForm 12))
    ∷ writes_table cut_word (pair (four_both "Ninebytes" "A") (four_if "B" (is_one 0)))
    ∷ []

abbrev in_clashes : List Claim
in_clashes =
    -- a label that is another's short name accepted, either way round, or refused at the earlier line
    writes_table label_first (pair (four "A") (four_both "B" "A"))
    ∷ leaves_it label_first (Err (Repeated 11))
    ∷ writes_table short_first (pair (four_both "Long" "A") (four_both "A" "B"))
    ∷ leaves_it short_first (Err (Repeated 11))
    ∷ writes_table exchanged (pair (four_both "A" "B") (four_both "B" "A"))
    ∷ leaves_it exchanged (Err (Repeated 11))
    -- like names compared before unlike ones
    ∷ leaves_it three_lines (Err (Repeated 15))
    ∷ leaves_it three_lines (Err (Repeated 13))
    -- compared with the line before alone; a long field's names left out; 9 or 10 before 8
    ∷ writes_table far_clash far_fields
    ∷ leaves_it long_clash (Err (BadName 17))
    ∷ leaves_it eight_nine (Err (BadName 11))
    ∷ leaves_it eight_ten (Err (BadRest 17))
    -- a label cut to 8 bytes, or letters without their case, taken for a clash
    ∷ leaves_it cut_short (Err (Repeated 12))
    ∷ leaves_it other_case (Err (Repeated 12))
    -- a field refused because its label and short name are one word
    ∷ leaves_it one_word (Err (Repeated 11))
    ∷ leaves_it one_word (Err (Repeated 12))
    ∷ leaves_it one_word (Err (BadName 11))
    ∷ []

-- the line of the pair with the earliest first line, or of the sort that is compared first
abbrev in_two_clashes : List Claim
in_two_clashes = map (λ text. leaves_it text (Err (Repeated 14))) two_clashes

abbrev pub wrong_text_names : List Claim
wrong_text_names = in_reads ++ (in_clashes ++ in_two_clashes)
