-- Answers of programs that are wrong about the quotients, remainders and powers of a text. [02, R-7]
use Rattle.std.specs.Prelude.{List, [], ◌∷◌, ◌++◌, map, ℕ, Err}
use Rattle.std.proofs.Math.Option.{none, some}
use Prim.Native.String.{String}
use Rattle.rules.specs.declared.Op.{Op}
use Rattle.rules.specs.declared.Op.TheVariants.{Eq, Add, Sub, Mul, Div, Rem, Pow}
use Rattle.rules.specs.declared.TextRefusal.TheVariants.{BadByte, BadForm, OverLimit, Mismatch, BadName}
use Rattle.rules.specs.Trees.{Tree, num, read, two}
use Rattle.rules.specs.Fields.{fixed, measured, Field, Description}
use Rattle.rules.specs.Cases.{named, unnamed}
use Rattle.rules.specs.Pages.{compared}
use Rattle.laws.specs.WrongOperators.{powers}
use Rattle.text_laws.specs.WrongTexts.{Claim, leaves_it, writes_table, page_text, pair}

-- ── texts and descriptions ──

-- a byte, and a row behind it: the page of source document 001 whose width is 2^F bits
abbrev pub page_of : String → List String → List ℕ
page_of row line = page_text
    ("+-+-+-+-+-+-+-+-+\n"
    ∷ "|    Field8     |\n"
    ∷ "+-+-+-+-+-+-+-+-+\n"
    ∷ row
    ∷ "+-+-+-+-+-+-+-+-+\n"
    ∷ [])
    ("Field8 (F): 8 bits.\n" ∷ line)

-- the second line has an expression for its width, at line 14; its row is a long one, or one of bits
abbrev pub size_text : String → List ℕ
size_text e = page_of ":   FieldVar    :\n" ("FieldVar: " ∷ e ∷ " bits.\n" ∷ [])

abbrev pub bit_text : String → List ℕ
bit_text e = page_of "|   FieldVar    |\n" ("FieldVar: " ∷ e ∷ " bits.\n" ∷ [])

-- an expression for a constraint
abbrev pub required_text : String → List ℕ
required_text e = page_of "|   FieldVar    |\n" ("FieldVar: 8 bits; " ∷ e ∷ ".\n" ∷ [])

abbrev pub field8 : Field ℕ
field8 = named "Field8" "F" (fixed 8) none none

abbrev pub sized : Tree ℕ → Description
sized t = pair field8 (unnamed "FieldVar" (measured 1 t) none none)

abbrev pub eight : Description
eight = pair field8 (unnamed "FieldVar" (fixed 8) none none)

abbrev pub required : Tree ℕ → Description
required t = pair field8 (unnamed "FieldVar" (fixed 8) (some t) none)

-- F under an operator, on the left and on the right
abbrev pub left : Op → ℕ → Tree ℕ
left o n = two o (read 0) (num n)

abbrev pub right : ℕ → Op → Tree ℕ
right n o = two o (num n) (read 0)

-- depth 12, 13 and 24
abbrev pub chain12 : String
chain12 = "2^2^2^2^2^2^2^2^2^2^2^2"

abbrev pub chain13 : String
chain13 = "2^2^2^2^2^2^2^2^2^2^2^2^2"

abbrev pub chain24 : String
chain24 = "2^2^2^2^2^2^2^2^2^2^2^2^2^2^2^2^2^2^2^2^2^2^2^2"

-- 13 and more, and wrong further right: an operator at the end, a number of no form, a parenthesis that is not opened
abbrev pub broken_chains : List String
broken_chains =
    "2^2^2^2^2^2^2^2^2^2^2^2^2^"
    ∷ "2^2^2^2^2^2^2^2^2^2^2^2^2^02"
    ∷ "2^2^2^2^2^2^2^2^2^2^2^2^2)"
    ∷ "2^2^2^2^2^2^2^2^2^2^2^2^2^^2"
    ∷ "2^2^2^2^2^2^2^2^2^2^2^2^2 /  2"
    ∷ []

-- ── the answers ──

-- the width is taken for this tree
abbrev taken_for : String → Tree ℕ → Claim
taken_for e t = writes_table (size_text e) (sized t)

abbrev in_grouping : List Claim
in_grouping =
    -- `^` grouped to the left, its parentheses passed over; `/` and `%` grouped to the right
    taken_for "2^F^2" (two Pow (right 2 Pow) (num 2))
    ∷ taken_for "(2^F)^2" (two Pow (num 2) (left Pow 2))
    ∷ taken_for "F/3/2" (two Div (read 0) (compared 3 Div 2))
    ∷ taken_for "F%5%3" (two Rem (read 0) (compared 5 Rem 3))
    -- `/` tighter than `*`, and looser; `%` tighter, and looser; `%` tighter than `/`, and looser
    ∷ taken_for "2*F/3" (two Mul (num 2) (left Div 3))
    ∷ taken_for "F/3*2" (two Div (read 0) (compared 3 Mul 2))
    ∷ taken_for "2*F%3" (two Mul (num 2) (left Rem 3))
    ∷ taken_for "F%3*2" (two Rem (read 0) (compared 3 Mul 2))
    ∷ taken_for "9/F%3" (two Div (num 9) (left Rem 3))
    ∷ taken_for "F%3/2" (two Rem (read 0) (compared 3 Div 2))
    -- as loose as `+` and `-`
    ∷ taken_for "1+F/2" (two Div (right 1 Add) (num 2))
    ∷ taken_for "7-F%4" (two Rem (right 7 Sub) (num 4))
    -- `^` as loose as `*`, or looser; as `+`
    ∷ taken_for "2*F^2" (two Pow (right 2 Mul) (num 2))
    ∷ taken_for "F^2*3" (two Pow (read 0) (compared 2 Mul 3))
    ∷ taken_for "8/F^2" (two Pow (right 8 Div) (num 2))
    ∷ taken_for "F^2%3" (two Pow (read 0) (compared 2 Rem 3))
    ∷ taken_for "2+F^2" (two Pow (right 2 Add) (num 2))
    ∷ taken_for "2^(F+1)" (two Add (right 2 Pow) (num 1))
    -- one taken for another; the operands exchanged
    ∷ taken_for "F/2" (left Rem 2)
    ∷ taken_for "F%2" (left Div 2)
    ∷ taken_for "2^F" (right 2 Mul)
    ∷ taken_for "2^F" (left Pow 2)
    ∷ []

abbrev in_forms : List Claim
in_forms =
    -- a page that has one of them refused by 5, or by 2
    map (λ e. leaves_it (size_text e) (Err (BadForm 14))) ("F/2" ∷ "F%2" ∷ "2^F" ∷ "F / 2" ∷ "2^F^2" ∷ [])
    ++ (leaves_it (size_text "2^F") (Err BadByte)
    ∷ leaves_it (required_text "F%2 == 1") (Err (BadForm 14))
    -- a zero divisor, or a power out of range, that stands in the text refused
    ∷ leaves_it (size_text "F/0") (Err (BadForm 14))
    ∷ leaves_it (size_text "F%0") (Err (BadName 14))
    ∷ leaves_it (size_text "2^32") (Err (BadForm 14))
    ∷ leaves_it (size_text "2^32") (Err (OverLimit 14))
    -- two signs, or two spaces, accepted; a sign without an operand
    ∷ taken_for "F**2" (left Pow 2)
    ∷ taken_for "F//2" (left Div 2)
    ∷ taken_for "F%%2" (left Rem 2)
    ∷ taken_for "F /  2" (left Div 2)
    ∷ taken_for "2  ^F" (right 2 Pow)
    ∷ taken_for "F^" (read 0)
    ∷ taken_for "/F" (read 0)
    ∷ leaves_it (size_text "F//2") (Err (BadName 14))
    -- `2^3 bits` as 8 bits, in a long row and in one of bits; 5 for 7
    ∷ writes_table (size_text "2^3") eight
    ∷ leaves_it (size_text "2^3") (Err (Mismatch 14))
    ∷ writes_table (bit_text "2^3") eight
    ∷ leaves_it (bit_text "2^3") (Err (BadForm 14))
    -- yes or no under an operator accepted, or refused by 5; a number for yes or no
    ∷ taken_for "(F==1)^2" (two Pow (left Eq 1) (num 2))
    ∷ leaves_it (size_text "(F==1)^2") (Err (BadForm 14))
    ∷ writes_table (required_text "F%2") (required (left Rem 2))
    ∷ [])

abbrev in_chains : List Claim
in_chains =
    -- depth 12 refused, or refused by 5; 13 and 24 accepted, or refused by 5
    leaves_it (size_text chain12) (Err (OverLimit 14))
    ∷ leaves_it (size_text chain12) (Err (BadForm 14))
    ∷ taken_for chain13 (powers 12)
    ∷ leaves_it (size_text chain13) (Err (BadForm 14))
    ∷ taken_for chain24 (powers 23)
    ∷ leaves_it (size_text chain24) (Err (BadForm 14))
    -- 6 though the form is wrong further right
    ∷ map (λ e. leaves_it (size_text e) (Err (OverLimit 14))) broken_chains

abbrev pub wrong_text_operators : List Claim
wrong_text_operators = in_grouping ++ (in_forms ++ in_chains)
