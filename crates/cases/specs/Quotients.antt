-- Worked cases: quotients, remainders and powers. [02, R-7]
use Rattle.std.specs.Prelude.{List, [], ◌∷◌, ◌++◌, map, ℕ, ◌+◌, ◌*◌, replicate}
use Rattle.std.proofs.Math.Option.{none}
use Prim.Native.String.{String}
use Rattle.base.specs.Bytes.{bytes}
use Rattle.rules.specs.declared.Op.{Op}
use Rattle.rules.specs.declared.Op.TheVariants.{Or, And, Eq, Ge, Add, Sub, Mul, Div, Rem, Pow}
use Rattle.rules.specs.Trees.{Tree, num, read, two, negation}
use Rattle.rules.specs.Fields.{measured, Description}
use Rattle.rules.specs.Reading.{absent, no_part}
use Rattle.rules.specs.Answers.{accepted, refused}
use Rattle.rules.specs.Cases.{
  Case,
  fits,
  reads,
  hands,
  exceeds,
  values,
  faults,
  unspelled,
  checks,
  refuses,
  reads_to,
  refused_by,
  unnamed,
  entry,
}
use Rattle.rules.specs.Pages.{single, constrained, wide, one_is_one, compared}
use Rattle.laws.specs.WrongOperators as tables
use Rattle.laws.specs.WrongOperators.{powers, both_give, sized_by, required_by, present_by, first_two}
use Rattle.text_laws.specs.WrongTextOperators as texts
use Rattle.text_laws.specs.WrongTextOperators.{size_text, left, right}
use Rattle.cases.specs.Names.{writes}

-- ── values ──

abbrev valued : List Case
valued =
    -- rounded down; what is left; all that is in range
    values (bytes "7/2") (compared 7 Div 2) 3
    ∷ values (bytes "7%2") (compared 7 Rem 2) 1
    ∷ values (bytes "8/2") (compared 8 Div 2) 4
    ∷ values (bytes "8%2") (compared 8 Rem 2) 0
    ∷ values (bytes "2/7") (compared 2 Div 7) 0
    ∷ values (bytes "2%7") (compared 2 Rem 7) 2
    ∷ values (bytes "0/5") (compared 0 Div 5) 0
    ∷ values (bytes "0%5") (compared 0 Rem 5) 0
    ∷ values (bytes "4294967295/1") (compared 4_294_967_295 Div 1) 4_294_967_295
    ∷ values (bytes "4294967295/4294967295") (compared 4_294_967_295 Div 4_294_967_295) 1
    ∷ values (bytes "4294967295%65536") (compared 4_294_967_295 Rem 65536) 65535
    -- powers; those of 0 and 1, and the least exponents
    ∷ values (bytes "2^10") (compared 2 Pow 10) 1024
    ∷ values (bytes "0^0") (compared 0 Pow 0) 1
    ∷ values (bytes "0^5") (compared 0 Pow 5) 0
    ∷ values (bytes "7^0") (compared 7 Pow 0) 1
    ∷ values (bytes "7^1") (compared 7 Pow 1) 7
    ∷ values (bytes "4294967295^0") (compared 4_294_967_295 Pow 0) 1
    ∷ values (bytes "4294967295^1") (compared 4_294_967_295 Pow 1) 4_294_967_295
    ∷ values (bytes "0^4294967295") (compared 0 Pow 4_294_967_295) 0
    ∷ values (bytes "1^4294967295") (compared 1 Pow 4_294_967_295) 1
    -- the largest in range
    ∷ values (bytes "2^31") (compared 2 Pow 31) 2_147_483_648
    ∷ values (bytes "3^20") (compared 3 Pow 20) 3_486_784_401
    ∷ values (bytes "65535^2") (compared 65535 Pow 2) 4_294_836_225
    -- one space or none on each side; parentheses that need not be there
    ∷ values (bytes "7 / 2") (compared 7 Div 2) 3
    ∷ values (bytes "7 %2") (compared 7 Rem 2) 1
    ∷ values (bytes "2 ^3") (compared 2 Pow 3) 8
    ∷ values (bytes "2^ 3") (compared 2 Pow 3) 8
    ∷ values (bytes "((2)^(3))") (compared 2 Pow 3) 8
    ∷ []

abbrev grouped : List Case
grouped =
    -- `^` groups to the right, `/` and `%` to the left, beside `*`
    values (bytes "2^3^2") (two Pow (num 2) (compared 3 Pow 2)) 512
    ∷ values (bytes "2^(3^2)") (two Pow (num 2) (compared 3 Pow 2)) 512
    ∷ values (bytes "(2^3)^2") (two Pow (compared 2 Pow 3) (num 2)) 64
    ∷ values (bytes "2^1^2^3") (two Pow (num 2) (two Pow (num 1) (compared 2 Pow 3))) 2
    ∷ values (bytes "100/10/5") (two Div (compared 100 Div 10) (num 5)) 2
    ∷ values (bytes "100/(10/5)") (two Div (num 100) (compared 10 Div 5)) 50
    ∷ values (bytes "17%10%4") (two Rem (compared 17 Rem 10) (num 4)) 3
    ∷ values (bytes "17%(10%4)") (two Rem (num 17) (compared 10 Rem 4)) 1
    ∷ values (bytes "2*3/4") (two Div (compared 2 Mul 3) (num 4)) 1
    ∷ values (bytes "2/3*4") (two Mul (compared 2 Div 3) (num 4)) 0
    ∷ values (bytes "7%4*2") (two Mul (compared 7 Rem 4) (num 2)) 6
    ∷ values (bytes "2*7%4") (two Rem (compared 2 Mul 7) (num 4)) 2
    ∷ values (bytes "9/2%3") (two Rem (compared 9 Div 2) (num 3)) 1
    ∷ values (bytes "9%5/2") (two Div (compared 9 Rem 5) (num 2)) 2
    -- tighter than `*`, `+`, `-` and comparisons
    ∷ values (bytes "2^3*2") (two Mul (compared 2 Pow 3) (num 2)) 16
    ∷ values (bytes "2*2^3") (two Mul (num 2) (compared 2 Pow 3)) 16
    ∷ values (bytes "64/2^3") (two Div (num 64) (compared 2 Pow 3)) 8
    ∷ values (bytes "3^2%5") (two Rem (compared 3 Pow 2) (num 5)) 4
    ∷ values (bytes "2+3^2") (two Add (num 2) (compared 3 Pow 2)) 11
    ∷ values (bytes "(2+3)^2") (two Pow (compared 2 Add 3) (num 2)) 25
    ∷ values (bytes "2^3-1") (two Sub (compared 2 Pow 3) (num 1)) 7
    ∷ values (bytes "2^(3-1)") (two Pow (num 2) (compared 3 Sub 1)) 4
    ∷ values (bytes "10-7%4") (two Sub (num 10) (compared 7 Rem 4)) 7
    ∷ values (bytes "1+7/2") (two Add (num 1) (compared 7 Div 2)) 4
    ∷ values (bytes "7%2==1&&2^3>=8")
    (two And (two Eq (compared 7 Rem 2) (num 1)) (two Ge (compared 2 Pow 3) (num 8))) 1
    ∷ []

abbrev faulted : List Case
faulted =
    -- a zero divisor
    faults (bytes "1/0") (compared 1 Div 0) 29
    ∷ faults (bytes "1%0") (compared 1 Rem 0) 29
    ∷ faults (bytes "0/0") (compared 0 Div 0) 29
    ∷ faults (bytes "0%0") (compared 0 Rem 0) 29
    ∷ faults (bytes "1/(2-2)") (two Div (num 1) (compared 2 Sub 2)) 29
    ∷ faults (bytes "1/0^5") (two Div (num 1) (compared 0 Pow 5)) 29
    -- a power out of range
    ∷ faults (bytes "2^32") (compared 2 Pow 32) 27
    ∷ faults (bytes "3^21") (compared 3 Pow 21) 27
    ∷ faults (bytes "65536^2") (compared 65536 Pow 2) 27
    ∷ faults (bytes "2^4294967295") (compared 2 Pow 4_294_967_295) 27
    ∷ faults (bytes "4294967295^2") (compared 4_294_967_295 Pow 2) 27
    ∷ faults (bytes "4294967295^4294967295") (compared 4_294_967_295 Pow 4_294_967_295) 27
    -- the operands first, the left one before the right one
    ∷ faults (bytes "(1-2)/0") (two Div (compared 1 Sub 2) (num 0)) 27
    ∷ faults (bytes "(1-2)%0") (two Rem (compared 1 Sub 2) (num 0)) 27
    ∷ faults (bytes "1/(1-2)") (two Div (num 1) (compared 1 Sub 2)) 27
    ∷ faults (bytes "0/(1-2)") (two Div (num 0) (compared 1 Sub 2)) 27
    ∷ faults (bytes "2^32/0") (two Div (compared 2 Pow 32) (num 0)) 27
    ∷ faults (bytes "1/0-(1-2)") (two Sub (compared 1 Div 0) (compared 1 Sub 2)) 29
    ∷ faults (bytes "1-2-1/0") (two Sub (compared 1 Sub 2) (compared 1 Div 0)) 27
    ∷ faults (bytes "1%0^(1-2)") (two Rem (num 1) (two Pow (num 0) (compared 1 Sub 2))) 27
    ∷ faults (bytes "0^(1/0)") (two Pow (num 0) (compared 1 Div 0)) 29
    ∷ faults (bytes "a/0") (two Div (read (bytes "a")) (num 0)) 26
    ∷ faults (bytes "1/a") (two Div (num 1) (read (bytes "a"))) 26
    ∷ faults (bytes "1/0+a") (two Add (compared 1 Div 0) (read (bytes "a"))) 29
    -- skipped, and not
    ∷ values (bytes "1==2&&1/0==0") (two And (compared 1 Eq 2) (two Eq (compared 1 Div 0) (num 0))) 0
    ∷ values (bytes "1==1||1/0==0") (two Or (compared 1 Eq 1) (two Eq (compared 1 Div 0) (num 0))) 1
    ∷ faults (bytes "1==1&&1%0==0") (two And (compared 1 Eq 1) (two Eq (compared 1 Rem 0) (num 0))) 29
    ∷ faults (bytes "1==2||!(1%0==0)") (two Or (compared 1 Eq 2) (negation (two Eq (compared 1 Rem 0) (num 0)))) 29
    ∷ []

-- no tree
abbrev not_spelled : List Case
not_spelled =
    map (λ s. unspelled (bytes s))
    ("/2" ∷ "2/" ∷ "2//3" ∷ "2**3" ∷ "^2" ∷ "2^" ∷ "2 /  3" ∷ "2  ^3" ∷ "2%%3" ∷ "%2" ∷ "2%" ∷ "2^^3" ∷ "2/%3" ∷ "2^-3"
    ∷ "2^ " ∷ "2 3" ∷ "(/)" ∷ "2^()" ∷ "2\\3" ∷ "!2^3" ∷ "!(1==1)^" ∷ "1==1==2^0" ∷ [])

-- ── limits ──

abbrev limits : List Case
limits =
    -- depth 12 and 13, of powers and of quotients
    fits (sized_by (powers 11))
    ∷ exceeds (sized_by (powers 12))
    ∷ fits (sized_by (tables.quotients 11))
    ∷ exceeds (sized_by (tables.quotients 12))
    -- a width of numbers alone is measured; its tree is not a single number
    ∷ fits (wide 8 (measured 8 (compared 2 Pow 3)))
    ∷ fits (wide 8 (measured 1 (compared 8 Div 0)))
    -- operands are numbers, and so is the whole
    ∷ exceeds (wide 8 (measured 1 (two Pow one_is_one (num 2))))
    ∷ exceeds (wide 8 (measured 1 (two Div (num 2) one_is_one)))
    ∷ exceeds (constrained (two Eq (two Rem one_is_one (num 2)) (num 1)))
    ∷ exceeds (constrained (two Rem (read 0) (num 2)))
    ∷ exceeds (constrained (negation (two Pow (read 0) (num 2))))
    ∷ exceeds (constrained (two And one_is_one (two Div (read 0) (num 2))))
    ∷ fits (constrained (two Eq (two Rem (read 0) (num 2)) (num 1)))
    ∷ []

-- ── packets ──

-- a and b and n bytes, which the third field takes; refused
abbrev takes : Op → ℕ → ℕ → ℕ → Case
takes o a b n = reads (tables.sized o) (a ∷ b ∷ replicate n 5)
    (reads_to (8 * (2 + n)) (first_two a b ++ (entry 16 (8 * n) 0 ∷ [])))

abbrev stops : Description → ℕ → ℕ → ℕ → ℕ → Case
stops d a b n number = reads d (a ∷ b ∷ replicate n 5) (refused_by number 3)

-- the third field is a byte; it is absent
abbrev one : Description → ℕ → ℕ → Case
one d a b = reads d (a ∷ b ∷ 5 ∷ []) (reads_to 24 (first_two a b ++ (entry 16 8 5 ∷ [])))

abbrev lacks : Description → ℕ → ℕ → Case
lacks d a b = reads d (a ∷ b ∷ []) (reads_to 16 (first_two a b ++ (absent ∷ [])))

-- `2^F bits` as in source document 001
abbrev power_page : Description
power_page = texts.sized (right 2 Pow)

abbrev packets : List Case
packets =
    -- 8 bits for 3, 64 for 6; bits left over for 0; missing for 4 and 16; out of range for 32 and 255
    reads power_page (3 ∷ 5 ∷ []) (reads_to 16 (entry 0 8 3 ∷ entry 8 8 0 ∷ []))
    ∷ reads power_page (6 ∷ replicate 8 5) (reads_to 72 (entry 0 8 6 ∷ entry 8 64 0 ∷ []))
    ∷ reads power_page (0 ∷ 5 ∷ []) (refused_by 28 0)
    ∷ reads power_page (4 ∷ 5 ∷ []) (refused_by 24 2)
    ∷ reads power_page (16 ∷ replicate 8190 5) (refused_by 24 2)
    ∷ reads power_page (31 ∷ 5 ∷ []) (refused_by 24 2)
    ∷ reads power_page (32 ∷ 5 ∷ []) (refused_by 27 2)
    ∷ reads power_page (255 ∷ 5 ∷ []) (refused_by 27 2)
    -- widths
    ∷ takes Div 7 2 3
    ∷ takes Div 255 85 3
    ∷ takes Rem 7 2 1
    ∷ takes Pow 2 3 8
    ∷ takes Pow 0 0 1
    ∷ takes Pow 1 255 1
    ∷ stops (tables.sized Pow) 2 32 0 27
    ∷ stops (tables.sized Pow) 255 255 0 27
    -- a zero divisor in a width, a constraint, a condition: 29 at the field; bits that are missing first
    ∷ stops (tables.sized Div) 7 0 0 29
    ∷ stops (tables.sized Rem) 7 0 3 29
    ∷ stops (required_by (both_give Div 0)) 7 0 1 29
    ∷ stops (required_by (both_give Div 0)) 7 0 0 24
    ∷ stops (present_by (both_give Rem 0)) 7 0 1 29
    ∷ reads (single (unnamed "Body" (measured 1 (compared 8 Div 0)) none none)) [] (refused_by 29 1)
    ∷ []

abbrev in_order : List Case
in_order =
    -- the constraint and the condition where there is a divisor
    one (required_by (both_give Div 3)) 7 2
    ∷ stops (required_by (both_give Div 4)) 7 2 1 25
    ∷ one (present_by (both_give Rem 1)) 7 2
    ∷ lacks (present_by (both_give Rem 1)) 8 2
    -- 27 of an operand before 29, 29 of the left one before 27 of the right one
    ∷ stops (sized_by tables.left_out) 1 2 0 27
    ∷ stops (sized_by tables.right_out) 1 2 0 27
    ∷ stops (sized_by tables.zero_first) 1 2 0 29
    ∷ stops (sized_by tables.zero_last) 1 2 0 27
    -- an absent divisor is 26; a present one, and a present one that is 0
    ∷ reads tables.by_absent (0 ∷ []) (refused_by 26 3)
    ∷ reads tables.by_absent (1 ∷ 1 ∷ 5 ∷ []) (reads_to 24 (entry 0 8 1 ∷ entry 8 8 1 ∷ entry 16 8 0 ∷ []))
    ∷ reads tables.by_absent (1 ∷ 0 ∷ 5 ∷ []) (refused_by 29 3)
    -- skipped, and not; in an absent field
    ∷ lacks (present_by tables.where_divisor) 7 0
    ∷ one (present_by tables.where_divisor) 7 2
    ∷ one (required_by tables.unless_divisor) 7 0
    ∷ stops (present_by tables.no_divisor) 7 0 0 29
    ∷ lacks tables.sized_unless 7 0
    -- the part of a field; none where the packet is refused
    ∷ hands (tables.sized Div) (7 ∷ 2 ∷ 5 ∷ 5 ∷ 5 ∷ []) 2 (record { start = 2; size = 3 })
    ∷ hands (tables.sized Div) (7 ∷ 0 ∷ []) 0 no_part
    ∷ hands (required_by (both_give Div 0)) (7 ∷ 0 ∷ 5 ∷ []) 2 no_part
    ∷ []

-- ── tables ──

abbrev in_tables : List Case
in_tables =
    -- 13, 14, 15 are hexadecimal; what comes behind them says nothing
    map (λ c. checks (tables.coded c) (accepted 90)) (0x12 ∷ 0x13 ∷ 0x14 ∷ 0x15 ∷ [])
    ++ map (λ c. checks (tables.coded c) (refused 21 0)) (13 ∷ 14 ∷ 15 ∷ 0x16 ∷ 0x17 ∷ [])

-- ── texts ──

-- the width of a text is this tree
abbrev spelled : String → Tree ℕ → Case
spelled e t = writes (size_text e) (texts.sized t)

abbrev grouped_texts : List Case
grouped_texts =
    -- `2^F bits` as in source document 001, and the others
    spelled "2^F" (right 2 Pow)
    ∷ spelled "2 ^ F" (right 2 Pow)
    ∷ spelled "F/2" (left Div 2)
    ∷ spelled "F%2" (left Rem 2)
    ∷ writes (texts.required_text "F%2 == 1") (texts.required (two Eq (left Rem 2) (num 1)))
    -- how they group
    ∷ spelled "2^F^2" (two Pow (num 2) (left Pow 2))
    ∷ spelled "(2^F)^2" (two Pow (right 2 Pow) (num 2))
    ∷ spelled "F/3/2" (two Div (left Div 3) (num 2))
    ∷ spelled "F%5%3" (two Rem (left Rem 5) (num 3))
    ∷ spelled "2*F/3" (two Div (right 2 Mul) (num 3))
    ∷ spelled "F/3*2" (two Mul (left Div 3) (num 2))
    ∷ spelled "2*F%3" (two Rem (right 2 Mul) (num 3))
    ∷ spelled "F%3*2" (two Mul (left Rem 3) (num 2))
    ∷ spelled "9/F%3" (two Rem (right 9 Div) (num 3))
    ∷ spelled "F%3/2" (two Div (left Rem 3) (num 2))
    ∷ spelled "1+F/2" (two Add (num 1) (left Div 2))
    ∷ spelled "7-F%4" (two Sub (num 7) (left Rem 4))
    ∷ spelled "2*F^2" (two Mul (num 2) (left Pow 2))
    ∷ spelled "F^2*3" (two Mul (left Pow 2) (num 3))
    ∷ spelled "8/F^2" (two Div (num 8) (left Pow 2))
    ∷ spelled "F^2%3" (two Rem (left Pow 2) (num 3))
    ∷ spelled "2+F^2" (two Add (num 2) (left Pow 2))
    ∷ spelled "2^(F+1)" (two Pow (num 2) (left Add 1))
    ∷ []

abbrev in_texts : List Case
in_texts =
    -- `2^3 bits` is measured: 7 in a row of bits; a zero divisor is no fault of a text, nor is a power out of range
    spelled "2^3" (compared 2 Pow 3)
    ∷ refuses (texts.bit_text "2^3") (refused 7 14)
    ∷ spelled "F/0" (left Div 0)
    ∷ spelled "F%0" (left Rem 0)
    ∷ spelled "2^32" (compared 2 Pow 32)
    -- 6: depth 13
    ∷ spelled texts.chain12 (powers 11)
    ∷ refuses (size_text texts.chain13) (refused 6 14)
    ∷ refuses (size_text texts.chain24) (refused 6 14)
    -- 9: a type
    ∷ refuses (size_text "(F==1)^2") (refused 9 14)
    ∷ refuses (texts.required_text "F%2") (refused 9 14)
    -- 5: two signs, two spaces, no operand; before 6, where the form of a deep one is wrong further right
    ∷ map (λ e. refuses (size_text e) (refused 5 14))
    ("F//2" ∷ "F**2" ∷ "F%%2" ∷ "F /  2" ∷ "2  ^F" ∷ "F^" ∷ "/F" ∷ texts.broken_chains)

abbrev pub quotients : List Case
quotients =
    valued
    ++ (grouped
    ++ (faulted
    ++ (not_spelled
    ++ (limits
    ++ (packets
    ++ (in_order
    ++ (in_tables
    ++ (grouped_texts
    ++ in_texts))))))))
