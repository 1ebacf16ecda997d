-- Answers of programs that are wrong about quotients, remainders and powers. [02, R-7]
use Rattle.std.specs.Prelude.{List, [], ◌∷◌, ◌++◌, map, ℕ, zero, suc, ◌+◌, ◌*◌, length, replicate, set, Err}
use Rattle.std.proofs.Math.Option.{none, some}
use Rattle.base.specs.Bytes.{bytes}
use Rattle.rules.specs.declared.Op.{Op}
use Rattle.rules.specs.declared.Op.TheVariants.{Or, And, Eq, Ne, Sub, Div, Rem, Pow}
use Rattle.rules.specs.declared.Fault.TheVariants.{ZeroDivisor}
use Rattle.rules.specs.declared.PacketRefusal.{PacketRefusal}
use Rattle.rules.specs.Trees.{Tree, num, read, two}
use Rattle.rules.specs.Values.{apply}
use Rattle.rules.specs.Fields.{fixed, measured, Field, Description}
use Rattle.rules.specs.Editions.{Edition, current, earlier, without_added}
use Rattle.rules.specs.Stored.{stored}
use Rattle.rules.specs.Reading.{Entry, absent, part_from}
use Rattle.rules.specs.Answers.{accepted, refused}
use Rattle.rules.specs.Promises.{not_good}
use Rattle.rules.specs.Cases.{lent_run, named, unnamed, entry}
use Rattle.rules.specs.Marked.{blade_report, m1, tag}
use Rattle.rules.specs.Pages.{page, is_flagged, constrained, one_is_one, compared}
use Rattle.laws.specs.Wrong.{
  Claim,
  checks,
  checks_in,
  checks_bytes,
  reads_in,
  reads,
  lists,
  hands,
  places_part,
  tells_number,
  tells_place,
  reads_partly,
  run_of,
  lent_output,
  output_of,
}

-- ── descriptions ──

-- `A o B`; `A o B == n`
abbrev pub of_both : Op → Tree ℕ
of_both o = two o (read 0) (read 1)

abbrev pub both_give : Op → ℕ → Tree ℕ
both_give o n = two Eq (of_both o) (num n)

-- a byte A, a byte B, and a third field: as many bytes as a tree says; a byte with a constraint, with a condition
abbrev pub behind_two : Field ℕ → Description
behind_two f = page (named "First" "A" (fixed 8) none none ∷ named "Second" "B" (fixed 8) none none ∷ f ∷ [])

abbrev pub sized_by : Tree ℕ → Description
sized_by t = behind_two (unnamed "Body" (measured 8 t) none none)

abbrev pub required_by : Tree ℕ → Description
required_by t = behind_two (unnamed "Sum" (fixed 8) (some t) none)

abbrev pub present_by : Tree ℕ → Description
present_by t = behind_two (unnamed "Tail" (fixed 8) none (some t))

abbrev pub sized : Op → Description
sized o = sized_by (of_both o)

-- `A / B` bytes, present only when `B != 0`
abbrev pub sized_unless : Description
sized_unless = behind_two (unnamed "Body" (measured 8 (of_both Div)) none (some (two Ne (read 1) (num 0))))

-- `F / E` bytes, where E may be absent
abbrev pub by_absent : Description
by_absent = page
    (named "Flag" "F" (fixed 8) none none
    ∷ named "Extra" "E" (fixed 8) none (some is_flagged)
    ∷ unnamed "Body" (measured 8 (of_both Div)) none none
    ∷ [])

-- `B != 0 && A / B == 3`, `B == 0 || A / B == 3`; `B == 0 && A / B == 3`
abbrev pub where_divisor : Tree ℕ
where_divisor = two And (two Ne (read 1) (num 0)) (both_give Div 3)

abbrev pub unless_divisor : Tree ℕ
unless_divisor = two Or (two Eq (read 1) (num 0)) (both_give Div 3)

abbrev pub no_divisor : Tree ℕ
no_divisor = two And (two Eq (read 1) (num 0)) (both_give Div 3)

-- `(A - B) / 0`, `A / (A - B)`, `A / 0 - (A - B)`, `A - B - A / 0`
abbrev pub left_out : Tree ℕ
left_out = two Div (of_both Sub) (num 0)

abbrev pub right_out : Tree ℕ
right_out = two Div (read 0) (of_both Sub)

abbrev pub zero_first : Tree ℕ
zero_first = two Sub (two Div (read 0) (num 0)) (of_both Sub)

abbrev pub zero_last : Tree ℕ
zero_last = two Sub (of_both Sub) (two Div (read 0) (num 0))

-- 2 to the power 2 to the power 2 and so on, n operators: depth n + 1
unfoldable pub powers : {N : Type 0} → ℕ → Tree N
powers zero = num 2
powers (suc n) = two Pow (num 2) (powers n)

-- 2 / 2 / 2 and so on, n operators
unfoldable pub quotients : {N : Type 0} → ℕ → Tree N
quotients zero = num 2
quotients (suc n) = two Div (quotients n) (num 2)

-- the table of `A / B` bytes with another code
abbrev pub coded : ℕ → List ℕ
coded c = set (stored (sized Div)) 77 c

-- the edition without the three
abbrev pub before : Edition
before = without_added apply

-- ── short ways to write a claim ──

-- the entries of A and B
abbrev pub first_two : ℕ → ℕ → List Entry
first_two a b = entry 0 8 a ∷ entry 8 8 b ∷ []

-- a and b and n bytes are accepted, and the third field takes the n bytes; or they are refused
abbrev pub takes : Description → ℕ → ℕ → ℕ → Claim
takes d a b n = reads d (a ∷ b ∷ replicate n 5) (accepted (8 * (2 + n)))
    (run_of (first_two a b ++ (entry 16 (8 * n) 0 ∷ [])))

abbrev pub stops : Description → ℕ → ℕ → ℕ → ℕ → ℕ → Claim
stops d a b n number place = reads d (a ∷ b ∷ replicate n 5) (refused number place) lent_run

-- the third field is one byte; it is absent
abbrev pub one : Description → ℕ → ℕ → Claim
one d a b = reads d (a ∷ b ∷ 5 ∷ []) (accepted 24) (run_of (first_two a b ++ (entry 16 8 5 ∷ [])))

abbrev pub lacks : Description → ℕ → ℕ → Claim
lacks d a b = reads d (a ∷ b ∷ []) (accepted 16) (run_of (first_two a b ++ (absent ∷ [])))

-- ── the answers ──

abbrev in_quotients : List Claim
in_quotients =
    -- `/` rounded up, or to the nearest; `/` and `%` exchanged; the operands exchanged; `*` taken for it
    takes (sized Div) 7 2 4
    ∷ stops (sized Div) 7 2 3 24 3
    ∷ takes (sized Div) 5 3 2
    ∷ takes (sized Div) 7 2 1
    ∷ takes (sized Rem) 7 2 3
    ∷ takes (sized Div) 2 7 3
    ∷ takes (sized Rem) 2 7 1
    ∷ takes (sized Div) 4 2 8
    -- a remainder from 1 on
    ∷ takes (sized Rem) 6 2 2
    -- a zero divisor: 27; 24, as for the largest number; 0, or the number itself; 0 by 0 as 0 or 1
    ∷ stops (sized Div) 7 0 0 27 3
    ∷ stops (sized Rem) 7 0 0 27 3
    ∷ stops (sized Div) 7 0 0 24 3
    ∷ takes (sized Div) 7 0 0
    ∷ takes (sized Div) 7 0 7
    ∷ takes (sized Rem) 7 0 0
    ∷ takes (sized Rem) 7 0 7
    ∷ takes (sized Div) 0 0 0
    ∷ takes (sized Div) 0 0 1
    ∷ takes (sized Rem) 0 0 0
    -- its place: from 0, or that of the divisor; no place
    ∷ stops (sized Div) 7 0 0 29 2
    ∷ stops (sized_by (two Div (read 1) (read 0))) 0 7 0 29 1
    ∷ stops (sized Div) 7 0 0 29 0
    -- the run changed
    ∷ reads (sized Div) (7 ∷ 0 ∷ []) (refused 29 3) (run_of (first_two 7 0))
    ∷ []

abbrev in_order : List Claim
in_order =
    -- 29 before 27 of the left operand, of the right one; 27 of the right one before 29 of the left one, and back
    stops (sized_by left_out) 1 2 0 29 3
    ∷ stops (sized_by right_out) 1 2 0 29 3
    ∷ stops (sized_by zero_first) 1 2 0 27 3
    ∷ stops (sized_by zero_last) 1 2 0 29 3
    -- in a constraint: 25, or accepted; before 24
    ∷ stops (required_by (both_give Div 0)) 7 0 1 25 3
    ∷ one (required_by (both_give Div 0)) 7 0
    ∷ stops (required_by (both_give Div 0)) 7 0 0 29 3
    -- in a condition: taken for no, or for yes
    ∷ lacks (present_by (both_give Rem 0)) 7 0
    ∷ one (present_by (both_give Rem 0)) 7 0
    -- 29 though `&&` or `||` skips it, or though the field is absent
    ∷ stops (present_by where_divisor) 7 0 0 29 3
    ∷ stops (required_by unless_divisor) 7 0 1 29 3
    ∷ stops sized_unless 7 0 0 29 3
    -- skipped though the left side does not decide
    ∷ lacks (present_by no_divisor) 7 0
    -- an absent divisor taken for 0
    ∷ reads by_absent (0 ∷ []) (refused 29 3) lent_run
    ∷ reads by_absent (0 ∷ []) (accepted 8) (run_of (entry 0 8 0 ∷ absent ∷ entry 8 0 0 ∷ []))
    ∷ []

abbrev in_powers : List Claim
in_powers =
    -- 0^0 as 0, or as a fault; 0^255 as 1; x^0 as 0 or x
    takes (sized Pow) 0 0 0
    ∷ stops (sized Pow) 0 0 1 27 3
    ∷ stops (sized Pow) 0 0 1 29 3
    ∷ takes (sized Pow) 0 255 1
    ∷ takes (sized Pow) 7 0 0
    ∷ takes (sized Pow) 7 0 7
    -- out of range: 29; cut to 32 bits, or its exponent to 5; the largest number for it
    ∷ stops (sized Pow) 2 32 0 29 3
    ∷ takes (sized Pow) 2 32 0
    ∷ takes (sized Pow) 2 32 1
    ∷ stops (sized Pow) 2 32 0 24 3
    ∷ one (required_by (two Eq (compared 65536 Pow 2) (num 0))) 7 2
    ∷ one (required_by (two Eq (compared 2 Pow 32) (num 4_294_967_295))) 7 2
    ∷ one (required_by (two Eq (compared 4_294_967_295 Pow 4_294_967_295) (num 4_294_967_295))) 7 2
    -- in range, and refused: 31 bits taken for all; very many products of 1 or of 0
    ∷ stops (required_by (two Eq (compared 2 Pow 31) (num 2_147_483_648))) 7 2 1 27 3
    ∷ stops (sized Pow) 1 255 1 27 3
    ∷ stops (sized Pow) 0 255 0 27 3
    ∷ stops (required_by (two Eq (compared 1 Pow 4_294_967_295) (num 1))) 7 2 1 27 3
    -- the operands exchanged; bits that differ; a product; one product less, one more
    ∷ takes (sized Pow) 2 3 9
    ∷ takes (sized Pow) 2 3 1
    ∷ takes (sized Pow) 2 3 6
    ∷ takes (sized Pow) 2 3 4
    ∷ takes (sized Pow) 2 3 16
    ∷ []

abbrev in_others : List Claim
in_others =
    -- a listing: 27; another place; the fields before it; nothing
    lists (sized Div) (7 ∷ 0 ∷ []) (accepted 16) (output_of (bytes "refused 27 at 3\n"))
    ∷ lists (sized Div) (7 ∷ 0 ∷ []) (accepted 16) (output_of (bytes "refused 29 at 2\n"))
    ∷ lists (sized Div) (7 ∷ 0 ∷ []) (accepted 16) (output_of (bytes "refused 29 at 0\n"))
    ∷ lists (sized Div) (7 ∷ 0 ∷ []) (accepted 43)
    (output_of (bytes "First: 0 8 7\nSecond: 8 8 0\nrefused 29 at 3\n"))
    ∷ lists (sized Div) (7 ∷ 0 ∷ []) (accepted 0) lent_output
    -- a field's bytes although the packet is refused
    ∷ hands (sized Div) (7 ∷ 0 ∷ []) 0 (7 ∷ []) 0
    ∷ places_part (sized Div) (7 ∷ 0 ∷ []) 1 (part_from 1 1)
    ∷ places_part (required_by (both_give Div 0)) (7 ∷ 0 ∷ 5 ∷ []) 2 (part_from 2 1)
    -- as far as it goes: 27; nothing written; the refused field counted, or its numbers written
    ∷ reads_partly (sized Div) (7 ∷ 0 ∷ []) (refused 27 3) (run_of (first_two 7 0)) 2
    ∷ reads_partly (sized Div) (7 ∷ 0 ∷ []) (refused 29 3) lent_run 0
    ∷ reads_partly (sized Div) (7 ∷ 0 ∷ []) (refused 29 3) (run_of (first_two 7 0)) 3
    ∷ reads_partly (sized Div) (7 ∷ 0 ∷ []) (refused 29 3) (run_of (first_two 7 0 ++ (absent ∷ []))) 2
    ∷ reads_partly (required_by (both_give Div 0)) (7 ∷ 0 ∷ 5 ∷ []) (refused 29 3)
    (run_of (first_two 7 0 ++ (entry 16 8 5 ∷ []))) 2
    ∷ reads_partly (required_by (both_give Div 0)) (7 ∷ 0 ∷ 5 ∷ []) (refused 29 3)
    (run_of (first_two 7 0 ++ (entry 16 8 5 ∷ []))) 3
    -- its number and place
    ∷ tells_number (Err (PacketRefusal.Field ZeroDivisor 3)) 27
    ∷ tells_number (Err (PacketRefusal.Field ZeroDivisor 3)) 28
    ∷ tells_number (Err (PacketRefusal.Field ZeroDivisor 3)) 0
    ∷ tells_place (Err (PacketRefusal.Field ZeroDivisor 3)) 0
    ∷ tells_place (Err (PacketRefusal.Field ZeroDivisor 3)) 2
    ∷ []

-- the bytes are accepted as a table
abbrev accepts : List ℕ → Claim
accepts table = checks_bytes table (accepted (length table))

abbrev in_tables : List Claim
in_tables =
    -- 21 for an operator; for a single power as a width; for depth 12
    map (λ o. checks (sized o) not_good) (Div ∷ Rem ∷ Pow ∷ [])
    ++ (checks_in earlier (stored (sized Pow)) not_good
    ∷ checks (sized_by (compared 2 Pow 3)) not_good
    ∷ checks (sized_by (powers 11)) not_good
    ∷ checks (sized_by (quotients 11)) not_good
    -- depth 13 accepted
    ∷ accepts (stored (sized_by (powers 12)))
    ∷ accepts (stored (sized_by (quotients 12)))
    -- codes in decimal, or one more, accepted, and read by
    ∷ accepts (coded 13)
    ∷ accepts (coded 14)
    ∷ accepts (coded 15)
    ∷ accepts (coded 0x16)
    ∷ reads_in current 30 (coded 0x16) (7 ∷ 2 ∷ []) (accepted 16) (run_of (first_two 7 2 ++ (entry 16 0 0 ∷ [])))
    -- yes or no under an operator, or a number for yes or no
    ∷ accepts (stored (sized_by (two Pow one_is_one (num 2))))
    ∷ accepts (stored (sized_by (two Div (num 2) one_is_one)))
    ∷ accepts (stored (constrained (two Rem (read 0) (num 2))))
    ∷ [])

-- the same of the edition without the three
abbrev in_before : List Claim
in_before =
    -- an operator that it has not: good, and read by
    map (λ o. checks_in before (stored (sized o)) (accepted (length (stored (sized o))))) (Div ∷ Rem ∷ Pow ∷ [])
    ++ (reads_in before 30 (stored (sized Pow)) (2 ∷ 1 ∷ 5 ∷ 5 ∷ []) (accepted 32)
    (run_of (first_two 2 1 ++ (entry 16 16 0 ∷ [])))
    ∷ reads_in before 30 (stored (sized Div)) (7 ∷ 0 ∷ []) (refused 29 3) lent_run
    -- a table of document 01 refused
    ∷ checks_in before (stored tag) not_good
    ∷ reads_in before 30 (stored blade_report) m1 not_good lent_run
    ∷ [])

abbrev pub wrong_operators : List Claim
wrong_operators = in_quotients ++ (in_order ++ (in_powers ++ (in_others ++ (in_tables ++ in_before))))
