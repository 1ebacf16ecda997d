-- Worked cases: trees, their spelling, their values and their limits. [01, Expressions]
use Rattle.std.specs.Prelude.{List, [], ◌∷◌, ◌++◌}
use Rattle.std.proofs.Math.Option.{none, some}
use Rattle.base.specs.Bytes.{bytes}
use Rattle.rules.specs.declared.Op.TheVariants.{Or, And, Eq, Ne, Lt, Le, Gt, Ge, Add, Sub, Mul}
use Rattle.rules.specs.Trees.{num, read, two, negation}
use Rattle.rules.specs.Fields.{fixed, measured}
use Rattle.rules.specs.Cases.{Case, fits, exceeds, values, faults, unspelled, unnamed}
use Rattle.rules.specs.Pages.{
  single,
  constrained,
  conditioned,
  wide,
  after_body,
  one_is_one,
  not_times,
  long,
  compared,
  only_first,
  not_last,
}

abbrev valued : List Case
valued =
    -- comparisons
    values (bytes "1 < 2 && !(2 < 2) && !(3 < 2)") (only_first Lt 1 2 3) 1
    ∷ values (bytes "3 > 2 && !(2 > 2) && !(1 > 2)") (only_first Gt 3 2 1) 1
    ∷ values (bytes "2 == 2 && !(1 == 2) && !(3 == 2)") (only_first Eq 2 1 3) 1
    ∷ values (bytes "1 <= 2 && 2 <= 2 && !(3 <= 2)") (not_last Le 1 2 3) 1
    ∷ values (bytes "3 >= 2 && 2 >= 2 && !(1 >= 2)") (not_last Ge 3 2 1) 1
    ∷ values (bytes "1 != 2 && 3 != 2 && !(2 != 2)") (not_last Ne 1 3 2) 1
    -- `||` is looser than `&&`, `+` than `*`, a comparison than `+`; parentheses
    ∷ values (bytes "1==1||1==1&&1==2") (two Or (compared 1 Eq 1) (two And (compared 1 Eq 1) (compared 1 Eq 2))) 1
    ∷ values (bytes "1==2||1==2") (two Or (compared 1 Eq 2) (compared 1 Eq 2)) 0
    ∷ values (bytes "1==2||1==2||1==1") (two Or (two Or (compared 1 Eq 2) (compared 1 Eq 2)) (compared 1 Eq 1)) 1
    ∷ values (bytes "2*3*4") (two Mul (two Mul (num 2) (num 3)) (num 4)) 24
    ∷ values (bytes "3-3") (compared 3 Sub 3) 0
    ∷ values (bytes "((2 + 3))*4") (two Mul (two Add (num 2) (num 3)) (num 4)) 20
    ∷ values (bytes "7-(2-1)") (two Sub (num 7) (two Sub (num 2) (num 1))) 6
    ∷ values (bytes "1+1 ==2") (two Eq (two Add (num 1) (num 1)) (num 2)) 1
    -- a side that is skipped, and one that is not; the left operand's fault first
    ∷ values (bytes "1==1||3-5==0") (two Or (compared 1 Eq 1) (two Eq (compared 3 Sub 5) (num 0))) 1
    ∷ values (bytes "1==2&&3-5==0") (two And (compared 1 Eq 2) (two Eq (compared 3 Sub 5) (num 0))) 0
    ∷ faults (bytes "1==1&&3-5==0") (two And (compared 1 Eq 1) (two Eq (compared 3 Sub 5) (num 0))) 27
    ∷ faults (bytes "3-5+a") (two Add (compared 3 Sub 5) (read (bytes "a"))) 27
    ∷ faults (bytes "a+(3-5)") (two Add (read (bytes "a")) (compared 3 Sub 5)) 26
    ∷ faults (bytes "4294967295+1") (compared 4_294_967_295 Add 1) 27
    ∷ values (bytes "4294967294 + 1") (compared 4_294_967_294 Add 1) 4_294_967_295
    ∷ []

abbrev parentheses : List Case
parentheses =
    -- 12 parentheses open at once, and 13
    values (bytes "((((((((((((7))))))))))))") (num 7) 7
    ∷ unspelled (bytes "(((((((((((((7)))))))))))))")
    ∷ unspelled (bytes "!(((((((((((((1==1)))))))))))))")
    ∷ []

abbrev not_spelled : List Case
not_spelled =
    -- a comparison groups to neither side
    unspelled (bytes "1==1==1")
    ∷ unspelled (bytes "1!=1!=1")
    ∷ unspelled (bytes "1<1<1")
    ∷ unspelled (bytes "1<=1<=1")
    ∷ unspelled (bytes "1>1>1")
    ∷ unspelled (bytes "1>=1>=1")
    -- spaces stand singly beside a two-sided operator; numbers and names have their form
    ∷ unspelled (bytes "1  +1")
    ∷ unspelled (bytes "1+  1")
    ∷ unspelled (bytes "( 1)")
    ∷ unspelled (bytes "! (1==1)")
    ∷ unspelled (bytes " 1")
    ∷ unspelled (bytes "1 ")
    ∷ unspelled (bytes "!a")
    ∷ unspelled (bytes "()")
    ∷ unspelled (bytes "1+")
    ∷ unspelled []
    ∷ unspelled (bytes "01")
    ∷ unspelled (bytes "4294967296")
    ∷ unspelled (bytes "1a")
    ∷ unspelled (bytes "byte")
    ∷ unspelled (bytes "abcdefghi")
    ∷ []

abbrev sizes : List Case
sizes =
    -- depth and stored form of a tree, and its numbers
    fits (constrained (not_times 10 one_is_one))
    ∷ exceeds (constrained (not_times 11 one_is_one))
    ∷ exceeds (constrained (two And one_is_one (not_times 10 one_is_one)))
    ∷ exceeds (constrained (two And (not_times 10 one_is_one) one_is_one))
    ∷ fits (constrained (long 1))
    ∷ exceeds (constrained (long 2))
    ∷ fits (constrained (two Eq (num 1) (num 4_294_967_295)))
    ∷ exceeds (constrained (two Eq (num 1) (num 4_294_967_296)))
    ∷ exceeds (constrained (negation (two Eq (num 4_294_967_296) (num 1))))
    ∷ []

abbrev types : List Case
types =
    -- types of values
    exceeds (wide 8 (measured 8 one_is_one))
    ∷ exceeds (constrained (num 1))
    ∷ exceeds (conditioned (num 1))
    ∷ exceeds (constrained (negation (num 1)))
    ∷ exceeds (constrained (two Eq one_is_one (num 1)))
    ∷ exceeds (constrained (two Eq (num 1) (negation one_is_one)))
    ∷ exceeds (constrained (two And (num 1) one_is_one))
    ∷ exceeds (constrained (two Or one_is_one (read 0)))
    -- a constraint reads its own field, a condition does not; no later, nameless or long field is read
    ∷ fits (constrained (two Eq (read 0) (num 1)))
    ∷ exceeds (conditioned (two Eq (read 0) (num 1)))
    ∷ exceeds (constrained (two Eq (read 1) (num 1)))
    ∷ exceeds (single (unnamed "No Name" (fixed 8) (some (two Eq (read 0) (num 1))) none))
    ∷ exceeds (after_body (two Eq (read 0) (num 1)))
    ∷ []

abbrev pub expressions : List Case
expressions = valued ++ (parentheses ++ (not_spelled ++ (sizes ++ types)))
