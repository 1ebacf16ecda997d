-- An operator's row in the code: every column is one of the table of the rules.
-- [01, Expressions] [01, The stored table] [02, R-7]
use Rattle.std.specs.Prelude.{ℕ, Option, get_or}
use Rattle.std.specs.List.{slice_get}
use Rattle.rules.specs.declared.Op.{Op}
use Rattle.rules.specs.declared.ValueType.{ValueType}
use Rattle.rules.specs.declared.Decider.{Decider}
use Rattle.rules.specs.Operators.{symbol, level, left_level, right_level, code, takes, gives, decider}
use Rattle.operators.specs.declared.rows.Row.{Row}

abbrev pub columns : ℕ → Option ℕ → ℕ → ℕ → ℕ → ℕ → ValueType → ValueType → Decider → Row
columns a b l x y c t g d = record {
  first = a;
  second = b;
  level = l;
  left = x;
  right = y;
  code = c;
  takes = t;
  gives = g;
  decider = d;
}

-- a symbol of one byte has no second
unfoldable pub row_of : Op → Row
row_of o =
    columns (get_or (symbol o) 0 0) (slice_get (symbol o) 1) (level o) (left_level o) (right_level o) (code o) (takes o)
    (gives o) (decider o)
