-- What the parts of a record say of the field that is stored there. No public promise rests on this file.
use Rattle.std.specs.Prelude.{◌≡◌, List, ℕ}
use Rattle.laws.specs.Places.{Stands}
use Rattle.rules.specs.Fields.{Width, fixed, measured, rest, Field}
use Rattle.rules.specs.Stored.{kind_number, stored_expression, stored_name, stored_maybe}
use Rattle.writing.specs.declared.spans.Span.{Span}
use Rattle.packets.specs.declared.records.Parts.{Parts}
use Rattle.packets.specs.Parts.{ending}

-- the bytes w stand in the part
abbrev pub In : List ℕ → Span → List ℕ → Type 0
In s p w = Stands s p.at w (ending p)

-- a width's number and tree
abbrev pub WidthStands : List ℕ → ℕ → Span → Width ℕ → Type 0
WidthStands s number tree (fixed n) = number ≡ n
WidthStands s number tree (measured u t) = (number ≡ u) × In s tree (stored_expression t)
WidthStands s number tree rest = Unit {0}

-- the parts of a record are those of the field f
pub record PartsStand (s : List ℕ) (p : Parts) (f : Field ℕ) : Type 0 where
  pub kind : p.kind ≡ kind_number f.width
  pub label : In s p.label f.label
  pub short : In s p.short (stored_name f.short)
  pub width : WidthStands s p.number p.tree f.width
  pub constraint : In s p.constraint (stored_maybe f.constraint)
  pub condition : In s p.condition (stored_maybe f.condition)
