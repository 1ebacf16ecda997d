-- A field line whose names are looked up among the held ones: mirrors the code, no public promise rests on it.
use Rattle.std.specs.Prelude.{Bool, ◌&&◌, ℕ, ◌+◌}
use Rattle.std.proofs.Math.Option.{map}
use Rattle.base.specs.Lists.{if_any}
use Rattle.rules.specs.declared.ValueType.TheVariants.{YesNo}
use Rattle.rules.specs.Trees.{has_type}
use Rattle.rules.specs.Fields.{Field, Form}
use Rattle.rules.specs.Within.{width_has_type}
use Rattle.text_laws.specs.Resolving.{rename_tree, rename_width}
use Rattle.texts.specs.HeldNames.{Names}
use Rattle.texts.specs.StoredTrees.{look_up, may_read}

-- the field of the line of index i: each name stands for its index among the held ones
abbrev pub indexed : Names → ℕ → Form → Field ℕ
indexed names i x = record {
  label = x.label;
  short = x.short;
  width = rename_width (look_up names i) x.width;
  constraint = map (rename_tree (look_up names (i + 1))) x.constraint;
  condition = map (rename_tree (look_up names i)) x.condition;
}

-- the line of index i has expressions of the right types, which read names among the held ones
abbrev pub types_kept : Names → ℕ → Form → Bool
types_kept names i x =
    width_has_type (may_read names i) x.width
    && (if_any (has_type (may_read names (i + 1)) YesNo) x.constraint
    && if_any (has_type (may_read names i) YesNo) x.condition)
