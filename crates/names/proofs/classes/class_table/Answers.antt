use mathlib.Core.Path.{refl}
use Rattle.base.specs.Lists.{any, tabulate}
use Rattle.rules.specs.Operators.{operator, operators}
use Rattle.rules.specs.Names.{is_letter, is_digit, is_operator, is_space, class_of}
use Rattle.names.specs.Classes.{class_table}
use Rattle.names.proofs.classes.class_table.Goals as goal

pub returns : goal.returns
unfolding class_table any tabulate operator operators is_letter is_digit is_operator is_space class_of
returns c = refl
