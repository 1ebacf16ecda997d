use mathlib.Core.Path.{sym, ◌∙◌, ap}
use borrow.Author.Tests.{ne_eqb}
use Rattle.base.specs.Lists.{same}
use Rattle.rules.specs.Limits.{short_most}
use Rattle.names.specs.Repeats.{same_name}
use Rattle.texts.proofs.LineSearches.{part_text}
use Rattle.texts.proofs.NameLengths.{other_length}
use Rattle.texts.proofs.held_names.is_name.Goals as goal

pub returns-then-has_length : goal.returns-then-has_length
unfolding same_name
returns-then-has_length c =
    let a = c.args in
    rw (ne_eqb _ _ c.requires.1.first) (c.same_words.ensures
    ∙ ap (same _) (part_text a.names.now a.at short_most))

pub returns-else-has_length : goal.returns-else-has_length
returns-else-has_length c =
    let no = c.if-has_length.false in no ∙ sym (other_length _ _ _ c.requires.1 (sym c.has_length.ensures ∙ no))
