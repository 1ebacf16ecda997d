use mathlib.Core.Path.{sym, ◌∙◌}
use Prim.Native.Nat.{◌*◌}
use Rattle.rules.specs.Limits.{fields_most, label_most}
use Rattle.texts.proofs.LineSearches.{part_text}
use Rattle.texts.proofs.NameAreas.{entry_at}
use Rattle.texts.proofs.name_clashes.same_label.Goals as goal

pub returns : goal.returns
returns c =
    let a = c.args in
    let b = a.labels.now in
    rw (
      entry_at label_most fields_most a.n b c.requires.1 ∙ sym (part_text b (label_most * a.n) label_most),
      entry_at label_most fields_most a.i b c.requires.0 ∙ sym (part_text b (label_most * a.i) label_most),
    )
    c.same_words.ensures
