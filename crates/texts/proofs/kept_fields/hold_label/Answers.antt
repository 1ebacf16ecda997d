use mathlib.Core.Path.{ap, ◌∙◌}
use Prim.Native.Nat.{ℕ}
use native.Mathlib.Nat.{sub-zero}
use lib.ListN.{take}
use Rattle.rules.specs.Limits.{label_most}
use Rattle.names.specs.Repeats.{pad_to}
use Rattle.texts.proofs.NameAreas.{label_put}
use Rattle.texts.proofs.NameLengths.{padded_length}
use Rattle.texts.proofs.kept_fields.hold_label.Goals as goal

pub returns : goal.returns
returns c =
    let a = c.args in
    let p = c.requires in
    let own =
    c.held_label-own.ensures ∙ ap (λ (k : ℕ). pad_to label_most (take k a.line.now)) (sub-zero a.label) in
    record {
      long = c.put.auto.out;
      labels = rw own at (label_put a.n a.labels.now _ _ p.1 p.2 (padded_length label_most _ own)
          c.put.ensures);
    }
