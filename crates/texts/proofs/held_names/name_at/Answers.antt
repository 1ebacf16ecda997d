use mathlib.Core.Path.{◌≡◌, ◌∙◌, ap}
use native.Mathlib.Omega.{arith}
use lib.ListN.{length, take, drop, length-drop}
use lib.Seq.{length-take-le}
use Rattle.rules.specs.Limits.{short_most}
use Rattle.names.specs.Repeats.{pad_to}
use Rattle.texts.proofs.LineSearches.{part_text}
use Rattle.texts.proofs.NameLengths.{pad_full}
use Rattle.texts.proofs.held_names.name_at.Goals as goal

pub returns : goal.returns
returns c =
    let b = c.args.names.now in
    let at = c.args.at in
    let long : length (take short_most (drop at b)) ≡ short_most =
    length-take-le short_most (drop at b) (omega (arith, c.requires, length-drop at b)) in
    c.held_name.ensures ∙ ap (pad_to short_most) (part_text b at short_most) ∙ pad_full short_most _ long
