use mathlib.Core.Path.{◌∙◌, ap}
use mathlib.Core.List.{List}
use Prim.Native.Nat.{ℕ}
use Rattle.rules.specs.Promises.{delivered}
use Rattle.packets.proofs.listing.list_packet.Goals as goal

pub returns : goal.returns
returns c =
    λ good. c.deliver_first.ensures
    ∙ ap (λ (w : List ℕ). delivered w c.args.out.now) (c.list_into-n.ensures.text good).text
