-- No promise allows an answer of specs/Wrong: each is the other one, by one computation.
use mathlib.Core.Path.{◌≡◌, refl, sym}
use mathlib.Core.Bool.{Bool, true, false, not, beq}
use Rattle.base.specs.Lists.{all}
use Rattle.base.proofs.Lists.{every_passes, not_both}
use Rattle.text_laws.specs.Bars.{same_bars}
use Rattle.bars.specs.Goes.{goes_on}
use Rattle.bars.specs.Wrong.{Claim, Claimed, AllFalse, wrong}

abbrev differs : Claim → Bool
differs c = not (beq c.answer (goes_on c.lines c.first c.line))

one_false : (c : Claim) → differs c ≡ true → Claimed c → ⊥
one_false c d e = go c.answer (goes_on c.lines c.first c.line) d e
  where
    go : (x y : Bool) → not (beq x y) ≡ true → x ≡ y → ⊥
    go true true d e = not_both false d refl
    go true false d e = not_both true refl e
    go false true d e = not_both true refl (sym e)
    go false false d e = not_both false d refl

pub ruled_out : AllFalse wrong
unfolding all same_bars
ruled_out = every_passes differs one_false wrong refl
