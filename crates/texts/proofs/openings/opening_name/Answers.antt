use Rattle.std.proofs.Common.{◌≡◌, Option, Bor, Bool, List, ℕ, cond, option_copied}
use Rattle.std.proofs.Common.{true, false, refl, subst, sym, ap, ◌∙◌, rules}
use Rattle.std.proofs.Math.Option.{none, some}
use Rattle.std.specs.Bool.{then_some}
use Rattle.texts.specs.FramePlaces.{answered}
use Rattle.texts.proofs.FrameLeaves.{Either, Opened, Closed, opening_is, name_is}
use Rattle.texts.proofs.openings.opening_name.Goals as goal

pub returns-in_err-named : goal.returns-in_err-named
returns-in_err-named c =
    let l = c.args.line.now in
    let o : Either l c.strip_prefix.result c.or_else.result = search rules in
    let a = opening_is l c.strip_prefix.result c.or_else.result c.strip_prefix.ensures.cases o in
    ap (λ (o : Option (Bor (List ℕ))). answered (option_copied o)) c.from_residual.ensures
    ∙ sym (subst (Opened l) c.in_err-named.was a)

pub returns-in_err-name : goal.returns-in_err-name
returns-in_err-name c =
    let l = c.args.line.now in
    let o : Either l c.strip_prefix.result c.or_else.result = search rules in
    let a = opening_is l c.strip_prefix.result c.or_else.result c.strip_prefix.ensures.cases o in
    let s = c.in_ok-named.named.now in
    let n = name_is s c.strip_suffix.result c.strip_suffix.ensures.cases in
    ap (λ (o : Option (Bor (List ℕ))). answered (option_copied o)) c.from_residual-in_err-name.ensures
    ∙ sym (subst (Opened l) c.in_ok-named.was a ∙ subst (Closed s) c.in_err-name.was n)

pub returns : goal.returns
returns c =
    let l = c.args.line.now in
    let o : Either l c.strip_prefix.result c.or_else.result = search rules in
    let a = opening_is l c.strip_prefix.result c.or_else.result c.strip_prefix.ensures.cases o in
    let s = c.in_ok-named.named.now in
    let n = name_is s c.strip_suffix.result c.strip_suffix.ensures.cases in
    let b = c.is_label.result in
    ap (λ (o : Option (Bor (List ℕ))). answered (option_copied o)) c.then_some.ensures
    ∙ named b c.in_ok-name.name
    ∙ sym (subst (Opened l) c.in_ok-named.was a
    ∙ subst (Closed s) c.in_ok-name.was n b (sym c.is_label.ensures))
  where
    named : (b : Bool) (x : Bor (List ℕ)) → answered (option_copied (then_some b x)) ≡ cond b (some x.now) none
    named true x = refl
    named false x = refl
