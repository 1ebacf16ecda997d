-- Lines of fields, and lines of fields that have their form.
use mathlib.Core.Path.{◌≡◌}
use mathlib.Core.List.{List, [], ◌∷◌, ◌++◌}
use mathlib.Core.Option.{none}
use Prim.Native.Nat.{ℕ}
use Rattle.base.specs.Lists.{Each, first_break}
use Rattle.base.proofs.Breaks.{first_break_cons}
use Rattle.rules.specs.Fields.{Field}
use Rattle.rules.specs.Within.{keeps_form}
use Rattle.rules.specs.Lines.{SpellsLine, SpellsField}
use Rattle.laws.proofs.OperatorLaws.{knows_all}

module _ {N : Type 0} (R : N → List ℕ → Type 0) where
  pub formed_lines : (before fields : List (Field N)) (lines : List (List ℕ))
      → first_break keeps_form before fields ≡ none → Each (SpellsLine R) fields lines
      → Each (SpellsField R) fields lines
  formed_lines before [] [] h p = tt
  formed_lines before [] (l ∷ lines) h p = absurd p
  formed_lines before (f ∷ fields) [] h p = absurd p
  formed_lines before (f ∷ fields) (l ∷ lines) h p =
      let e = first_break_cons keeps_form before f fields h in
      let here : SpellsField R f l = record { formed = e.0; operators = knows_all f; line = p.0 } in
      (here, formed_lines (before ++ (f ∷ [])) fields lines e.1 p.1)

  pub bare_lines : (fields : List (Field N)) (lines : List (List ℕ)) → Each (SpellsField R) fields lines
      → Each (SpellsLine R) fields lines
  bare_lines [] [] p = tt
  bare_lines [] (l ∷ lines) p = absurd p
  bare_lines (f ∷ fields) [] p = absurd p
  bare_lines (f ∷ fields) (l ∷ lines) p = (p.0.line, bare_lines fields lines p.1)
