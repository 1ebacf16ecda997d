use mathlib.Core.Path.{◌≡◌, refl, ap, sym, ◌∙◌}
use mathlib.Core.Bool.{Bool, true, false, ◌&&◌, not}
use native.Mathlib.Omega.{arith}
use Rattle.std.specs.Prelude.{is_none}
use Rattle.rules.specs.Within.{keeps_names, keeps_types, keeps_rest, name_readable}
use Rattle.text_laws.specs.Judging.{faces, shows_cell}
use Rattle.texts.specs.Kinds as kind
use Rattle.texts.proofs.AreaLaws.{cells_long, names_long, labels_long}
use Rattle.texts.proofs.FormRules.{names_here, types_are, rest_is, later_is, not_flip}
use borrow.Author.Rules.{rules}
use Rattle.texts.proofs.form_rules.later_rule.Goals as goal

pub overflow_add-place : goal.overflow_add-place
overflow_add-place c = let q = c.requires.1 in search (rules, q)

pub shows_cell-requires : goal.shows_cell-requires
shows_cell-requires c = (
  c.requires.0,
  c.requires.3,
  (let n = cells_long c.args.held.now
      (omega arith) in omega (arith, n)),
)

pub returns-then-not-shows_cell : goal.returns-then-not-shows_cell
returns-then-not-shows_cell c =
    let a = c.args in record {
      rule = (λ f x v k n s nw e p.
          let shown : shows_cell f.cells (faces f.judged.fields) x
          ≡ false = sym (c.shows_cell.ensures f x _ v k n s p)
          ∙ c.if-not-shows_cell.true in
          sym (later_is f a.r x n false _ _ _ shown refl refl refl));
      place = omega arith;
    }

pub clashes-requires : goal.clashes-requires
clashes-requires c =
    let held = c.args.held.now in (
      c.requires.2,
      (let n = labels_long held (omega arith) in omega (arith, n)),
      (let n = names_long held (omega arith) in omega (arith, n)),
    )

pub returns-then-clashes : goal.returns-then-clashes
returns-then-clashes c =
    let a = c.args in record {
      rule = (λ f x v k n s nw e p.
          let shown : shows_cell f.cells (faces f.judged.fields) x
          ≡ true = sym (c.shows_cell.ensures f x _ v k n s p)
          ∙ c.if-not-shows_cell.false in
          let unique : keeps_names (faces f.judged.fields) x ≡ false =
          ap not (sym (names_here f k a.line.now x e a.r n nw) ∙ sym c.clashes.ensures
          ∙ c.if-clashes.true) in
          sym (later_is f a.r x n true false _ _ shown unique refl refl));
      place = omega arith;
    }

pub returns-then-not-types_kept : goal.returns-then-not-types_kept
returns-then-not-types_kept c =
    let a = c.args in record {
      rule = (λ f x v k n s nw e p.
          let shown : shows_cell f.cells (faces f.judged.fields) x
          ≡ true = sym (c.shows_cell.ensures f x _ v k n
          s p)
          ∙ c.if-not-shows_cell.false in
          let unique : keeps_names (faces f.judged.fields) x ≡ true =
          ap not (sym (names_here f k a.line.now x e a.r n nw)
          ∙ sym c.clashes.ensures ∙ c.if-clashes.false) in
          let typed : keeps_types name_readable (faces f.judged.fields) x ≡ false =
          sym (types_are f k a.line.now x e a.r n nw) ∙ sym (c.types_kept.ensures _
          a.r.fields a.line.now x v p)
          ∙ c.if-not-types_kept.true in
          sym (later_is f a.r x n true true false _ shown unique typed refl));
      place = omega arith;
    }

pub returns-then-misplaced : goal.returns-then-misplaced
returns-then-misplaced c =
    let a = c.args in record {
      rule = (λ f x v k n s nw e p.
          let shown : shows_cell f.cells (faces f.judged.fields) x
          ≡ true = sym (c.shows_cell.ensures f x _ v k n s p) ∙ c.if-not-shows_cell.false in
          let unique : keeps_names (faces f.judged.fields) x ≡ true =
          ap not (sym (names_here f k a.line.now x e a.r n nw)
          ∙ sym c.clashes.ensures
          ∙ c.if-clashes.false) in
          let typed : keeps_types name_readable (faces f.judged.fields) x ≡ true =
          sym (types_are f k a.line.now x e a.r n nw)
          ∙ sym (c.types_kept.ensures _ a.r.fields a.line.now x v p)
          ∙ c.if-not-types_kept.false in
          let rested : keeps_rest (faces f.judged.fields) x ≡ false =
          not_flip (keeps_rest (faces f.judged.fields) x) (sym (rest_is f k a.line.now x e _
          a.r.fields v a.p p)
          ∙ ap (λ (b : Bool). b && not (kind.is_fixed a.p.width && is_none a.p.condition)) (sym n.rested)
          ∙ sym c.misplaced.ensures ∙ c.if-misplaced.true) in
          sym (later_is f a.r x n true true true false shown unique typed rested));
      place = omega arith;
    }

pub returns : goal.returns
returns c =
    let a = c.args in record {
      rule = (λ f x v k n s nw e p.
          let shown : shows_cell f.cells (faces f.judged.fields) x
          ≡ true = sym (c.shows_cell.ensures f x _ v k n s p) ∙ c.if-not-shows_cell.false in
          let unique : keeps_names (faces f.judged.fields) x ≡ true =
          ap not (sym (names_here f k a.line.now x e a.r n nw)
          ∙ sym c.clashes.ensures
          ∙ c.if-clashes.false) in
          let typed : keeps_types name_readable (faces f.judged.fields) x ≡ true =
          sym (types_are f k a.line.now x e a.r n nw)
          ∙ sym (c.types_kept.ensures _ a.r.fields a.line.now x v p)
          ∙ c.if-not-types_kept.false in
          let rested : keeps_rest (faces f.judged.fields) x ≡ true =
          not_flip (keeps_rest (faces f.judged.fields) x) (sym (rest_is f k a.line.now x e _
          a.r.fields v a.p p)
          ∙ ap (λ (b : Bool). b && not (kind.is_fixed a.p.width && is_none a.p.condition)) (sym n.rested)
          ∙ sym c.misplaced.ensures ∙ c.if-misplaced.false) in
          sym (later_is f a.r x n true true true true shown unique typed rested));
      place = omega arith;
    }
