use mathlib.Core.Path.{sym, ap, ◌∙◌}
use mathlib.Core.List.{[]}
use Prim.Native.Nat.{ℕ, ◌+◌, ◌≤◌}
use native.Mathlib.Omega.{arith}
use lib.ListN.{length}
use borrow.Author.Rules.{rules}
use Rattle.laws.specs.Places.{two_at}
use Rattle.packets.proofs.TableSteps.{head_is_lem, count_most}
use Rattle.packets.proofs.RightSteps.{gathered_true}
use Rattle.packets.proofs.NumberedLaws.{shape_is, numbers_there, numbers_not, long_not, head_not, fields_not}
use Rattle.packets.proofs.tables.number_table.Goals as goal
use Rattle.packets.proofs.tables.number_table.Goals.{
  then-table-gt-TABLE_MOST-via-then-table-gt-TABLE_MOST,
  then-table-gt-TABLE_MOST-via-else-table-gt-TABLE_MOST+then-not-is_head,
}

pub returns-then-table-gt-TABLE_MOST : goal.returns-then-table-gt-TABLE_MOST
returns-then-table-gt-TABLE_MOST c =
    let s = c.args.table.now in
    elim c.then-table-gt-TABLE_MOST.branch [
      | then-table-gt-TABLE_MOST-via-then-table-gt-TABLE_MOST w ↦
          numbers_not s [] (long_not s w.if-table-gt-TABLE_MOST.true)
      | then-table-gt-TABLE_MOST-via-else-table-gt-TABLE_MOST+then-not-is_head w ↦
          numbers_not s [] (head_not s w.if-table-gt-TABLE_MOST.false (sym w.is_head.ensures ∙ w.if-not-is_head.true))
    ]

pub has_fields-requires : goal.has_fields-requires
has_fields-requires c =
    let s = c.args.table.now in
    let head = sym c.is_head.ensures ∙ c.if-not-is_head.false in
    let most = count_most (two_at s 6) (head_is_lem s head).count in
    (search rules, ((c.if-table-gt-TABLE_MOST.false, head), (omega (arith, most), c.empty-columns.ensures)))

pub returns-then-not-has_fields : goal.returns-then-not-has_fields
returns-then-not-has_fields c =
    let s = c.args.table.now in
    let head = sym c.is_head.ensures ∙ c.if-not-is_head.false in
    let none = sym c.has_fields.ensures.is ∙ c.if-not-has_fields.true in
    numbers_not s [] (fields_not s c.if-table-gt-TABLE_MOST.false head none)

pub slice_bounds-put_numbers-count : goal.slice_bounds-put_numbers-count
slice_bounds-put_numbers-count c =
    let head = sym c.is_head.ensures ∙ c.if-not-is_head.false in
    let end = (head_is_lem c.args.table.now head).end in
    omega (arith, end, c.two_at-from.ensures.0)

pub slice_bounds-put_numbers-start : goal.slice_bounds-put_numbers-start
slice_bounds-put_numbers-start c =
    let head = sym c.is_head.ensures ∙ c.if-not-is_head.false in
    let end = (head_is_lem c.args.table.now head).end in
    omega (arith, end, c.two_at-from.ensures.0)

pub returns : goal.returns
returns c =
    let s = c.args.table.now in
    let head = sym c.is_head.ensures ∙ c.if-not-is_head.false in
    let is = head_is_lem s head in
    let most = count_most (two_at s 6) is.count in
    let yes_fields = c.if-not-has_fields.false in
    let fields = sym c.has_fields.ensures.is ∙ yes_fields in
    let counts = c.has_fields.new.columns.counts in
    let gathered = gathered_true s _ _ yes_fields c.has_fields.ensures.gathered in
    let room : two_at s 6 ≤ length counts = omega (arith, most) in
    let from = ap (λ (k : ℕ). 10 + k) c.two_at-from.ensures.0 in
    numbers_there s counts _ _ _ from c.two_at-n.ensures.0 is.end (λ i. search rules)
    (shape_is s c.if-table-gt-TABLE_MOST.false head fields) gathered.1 room c.put_numbers.ensures
