use mathlib.Core.Path.{sym, ◌∙◌}
use Prim.Native.Nat.{◌+◌, ◌<◌, ◌≤◌}
use native.Mathlib.Omega.{arith}
use lib.ListN.{length}
use borrow.Author.Rules.{rules}
use Rattle.laws.specs.Places.{two_at}
use Rattle.packets.proofs.TableSteps.{head_is_lem, row_positive, walk_of, walk_past, walk_places, count_most}
use Rattle.packets.proofs.TableSteps.{gathered_past, tallied_past, gathered_all}
use Rattle.packets.proofs.NameSteps.{all_places, gathered_keys, gathered_unique}
use Rattle.packets.proofs.tables.has_fields.Goals as goal

pub walk-requires : goal.walk-requires
walk-requires g c =
    let p = c.requires in
    let s = c.args.table.now in
    let h = head_is_lem s p.head.1 in
    let count_is = c.two_at-count.ensures.0 in
    let most = count_most (two_at s 6) h.count in
    let row : 0 < c.two_at-w.result = rw c.two_at-w.ensures.0 (row_positive _ h.row) in
    let end : 10 + c.two_at-from.result ≤ length s = rw c.two_at-from.ensures.0 h.end in (
      search rules,
      (
        (row, p.head.0, end),
        (
          omega (arith, count_is, most),
          omega (arith, count_is, p.room.0),
          p.room.1,
        ),
      ),
    )

pub is_last-requires : goal.is_last-requires
is_last-requires g c =
    let p = c.requires in
    let s = c.args.table.now in
    let h = head_is_lem s p.head.1 in
    let is = walk_of s c.two_at-w.ensures.0 c.two_at-count.ensures.0 c.two_at-from.ensures.0 c.walk.ensures.is
    c.in-Some.is in
    let past = walk_past _ _ _ _ _ _ _ _ h.end is in
    omega (arith, past, p.head.0)

pub has_unique_names-requires : goal.has_unique_names-requires
has_unique_names-requires g c =
    let p = c.requires in
    let s = c.args.table.now in
    let h = head_is_lem s p.head.1 in
    let count_is = c.two_at-count.ensures.0 in
    let from_is = c.two_at-from.ensures.0 in
    let is = walk_of s c.two_at-w.ensures.0 count_is from_is c.walk.ensures.is c.in-Some.is in
    let gathered = gathered_past c.in-Some.is c.walk.ensures.gathered in
    let places = walk_places _ _ _ _ _ _ _ _ p.head.0 h.end is in (
      search rules,
      (
        rw count_is (count_most _ h.count),
        omega (arith, count_is, p.room.0),
        p.head.0,
        all_places _ _ _ _ gathered.placed (rw (count_is, from_is) places),
        gathered_keys _ _ _ _ _ _ _ gathered,
      ),
    )

pub returns-then-is_last : goal.returns-then-is_last
returns-then-is_last g c =
    let s = c.args.table.now in
    let count_is = c.two_at-count.ensures.0 in
    let from_is = c.two_at-from.ensures.0 in
    let is = walk_of s c.two_at-w.ensures.0 count_is from_is c.walk.ensures.is c.in-Some.is in
    let gathered = gathered_past c.in-Some.is c.walk.ensures.gathered in
    let tallied = tallied_past _ _ _ _ c.in-Some.is c.walk.ensures.counted in
    let last = sym c.is_last.ensures ∙ c.if-is_last.true
    in record {
      is = rw (is, last, ← count_is, ← from_is) (c.has_unique_names.ensures ∙ gathered_unique _ _ _ _ _ _ _ gathered);
      gathered = gathered_all s _ _ _ _ c.has_unique_names.result count_is from_is gathered.placed tallied;
    }
