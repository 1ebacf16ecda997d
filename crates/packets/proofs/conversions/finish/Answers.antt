use mathlib.Core.Path.{refl}
use native.Mathlib.Omega.{arith}
use Rattle.packets.proofs.ConvertPromises.{by_shape, by_added, by_all, with_room, without_room}
use Rattle.packets.proofs.conversions.finish.Goals as goal

pub returns-then-not-number_table : goal.returns-then-not-number_table
returns-then-not-number_table c =
    by_shape c.args.table.now c.args.out.now _ c.requires.3 c.number_table.new.table c.number_table.ensures
    (c.if-not-number_table.true)

pub returns-then-adds_operators : goal.returns-then-adds_operators
returns-then-adds_operators c =
    let table = c.args.table.now in
    let out = c.args.out.now in
    let p = c.requires in
    let after = c.number_table.new.table in
    let right = c.if-not-number_table.false in
    by_added table out _ p.3 after c.number_table.ensures
    right c.adds_operators.ensures c.if-adds_operators.true

pub returns-then-deliver : goal.returns-then-deliver
returns-then-deliver c =
    let table = c.args.table.now in
    let out = c.args.out.now in
    let p = c.requires in
    let after = c.number_table.new.table in
    let right = c.if-not-number_table.false in
    let plain = c.if-adds_operators.false in
    let all = by_all table out _ p.3 after c.number_table.ensures right c.adds_operators.ensures plain
    (λ i. omega (arith, c.type_inv.table i)) p.2 p.0 p.1 in
    with_room table out _ after _ all c.deliver.ensures c.if-deliver.true refl

pub returns : goal.returns
returns c =
    let table = c.args.table.now in
    let out = c.args.out.now in
    let p = c.requires in
    let after = c.number_table.new.table in
    let right = c.if-not-number_table.false in
    let plain = c.if-adds_operators.false in
    let all = by_all table out _ p.3 after c.number_table.ensures right c.adds_operators.ensures plain
    (λ i. omega (arith, c.type_inv.table i)) p.2 p.0 p.1 in
    without_room table out _ after all c.deliver.ensures c.if-deliver.false
