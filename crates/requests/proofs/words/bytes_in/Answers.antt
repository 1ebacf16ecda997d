use mathlib.Core.Path.{◌≡◌}
use native.Mathlib.Omega.{arith}
use lib.ListN.{length}
use Rattle.requests.proofs.HexLaws.{filling_stop, filling_full, filling_on, hex_short, hex_first, hex_second}
use Rattle.requests.proofs.words.bytes_in.Goals as goal

pub returns-in_default-clause-holds : goal.returns-in_default-clause-holds
returns-in_default-clause-holds c =
    filling_stop c.loop-n.invariant (hex_short c.loop-n.rest.now c.in_default.len_below)

pub returns-in_default-2-clause-holds : goal.returns-in_default-2-clause-holds
returns-in_default-2-clause-holds c =
    let first = rw c.in_default-2.is-0 at c.digit.ensures in
    filling_stop c.loop-n.invariant
    (hex_second c.loop-n.rest.now c.in_default-2.field-0-0 c.in-len2-up.len_at_least first.0 first.1
    (rw c.in_default-2.is-1 at c.digit-in-loop-n.ensures))

pub returns-in_default-2-2-clause-holds : goal.returns-in_default-2-2-clause-holds
returns-in_default-2-2-clause-holds c =
    filling_stop c.loop-n.invariant
    (hex_first c.loop-n.rest.now c.in-len2-up.len_at_least (rw c.in_default-2.is-0 at c.digit.ensures))

pub loop-n-preserved : goal.loop-n-preserved
loop-n-preserved c =
    let first = c.in-Some-Some.ensures in
    let second = c.in-Some-Some.ensures' in
    filling_on c.loop-n.invariant c.in-len2-up.len_at_least first.0 second.0 first.1 second.1 (omega arith)

pub returns-clause-holds : goal.returns-clause-holds
returns-clause-holds c =
    let end : length c.loop-n.out ≡ c.loop-n.n = omega (arith, c.loop-n.invariant.size) in
    rw end (filling_full c.loop-n.invariant (omega arith))
