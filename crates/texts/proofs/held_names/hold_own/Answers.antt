use mathlib.Core.Path.{ap, ◌∙◌}
use Prim.Native.Nat.{ℕ}
use native.Mathlib.Nat.{sub-zero}
use native.Mathlib.Omega.{arith}
use lib.ListN.{take, length-set}
use Rattle.rules.specs.Limits.{short_most}
use Rattle.names.specs.Repeats.{pad_to, held_word}
use Rattle.texts.proofs.LineSearches.{part_text}
use Rattle.texts.proofs.NameAreas.{own_put}
use Rattle.texts.proofs.NameLengths.{padded_length}
use borrow.Author.Rules.{rules}
use Rattle.texts.proofs.held_names.hold_own.Goals as goal

pub put_start-requires : goal.put_start-requires
put_start-requires c =
    let p = c.requires in
    (p.1, simp length-set (omega (arith, c.put-2.auto.out, c.put.auto.out, p.2)))

pub put_start-requires-2 : goal.put_start-requires-2
put_start-requires-2 c =
    let p = c.requires in
    let k = simp length-set at c.put_start.auto.starts in
    (p.1, omega (arith, k, c.put-2.auto.out, c.put.auto.out, p.2))

pub shape_of-names : goal.shape_of-names
shape_of-names c =
    search (rules, c.put_start-2.auto.starts, c.put_start.auto.starts, c.put-2.auto.out, c.put.auto.out)

pub returns : goal.returns
returns c =
    let a = c.args in
    let p = c.requires in
    let own = c.held_name-own.ensures in
    let word = c.held_word-word.ensures in
    let s = a.s.now in
    own_put a.n _ _ a.names.now _ _ _ p.1 p.2
    (padded_length short_most _ own, padded_length short_most _ word) c.put.ensures c.put-2.ensures _ _ s
    a.label a.short a.fixed (own ∙ ap (pad_to short_most) (part_text s a.short.at a.short.len))
    (word ∙ ap (λ (k : ℕ). held_word (take k s)) (sub-zero a.label)) c.from.ensures
    c.put_start.ensures c.put_start-2.ensures
