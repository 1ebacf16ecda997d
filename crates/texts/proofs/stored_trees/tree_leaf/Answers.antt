use mathlib.Core.Path.{◌≡◌, sym, ◌∙◌}
use mathlib.Core.Bool.{true, false}
use Prim.Native.Nat.{◌-◌}
use lib.ListN.{take, drop}
use native.Mathlib.Omega.{arith}
use Rattle.std.specs.Prelude.{None}
use Rattle.rules.specs.Names.{is_short}
use Rattle.texts.specs.HeldNames.{names_in}
use Rattle.texts.proofs.ExprLeaves.{word_part}
use Rattle.texts.proofs.NumberWords.{number_told, number_untold}
use Rattle.texts.proofs.ShortWords.{all_word}
use Rattle.texts.proofs.StoredSteps.{leaf_name, leaf_number, leaf_none}
use Rattle.texts.proofs.stored_trees.tree_leaf.Goals as goal

pub is_short_word-requires : goal.is_short_word-requires
is_short_word-requires c =
    let a = c.args in
    let w = c.word_end-end.ensures in
    let is = word_part a.s.now a.at c.word_end-end.result w.place.0 w.place.1 w.rest in
    rw is (all_word _)

pub returns-then-is_short_word : goal.returns-then-is_short_word
returns-then-is_short_word c =
    let a = c.args in
    let s = a.s.now in
    let end = c.word_end-end.result in
    let w = c.word_end-end.ensures in
    let word = take (end - a.at) (drop a.at s) in
    let y : is_short word ≡ true =
    sym c.is_short_word.ensures ∙ c.if-is_short_word.true in
    let both =
    leaf_name _ a.n s a.at end w.place.0 w.place.1 w.rest _ _ _ y
    c.look_up-i.ensures.found
    c.field_node.ensures in record {
      place = both.0;
      same = both.1;
    }

pub returns : goal.returns
returns c =
    let a = c.args in
    let s = a.s.now in
    let end = c.word_end-end.result in
    let w = c.word_end-end.ensures in
    let word = take (end - a.at) (drop a.at s) in
    let k : is_short word ≡ false = sym c.is_short_word.ensures ∙ c.if-is_short_word.false in
    let t = number_told word c.in_ok-v.v (sym c.in_ok-v.was ∙ c.number_of.ensures.same) in
    let both =
    leaf_number _ a.n s a.at end w.place.0 w.place.1 w.rest _ _ _ k t.0 (λ _. t.1) c.number_node.ensures in record {
      place = both.0;
      same = both.1;
    }

pub returns-in_err-v : goal.returns-in_err-v
returns-in_err-v c =
    let a = c.args in
    let s = a.s.now in
    let end = c.word_end-end.result in
    let w = c.word_end-end.ensures in
    let word = take (end - a.at) (drop a.at s) in
    let k : is_short word ≡ false = sym c.is_short_word.ensures ∙ c.if-is_short_word.false in
    let n = number_untold word (sym c.in_err-v.was ∙ c.number_of.ensures.same) in
    let gone : c.from_residual.result ≡ None = grind arith in
    let both = leaf_none (names_in a.names.now) a.n s a.at end w.place.0 w.place.1 w.rest a.out.now k n in record {
      place = rw gone both.0;
      same = rw gone both.1;
    }
