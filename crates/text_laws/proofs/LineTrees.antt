-- Expressions in a field line, by themselves and behind a phrase: what the reader finds there.
use mathlib.Core.Path.{◌≡◌, refl, ap, sym, ◌∙◌}
use mathlib.Core.Bool.{Bool, true, false, ◌&&◌, not}
use mathlib.Core.List.{List, [], ◌∷◌, ◌++◌}
use Prim.Native.Nat.{ℕ, suc}
use native.Mathlib.Omega.{arith}
use lib.ListN.{length}
use borrow.Author.Tests.{lt-leb}
use Rattle.base.specs.Bytes.{bytes}
use Rattle.base.specs.Lists.{all, any, same}
use Rattle.base.proofs.Lists.{fails}
use Rattle.rules.specs.Limits.{open_most, short_most}
use Rattle.rules.specs.Names.{is_letter, is_digit, is_word_byte, is_short, is_reserved, reserved}
use Rattle.rules.specs.Trees.{Tree}
use Rattle.rules.specs.Expressions.{SpellsTree}
use Rattle.rules.specs.Lines.{Unresolved}
use Rattle.text_laws.specs.Reader.{word, is_numeral, is_number_word, Out, fail, got, and_then, leaf, atom, expr}
use Rattle.text_laws.proofs.ReaderComplete.{Stop}
use Rattle.text_laws.proofs.ReaderUnique.{found_is}
use Rattle.text_laws.proofs.ReaderSound.{Good, sound}
use Rattle.text_laws.specs.LineReader.{miss, hit, begins, of_out, read_tree}
use Rattle.text_laws.proofs.Combine.{Holds}
use Rattle.text_laws.proofs.Combine.{begins_split}

-- ── an expression ──

-- the tree t is spelled in front of s, and r is behind it
abbrev pub TreeFront : List ℕ → Tree (List ℕ) → List ℕ → Type 0
TreeFront s t r = (u : List ℕ) × (s ≡ u ++ r) × SpellsTree Unresolved t u

pub tree_sound : (s : List ℕ) → Holds (TreeFront s) (read_tree s)
unfolding read_tree
tree_sound s = go (expr (suc (length s)) 0 open_most s) (sound (suc (length s)) 0 open_most s (omega arith))
  where
    go : (o : Out) → Good 0 open_most s o → Holds (TreeFront s) (of_out o)
    go fail g = tt
    go (got t r) g = g

pub tree_finds : (t : Tree (List ℕ)) (u r : List ℕ) → SpellsTree Unresolved t u → Stop 0 r
    → read_tree (u ++ r) ≡ hit t r
unfolding read_tree
tree_finds t u r x st = rw (found_is r x st (suc (length (u ++ r))) (omega arith))

-- ── what begins no expression ──

-- w begins none, whatever is behind it
abbrev Barren : List ℕ → Type 0
Barren w = (z : List ℕ) → read_tree (w ++ z) ≡ miss

pub barren_not : (w : List ℕ) → Barren w → (t : Tree (List ℕ)) (u r : List ℕ) → SpellsTree Unresolved t u → Stop 0 r
    → begins w (u ++ r) ≡ false
barren_not w f t u r x st = fails (begins w (u ++ r)) no_way
  where
    no_way : begins w (u ++ r) ≡ true → ⊥
    no_way e =
        let q = begins_split w (u ++ r) e in
        let p : read_tree (u ++ r) ≡ hit t r = tree_finds t u r x st in
        let n : read_tree (w ++ q.0) ≡ miss = f q.0 in
        let p' : read_tree (w ++ q.0) ≡ hit t r = ap read_tree (sym q.1) ∙ p in
        let z : ◌≡◌ {A = ℕ} 0 1 = cc in
        omega arith

and_none : (x y : Bool) → (x && (false && y)) ≡ false
and_none true y = refl
and_none false y = refl

-- a word that begins with `variable` is reserved or too long
variable_word : (v : List ℕ) → is_short (bytes "variable" ++ v) ≡ false
unfolding is_short is_letter is_digit is_word_byte is_reserved reserved all any same
variable_word [] = refl
variable_word (c ∷ v) =
    rw (lt-leb (length (bytes "variable" ++ (c ∷ v))) short_most (omega arith))
    (and_none (all is_word_byte (bytes "variable" ++ (c ∷ v))) (not (is_reserved (bytes "variable" ++ (c ∷ v)))))

pub variable_barren : (z : List ℕ) → read_tree (bytes "variable" ++ z) ≡ miss
unfolding read_tree expr and_then atom leaf word is_number_word is_numeral is_letter is_digit is_word_byte
variable_barren z = rw (variable_word (word z))

pub present_barren : (z : List ℕ) → read_tree (bytes "present only when " ++ z) ≡ miss
unfolding read_tree expr and_then atom leaf word is_number_word is_numeral is_short is_letter is_digit is_word_byte
    is_reserved reserved all any same
present_barren z = refl
