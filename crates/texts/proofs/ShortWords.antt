-- Words of letters and digits that are short names.
use mathlib.Core.Path.{◌≡◌, refl, sym, ◌∙◌}
use mathlib.Core.Bool.{Bool, true, false, cond, not, or-false}
use mathlib.Core.List.{List, [], ◌∷◌}
use Prim.Native.Nat.{ℕ, ◌≤◌, ◌<◌}
use native.Mathlib.Omega.{arith}
use lib.ListN.{length, get_or}
use borrow.Author.Tests.{le-leb}
use Rattle.base.specs.Lists.{all}
use Rattle.base.proofs.Lists.{fails}
use Rattle.base.proofs.Breaks.{all_cons}
use Rattle.rules.specs.Limits.{short_most}
use Rattle.rules.specs.Names.{is_letter, is_digit, is_word_byte, is_reserved, is_short}
use Rattle.text_laws.specs.Reader.{word}
use Rattle.text_laws.proofs.ReaderWords.{not_short}
use Rattle.names.proofs.PadLaws.{short_held}

pub all_word : (s : List ℕ) → all is_word_byte (word s) ≡ true
unfolding word all
all_word [] = refl
all_word (c ∷ s) = go (is_word_byte c) refl (all_word s)
  where
    go : (b : Bool) → is_word_byte c ≡ b → all is_word_byte (word s) ≡ true
        → all is_word_byte (cond b (c ∷ word s) []) ≡ true
    go true e h = rw (e, h) refl
    go false e h = refl

pub short_none : (w : List ℕ) → length w ≡ 0 → false ≡ is_short w
unfolding is_short
short_none [] e = refl
short_none (c ∷ w) e = absurd (omega arith)

pub short_digit : (w : List ℕ) → 0 < length w → is_digit (get_or w 0 0) ≡ true → false ≡ is_short w
short_digit [] lt e = absurd (omega arith)
short_digit (c ∷ w) lt e = sym (not_short (c ∷ w) c w refl e)

pub short_long : (w : List ℕ) → short_most < length w → false ≡ is_short w
short_long w lt = sym (fails (is_short w) (λ h. omega (arith, lt, (short_held w h).0.size)))

pub short_word : (w : List ℕ) → 0 < length w → all is_word_byte w ≡ true → is_digit (get_or w 0 0) ≡ false
    → length w ≤ short_most → not (is_reserved w) ≡ is_short w
unfolding is_short is_word_byte
short_word [] lt h d le = absurd (omega arith)
short_word (c ∷ w) lt h d le =
    let letter : is_letter c ≡ true = sym (rw d (or-false (is_letter c))) ∙ (all_cons is_word_byte c w h).0 in
    rw (letter, h, le-leb (length (c ∷ w)) short_most le) refl

pub ruleset short_rules = (short_none, short_digit, short_long, short_word)
