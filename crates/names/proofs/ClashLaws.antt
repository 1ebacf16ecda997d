-- Names that are held meet where the names of two fields do.
use mathlib.Core.Path.{◌≡◌, refl, sym, ◌∙◌}
use mathlib.Core.Bool.{Bool, true, false, cond, ◌||◌}
use mathlib.Core.List.{List, [], ◌∷◌}
use mathlib.Core.Option.{Option, none, some}
use Prim.Native.Nat.{ℕ}
use Rattle.base.specs.Lists.{any, same, if_any, list_of}
use Rattle.base.proofs.Lists.{not_both, fails, same_true, same_turn}
use Rattle.rules.specs.Limits.{short_most}
use Rattle.rules.specs.Names.{is_short}
use Rattle.rules.specs.Fields.{Field}
use Rattle.rules.specs.Stored.{stored_name}
use Rattle.rules.specs.Within.{clash}
use Rattle.names.specs.Repeats.{pad_to, same_name, held_word, names_meet}
use Rattle.names.proofs.PadLaws.{held_same, none_first, none_second}

-- a short name and a label as they are held
pub word_same : (s l : List ℕ) → is_short s ≡ true → same_name (pad_to short_most s) (held_word l) ≡ same s l
word_same s l p = go (is_short l) refl
  where
    go : (b : Bool) → is_short l ≡ b → same_name (pad_to short_most s) (pad_to short_most (cond b l [])) ≡ same s l
    go true e = held_same s l p e
    go false e = none_second s p ∙ sym (fails (same s l) (λ h. not_both (is_short l) (rw (same_true s l h) at p) e))

-- a short name as it is held, or none
abbrev pub held_short : Option (List ℕ) → List ℕ
held_short o = pad_to short_most (stored_name o)

-- tests of two fields without a short name, of one with one, of two with one each
none_shape : (a : Bool) → (a || false) || false ≡ a || (false || (false || false))
none_shape true = refl
none_shape false = refl

first_shape : (a b : Bool) → (a || false) || ((b || false) || false) ≡ a || (false || (b || false))
first_shape true b = refl
first_shape false true = refl
first_shape false false = refl

second_shape : (a b : Bool) → (a || (b || false)) || false ≡ a || (false || (false || b))
second_shape true b = refl
second_shape false true = refl
second_shape false false = refl

both_shape : (a b c d : Bool)
    → (a || (b || false)) || ((c || (d || false)) || false) ≡ a || (d || (c || b))
both_shape true b c d = refl
both_shape false true true true = refl
both_shape false true true false = refl
both_shape false true false true = refl
both_shape false true false false = refl
both_shape false false true true = refl
both_shape false false true false = refl
both_shape false false false true = refl
both_shape false false false false = refl

pub clash_held_lem : {N : Type 0} (f g : Field N) → if_any is_short f.short ≡ true → if_any is_short g.short ≡ true
    → clash f g
    ≡ (same f.label g.label
    || names_meet (held_short f.short) (held_word f.label) (held_short g.short) (held_word g.label))
unfolding any names_meet
clash_held_lem f g p q = go f.short g.short p q
  where
    l : List ℕ
    l = f.label

    m : List ℕ
    m = g.label

    go : (a b : Option (List ℕ)) → if_any is_short a ≡ true → if_any is_short b ≡ true
        → any (λ s. any (same s) (m ∷ list_of b)) (l ∷ list_of a)
        ≡ (same l m || names_meet (held_short a) (held_word l) (held_short b) (held_word m))
    go none none p q = rw (none_first (held_short none), none_first (held_word m), none_first (held_word l))
        (none_shape (same l m))
    go (some a) none p q = rw (none_second a p, word_same a m p, none_first (held_word l))
        (first_shape (same l m) (same a m))
    go none (some b) p q = rw (
      none_first (held_short (some b)),
      none_first (held_word m),
      word_same b l q,
      same_turn
          b l,
    )
        (second_shape (same l m) (same l b))
    go (some a) (some b) p q = rw (held_same a b p q, word_same a m p, word_same b l q, same_turn b l)
        (both_shape (same l m) (same l b) (same a m) (same a b))
