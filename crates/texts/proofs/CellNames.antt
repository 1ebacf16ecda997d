-- A cell held against a field line, as the code does it.
use mathlib.Core.Path.{◌≡◌, refl}
use mathlib.Core.Bool.{Bool, true, false, ◌||◌}
use mathlib.Core.List.{List, [], ◌∷◌}
use mathlib.Core.Option.{Option, none, some}
use Prim.Native.Nat.{ℕ, ◌+◌, ◌-◌}
use native.Mathlib.Omega.{arith}
use lib.ListN.{take, drop}
use Rattle.base.specs.Lists.{all, any, same, last_is, list_of}
use Rattle.base.proofs.Lists.{not_both}
use Rattle.rules.specs.Names.{is_label, no_two_spaces}
use Rattle.texts.specs.PartPlaces.{span_in, ShortIs}
use Rattle.writing.specs.declared.spans.Span.{Span}

-- ── the tests ──

pub part : (at len : ℕ) (s : List ℕ) → take (at + len - at) (drop at s) ≡ take len (drop at s)
part at len s = let e : at + len - at ≡ len = omega arith in rw e refl

-- ── against the form of the line ──

label_some : (name : List ℕ) → is_label name ≡ true → same name [] ≡ false
unfolding is_label all last_is no_two_spaces same
label_some [] h = absurd (not_both (is_label []) h refl)
label_some (b ∷ name) h = refl

or_last : (x y : Bool) → (x || y) ≡ (x || (y || false))
or_last true y = refl
or_last false true = refl
or_last false false = refl

pub short_is : (name s l : List ℕ) (q : Span) → is_label name ≡ true → (o : Option (List ℕ)) → ShortIs s o q
    → (same name l || same name (span_in s q)) ≡ any (same name) (l ∷ list_of o)
unfolding any
short_is name s l q h none e =
    let z : take q.len (drop q.at s) ≡ [] = rw e refl in
    rw (z, label_some name h) refl
short_is name s l q h (some w) e = rw e (or_last (same name l) (same name w))
