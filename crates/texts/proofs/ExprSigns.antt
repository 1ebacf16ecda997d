-- Spaces and operators at a place of a text, against the reader over what is left of it.
use mathlib.Core.Path.{◌≡◌, refl, sym, ◌∙◌}
use mathlib.Core.Bool.{true, false}
use mathlib.Core.List.{List, ◌∷◌}
use Prim.Native.Nat.{ℕ, suc, ◌+◌, ◌≤◌, ◌<◌}
use native.Mathlib.Omega.{arith}
use native.Mathlib.Nat.{add-zero}
use native.Mathlib.Numerals.{add-one}
use lib.ListN.{length, drop, get_or, length-drop}
use lib.Seq.{drop-cons, drop-length, drop-drop, get_or-drop}
use Rattle.rules.specs.declared.Op.{Op}
use Rattle.rules.specs.Names.{is_space, is_operator}
use Rattle.text_laws.specs.Reader.{Found, missing, found, first_of, order, skip}
use Rattle.std.specs.Prelude.{Option, Some, None}
use Rattle.operators.specs.Symbols.{symbol_of}
use Rattle.texts.proofs.OptionLaws.{some_pair}
use Rattle.texts.proofs.FirstSymbol.{found_by, first_symbol, first_none, Sized, symbol_sized}
use Rattle.texts.specs.ExprPlaces.{SameSign, WithinSign}
use Rattle.texts.proofs.OperatorRows.{no_operator}

-- ── a space ──

pub skip_end : (s : List ℕ) (at : ℕ) → at ≡ length s → drop at s ≡ skip (drop at s)
unfolding skip
skip_end s at e = rw (e, drop-length) refl

pub skip_yes : (s : List ℕ) (at : ℕ) → at < length s → is_space (get_or s at 0) ≡ true
    → drop (at + 1) s ≡ skip (drop at s)
unfolding skip
skip_yes s at lt e = rw (drop-cons s at 0 lt, e, add-one at) refl

pub skip_no : (s : List ℕ) (at : ℕ) → at < length s → is_space (get_or s at 0) ≡ false → drop at s ≡ skip (drop at s)
unfolding skip
skip_no s at lt e = rw (drop-cons s at 0 lt, e, skip) refl

pub ruleset skip_rules = (skip_end, skip_yes, skip_no)

-- ── an operator ──

module _ (s : List ℕ) (at : ℕ) where
  -- the code's answer at the place, where the reader answers a
  abbrev pub Signed : Found → Option (Op × ℕ) → Type 0
  Signed a r = WithinSign s at r × SameSign s a r

  pub sign_end : at ≡ length s → Signed (first_of order (drop at s)) None
  unfolding WithinSign SameSign
  sign_end e = (tt, rw (e, drop-length, first_none) refl)

  module _ (lt : at < length s) where
    here : drop at s ≡ get_or s at 0 ∷ drop (suc at) s
    here = drop-cons s at 0 lt

    pub sign_other : is_operator (get_or s at 0) ≡ false → Signed (first_of order (drop at s)) None
    unfolding WithinSign SameSign
    sign_other n = (tt, rw (here, no_operator (get_or s at 0) (drop (suc at) s) n) refl)

    module _ (next : ℕ) (m : Option (Op × ℕ)) (is : next ≡ get_or s (at + 1) 0)
        (found_is : m ≡ symbol_of (get_or s at 0) next) where
      second : get_or (drop (suc at) s) 0 0 ≡ next
      second = get_or-drop (suc at) s 0 0 ∙ rw is (rw (add-one at, add-zero (suc at)) refl)

      first_is : first_of order (drop at s) ≡ found_by m (drop at s)
      first_is = rw (here, found_is, ← second) (first_symbol (get_or s at 0) (drop (suc at) s))

      sized_is : Sized (length (drop at s)) m
      sized_is = rw (here, found_is, ← second) (symbol_sized (get_or s at 0) (drop (suc at) s))

      pub sign_none_at : m ≡ None → Signed (first_of order (drop at s)) None
      unfolding WithinSign SameSign
      sign_none_at e = (tt, rw (first_is, e) refl)

      pub sign_length : (o : Op) (n : ℕ) → m ≡ Some (o, n) → (1 ≤ n) × (at + n ≤ length s)
      sign_length o n e =
          let k : (1 ≤ n) × (n ≤ length (drop at s)) = rw e at sized_is in
          (k.0, omega (arith, k.1, length-drop at s))

      pub sign_at_place : (o : Op) (n : ℕ) → m ≡ Some (o, n)
          → Signed (first_of order (drop at s)) (Some (o, at + n))
      unfolding WithinSign SameSign
      sign_at_place o n e =
          let k = sign_length o n e in
          ((omega (arith, k.0), k.1), rw (first_is, e) (at + n, refl, sym (drop-drop n at s)))

-- ── the code's answer tells the reader's ──

pub sign_none : (s : List ℕ) (a : Found) (r : Option (Op × ℕ)) → r ≡ None → SameSign s a r → a ≡ missing
unfolding SameSign
sign_none s missing r e w = refl
sign_none s (found o q) r e w = let e' = w.1 in cc

pub sign_some : (s : List ℕ) (a : Found) (r : Option (Op × ℕ)) (o : Op) (n : ℕ) → r ≡ Some (o, n) → SameSign s a r
    → a ≡ found o (drop n s)
unfolding SameSign
sign_some s missing r o n p w = let z : ◌≡◌ {A = ℕ} 0 1 = cc in absurd (omega arith)
sign_some s (found o' q) r o n p w =
    let e' = some_pair o o' n w.0 (sym p ∙ w.1) in let e = e'.0 in let m = e'.1 in let d = w.2 in cc

pub sign_within : (s : List ℕ) (at : ℕ) (r : Option (Op × ℕ)) (o : Op) (n : ℕ) → r ≡ Some (o, n) → WithinSign s at r
    → (at < n) × (n ≤ length s)
unfolding WithinSign
sign_within s at r o n p w = rw p at w
