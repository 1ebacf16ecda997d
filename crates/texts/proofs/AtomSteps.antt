-- What an atom begins with, as the code finds it, against the reader over what is left of the text.
use mathlib.Core.Path.{◌≡◌, refl, ap, ◌∙◌}
use mathlib.Core.Bool.{Bool, true, false}
use mathlib.Core.List.{List, ◌∷◌}
use Prim.Native.Nat.{ℕ, zero, suc, ◌+◌, ◌-◌, ◌≤◌, ◌<◌}
use native.Mathlib.Omega.{arith}
use native.Mathlib.Numerals.{add-one}
use lib.ListN.{length, drop, get_or}
use lib.Seq.{drop-cons, drop-length}
use borrow.Author.Tests.{ne_eqb}
use Rattle.text_laws.specs.Reader.{Out, fail, word, behind, leaf, close, inside, atom}
use Rattle.texts.specs.ExprPlaces.{wrap_of, SameOpen, SameAtom}
use Rattle.texts.specs.declared.atoms.Atom.{Atom}
use Rattle.texts.specs.declared.atoms.Atom.TheVariants.{Word, Open}
use Rattle.std.specs.Prelude.{Option, None, Some}

-- ── a parenthesis ──

module _ (s : List ℕ) (at b : ℕ) where
  pub open_end : at ≡ length s → SameOpen s at b None
  unfolding SameOpen inside
  open_end e neg p = rw (e, drop-length) refl

  module _ (hi : at < length s) where
    here : drop at s ≡ get_or s at 0 ∷ drop (suc at) s
    here = drop-cons s at 0 hi

    pub open_zero : b ≡ 0 → SameOpen s at b None
    unfolding SameOpen inside
    open_zero e neg p = rw (here, e) refl

    pub open_other : (get_or s at 0 ≡ 40 → ⊥) → SameOpen s at b None
    unfolding SameOpen inside
    open_other ne neg p = go b
      where
        go : (c : ℕ) → inside p c (wrap_of neg) (drop at s) ≡ fail
        go zero = rw here refl
        go (suc c) = rw (here, ne_eqb (get_or s at 0) 40 ne, inside) refl

    pub open_in : (b ≡ 0 → ⊥) → get_or s at 0 ≡ 40 → SameOpen s at b (Some (at + 1))
    unfolding SameOpen inside
    open_in nz e = (omega arith, omega arith, omega (arith, nz), λ neg p. go b nz neg p)
      where
        go : (c : ℕ) → (c ≡ 0 → ⊥) → (neg : Bool) (p : ℕ → List ℕ → Out)
            → inside p c (wrap_of neg) (drop at s) ≡ close (wrap_of neg) (p (c - 1) (drop (at + 1) s))
        go zero nz neg p = absurd (nz refl)
        go (suc c) nz neg p = let q : suc c - 1 ≡ c = omega arith in rw (here, e, q, add-one at) refl

-- ── an atom ──

module _ (s : List ℕ) (at b : ℕ) where
  pub atom_end : at ≡ length s → SameAtom s at b None
  unfolding SameAtom atom
  atom_end e p = rw (e, drop-length) refl

  module _ (hi : at < length s) where
    first : drop at s ≡ get_or s at 0 ∷ drop (suc at) s
    first = drop-cons s at 0 hi

    bang : get_or s at 0 ≡ 33 → (p : ℕ → List ℕ → Out)
        → atom p b (drop at s) ≡ inside p b (wrap_of true) (drop (at + 1) s)
    unfolding atom
    bang e p = rw (first, e, add-one at) refl

    paren : get_or s at 0 ≡ 40 → (p : ℕ → List ℕ → Out) → atom p b (drop at s) ≡ inside p b (wrap_of false) (drop at s)
    unfolding atom
    paren e p =
        let q : drop at s ≡ 40 ∷ drop (suc at) s = first ∙ ap (λ (x : ℕ). x ∷ drop (suc at) s) e in rw q refl

    pub atom_word : (get_or s at 0 ≡ 33 → ⊥) → (get_or s at 0 ≡ 40 → ⊥) → SameAtom s at b (Some Word)
    unfolding SameAtom atom
    atom_word n33 n40 p = rw (first, ne_eqb (get_or s at 0) 33 n33, ne_eqb (get_or s at 0) 40 n40, atom) refl

    -- the atom that begins with `neg` and the parenthesis r
    abbrev pub opened : Bool → Option ℕ → Option Atom
    opened neg None = None
    opened neg (Some from) = Some (Open from neg)

    pub atom_bang : get_or s at 0 ≡ 33 → (r : Option ℕ) → SameOpen s (at + 1) b r → SameAtom s at b (opened true r)
    unfolding SameOpen SameAtom
    atom_bang e None w = λ p. bang e p ∙ w true p
    atom_bang e (Some from) w = (omega (arith, w.0), w.1, w.2, λ p. bang e p ∙ w.3 true p)

    pub atom_paren : get_or s at 0 ≡ 40 → (r : Option ℕ) → SameOpen s at b r → SameAtom s at b (opened false r)
    unfolding SameOpen SameAtom
    atom_paren e None w = λ p. paren e p ∙ w false p
    atom_paren e (Some from) w = (w.0, w.1, w.2, λ p. paren e p ∙ w.3 false p)

-- ── what it tells ──

pub told_none : (s : List ℕ) (at b : ℕ) (r : Option Atom) → r ≡ None → SameAtom s at b r
    → (p : ℕ → List ℕ → Out) → atom p b (drop at s) ≡ fail
unfolding SameAtom
told_none s at b r e w = rw e at w

pub told_word : (s : List ℕ) (at b : ℕ) (r : Option Atom) → r ≡ Some Word → SameAtom s at b r
    → (p : ℕ → List ℕ → Out) → atom p b (drop at s) ≡ leaf (word (drop at s)) (behind (drop at s))
unfolding SameAtom
told_word s at b r e w = rw e at w

pub told_in : (s : List ℕ) (at b : ℕ) (r : Option Atom) (from : ℕ) (m : Bool) → r ≡ Some (Open from m)
    → SameAtom s at b r
    → (at < from) × (from ≤ length s) × (0 < b)
    × ((p : ℕ → List ℕ → Out) → atom p b (drop at s) ≡ close (wrap_of m) (p (b - 1) (drop from s)))
unfolding SameAtom
told_in s at b r from m e w = rw e at w
