-- What the reader of expressions answers, at places of a text: mirrors the code, no public promise rests on it.
use Rattle.std.specs.Prelude.{Option, None, Some}
use Rattle.std.specs.Prelude.{◌≡◌, Bool, cond, ◌&&◌, List, ℕ, ◌-◌, ◌≤◌, ◌<◌, leb, length, drop}
use Rattle.rules.specs.Operators.{level, left_level, right_level}
use Rattle.rules.specs.Trees.{Tree, negation}
use Rattle.text_laws.specs.Reader.{Out, fail, Found, missing, found, word, behind, leaf, close, inside, atom}
use Rattle.rules.specs.declared.Op.{Op}
use Rattle.texts.specs.declared.signs.Taken.{Taken}
use Rattle.texts.specs.declared.atoms.Atom.{Atom}
use Rattle.texts.specs.declared.atoms.Atom.TheVariants.{Word, Open}

-- ── operators ──

-- the code's answer r is that of the reader in the text s
unfoldable pub SameSign : List ℕ → Found → Option (Op × ℕ) → Type 0
SameSign s missing r = r ≡ None
SameSign s (found o q) r = (n : ℕ) × (r ≡ Some (o, n)) × (drop n s ≡ q)

-- an answered place stands behind `at`, within the text
unfoldable pub WithinSign : List ℕ → ℕ → Option (Op × ℕ) → Type 0
WithinSign s at None = Unit {0}
WithinSign s at (Some (o, n)) = (at < n) × (n ≤ length s)

-- the operator, if it may stand at level k behind a tree of level h
unfoldable pub taken_in : ℕ → ℕ → Found → Found
taken_in k h missing = missing
taken_in k h (found o r) = cond (leb k (level o) && leb (left_level o) h) (found o r) missing

-- with its own levels, before the place n
abbrev pub taken_by : Op → ℕ → Taken
taken_by o n = record { op = o; end = n; level = level o; right = right_level o }

unfoldable pub SameTaken : List ℕ → Found → Option Taken → Type 0
SameTaken s missing r = r ≡ None
SameTaken s (found o q) r = (n : ℕ) × (r ≡ Some (taken_by o n)) × (drop n s ≡ q)

unfoldable pub WithinTaken : List ℕ → ℕ → Option Taken → Type 0
WithinTaken s at None = Unit {0}
WithinTaken s at (Some t) = (at < t.end) × (t.end ≤ length s)

-- ── what an atom begins with ──

-- what stands in parentheses, or its negation
abbrev pub wrap_of : Bool → Tree (List ℕ) → Tree (List ℕ)
wrap_of neg = cond neg negation (λ t. t)

-- the answer r for the parenthesis at `at`; p reads what stands behind it
unfoldable pub SameOpen : List ℕ → ℕ → ℕ → Option ℕ → Type 0
SameOpen s at b None = (neg : Bool) (p : ℕ → List ℕ → Out) → inside p b (wrap_of neg) (drop at s) ≡ fail
SameOpen s at b (Some from) =
    (at < from) × (from ≤ length s) × (0 < b)
    × ((neg : Bool) (p : ℕ → List ℕ → Out)
    → inside p b (wrap_of neg) (drop at s) ≡ close (wrap_of neg) (p (b - 1) (drop from s)))

-- the same for the atom at `at`
unfoldable pub SameAtom : List ℕ → ℕ → ℕ → Option Atom → Type 0
SameAtom s at b None = (p : ℕ → List ℕ → Out) → atom p b (drop at s) ≡ fail
SameAtom s at b (Some Word) =
    (p : ℕ → List ℕ → Out) → atom p b (drop at s) ≡ leaf (word (drop at s)) (behind (drop at s))
SameAtom s at b (Some (Open from m)) =
    (at < from) × (from ≤ length s) × (0 < b)
    × ((p : ℕ → List ℕ → Out) → atom p b (drop at s) ≡ close (wrap_of m) (p (b - 1) (drop from s)))
